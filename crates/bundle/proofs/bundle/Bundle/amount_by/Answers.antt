use Rattle.std.proofs.Common.{◌≡◌, sym, ◌∙◌, subst}
use mir.Syntax.{w128}
use Rattle.std.proofs.Math.Facts.{to_z-of_z}
use Rattle.names.specs.declared.token.Token.{Token}
use Rattle.bundle.specs.Bundles.{amount_of}
use Rattle.bundle.specs.WalksSupport.{amount_in}
use Rattle.bundle.proofs.ZeroLemmas.{amount_of-from_sorted}
use Rattle.bundle.proofs.bundle.Bundle.amount_by.Goals as goal

pub returns-clause-held : goal.returns-clause-held
returns-clause-held c =
    let token : Token = record { symbol = c.args.symbol.now; name = c.args.name.now } in
    to_z-of_z {w = w128} (record { sfits = c.found_amount.type_inv }) ∙ c.found_amount.ensures.held
    ∙ sym (subst (λ m. amount_of m token ≡ amount_in c.list.result.now token) c.list.ensures.makes (amount_of-from_sorted c.list.result.now token c.list.ensures.sorted))
