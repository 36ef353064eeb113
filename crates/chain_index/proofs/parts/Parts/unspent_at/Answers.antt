use Rattle.std.proofs.Common.{◌∙◌, ap, sym}
use Rattle.std.specs.Map.{lookup}
use Rattle.ledger_spec.specs.EutxoTypes.Parts.{same_ref}
use Rattle.chain_index.specs.PartsSupport.{Parts, contents_in}
use Rattle.chain_index.proofs.LiveLemmas.{unspent_none, unspent_some}
use Rattle.chain_index.proofs.parts.Parts.unspent_at.Goals as goal

pub returns-then-is_noted : goal.returns-then-is_noted
returns-then-is_noted c =
    let s = c.self.inside in
    unspent_none s.leaving.keys s.outputs c.args.reference.now (sym c.is_noted.ensures ∙ c.if-is_noted.true)
    ∙ ap (λ (p : Parts). lookup (same_ref c.args.reference.now) (contents_in p).unspent) c.self.view_is

pub returns-else-is_noted : goal.returns-else-is_noted
returns-else-is_noted c =
    let s = c.self.inside in
    c.value_at.ensures ∙ unspent_some s.leaving.keys s.outputs c.args.reference.now (sym c.is_noted.ensures ∙ c.if-is_noted.false)
    ∙ ap (λ (p : Parts). lookup (same_ref c.args.reference.now) (contents_in p).unspent) c.self.view_is
