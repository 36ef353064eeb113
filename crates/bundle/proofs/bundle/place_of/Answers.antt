use Rattle.std.proofs.Common.{rules}
use Rattle.std.proofs.lemmas.Fn.{always_returns_same}
use Rattle.names.specs.declared.token.Token.{Token}
use Rattle.names.specs.Orders.{token_cmp}
use Rattle.bundle.proofs.SearchLaws.{searched}
use Rattle.bundle.proofs.bundle.place_of.Goals as goal

pub returns : goal.returns
returns c =
    let token : Token = record { symbol = c.args.symbol.now; name = c.args.name.now } in
    let by_token = c.binary_search_by.ensures.position (λ e. token_cmp e.0 token) (always_returns_same _ _ _ (λ a r g called. search rules)) in
    searched token c.args.entries.now c.binary_search_by.result c.requires c.binary_search_by.ensures.bound by_token
