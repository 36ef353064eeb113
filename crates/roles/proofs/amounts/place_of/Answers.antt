use Rattle.std.proofs.Common.{rules}
use Rattle.std.proofs.lemmas.Fn.{always_returns_same}
use Rattle.contract.specs.Names.Orders.{token_cmp}
use Rattle.eutxo.proofs.FromBundle.SearchLaws.{searched}
use Rattle.roles.proofs.amounts.place_of.Goals as goal

pub returns : goal.returns
returns c =
    let by_token = c.binary_search_by.ensures.position (λ e. token_cmp e.0 c.args.token.now) (always_returns_same _ _ _ (λ a r g called. search rules)) in
    searched c.args.token.now c.args.entries.now c.binary_search_by.result c.requires c.binary_search_by.ensures.bound by_token
