use Rattle.std.proofs.Common.{rules}
use Rattle.std.proofs.lemmas.Fn.{always_returns_same}
use Rattle.contract.specs.Names.Orders.{bytes_cmp}
use Rattle.eutxo.proofs.ScriptSearchLemmas.{searched}
use Rattle.eutxo.proofs.scripts.place_of.Goals as goal

pub returns : goal.returns
returns g c =
    let by_id = c.binary_search_by.ensures.position (λ e. bytes_cmp e.0 c.args.id.now) (always_returns_same _ _ _ (λ a r g called. search rules)) in
    searched c.args.id.now c.args.entries.now c.binary_search_by.result c.requires c.binary_search_by.ensures.bound by_id
