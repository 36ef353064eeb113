use Rattle.std.proofs.Common.{◌∙◌, ap, sym, subst, List}
use Rattle.std.proofs.lemmas.Result.{on_ok_weaker}
use Rattle.play_holdings.specs.declared.holding.Holding.{Holding}
use Rattle.play_holdings.specs.Holdings.{AllAbove}
use Rattle.play_holdings.specs.SumsSupport.{with_next, HasRoom}
use Rattle.play_holdings.proofs.SumLemmas.{next_behind}
use Rattle.play_holdings.proofs.HoldingsLemmas.{last_above, last_room}
use Rattle.play_holdings.proofs.sums.put_next.Goals as goal

pub put_behind-requires-clause-above : goal.put_behind-requires-clause-above
put_behind-requires-clause-above c = last_above c.pop.new.self.items c.in-Some.last (subst AllAbove c.in-Some.ensures.items c.requires.above)

pub put_behind-requires-clause-room : goal.put_behind-requires-clause-room
put_behind-requires-clause-room c = last_room c.args.next c.pop.new.self.items c.in-Some.last (subst (HasRoom c.args.next) c.in-Some.ensures.items c.requires.room)

pub returns-in-Some : goal.returns-in-Some
returns-in-Some c =
    on_ok_weaker c.put_behind.result
    (λ e. e ∙ sym (ap (λ (l : List Holding). with_next l c.args.next) c.in-Some.ensures.items ∙ next_behind c.pop.new.self.items c.in-Some.last c.args.next))
    c.put_behind.ensures
