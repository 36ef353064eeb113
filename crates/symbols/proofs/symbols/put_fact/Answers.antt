use Rattle.std.proofs.Common.{List, sym, subst}
use Rattle.linear.specs.Linear.{Linear}
use Rattle.symbols.specs.Held.{symbols_of, Learns}
use Rattle.symbols.proofs.HeldLemmas.{learn_held}
use Rattle.symbols.proofs.symbols.put_fact.Goals as goal

pub returns : goal.returns
returns c = λ ds os cs.
    subst (λ (fs : List Linear). Learns (symbols_of c.args.bounds.now c.args.facts.now ds os cs) (symbols_of c.narrow.new.bounds fs ds os cs) c.args.fact) (sym c.in_ok-push.ensures.added)
    (learn_held c.args.bounds.now c.narrow.new.bounds c.args.facts.now c.make_room.new.list ds os cs c.args.fact c.in_ok-narrow.ensures c.in_ok-make_room.ensures)
