use Rattle.linear.specs.Bounded.{numbered}
use Rattle.symbols.proofs.JoinLemmas.{joined_facts}
use Rattle.symbols.proofs.join.joined_facts.Goals as goal

pub returns : goal.returns
returns c =
    joined_facts c.args.count (numbered 0 c.args.bounds.now) (numbered 0 c.args.other_bounds.now) c.args.facts.now c.args.other_facts.now c.args.own.now c.put_shared.new.facts c.put_shared-2.new.facts
    (rw c.in_ok-out.ensures at c.in_ok-put_shared.ensures) c.in_ok-put_shared-2.ensures
