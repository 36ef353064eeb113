use Rattle.std.proofs.Common.{◌∙◌, ap, sym}
use Rattle.std.proofs.lemmas.Result.{err_from_is_err_and}
use Rattle.contract.specs.Tree.{contract_tree}
use Rattle.semantics.specs.Computed.{settled}
use Rattle.semantics.specs.Reduced.{step, turn_of}
use Rattle.semantics.proofs.Settling.{More, goes_on, Last, stops_well, fails, ends_whole}
use Rattle.analysis_spec.specs.Marks.{led}
use Rattle.trace.proofs.SteppingLemmas.{led_on}
use Rattle.trace.proofs.ReducingLemmas.{stays}
use Rattle.trace.proofs.steps.settle.Goals as goal
use Rattle.trace.proofs.steps.settle.Goals.{In-Some, In_default}

more : (c : In-Some) → More c.args.interval c.loop-next.state (contract_tree c.loop-next.at.now) c.reduce_once.new.state (contract_tree c.in-Some.next.now)
more c =
    goes_on c.args.interval c.loop-next.state (contract_tree c.loop-next.at.now) c.reduce_once.new.state (contract_tree c.in-Some.next.now) (rw c.in-Some.is at c.in_ok-next.ensures.reply) c.in_ok-next.ensures.state

last : (c : In_default) → Last c.args.interval c.loop-next.state (contract_tree c.loop-next.at.now) c.reduce_once.new.state
last c = stops_well c.args.interval c.loop-next.state (contract_tree c.loop-next.at.now) c.reduce_once.new.state (rw c.in_default.is at c.in_ok-next.ensures.reply) c.in_ok-next.ensures.state

pub loop-next-smaller : goal.loop-next-smaller
loop-next-smaller c = (more c).less

pub loop-next-preserved : goal.loop-next-preserved
loop-next-preserved c =
    let i = c.args.interval in
    let m = more c in
    let v = c.loop-next.invariant in
    record {
      fits = v.fits ∙ m.fits;
      end = v.end ∙ m.end;
      path = v.path
          ∙ led_on c.loop-next.path c.reduce_once.new.path (turn_of (step i c.loop-next.state (contract_tree c.loop-next.at.now))) (settled i c.reduce_once.new.state (contract_tree c.in-Some.next.now)).turns
          (settled i c.loop-next.state (contract_tree c.loop-next.at.now)).turns m.turns (rw c.in-Some.is at c.in_ok-next.ensures.path);
    }

pub returns-in_err-next : goal.returns-in_err-next
returns-in_err-next c =
    let p = err_from_is_err_and c.from_residual.result c.from_residual.ensures.1 in
    let v = c.loop-next.invariant in
    rw (p.1, p.2) (fails c.args.interval c.loop-next.state (contract_tree c.loop-next.at.now) _ (settled c.args.interval c.args.state.now (contract_tree c.args.contract.now)) c.in_err-next.ensures.reply v.fits v.end)

pub returns : goal.returns
returns c =
    let i = c.args.interval in
    let d = contract_tree c.loop-next.at.now in
    let whole = settled i c.args.state.now (contract_tree c.args.contract.now) in
    let h = last c in
    let v = c.loop-next.invariant in
    record {
      answer = ends_whole i c.loop-next.state d c.reduce_once.new.state whole h v.fits v.end;
      path = rw c.in_default.is at c.in_ok-next.ensures.path
          ∙ sym (v.path ∙ (ap (led c.loop-next.path) h.turns ∙ stays c.loop-next.path i c.loop-next.state d (rw c.in_default.is at c.in_ok-next.ensures.reply)));
    }
