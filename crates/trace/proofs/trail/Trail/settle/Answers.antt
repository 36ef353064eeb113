use Rattle.std.proofs.Common.{◌∙◌, ap, sym}
use Rattle.std.proofs.lemmas.Result.{err_from_is_err_and}
use Rattle.contract.specs.Tree.{contract_tree}
use Rattle.semantics.specs.Computed.{settled}
use Rattle.semantics.specs.Reduced.{step, turn_of}
use Rattle.semantics.proofs.Settling.{More, goes_on, Last, stops_well, fails, ends_whole}
use Rattle.semantics.proofs.Walks.{grown, grown_whole}
use Rattle.analysis_spec.specs.Marks.{led, settling}
use Rattle.trace.specs.Warned.{warned_at}
use Rattle.trace.proofs.SteppingLemmas.{led_on}
use Rattle.trace.proofs.ReducingLemmas.{stays, silent, warns_here}
use Rattle.trace.proofs.trail.Trail.settle.Goals as goal
use Rattle.trace.proofs.trail.Trail.settle.Goals.{In-Some, In_default}

more : (c : In-Some) → More c.args.interval c.loop-next.state (contract_tree c.loop-next.at.now) c.reduce.new.state (contract_tree c.in-Some.next.now)
more c =
    goes_on c.args.interval c.loop-next.state (contract_tree c.loop-next.at.now) c.reduce.new.state (contract_tree c.in-Some.next.now) (rw c.in-Some.is at c.in_ok-next.ensures.reply) c.in_ok-next.ensures.state

last : (c : In_default) → Last c.args.interval c.loop-next.state (contract_tree c.loop-next.at.now) c.reduce.new.state
last c = stops_well c.args.interval c.loop-next.state (contract_tree c.loop-next.at.now) c.reduce.new.state (rw c.in_default.is at c.in_ok-next.ensures.reply) c.in_ok-next.ensures.state

pub loop-next-smaller : goal.loop-next-smaller
loop-next-smaller c = (more c).less

pub loop-next-preserved : goal.loop-next-preserved
loop-next-preserved c =
    let i = c.args.interval in
    let s = c.loop-next.state in
    let d = contract_tree c.loop-next.at.now in
    let t = c.reduce.new.state in
    let e = contract_tree c.in-Some.next.now in
    let here = c.loop-next.self.path in
    let there = c.reduce.new.self.path in
    let whole = settled i c.args.state.now (contract_tree c.args.contract.now) in
    let m = more c in
    let v = c.loop-next.invariant in
    let h = c.in_ok-next.ensures in
    let led_there = rw c.in-Some.is at h.path in
    record {
      fits = v.fits ∙ m.fits;
      end = v.end ∙ m.end;
      path = v.path ∙ led_on here there (turn_of (step i s d)) (settled i t e).turns (settled i s d).turns m.turns led_there;
      warnings = grown c.args.self.now.log.warnings whole.warnings _ _ _ _ _ v.warnings m.warnings h.warnings;
      payments = grown c.args.self.now.log.payments whole.payments _ _ _ _ _ v.payments m.payments h.payments;
      warned = grown c.args.self.now.warned (warned_at (settling c.args.self.now.path i c.args.state.now (contract_tree c.args.contract.now))) _ _ _ _ _ v.warned (warns_here here there i s d t e (rw c.in-Some.is at h.reply) h.state led_there) h.warned;
    }

pub returns-in_err-next : goal.returns-in_err-next
returns-in_err-next c =
    let p = err_from_is_err_and c.from_residual.result c.from_residual.ensures.1 in
    let v = c.loop-next.invariant in
    rw (p.1, p.2) (record {
      goes = fails c.args.interval c.loop-next.state (contract_tree c.loop-next.at.now) _ (settled c.args.interval c.args.state.now (contract_tree c.args.contract.now)) c.in_err-next.ensures.reply v.fits v.end;
      warnings = tt;
      payments = tt;
      warned = tt;
    })

pub returns : goal.returns
returns c =
    let i = c.args.interval in
    let s = c.loop-next.state in
    let d = contract_tree c.loop-next.at.now in
    let here = c.loop-next.self.path in
    let whole = settled i c.args.state.now (contract_tree c.args.contract.now) in
    let l = last c in
    let v = c.loop-next.invariant in
    let h = c.in_ok-next.ensures in
    let quiet = rw c.in_default.is at h.reply in
    record {
      goes = record {
        answer = ends_whole i s d c.reduce.new.state whole l v.fits v.end;
        path = rw c.in_default.is at h.path ∙ sym (v.path ∙ (ap (led here) l.turns ∙ stays here i s d quiet));
      };
      warnings = grown_whole c.args.self.now.log.warnings whole.warnings _ _ _ _ v.warnings l.warnings h.warnings;
      payments = grown_whole c.args.self.now.log.payments whole.payments _ _ _ _ v.payments l.payments h.payments;
      warned = grown_whole c.args.self.now.warned (warned_at (settling c.args.self.now.path i c.args.state.now (contract_tree c.args.contract.now))) _ _ _ _ v.warned (sym (silent here i s d quiet)) h.warned;
    }
