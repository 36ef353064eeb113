use Rattle.std.proofs.Common.{◌≡◌, ◌≤◌, take, length}
use Rattle.std.specs.Prelude.{IfSome}
use Rattle.contract.specs.declared.interval.Interval.{Interval}
use Rattle.contract.specs.Tree.{ContractTree}
use Rattle.contract.specs.States.States.{StateMaps}
use Rattle.marlowe_run.specs.Semantics.Evaluation.Path.{waits_for}
use Rattle.marlowe_next.specs.Applicable.{refusal, applicable_from}
use Rattle.next_lines.specs.Seen.{seen_cases}
use Rattle.marlowe_next.specs.AnswerSupport.{SettlesTo}
use Rattle.marlowe_next.proofs.cases.told_cases.Given as goal

abbrev pub invariant-loop-index : goal.invariant-loop-index
invariant-loop-index g l =
    let c = g.S.Parts.tree l.parts l.place in
    record {
      tells : (i : Interval) (from : StateMaps) (whole : ContractTree) → SettlesTo i from whole l.interval l.state c
          → seen_cases l.told.items ≡ applicable_from (refusal i from whole) 0 (take l.index (waits_for c)) (take l.index l.offers);
      within : IfSome l.most (λ m. length l.told.items ≤ m);
    }
