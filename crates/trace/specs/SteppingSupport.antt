-- No reader needs this file: it serves private functions.
-- What a turn leaves as the last step, and where a part of a transaction leads.
use Rattle.std.specs.Prelude.{◌≡◌, ◌≢◌, List, Option, Some, Result, Ok, Err, MatchResult}
use Rattle.contract.specs.declared.fault.SemFault.{SemFault}
use Rattle.contract.specs.declared.fault.SemFault.TheVariants.{Memory}
use Rattle.contract.specs.States.States.{StateMaps}
use Rattle.contract.specs.Tree.{ContractTree}
use Rattle.semantics.specs.Walk.{Turn, refund, next, then_branch, else_branch, timed_out, in_case, standing, Walk, answer_of}
use Rattle.analysis_spec.specs.declared.path.PathStep.{PathStep}
use Rattle.analysis_spec.specs.declared.path.PathStep.TheVariants.{Then, Else, TimeoutContinuation, Case}
use Rattle.analysis_spec.specs.Marks.{led}

-- the step that was taken last: a refund takes none
abbrev pub last_step : Option PathStep → Turn → Option PathStep
last_step s refund = s
last_step s next = Some Then
last_step s then_branch = Some Then
last_step s else_branch = Some Else
last_step s timed_out = Some TimeoutContinuation
last_step s (in_case n) = Some (Case n)

module _ {P : Type 0} (tree : P → ContractTree) (here there : List PathStep) (s : StateMaps) (w : Walk) where
  -- the walk w ends well, in the state s at this place, and its turns lead from the one path to the other
  pub record GoesTo (place : P) : Type 0 where
    pub answer : answer_of w ≡ Ok (standing s (tree place))
    pub path : there ≡ led here w.turns

  -- a call goes as the walk w says: well, or with the walk's fault, want of memory aside
  abbrev pub Goes : Result P SemFault → Type 0
  Goes result = MatchResult result GoesTo (λ fault. fault ≢ Memory → answer_of w ≡ Err fault)
