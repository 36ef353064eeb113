use Rattle.std.proofs.Common.{◌≡◌, map, take}
use Rattle.contract.specs.Tree.{contract_tree}
use Rattle.marlowe_next.specs.Answer.{warning_told}
use Rattle.next_lines.specs.Seen.{seen_warning}
use Rattle.marlowe_next.specs.AnswerSupport.{under}
use Rattle.marlowe_next.proofs.told_here.told_warnings.Given as goal

abbrev pub invariant-loop-warning : goal.invariant-loop-warning
invariant-loop-warning l = map seen_warning l.told.items ≡ map (λ w. warning_told (contract_tree l.whole) (under l.path w)) (take l.warning-index l.warned)
