use Rattle.std.proofs.Common.{◌≡◌, true, subst, Option, Some, None}
use Rattle.contract.specs.Tree.{observation_tree}
use Rattle.analysis_walk.specs.Knowledge.{actions_before}
use Rattle.analysis_values.specs.Known.{Known}
use Rattle.analysis_steps.specs.Earlier.{IsNeverSo, IsNotifyTaken, IsIgnoredBy}
use Rattle.analysis_steps.proofs.EarlierLemmas.{if_ok, all_taken, rest_taken}
use Rattle.analysis_steps.proofs.earlier.is_notify_taken.Goals as goal

pub returns-in-Some : goal.returns-in-Some
returns-in-Some c =
    let k = c.args.known.now in
    let ks = c.args.earlier.now in
    let ls = c.last_of-cases.result.now in
    let o = observation_tree c.args.observation.now in
    let m = c.in-Some.rest in
    let ignored = subst (λ (x : Option Known). IsIgnoredBy k ls x) c.in-Some.is c.in_ok-left.ensures in
    if_ok (λ yes. yes ≡ true → IsNeverSo m o) (λ yes. yes ≡ true → IsNotifyTaken k (actions_before ks) o) (λ yes h e. rest_taken k m ks ls o c.last_of-cases.ensures ignored (h e)) c.is_never_so.result c.is_never_so.ensures

pub returns-in-None : goal.returns-in-None
returns-in-None c = λ _.
    let k = c.args.known.now in
    let ls = c.last_of-cases.result.now in
    all_taken k c.args.earlier.now ls (observation_tree c.args.observation.now) c.last_of-cases.ensures (subst (λ (x : Option Known). IsIgnoredBy k ls x) c.in-None.is c.in_ok-left.ensures)
