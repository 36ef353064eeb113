use Rattle.std.proofs.Common.{◌≡◌, ℕ, List, [], refl, sym, ap, ◌∙◌, map, Option}
use Rattle.std.proofs.lemmas.Result.{IfOk-weaker}
use Rattle.contract.specs.Tree.{contract_tree}
use Rattle.marlowe_run.specs.Semantics.Walk.{standing, answer_of}
use Rattle.marlowe_run.specs.Semantics.Computed.{computed}
use Rattle.next_inputs.specs.Opening.{opening}
use Rattle.analysis_spec.specs.declared.path.PathStep.{PathStep}
use Rattle.analysis_spec.specs.Marks.{led}
use Rattle.places.specs.Places.{path_keys}
use Rattle.next_lines.specs.Told.{Told, up_to}
use Rattle.marlowe_next.specs.Answer.{told_of, warning_told}
use Rattle.next_lines.specs.Seen.{seen_cases, seen_warning}
use Rattle.marlowe_next.specs.Question.{reached_at}
use Rattle.marlowe_next.specs.AnswerSupport.{under, limit, spelled}
use Rattle.marlowe_next.proofs.HereLemmas.{path_here, reduces_here, warned_here, same_up_to, spelled_so}
use Rattle.marlowe_next.proofs.told_here.offered_text.Goals as goal

pub returns : goal.returns
returns c =
    let i = c.args.interval in
    let s = c.args.left.now.state in
    let whole = contract_tree c.args.whole.now in
    let t = contract_tree c.args.left.now.contract.now in
    let h = c.requires.settled in
    let left = c.args.settled.now.outcome in
    let told : Told = record {
      path = c.deref-2.result.now;
      inputs = seen_cases c.deref-3.result.now;
      more = c.in_ok-cases.cases.more;
      until = c.waits_until.result;
      can_reduce = c.args.settled.now.can_reduce;
      payments = c.as_slice-5.result.now;
      warned = map seen_warning c.deref-4.result.now;
    } in
    let path = path_here c.deref-2.result.now c.deref.result.now c.as_slice.result.now c.as_slice-2.result.now (opening i s t).turns (c.deref-2.ensures.value ∙ c.in_ok-keys.ensures) (c.deref.ensures.value ∙ c.in_ok-path.ensures) (c.as_slice-2.ensures ∙ h.path) in
    let first = c.in_ok-cases.ensures i s t (record { interval = sym c.fixed-fixed.ensures; stands = h.stands }) in
    let warned = ap (map seen_warning) c.deref-4.ensures.value ∙ c.in_ok-warned.ensures in
    let whole_told : Told = told_of i (reached_at c.args.whole.now c.args.left.now) (standing left.state (contract_tree left.place.now)) c.args.offers.now in
    let same : told ≡ up_to (limit c.args.most c.args.json) whole_told =
    same_up_to c.limit-most.result told whole_told (seen_cases c.in_ok-cases.cases.told.items) (ap seen_cases c.deref-3.ensures.value) first refl (path ∙ ap (λ (p : List PathStep). path_keys (led p (opening i s t).turns)) c.as_slice.ensures) c.waits_until.ensures.until (reduces_here c.args.settled.now.can_reduce (answer_of (computed i s t [])) h.can_reduce)
    (c.as_slice-5.ensures ∙ h.payments)
    (warned ∙ ap (λ (p : List PathStep). map (λ w. warning_told whole (under p w)) c.as_slice-4.result.now) c.as_slice-3.ensures ∙ ap (map (λ w. warning_told whole (under c.args.left.now.path w))) c.as_slice-4.ensures
    ∙ warned_here whole c.args.left.now.path i s t c.args.settled.now.warned h.warned)
    ∙ ap (λ (most : Option ℕ). up_to most whole_told) c.limit-most.ensures
    in
    IfOk-weaker c.printed.result _ _ (λ text e. e ∙ ap (spelled c.args.json) same ∙ spelled_so c.args.most c.args.json whole_told) c.printed.ensures
