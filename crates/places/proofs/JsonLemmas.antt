-- Keys lead through the JSON of a contract.
use Rattle.std.proofs.Common.{◌≡◌, ℕ, zero, suc, List, [], ◌∷◌, ◌++◌, refl, ap, ◌∙◌, Option, Some, None, inl, inr}
use Rattle.std.specs.Option.{option_and_then}
use Rattle.std.proofs.lemmas.List.Concat.{flat_map-cons}
use Rattle.std.proofs.lemmas.Option.{option_and_then_some}
use Rattle.serde_json.specs.Data.{Data}
use Rattle.serde_json.specs.Find.{get_item}
use Rattle.contract.specs.Tree.{ContractTree, CaseTrees, close, pay, if_obs, when, let_be, assert, no_cases, case_then}
use Rattle.analysis_spec.specs.declared.path.PathStep.{PathStep}
use Rattle.analysis_spec.specs.declared.path.PathStep.TheVariants.{Then, Else, TimeoutContinuation, Case}
use Rattle.analysis_spec.specs.Places.{behind_case, part_behind}
use Rattle.json_write_contracts.specs.WrittenContract.{contract_json, cases_json}
use Rattle.places.specs.declared.key.Key.{Key}
use Rattle.places.specs.declared.key.Key.TheVariants as keys
use Rattle.places.specs.Places.{step_keys, path_keys}
use Rattle.places.specs.Laws.{part_at, behind_key, behind_keys, KeysLeadThroughJson, FormsHaveTheirKeys}

same_json : (c d : ContractTree) → Some c ≡ Some d → Some (contract_json c) ≡ Some (contract_json d)
same_json c d e = let same : c ≡ d = cc in ap (λ x. let o : Option Data = Some (contract_json x) in o) same

case_leads : (ks : CaseTrees) (n : ℕ) (d : ContractTree) → behind_case ks n ≡ Some d → option_and_then (behind_keys (keys.Then ∷ [])) (get_item n (cases_json ks)) ≡ Some (contract_json d)
case_leads no_cases n d e = absurd (cc)
case_leads (case_then a c ks) zero d e = same_json c d e
case_leads (case_then a c ks) (suc n) d e = case_leads ks n d e

step_leads : (c : ContractTree) (step : PathStep) (d : ContractTree) → part_behind c step ≡ Some d → behind_keys (step_keys step) (contract_json c) ≡ Some (contract_json d)
step_leads (pay p y t v c) Then d e = same_json c d e
step_leads (if_obs o c b) Then d e = same_json c d e
step_leads (if_obs o c b) Else d e = same_json b d e
step_leads (when ks t c) TimeoutContinuation d e = same_json c d e
step_leads (when ks t c) (Case n) d e = case_leads ks n d e
step_leads (let_be x v c) Then d e = same_json c d e
step_leads (assert o c) Then d e = same_json c d e
step_leads c step d e = absurd (cc)

-- keys behind keys
through : (f g h : Data → Option Data) (o : Option Data) → ((e : Data) → f e ≡ option_and_then g (h e)) → option_and_then f o ≡ option_and_then g (option_and_then h o)
through f g h None e = refl
through f g h (Some d) e = e d

keys_join : (ks ls : List Key) (d : Data) → behind_keys (ks ++ ls) d ≡ option_and_then (behind_keys ls) (behind_keys ks d)
keys_join [] ls d = refl
keys_join (key ∷ ks) ls d = through (behind_keys (ks ++ ls)) (behind_keys ls) (behind_keys ks) (behind_key key d) (keys_join ks ls)

pub keys_lead : KeysLeadThroughJson
keys_lead c d [] e = same_json c d e
keys_lead c d (step ∷ path) e =
    option_and_then_some
    (λ part. part_at part path)
    (part_behind c step)
    d
    e
    (λ part is led. ap (λ ks. behind_keys ks (contract_json c)) (flat_map-cons step_keys step path)
    ∙ keys_join (step_keys step) (path_keys path) (contract_json c)
    ∙ ap (option_and_then (behind_keys (path_keys path))) (step_leads c step part is)
    ∙ keys_lead part d path led)

pub forms_have : FormsHaveTheirKeys
forms_have close = inr refl
forms_have (pay p y t v c) = inl (λ e. absurd (cc))
forms_have (if_obs o c d) = inl (λ e. absurd (cc))
forms_have (when ks t c) = inl (λ e. absurd (cc))
forms_have (let_be x v c) = inl (λ e. absurd (cc))
forms_have (assert o c) = inl (λ e. absurd (cc))
