-- What is read as a contract can be written: JSON has its numbers.
use Rattle.std.proofs.Common.{◌≡◌, ℕ, ℤ, Bool, true, false, cond, ◌&&◌, List, [], length, map, Some, None, Ok, Err, refl, subst, ap, ◌∙◌}
use Rattle.std.specs.Prelude.{codes, nat_lt}
use Rattle.std.specs.Str.{is_utf8}
use Rattle.std.specs.List.{list_all}
use Rattle.std.specs.Ordering.{nat_cmp}
use Rattle.std.specs.Cmp.Lexicographic.{slice_cmp}
use Rattle.serde_json.specs.Data.{Data, null, boolean, number, string, array, object, Items, no_items, item, Members, no_members, member}
use Rattle.serde_json.specs.Read.{read}
use Rattle.contract.specs.Names.declared.bound.Bound.{Bound}
use Rattle.contract.specs.declared.tree.Action.{Action}
use Rattle.contract.specs.declared.tree.Case.{Case}
use Rattle.contract.specs.declared.tree.Contract.{Contract}
use Rattle.contract.specs.Tree.{action_tree, case_trees, case_tree, contract_tree}
use Rattle.contract.proofs.TreeLaws as laws
use Rattle.json_read_names.specs.Forms.{has_two, contract_form, case_form, action_form}
use Rattle.contract.specs.Collections.Answers.{◌>>=◌}
use Rattle.json_read_names.specs.Parts.{ByKey, reading_at, both_readings, nowhere, text, whole_number, time, all_items, list}
use Rattle.json_read_names.specs.ReadsNames.{party, payee, token, choice_id, bound}
use Rattle.json_tree.specs.View.{read_within}
use Rattle.contract_json.specs.PartAt.{part_at}
use Rattle.json_read_names.specs.ReadsText.{json_of, json_or_not, json_within, of_text, of_text_within}
use Rattle.json_read_names.proofs.TextLaws.{json_within-127}
use Rattle.json_read_names.specs.declared.fault.JsonFault.TheVariants.{NoForm, NotJson, TooLong}
use Rattle.json_read_names.specs.declared.forms.ContractForm.{ContractForm}
use Rattle.json_read_names.specs.declared.forms.ContractForm.TheVariants as contract_forms
use Rattle.json_read_names.specs.declared.forms.CaseForm.{CaseForm}
use Rattle.json_read_names.specs.declared.forms.CaseForm.TheVariants as case_forms
use Rattle.json_read_names.specs.declared.forms.ActionForm.{ActionForm}
use Rattle.json_read_names.specs.declared.forms.ActionForm.TheVariants as action_forms
use Rattle.json_read_values.specs.ReadsAction.{action, action_by}
use Rattle.json_read_values.specs.ReadsValue.{value, observation}
use Rattle.json_read_contracts.specs.ReadsContract.{contract, contract_by, contract_in, case, case_by, cases, all_cases, cases_in}
use Rattle.json_write_contracts.specs.WrittenNames.{number_fits, time_fits}
use Rattle.json_write_contracts.specs.WrittenContract.{bound_fits, action_fits, case_fits, cases_fit, contract_fits}
use Rattle.contract_json.proofs.Ranges.{InRange, ItemsInRange, MembersInRange, bind_ok, ok-same, at-fits, whole-fits, time-fits, read-in-range, read-within-in-range, part-in-range}
use Rattle.contract_json.proofs.ReadValuesFit.{VF, OF, value-read-fits, observation-read-fits, both-ok, either}

abbrev NF : ℤ → Type 0
NF n = number_fits n ≡ true

abbrev TF : ℤ → Type 0
TF t = time_fits t ≡ true

abbrev BF : List Bound → Type 0
BF bs = list_all bound_fits bs ≡ true

abbrev AF : Action → Type 0
AF a = action_fits (action_tree a) ≡ true

abbrev KF : List Case → Type 0
KF ks = cases_fit (case_trees (map case_tree ks)) ≡ true

abbrev CaseF : Case → Type 0
CaseF k = case_fits (case_tree k) ≡ true

abbrev CF : Contract → Type 0
CF c = contract_fits (contract_tree c) ≡ true

-- ---- actions

bound-parts : (d : Data) (b : Bound) (c : Bool) → InRange d
    → cond c (reading_at whole_number d (codes "from") >>= λ from. reading_at whole_number d (codes "to") >>= λ to. Ok (record { from = from; to = to })) (Err NoForm) ≡ Ok b → bound_fits b ≡ true
bound-parts d b true r h =
    let from = bind_ok (reading_at whole_number d (codes "from")) _ b h in
    let to = bind_ok (reading_at whole_number d (codes "to")) _ b from.2 in
    subst (λ e. bound_fits e ≡ true) (ok-same _ _ to.2)
    (λ i. at-fits NF whole_number whole-fits d (codes "from") from.0 r from.1 i && at-fits NF whole_number whole-fits d (codes "to") to.0 r to.1 i)
bound-parts d b false r h = cc

bound-fits : (d : Data) (b : Bound) → InRange d → bound d ≡ Ok b → bound_fits b ≡ true
bound-fits d b r h = bound-parts d b (has_two (codes "from") (codes "to") d) r h

bounds-fit : (ds : Items) (bs : List Bound) → ItemsInRange ds → all_items bound ds ≡ Ok bs → list_all bound_fits bs ≡ true
bounds-fit no_items bs r h = subst (λ l. list_all bound_fits l ≡ true) (ok-same [] bs h) refl
bounds-fit (item d ds) bs r h =
    let b = bind_ok (bound d) _ bs h in
    let rest = bind_ok (all_items bound ds) _ bs b.2 in
    subst (λ l. list_all bound_fits l ≡ true) (ok-same _ _ rest.2) (λ i. bound-fits d b.0 r.0 b.1 i && bounds-fit ds rest.0 r.1 rest.1 i)

list-fits : (d : Data) (bs : List Bound) → InRange d → list bound d ≡ Ok bs → list_all bound_fits bs ≡ true
list-fits null bs r h = cc
list-fits (boolean b) bs r h = cc
list-fits (number n) bs r h = cc
list-fits (string s) bs r h = cc
list-fits (array ds) bs r h = bounds-fit ds bs r h
list-fits (object ms) bs r h = cc

action_by-fits : (f : ActionForm) (d : Data) (x : Action) → InRange d → action_by f d ≡ Ok x → AF x
unfolding action_by
action_by-fits action_forms.Deposit d x r h =
    let depositor = bind_ok (reading_at party d (codes "party")) _ x h in
    let amount = bind_ok (reading_at value d (codes "deposits")) _ x depositor.2 in
    let k = bind_ok (reading_at token d (codes "of_token")) _ x amount.2 in
    let account = bind_ok (reading_at party d (codes "into_account")) _ x k.2 in
    subst AF (ok-same _ _ account.2) (at-fits VF value value-read-fits d (codes "deposits") amount.0 r amount.1)
action_by-fits action_forms.Choice d x r h =
    let id = bind_ok (reading_at choice_id d (codes "for_choice")) _ x h in
    let bounds = bind_ok (reading_at (list bound) d (codes "choose_between")) _ x id.2 in
    subst AF (ok-same _ _ bounds.2) (at-fits BF (list bound) list-fits d (codes "choose_between") bounds.0 r bounds.1)
action_by-fits action_forms.Notify d x r h =
    let holds = bind_ok (reading_at observation d (codes "notify_if")) _ x h in
    subst AF (ok-same _ _ holds.2) (at-fits OF observation observation-read-fits d (codes "notify_if") holds.0 r holds.1)
action_by-fits action_forms.Nothing d x r h = cc

-- ---- cases and contracts, from what is inside

contract_by-fits : (f : ContractForm) (d : Data) (ca : ByKey Contract) (ka : ByKey (List Case)) → ((key : List ℕ) (c : Contract) → ca key ≡ Ok c → CF c) → ((key : List ℕ) (ks : List Case) → ka key ≡ Ok ks → KF ks)
    → (x : Contract) → InRange d → contract_by f d ca ka ≡ Ok x → CF x
unfolding contract_by
contract_by-fits contract_forms.Close d ca ka hc hk x r h = subst CF (ok-same _ _ h) (ap contract_fits laws.contract_tree-Close)
contract_by-fits contract_forms.Pay d ca ka hc hk x r h =
    let amount = bind_ok (reading_at value d (codes "pay")) _ x h in
    let k = bind_ok (reading_at token d (codes "token")) _ x amount.2 in
    let account = bind_ok (reading_at party d (codes "from_account")) _ x k.2 in
    let to = bind_ok (reading_at payee d (codes "to")) _ x account.2 in
    let c = bind_ok (ca (codes "then")) _ x to.2 in
    subst CF (ok-same _ _ c.2) (ap contract_fits (laws.contract_tree-Pay account.0 to.0 k.0 amount.0 c.0)
    ∙ (λ i. at-fits VF value value-read-fits d (codes "pay") amount.0 r amount.1 i && hc (codes "then") c.0 c.1 i))
contract_by-fits contract_forms.If d ca ka hc hk x r h =
    let holds = bind_ok (reading_at observation d (codes "if")) _ x h in
    let b = bind_ok (both_readings (ca (codes "then")) (ca (codes "else"))) _ x holds.2 in
    let p = both-ok (ca (codes "then")) (ca (codes "else")) b.0 b.1 in
    subst CF (ok-same _ _ b.2) (ap contract_fits (laws.contract_tree-If holds.0 b.0.0 b.0.1)
    ∙ (λ i. at-fits OF observation observation-read-fits d (codes "if") holds.0 r holds.1 i && hc (codes "then") b.0.0 p.0 i && hc (codes "else") b.0.1 p.1 i))
contract_by-fits contract_forms.When d ca ka hc hk x r h =
    let l = bind_ok (ka (codes "when")) _ x h in
    let timeout = bind_ok (reading_at time d (codes "timeout")) _ x l.2 in
    let c = bind_ok (ca (codes "timeout_continuation")) _ x timeout.2 in
    subst CF (ok-same _ _ c.2) (ap contract_fits (laws.contract_tree-When l.0 timeout.0 c.0)
    ∙ (λ i. hk (codes "when") l.0 l.1 i && at-fits TF time time-fits d (codes "timeout") timeout.0 r timeout.1 i && hc (codes "timeout_continuation") c.0 c.1 i))
contract_by-fits contract_forms.Let d ca ka hc hk x r h =
    let name = bind_ok (reading_at text d (codes "let")) _ x h in
    let be = bind_ok (reading_at value d (codes "be")) _ x name.2 in
    let c = bind_ok (ca (codes "then")) _ x be.2 in
    subst CF (ok-same _ _ c.2) (ap contract_fits (laws.contract_tree-Let name.0 be.0 c.0)
    ∙ (λ i. at-fits VF value value-read-fits d (codes "be") be.0 r be.1 i && hc (codes "then") c.0 c.1 i))
contract_by-fits contract_forms.Assert d ca ka hc hk x r h =
    let holds = bind_ok (reading_at observation d (codes "assert")) _ x h in
    let c = bind_ok (ca (codes "then")) _ x holds.2 in
    subst CF (ok-same _ _ c.2) (ap contract_fits (laws.contract_tree-Assert holds.0 c.0)
    ∙ (λ i. at-fits OF observation observation-read-fits d (codes "assert") holds.0 r holds.1 i && hc (codes "then") c.0 c.1 i))
contract_by-fits contract_forms.Nothing d ca ka hc hk x r h = cc

case_by-fits : (f : CaseForm) (d : Data) (ca : ByKey Contract) → ((key : List ℕ) (c : Contract) → ca key ≡ Ok c → CF c) → (x : Case) → InRange d → case_by f d ca ≡ Ok x → CaseF x
unfolding case_by
case_by-fits case_forms.Plain d ca hc x r h =
    let act = bind_ok (reading_at action d (codes "case")) _ x h in
    let c = bind_ok (ca (codes "then")) _ x act.2 in
    subst CaseF (ok-same _ _ c.2) (ap case_fits (laws.case_tree-parts (record { action = act.0; then = c.0 }))
    ∙ (λ i. at-fits AF action (λ e a. action_by-fits (action_form e) e a) d (codes "case") act.0 r act.1 i && hc (codes "then") c.0 c.1 i))
case_by-fits case_forms.Merkleized d ca hc x r h = cc
case_by-fits case_forms.Nothing d ca hc x r h = cc

nothing : {X : Type 0} (P : X → Type 0) (key : List ℕ) (x : X) → nowhere {X = X} key ≡ Ok x → P x
nothing P key x h = cc

mutual
  unfolding contract

  contract-read-fits : (d : Data) (c : Contract) → InRange d → contract d ≡ Ok c → CF c
  contract-read-fits null c r h = contract_by-fits (contract_form null) null nowhere nowhere (λ key e is. nothing CF key e is) (λ key ks is. nothing KF key ks is) c r h
  contract-read-fits (boolean b) c r h = contract_by-fits (contract_form (boolean b)) (boolean b) nowhere nowhere (λ key e is. nothing CF key e is) (λ key ks is. nothing KF key ks is) c r h
  contract-read-fits (number n) c r h = contract_by-fits (contract_form (number n)) (number n) nowhere nowhere (λ key e is. nothing CF key e is) (λ key ks is. nothing KF key ks is) c r h
  contract-read-fits (string s) c r h = contract_by-fits (contract_form (string s)) (string s) nowhere nowhere (λ key e is. nothing CF key e is) (λ key ks is. nothing KF key ks is) c r h
  contract-read-fits (array ds) c r h = contract_by-fits (contract_form (array ds)) (array ds) nowhere nowhere (λ key e is. nothing CF key e is) (λ key ks is. nothing KF key ks is) c r h
  contract-read-fits (object ms) c r h =
      contract_by-fits (contract_form (object ms)) (object ms) (λ key. contract_in key ms) (λ key. cases_in key ms) (λ key e is. contract_in-fits key ms e r is) (λ key ks is. cases_in-fits key ms ks r is) c r h

  contract_in-fits : (key : List ℕ) (ms : Members) (c : Contract) → MembersInRange ms → contract_in key ms ≡ Ok c → CF c
  contract_in-fits key no_members c r h = cc
  contract_in-fits key (member k d ms) c r h = either (CF c) (slice_cmp nat_cmp key k) (contract_in key ms) (contract d) c h (λ e. contract_in-fits key ms c r.1 e) (λ e. contract-read-fits d c r.0 e)

  case-read-fits : (d : Data) (k : Case) → InRange d → case d ≡ Ok k → CaseF k
  case-read-fits null k r h = case_by-fits (case_form null) null nowhere (λ key e is. nothing CF key e is) k r h
  case-read-fits (boolean b) k r h = case_by-fits (case_form (boolean b)) (boolean b) nowhere (λ key e is. nothing CF key e is) k r h
  case-read-fits (number n) k r h = case_by-fits (case_form (number n)) (number n) nowhere (λ key e is. nothing CF key e is) k r h
  case-read-fits (string s) k r h = case_by-fits (case_form (string s)) (string s) nowhere (λ key e is. nothing CF key e is) k r h
  case-read-fits (array ds) k r h = case_by-fits (case_form (array ds)) (array ds) nowhere (λ key e is. nothing CF key e is) k r h
  case-read-fits (object ms) k r h = case_by-fits (case_form (object ms)) (object ms) (λ key. contract_in key ms) (λ key e is. contract_in-fits key ms e r is) k r h

  cases-read-fit : (d : Data) (ks : List Case) → InRange d → cases d ≡ Ok ks → KF ks
  cases-read-fit null ks r h = cc
  cases-read-fit (boolean b) ks r h = cc
  cases-read-fit (number n) ks r h = cc
  cases-read-fit (string s) ks r h = cc
  cases-read-fit (array ds) ks r h = all_cases-fit ds ks r h
  cases-read-fit (object ms) ks r h = cc

  all_cases-fit : (ds : Items) (ks : List Case) → ItemsInRange ds → all_cases ds ≡ Ok ks → KF ks
  all_cases-fit no_items ks r h = subst KF (ok-same [] ks h) refl
  all_cases-fit (item d ds) ks r h =
      let k = bind_ok (case d) _ ks h in
      let rest = bind_ok (all_cases ds) _ ks k.2 in
      subst KF (ok-same _ _ rest.2) (λ i. case-read-fits d k.0 r.0 k.1 i && all_cases-fit ds rest.0 r.1 rest.1 i)

  cases_in-fits : (key : List ℕ) (ms : Members) (ks : List Case) → MembersInRange ms → cases_in key ms ≡ Ok ks → KF ks
  cases_in-fits key no_members ks r h = cc
  cases_in-fits key (member k d ms) ks r h = either (KF ks) (slice_cmp nat_cmp key k) (cases_in key ms) (cases d) ks h (λ e. cases_in-fits key ms ks r.1 e) (λ e. cases-read-fit d ks r.0 e)

-- ---- texts

from_some : (text : List ℕ) (d : Data) → json_or_not (read text) ≡ Ok d → InRange d
from_some text d h = elim (read text) as (λ o. read text ≡ o → json_or_not o ≡ Ok d → InRange d) [ None ↦ λ _ is. cc | Some e ↦ λ reads is. subst InRange (ok-same e d is) (read-in-range text e reads) ] refl h

json_of-in-range : (text : List ℕ) (d : Data) → json_of text ≡ Ok d → InRange d
unfolding json_of
json_of-in-range text d h =
    elim (nat_lt 1048576 (length text)) as (λ b. cond b (Err TooLong) (cond (is_utf8 text) (json_or_not (read text)) (Err NotJson)) ≡ Ok d → InRange d) [
      | true ↦ λ is. cc
      | false ↦ elim (is_utf8 text) as (λ b. cond b (json_or_not (read text)) (Err NotJson) ≡ Ok d → InRange d) [ true ↦ λ is. from_some text d is | false ↦ λ is. cc ]
    ] h

-- a contract that was read can be written
pub read-contract-fits : (t : List ℕ) (c : Contract) → of_text contract t ≡ Ok c → CF c
read-contract-fits t c h = let d = bind_ok (json_of t) contract c h in contract-read-fits d.0 c (json_of-in-range t d.0 d.1) d.2

pub ruleset contracts_read_fit = read-contract-fits

-- ---- texts of any depth

from_some-within : (n : ℕ) (text : List ℕ) (d : Data) → json_or_not (read_within n text) ≡ Ok d → InRange d
from_some-within n text d h =
    elim (read_within n text) as (λ o. read_within n text ≡ o → json_or_not o ≡ Ok d → InRange d) [
      | None ↦ λ _ is. cc
      | Some e ↦ λ reads is. subst InRange (ok-same e d is) (read-within-in-range n text e reads)
    ] refl h

json_within-in-range : (n : ℕ) (text : List ℕ) (d : Data) → json_within n text ≡ Ok d → InRange d
unfolding json_within
json_within-in-range n text d h =
    elim (nat_lt 1048576 (length text)) as (λ b. cond b (Err TooLong) (cond (is_utf8 text) (json_or_not (read_within n text)) (Err NotJson)) ≡ Ok d → InRange d) [
      | true ↦ λ is. cc
      | false ↦ elim (is_utf8 text) as (λ b. cond b (json_or_not (read_within n text)) (Err NotJson) ≡ Ok d → InRange d) [ true ↦ λ is. from_some-within n text d is | false ↦ λ is. cc ]
    ] h

pub read-within-fits : (n : ℕ) (t : List ℕ) (c : Contract) → of_text_within n contract t ≡ Ok c → CF c
read-within-fits n t c h = let d = bind_ok (json_within n t) contract c h in contract-read-fits d.0 c (json_within-in-range n t d.0 d.1) d.2

pub ruleset deep_contracts_fit = read-within-fits

pub part-fits : (n : ℕ) (t : List ℕ) (whole part : Data) (names : List (List ℕ)) (c : Contract) → read_within n t ≡ Some whole → part_at names whole ≡ Some part → contract part ≡ Ok c → CF c
part-fits n t whole part names c h is reads = contract-read-fits part c (part-in-range names whole part (read-within-in-range n t whole h) is) reads

pub ruleset parts_fit = part-fits

pub of-127 : (text : List ℕ) → of_text_within 127 contract text ≡ of_text contract text
of-127 text = ap (λ r. r >>= contract) (json_within-127 text)

pub ruleset at_127 = of-127
