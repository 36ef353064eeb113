-- The worked tables come out as they should. Most compute; where two nodes that have lists are compared, that they differ is shown.
use Rattle.std.proofs.Common.{◌≡◌, refl, sym, ap, ◌∙◌, ℕ, ℤ, pos, negsuc, Bool, true, false, true≢false, ◌||◌, List, [], ◌∷◌, length, Option, Some, None, arith}
use Rattle.std.specs.List.{list_any}
use Rattle.std.proofs.lemmas.List.Quantifiers.{position-Some}
use Rattle.std.proofs.lemmas.List.Folds.{list_any_at}
use base.Stored.{Coded}
use Rattle.contract.specs.Collections.Same.{same_by, same_code}
use Rattle.contract.proofs.FromCollections.SameLaws.{same_by_decides}
use Rattle.contract.specs.Names.declared.party.Party.{Party}
use Rattle.contract.specs.Names.declared.party.Party.TheVariants.{Address, Role}
use Rattle.contract.specs.Names.declared.token.Token.{Token}
use Rattle.contract.specs.Names.declared.bound.Bound.{Bound}
use Rattle.contract.specs.Names.declared.payee.Payee.TheVariants as payees
use Rattle.contract.specs.Names.Equal.{ada}
use Rattle.table.specs.Nodes.declared.entry.Entry.{Entry}
use Rattle.table.specs.Nodes.declared.cont.Cont.{Cont}
use Rattle.table.specs.Nodes.declared.value_node.ValueNode.{ValueNode}
use Rattle.table.specs.Nodes.declared.value_node.ValueNode.TheVariants as values
use Rattle.table.specs.Nodes.declared.observation_node.ObservationNode.TheVariants as observations
use Rattle.table.specs.Nodes.declared.case_node.CaseNode.{CaseNode}
use Rattle.table.specs.Nodes.declared.case_node.CaseNode.TheVariants as cases
use Rattle.table.specs.Nodes.declared.cont_node.ContNode.{ContNode}
use Rattle.table.specs.Nodes.declared.cont_node.ContNode.TheVariants as conts
use Rattle.table.specs.Nodes.contracts.value_node.ValueNode as value
use Rattle.table.specs.Nodes.contracts.case_node.CaseNode as case
use Rattle.table.specs.Nodes.contracts.cont_node.ContNode as cont
use Rattle.std.specs.Prelude.{option_map}
use Rattle.table.specs.Flat.{Flat}
use Rattle.table.specs.Pushing.{with_value, with_case, with_cont}
use Rattle.table_builder.specs.Putting.{nodes_of, standing, found_or, put_value, put_observation, put_case, put_cont}
use Rattle.lowering.specs.Code.{code_value, code_action, code_contract, code}
use Rattle.lowering.specs.Worked.{a, b, s, r, up_to, k, entry, named, escrow, two_amounts, two_choices, two_whens}
use Rattle.lowering.specs.Worked.{EmptyWhen, PartialPay, CondLet, EqualCases, Escrow, TwoAmounts, TokensDiffer, PartiesDiffer, BoundsDiffer, TimeoutsDiffer}

-- ---- a node that differs from each node of its list is made

differ : {A : Type 0} (c : Coded A) (x y : A) → (x ≡ y → ⊥) → same_by c x y ≡ false
differ c x y ne = by (same_by c x y) refl
  where
    by : (t : Bool) → same_by c x y ≡ t → same_by c x y ≡ false
    by true e = absurd (ne ((same_by_decides c x y).0 e))
    by false e = e

-- the node is none of these
abbrev Apart : {N : Type 0} → N → List (Entry N) → Type 0
Apart n [] = Unit {0}
Apart n (e ∷ es) = (n ≡ e.node → ⊥) × Apart n es

none_passes : {N : Type 0} (c : Coded N) (es : List (Entry N)) (n : N) → Apart n es → list_any (same_by c n) (nodes_of es) ≡ false
none_passes c [] n h = refl
none_passes c (e ∷ es) n h = λ i. differ c n e.node h.0 i || none_passes c es n h.1 i

none_stands : {N : Type 0} (c : Coded N) (es : List (Entry N)) (n : N) → Apart n es → standing c es n ≡ None
none_stands c es n h = by (standing c es n) refl
  where
    by : (o : Option ℕ) → standing c es n ≡ o → standing c es n ≡ None
    by None e = e
    by (Some j) e = let p = position-Some (same_by c n) (nodes_of es) j n e in absurd (true≢false (sym (list_any_at (same_by c n) (nodes_of es) j n p.0 p.1) ∙ none_passes c es n h))

new_value : (f : Flat) (n : ValueNode) → Apart n f.values → put_value f n ≡ (with_value f n, length f.values)
unfolding put_value
new_value f n h = ap (λ o. found_or f o (with_value f n, length f.values)) (none_stands value.the_row.coded f.values n h)

new_case : (f : Flat) (n : CaseNode) → Apart n f.cases → put_case f n ≡ (with_case f n, length f.cases)
unfolding put_case
new_case f n h = ap (λ o. found_or f o (with_case f n, length f.cases)) (none_stands case.the_row.coded f.cases n h)

new_cont : (f : Flat) (n : ContNode) → Apart n f.conts → put_cont f n ≡ (with_cont f n, record { 0 = length f.conts })
unfolding put_cont
new_cont f n h = ap (λ o. found_or f (option_map (λ j. record { 0 = j }) o) (with_cont f n, record { 0 = length f.conts })) (none_stands cont.the_row.coded f.conts n h)

-- ---- the terms by which nodes are told apart

abbrev size : ℤ → ℕ
size (pos n) = n
size (negsuc n) = 0

abbrev is_when : ContNode → Bool
is_when (conts.When cs t j) = true
is_when _ = false

abbrev timeout_of : ContNode → ℕ
timeout_of (conts.When cs t j) = size t
timeout_of _ = 0

abbrev first : List ℕ → ℕ
first [] = 0
first (n ∷ ns) = n

abbrev name_of : Party → ℕ
name_of (Role n) = first n
name_of (Address n) = 0

abbrev owner_name : ValueNode → ℕ
owner_name (values.AvailableMoney p t) = name_of p
owner_name _ = 0

abbrev token_name : ValueNode → ℕ
token_name (values.AvailableMoney p t) = first t.name
token_name _ = 0

abbrev last_end : List Bound → ℕ
last_end [] = 0
last_end (x ∷ xs) = size x.to

abbrev bound_end : CaseNode → ℕ
bound_end (cases.Choice id bounds j) = last_end bounds
bound_end _ = 0

-- ---- small contracts

pub empty_when : EmptyWhen
unfolding code code_contract put_cont same_by same_code
empty_when = refl

pub partial_pay : PartialPay
unfolding code code_contract code_value put_cont put_value same_by same_code
partial_pay = refl

pub cond_let : CondLet
unfolding code code_contract code_value put_cont put_value put_observation same_by same_code
cond_let = refl

-- ---- equal nodes

pub equal_cases : EqualCases
unfolding code code_contract code_action code_value put_cont put_observation put_case same_by same_code
equal_cases = refl

-- the escrow's table without its root
abbrev all_but_root : Flat
all_but_root = record {
  values = entry (values.Constant (pos 50)) 0 ∷ [];
  observations = [];
  cases = entry (cases.Choice r (up_to 1) (k 1)) 2 ∷ entry (cases.Deposit s b ada 0 (k 2)) 4 ∷ [];
  conts = entry conts.Close 0
      ∷ entry (conts.Pay s (payees.Account b) ada 0 (k 0)) 1
      ∷ entry (conts.When (0 ∷ []) (pos 100) (k 0)) 3 ∷ [];
}

escrow_before : code escrow ≡ put_cont all_but_root (conts.When (1 ∷ []) (pos 50) (k 0))
unfolding code code_contract code_action code_value put_cont put_value put_case same_by same_code
escrow_before = refl

pub escrow_table : Escrow
escrow_table = escrow_before ∙ new_cont all_but_root (conts.When (1 ∷ []) (pos 50) (k 0)) (
  (λ e. true≢false (ap is_when e)),
  (
    (λ e. true≢false (ap is_when e)),
    ((λ e. absurd (omega (arith, ap timeout_of e))), tt),
  ),
)

-- ---- nodes that differ in one term

abbrev amount_alone : ValueNode → Flat
amount_alone n = record { values = entry n 0 ∷ []; observations = []; cases = []; conts = [] }

-- the sum, once both amounts stand
abbrev summed : Flat × ℕ → Flat × Cont
summed m = let v = put_value m.0 (values.AddValue 0 m.1) in let j = put_cont v.0 conts.Close in put_cont j.0 (conts.Let (120 ∷ []) v.1 j.1)

amounts_before : (p : Party) (t : Token) (q : Party) (u : Token) → code (two_amounts p t q u) ≡ summed (put_value (amount_alone (values.AvailableMoney p t)) (values.AvailableMoney q u))
unfolding code code_contract code_value put_cont put_value same_by same_code
amounts_before p t q u = refl

amounts_after : (p : Party) (t : Token) (q : Party) (u : Token) → summed (with_value (amount_alone (values.AvailableMoney p t)) (values.AvailableMoney q u), 1) ≡ (
  record {
    values = entry (values.AvailableMoney p t) 0 ∷ entry (values.AvailableMoney q u) 0 ∷ entry (values.AddValue 0 1) 1 ∷ [];
    observations = [];
    cases = [];
    conts = entry conts.Close 0 ∷ entry (conts.Let (120 ∷ []) 2 (k 0)) 2 ∷ [];
  },
  k 1,
)
unfolding put_cont put_value same_by same_code
amounts_after p t q u = refl

amounts_differ : (p : Party) (t : Token) (q : Party) (u : Token) → (values.AvailableMoney q u ≡ values.AvailableMoney p t → ⊥) → TwoAmounts p t q u
amounts_differ p t q u ne = amounts_before p t q u ∙ (ap summed (new_value (amount_alone (values.AvailableMoney p t)) (values.AvailableMoney q u) (ne, tt)) ∙ amounts_after p t q u)

pub tokens_differ : TokensDiffer
tokens_differ = amounts_differ a (named 1) a (named 2) (λ e. absurd (omega (arith, ap token_name e)))

pub parties_differ : PartiesDiffer
parties_differ = amounts_differ a ada b ada (λ e. absurd (omega (arith, ap owner_name e)))

abbrev first_choice : Flat
first_choice = record { values = []; observations = []; cases = entry (cases.Choice r (up_to 1) (k 0)) 1 ∷ []; conts = entry conts.Close 0 ∷ [] }

-- the When, once both cases stand
abbrev waiting : Flat × ℕ → Flat × Cont
waiting m = let j = put_cont m.0 conts.Close in put_cont j.0 (conts.When (0 ∷ m.1 ∷ []) (pos 7) j.1)

choices_before : code two_choices ≡ waiting (put_case first_choice (cases.Choice r (up_to 2) (k 0)))
unfolding code code_contract code_action put_cont put_case same_by same_code
choices_before = refl

choices_after : (m : Flat × ℕ) → m ≡ (with_case first_choice (cases.Choice r (up_to 2) (k 0)), 1) → waiting m ≡ waiting (with_case first_choice (cases.Choice r (up_to 2) (k 0)), 1)
choices_after m e = ap waiting e

pub bounds_differ : BoundsDiffer
unfolding put_cont same_by same_code
bounds_differ = choices_before ∙ choices_after _ (new_case first_choice (cases.Choice r (up_to 2) (k 0)) ((λ e. absurd (omega (arith, ap bound_end e))), tt))

abbrev first_when : Flat
first_when = record {
  values = [];
  observations = entry observations.TrueObs 0 ∷ [];
  cases = [];
  conts = entry conts.Close 0 ∷ entry (conts.When [] (pos 100) (k 0)) 1 ∷ [];
}

-- the If, once both Whens stand
abbrev either_when : Flat × Cont → Flat × Cont
either_when m = put_cont m.0 (conts.If 0 (k 1) m.1)

whens_before : code two_whens ≡ either_when (put_cont first_when (conts.When [] (pos 200) (k 0)))
unfolding code code_contract code_value put_cont put_observation same_by same_code
whens_before = refl

whens_after : either_when (with_cont first_when (conts.When [] (pos 200) (k 0)), k 2) ≡ (
  record {
    values = [];
    observations = entry observations.TrueObs 0 ∷ [];
    cases = [];
    conts = entry conts.Close 0 ∷ entry (conts.When [] (pos 100) (k 0)) 1 ∷ entry (conts.When [] (pos 200) (k 0)) 1 ∷ entry (conts.If 0 (k 1) (k 2)) 2 ∷ [];
  },
  k 3,
)
unfolding put_cont same_by same_code
whens_after = refl

pub timeouts_differ : TimeoutsDiffer
timeouts_differ =
    whens_before
    ∙ (ap either_when (new_cont first_when (conts.When [] (pos 200) (k 0)) ((λ e. true≢false (ap is_when e)), ((λ e. absurd (omega (arith, ap timeout_of e))), tt)))
    ∙ whens_after)
