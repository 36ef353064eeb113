-- What a transaction that no rule refuses meets.
use Rattle.std.proofs.Common.{◌≡◌, ℕ, zero, suc, ◌+◌, Bool, true, false, cond, ℤ, List, [], ◌∷◌, refl, sym, ◌∙◌, ap, arith, Option, Some, None}
use Rattle.std.specs.Prelude.{if◌then◌else◌, is_none, map}
use Rattle.std.specs.List.{slice_get, list_any, list_all, position, position_from}
use Rattle.std.specs.Option.{option_map}
use Rattle.std.proofs.lemmas.Iterator.Adapters.{position_from-zero}
use Rattle.roles.specs.EutxoTypes.declared.fault.TxFault.{TxFault}
use Rattle.roles.specs.EutxoTypes.declared.fault.TxFault.TheVariants.{RepeatedInput, NotUnspent, IdInUse, UnknownScript}
use Rattle.roles.specs.EutxoTypes.declared.output.Output.{Output}
use Rattle.roles.specs.EutxoTypes.declared.output_ref.OutputRef.{OutputRef}
use Rattle.roles.specs.EutxoTypes.declared.spend.Spend.{Spend}
use Rattle.roles.specs.EutxoTypes.declared.tx.Tx.{Tx}
use Rattle.roles.specs.EutxoTypes.Ids.{id_of}
use Rattle.roles.specs.Eutxo.Faults.{first_of, first_index}
use Rattle.roles.specs.Eutxo.Rules.{no_inputs, too_many, repeated_input, is_repeated}
use Rattle.roles.specs.Eutxo.Found.{is_known, with_outputs, if_known}
use Rattle.roles.specs.Eutxo.Local.{tx_fault, whole_fault, local}
use Rattle.roles.specs.Eutxo.Asked.{Judges}
use Rattle.roles.specs.Eutxo.Judgement.{Moment, not_unspent, id_in_use, outside_interval, is_unknown, unknown_script, judge}
use Rattle.roles.specs.Eutxo.Judgement as judgement
use Rattle.roles.specs.Eutxo.Laws.{FoundIsEnough}
use Rattle.ledger_laws.specs.Past.{Past, unspent_at, has_id}
use Rattle.ledger_laws.specs.Sound.{moment}
use Rattle.ledger_laws.proofs.PlainLaws.{EachFalse, not_false, both, same_some}

-- none of them stands
abbrev pub EachNone : {A : Type 0} → List (Option A) → Type 0
EachNone [] = Unit {0}
EachNone (x ∷ xs) = (x ≡ None) × EachNone xs

pub each_none : {A : Type 0} (xs : List (Option A)) → first_of xs ≡ None → EachNone xs
each_none [] h = tt
each_none (None ∷ xs) h = (refl, each_none xs h)
each_none (Some x ∷ xs) h = cc

each_false_if : (b : Bool) (n : ℕ) (later : Option ℕ) → cond b (Some n) later ≡ None → (b ≡ false) × (later ≡ None)
each_false_if true n later h = cc
each_false_if false n later h = (refl, h)

each_false_from : {A : Type 0} (test : A → Bool) (n : ℕ) (xs : List A) → position_from test n xs ≡ None → EachFalse test xs
each_false_from test n [] h = tt
each_false_from test n (x ∷ xs) h = let p = each_false_if (test x) n (position_from test (n + 1) xs) h in (p.0, each_false_from test (n + 1) xs p.1)

pub mapped_none : {A B : Type 0} (f : A → B) (o : Option A) → option_map f o ≡ None → o ≡ None
mapped_none f None h = refl
mapped_none f (Some x) h = cc

-- a rule with places refuses nowhere
pub nowhere : {A : Type 0} (f : ℕ → TxFault) (test : A → Bool) (xs : List A) → option_map f (position test xs) ≡ None → EachFalse test xs
nowhere f test xs h = each_false_from test 0 xs (sym (position_from-zero test xs) ∙ mapped_none f (position test xs) h)

pub unless : {A : Type 0} (b : Bool) (x : A) → (if b then Some x else None) ≡ None → b ≡ false
unless true x h = cc
unless false x h = refl

-- whether an input finds nothing
abbrev pub is_missing : (OutputRef → Option Output) → Spend → Bool
is_missing find x = is_none (find x.reference)

-- the inputs with the outputs that they find, where none is missing
abbrev pub found : (OutputRef → Option Output) → Tx → Option (List (Spend × Output))
found find tx = with_outputs tx.inputs (map (λ x. find x.reference) tx.inputs)

-- the judgement's rules, in their order
abbrev pub all_rules : {V : Type 0} → Judges V → Moment V → Tx → List (Option TxFault)
all_rules j m tx = tx_fault tx ∷ not_unspent m tx ∷ id_in_use m tx ∷ outside_interval m tx ∷ unknown_script m tx ∷ local j tx (judgement.found m tx) ∷ []

-- the local verdict on what is found
abbrev pub local_rules : {V : Type 0} → Judges V → (List ℕ → Option V) → Past → Tx → List (Option TxFault)
local_rules j named past tx = tx_fault tx ∷ whole_fault j named tx (if_known named tx.outputs (found (unspent_at past) tx)) ∷ []

-- what the judgement leaves
pub record Passes {V : Type 0} (j : Judges V) (named : List ℕ → Option V) (past : Past) (tx : Tx) : Type 0 where
  pub unspent : EachFalse (is_missing (unspent_at past)) tx.inputs
  pub fresh : list_any (has_id (id_of tx)) past.accepted ≡ false
  pub known : EachFalse (is_unknown named) tx.outputs
  pub alone : first_index (is_repeated tx.inputs) 0 tx.inputs ≡ None
  pub local : whole_fault j named tx (if_known named tx.outputs (found (unspent_at past) tx)) ≡ None

pub passes : {V : Type 0} (j : Judges V) (enough : FoundIsEnough j) (named : List ℕ → Option V) (past : Past) (tick : ℤ) (tx : Tx) → judge j (moment named past tick) tx ≡ None → Passes j named past tx
passes j enough named past tick tx h =
    let r = each_none (all_rules j (moment named past tick) tx) h in
    let a = each_none (no_inputs tx ∷ too_many tx ∷ repeated_input tx ∷ []) r.0 in
    record {
      unspent = nowhere NotUnspent (is_missing (unspent_at past)) tx.inputs r.1.0;
      fresh = unless (list_any (has_id (id_of tx)) past.accepted) IdInUse r.1.1.0;
      known = nowhere UnknownScript (is_unknown named) tx.outputs r.1.1.1.1.0;
      alone = mapped_none RepeatedInput (first_index (is_repeated tx.inputs) 0 tx.inputs) a.1.1.0;
      local = (each_none (local_rules j named past tx) (sym (enough (moment named past tick) tx) ∙ r.1.1.1.1.1.0)).1.0;
    }

-- each made output is known
pub made_known : {V : Type 0} (named : List ℕ → Option V) (os : List Output) → EachFalse (is_unknown named) os → list_all (λ o. is_known named o.lock) os ≡ true
made_known named [] h = refl
made_known named (o ∷ os) h = both (is_known named o.lock) (list_all (λ o. is_known named o.lock) os) (not_false (is_known named o.lock) h.0) (made_known named os h.1)

-- a rule by place and element that refuses nowhere holds of no place
unplaced_if : (b : Bool) (n : ℕ) (later : Option ℕ) → (if b then Some n else later) ≡ None → (b ≡ false) × (later ≡ None)
unplaced_if true n later h = cc
unplaced_if false n later h = (refl, h)

unplaced_from : {A : Type 0} (p : ℕ → A → Bool) (k : ℕ) (xs : List A) → first_index p k xs ≡ None → (i n : ℕ) (x : A) → slice_get xs i ≡ Some x → n ≡ k + i → p n x ≡ false
unplaced_from p k [] h i n x at e = cc
unplaced_from p k (y ∷ xs) h zero n x at e =
    let here : p k y ≡ false = (unplaced_if (p k y) k (first_index p (k + 1) xs) h).0 in
    let first : n ≡ k = omega (arith, e) in
    ap (λ (m : ℕ). p m x) first ∙ ap (p k) (sym (same_some y x at)) ∙ here
unplaced_from p k (y ∷ xs) h (suc i) n x at e = unplaced_from p (k + 1) xs (unplaced_if (p k y) k (first_index p (k + 1) xs) h).1 i n x at (omega (arith, e))

pub unplaced : {A : Type 0} (p : ℕ → A → Bool) (xs : List A) → first_index p 0 xs ≡ None → (i : ℕ) (x : A) → slice_get xs i ≡ Some x → p i x ≡ false
unplaced p xs h i x at = unplaced_from p 0 xs h i i x at (omega arith)

-- two rules that say the same of each place and its element are one
same_from : {A : Type 0} (p q : ℕ → A → Bool) (k : ℕ) (xs : List A) → ((i n : ℕ) (x : A) → slice_get xs i ≡ Some x → n ≡ k + i → p n x ≡ q n x) → first_index p k xs ≡ first_index q k xs
same_from p q k [] h = refl
same_from p q k (x ∷ xs) h =
    ap (λ (b : Bool). if b then Some k else first_index p (k + 1) xs) (h 0 k x refl (omega arith))
    ∙ ap (λ (o : Option ℕ). if q k x then Some k else o) (same_from p q (k + 1) xs (λ i n y at e. h (suc i) n y at (omega (arith, e))))

pub same_places : {A : Type 0} (p q : ℕ → A → Bool) (xs : List A) → ((i : ℕ) (x : A) → slice_get xs i ≡ Some x → p i x ≡ q i x) → first_index p 0 xs ≡ first_index q 0 xs
same_places p q xs h = same_from p q 0 xs (λ i n x at e. let same : n ≡ i = omega (arith, e) in ap (λ (m : ℕ). p m x) same ∙ h i x at ∙ ap (λ (m : ℕ). q m x) (sym same))
