-- What a thread has reached after a list of transactions, however threads go on.
use Rattle.std.proofs.Common.{◌≡◌, ℕ, zero, suc, Bool, true, false, List, [], ◌∷◌, ◌++◌, refl, sym, ◌∙◌, ap, subst, Option, Some, None, take, drop, ◌⊎◌, inl, inr}
use Rattle.std.specs.Prelude.{if◌then◌else◌}
use Rattle.std.specs.Option.{option_map}
use Rattle.std.specs.List.{slice_get}
use Rattle.roles.specs.EutxoTypes.declared.output_ref.OutputRef.{OutputRef}
use Rattle.roles.specs.EutxoTypes.declared.output_ref.OutputRef.TheVariants.{Made}
use Rattle.roles.specs.EutxoTypes.declared.tx.Tx.{Tx}
use Rattle.roles.specs.EutxoTypes.Ids.{id_of}
use Rattle.roles.specs.EutxoTypes.Parts.{Instance, contract_at}
use Rattle.ledger_laws.specs.Past.{is_input_of, is_spent}
use Rattle.ledger_laws.specs.Threads.{Link, spine_by, ends_by, next_in}
use Rattle.ledger_laws.proofs.PlainLaws.{or_false, both_false, same_some}

module _ (next : OutputRef → Tx → Option OutputRef) where
  abbrev link : OutputRef → Tx → Link
  link r tx = record { spends = r; tx = tx }

  -- the output that the thread from an output has reached
  abbrev pub reached : Option OutputRef → List Tx → Option OutputRef
  reached None txs = None
  reached (Some r) [] = Some r
  reached (Some r) (tx ∷ txs) = if is_input_of r tx then reached (next r tx) txs else reached (Some r) txs

  -- and what it has reached after one transaction
  abbrev pub moved : Option OutputRef → Tx → Option OutputRef
  moved None tx = None
  moved (Some r) tx = if is_input_of r tx then next r tx else Some r

  reached_none : (s : Option OutputRef) → reached s [] ≡ s
  reached_none None = refl
  reached_none (Some r) = refl

  moved_as : (s : Option OutputRef) (tx : Tx) → reached s (tx ∷ []) ≡ moved s tx
  moved_as None tx = refl
  moved_as (Some r) tx = by (is_input_of r tx)
    where
      by : (b : Bool) → (if b then reached (next r tx) [] else Some r) ≡ (if b then next r tx else Some r)
      by true = reached_none (next r tx)
      by false = refl

  pub reached_append : (s : Option OutputRef) (xs ys : List Tx) → reached s (xs ++ ys) ≡ reached (reached s xs) ys
  reached_append None xs ys = refl
  reached_append (Some r) [] ys = refl
  reached_append (Some r) (x ∷ xs) ys = by (is_input_of r x) (reached_append (next r x) xs ys) (reached_append (Some r) xs ys)
    where
      by : (b : Bool) → reached (next r x) (xs ++ ys) ≡ reached (reached (next r x) xs) ys → reached (Some r) (xs ++ ys) ≡ reached (reached (Some r) xs) ys →
          (if b then reached (next r x) (xs ++ ys) else reached (Some r) (xs ++ ys)) ≡ reached (if b then reached (next r x) xs else reached (Some r) xs) ys
      by true p q = p
      by false p q = q

  pub reached_more : (s : Option OutputRef) (xs : List Tx) (tx : Tx) → reached s (xs ++ tx ∷ []) ≡ moved (reached s xs) tx
  reached_more s xs tx = reached_append s xs (tx ∷ []) ∙ moved_as (reached s xs) tx

  -- it ends there
  pub ends_reached : (s : Option OutputRef) (txs : List Tx) → ends_by next s (spine_by next s txs) ≡ reached s txs
  ends_reached None txs = refl
  ends_reached (Some r) [] = refl
  ends_reached (Some r) (x ∷ xs) = by (is_input_of r x) (ends_reached (next r x) xs) (ends_reached (Some r) xs)
    where
      by : (b : Bool) → ends_by next (next r x) (spine_by next (next r x) xs) ≡ reached (next r x) xs → ends_by next (Some r) (spine_by next (Some r) xs) ≡ reached (Some r) xs →
          ends_by next (Some r) (if b then link r x ∷ spine_by next (next r x) xs else spine_by next (Some r) xs) ≡ (if b then reached (next r x) xs else reached (Some r) xs)
      by true p q = p
      by false p q = q

  -- it stays where nobody spends it
  pub stays : (r : OutputRef) (txs : List Tx) → is_spent txs r ≡ false → reached (Some r) txs ≡ Some r
  stays r [] h = refl
  stays r (x ∷ xs) h =
      let p = or_false (is_input_of r x) (is_spent xs r) h in
      ap (λ (b : Bool). if b then reached (next r x) xs else reached (Some r) xs) p.0 ∙ stays r xs p.1

  -- a member spends the output that the thread had reached
  pub record Stood (s : Option OutputRef) (txs : List Tx) (q : OutputRef) (tx : Tx) : Type 0 where
    pub number : ℕ
    pub at : slice_get txs number ≡ Some tx
    pub stood : reached s (take number txs) ≡ Some q
    pub named : is_input_of q tx ≡ true

  pub member_stood : (s : Option OutputRef) (txs : List Tx) (i : ℕ) (q : OutputRef) (tx : Tx) → slice_get (spine_by next s txs) i ≡ Some (link q tx) → Stood s txs q tx
  member_stood None txs i q tx h = cc
  member_stood (Some r) [] i q tx h = cc
  member_stood (Some r) (x ∷ xs) i q tx h = by (is_input_of r x) refl i h (λ k e. member_stood (next r x) xs k q tx e) (λ k e. member_stood (Some r) xs k q tx e)
    where
      later : (s : Option OutputRef) → ((txs : List Tx) → reached (Some r) (x ∷ txs) ≡ reached s txs) → Stood s xs q tx → Stood (Some r) (x ∷ xs) q tx
      later s on w = record { number = suc w.number; at = w.at; named = w.named; stood = on (take w.number xs) ∙ w.stood }

      by : (b : Bool) → is_input_of r x ≡ b → (i : ℕ) → slice_get (if b then link r x ∷ spine_by next (next r x) xs else spine_by next (Some r) xs) i ≡ Some (link q tx) →
          ((k : ℕ) → slice_get (spine_by next (next r x) xs) k ≡ Some (link q tx) → Stood (next r x) xs q tx) →
          ((k : ℕ) → slice_get (spine_by next (Some r) xs) k ≡ Some (link q tx) → Stood (Some r) xs q tx) → Stood (Some r) (x ∷ xs) q tx
      by true e zero h go on =
          let same : link r x ≡ link q tx = same_some _ _ h in
          let ref : r ≡ q = ap (λ (l : Link). l.spends) same in
          let tx_same : x ≡ tx = ap (λ (l : Link). l.tx) same in
          record { number = 0; at = ap Some tx_same; stood = ap Some ref; named = subst (λ (k : OutputRef). is_input_of k tx ≡ true) ref (subst (λ (t : Tx). is_input_of r t ≡ true) tx_same e) }
      by true e (suc i) h go on = later (next r x) (λ txs. ap (λ (b : Bool). if b then reached (next r x) txs else reached (Some r) txs) e) (go i h)
      by false e i h go on = later (Some r) (λ txs. ap (λ (b : Bool). if b then reached (next r x) txs else reached (Some r) txs) e) (on i h)

  -- and a transaction that spends it is a member
  pub member_at : (s : Option OutputRef) (txs : List Tx) (n : ℕ) (q : OutputRef) (tx : Tx) → slice_get txs n ≡ Some tx → reached s (take n txs) ≡ Some q → is_input_of q tx ≡ true →
      (i : ℕ) × (slice_get (spine_by next s txs) i ≡ Some (link q tx))
  member_at None txs n q tx a h e = cc
  member_at (Some r) [] n q tx a h e = cc
  member_at (Some r) (x ∷ xs) zero q tx a h e =
      let f : r ≡ q = same_some r q h in
      let g : x ≡ tx = same_some x tx a in
      let k : is_input_of r x ≡ true = subst (λ (z : OutputRef). is_input_of z x ≡ true) (sym f) (subst (λ (z : Tx). is_input_of q z ≡ true) (sym g) e) in
      let first = ap (λ (b : Bool). slice_get (if b then link r x ∷ spine_by next (next r x) xs else spine_by next (Some r) xs) 0) k in
      (0, first ∙ ap (λ (z : Tx). Some (link r z)) g ∙ ap (λ (z : OutputRef). Some (link z tx)) f)
  member_at (Some r) (x ∷ xs) (suc n) q tx a h e = by (is_input_of r x) h (λ k. member_at (next r x) xs n q tx a k e) (λ k. member_at (Some r) xs n q tx a k e)
    where
      by : (b : Bool) → (if b then reached (next r x) (take n xs) else reached (Some r) (take n xs)) ≡ Some q →
          (reached (next r x) (take n xs) ≡ Some q → (i : ℕ) × (slice_get (spine_by next (next r x) xs) i ≡ Some (link q tx))) →
          (reached (Some r) (take n xs) ≡ Some q → (i : ℕ) × (slice_get (spine_by next (Some r) xs) i ≡ Some (link q tx))) →
          (i : ℕ) × (slice_get (if b then link r x ∷ spine_by next (next r x) xs else spine_by next (Some r) xs) i ≡ Some (link q tx))
      by true h go on = let z = go h in (suc z.0, z.1)
      by false h go on = on h

  -- what a thread has reached is where it began, or where a transaction led; and no later one spends it
  pub record Led (txs : List Tx) (q : OutputRef) : Type 0 where
    pub number : ℕ
    pub tx : Tx
    pub at : slice_get txs number ≡ Some tx
    pub spends : OutputRef
    pub goes : next spends tx ≡ Some q
    pub free : is_spent (drop (suc number) txs) q ≡ false

  pub led : (s : Option OutputRef) (txs : List Tx) (q : OutputRef) → reached s txs ≡ Some q → ((s ≡ Some q) × (is_spent txs q ≡ false)) ⊎ Led txs q
  led None txs q h = cc
  led (Some r) [] q h = inl (h, refl)
  led (Some r) (x ∷ xs) q h = by (is_input_of r x) refl h (led (next r x) xs q) (led (Some r) xs q)
    where
      later : Led xs q → Led (x ∷ xs) q
      later l = record { number = suc l.number; tx = l.tx; at = l.at; spends = l.spends; goes = l.goes; free = l.free }

      by : (b : Bool) → is_input_of r x ≡ b → (if b then reached (next r x) xs else reached (Some r) xs) ≡ Some q →
          (reached (next r x) xs ≡ Some q → ((next r x ≡ Some q) × (is_spent xs q ≡ false)) ⊎ Led xs q) →
          (reached (Some r) xs ≡ Some q → ((Some r ≡ Some q) × (is_spent xs q ≡ false)) ⊎ Led xs q) → ((Some r ≡ Some q) × (is_spent (x ∷ xs) q ≡ false)) ⊎ Led (x ∷ xs) q
      by true e h go on = elim (go h) [
        | inl f ↦ inr (record { number = 0; tx = x; at = refl; spends = r; goes = f.0; free = f.1 })
        | inr l ↦ inr (later l)
      ]
      by false e h go on = elim (on h) [
        | inl f ↦ inl (f.0, both_false (is_input_of q x) (is_spent xs q) (ap (λ (k : OutputRef). is_input_of k x) (sym (same_some r q f.0)) ∙ e) f.1)
        | inr l ↦ inr (later l)
      ]

-- ---- where the ledger's threads go on

pub next_there : (tx : Tx) (z : Option ℕ) (i : ℕ) (c : Instance) → z ≡ Some i → contract_at tx i ≡ Some c → next_in tx z ≡ Some (Made (id_of tx) i)
next_there tx z i c e h = ap (next_in tx) e ∙ ap (option_map (λ c. Made (id_of tx) i)) h

pub record Next (tx : Tx) (z : Option ℕ) (q : OutputRef) : Type 0 where
  pub place : ℕ
  pub goes : z ≡ Some place
  pub name : q ≡ Made (id_of tx) place
  pub made : Instance
  pub contract : contract_at tx place ≡ Some made

pub next_so : (tx : Tx) (z : Option ℕ) (q : OutputRef) → next_in tx z ≡ Some q → Next tx z q
next_so tx None q h = cc
next_so tx (Some i) q h = by (contract_at tx i) refl h
  where
    by : (c : Option Instance) → contract_at tx i ≡ c → option_map (λ c. Made (id_of tx) i) c ≡ Some q → Next tx (Some i) q
    by None e h = cc
    by (Some c) e h = record { place = i; goes = refl; name = sym (same_some (Made (id_of tx) i) q h); made = c; contract = e }
