-- References and ids are single.
use Rattle.std.proofs.Common.{◌≡◌, ℕ, zero, suc, ◌+◌, List, [], ◌∷◌, ◌++◌, refl, sym, ◌∙◌, ap, arith, Some, length, ◌⊎◌, inl, inr}
use Rattle.std.specs.List.{slice_get}
use Rattle.roles.specs.EutxoTypes.declared.output.Output.{Output}
use Rattle.roles.specs.EutxoTypes.declared.output_ref.OutputRef.{OutputRef}
use Rattle.roles.specs.EutxoTypes.declared.output_ref.OutputRef.TheVariants.{Genesis, Made}
use Rattle.roles.specs.EutxoTypes.declared.tx.Tx.{Tx}
use Rattle.roles.specs.EutxoTypes.Ids.{id_of}
use Rattle.roles.specs.Eutxo.Laws.{FoundIsEnough}
use Rattle.roles.specs.Eutxo.Asked.{Judges}
use Rattle.ledger_laws.specs.Past.{Past, with_references, created_by, created_by_all, created}
use Rattle.ledger_laws.specs.Laws.{NamesAreSingle}
use Rattle.ledger_laws.proofs.ReferenceLaws.{same_made}
use Rattle.ledger_laws.proofs.AcceptedLaws.{one_place}

abbrev Entry : Type 0
Entry = OutputRef × Output

-- at different places of a list stand different references
abbrev Single : List Entry → Type 0
Single es = (n m : ℕ) (a b : Entry) → slice_get es n ≡ Some a → slice_get es m ≡ Some b → a.0 ≡ b.0 → n ≡ m

-- and in no two lists the same
abbrev Apart : List Entry → List Entry → Type 0
Apart es fs = (n m : ℕ) (a b : Entry) → slice_get es n ≡ Some a → slice_get fs m ≡ Some b → a.0 ≡ b.0 → ⊥

-- an element of two lists in a row stands in one of them
in_either : {A : Type 0} (xs ys : List A) (n : ℕ) (x : A) → slice_get (xs ++ ys) n ≡ Some x → (slice_get xs n ≡ Some x) ⊎ ((k : ℕ) × (n ≡ length xs + k) × (slice_get ys k ≡ Some x))
in_either [] ys n x h = inr (n, omega arith, h)
in_either (y ∷ xs) ys zero x h = inl h
in_either (y ∷ xs) ys (suc n) x h =
    elim (in_either xs ys n x h) [
      | inl e ↦ inl e
      | inr q ↦ inr (q.0, let l = q.1 in omega (arith, l), q.2)
    ]

single_both : (es fs : List Entry) → Single es → Single fs → Apart es fs → Single (es ++ fs)
single_both es fs f g apart n m a b x y e = by (in_either es fs n a x) (in_either es fs m b y)
  where
    by : ((slice_get es n ≡ Some a) ⊎ ((k : ℕ) × (n ≡ length es + k) × (slice_get fs k ≡ Some a))) → ((slice_get es m ≡ Some b) ⊎ ((k : ℕ) × (m ≡ length es + k) × (slice_get fs k ≡ Some b))) → n ≡ m
    by (inl p) (inl q) = f n m a b p q e
    by (inl p) (inr q) = absurd (apart n q.0 a b p q.2 e)
    by (inr p) (inl q) = absurd (apart m p.0 b a q p.2 (sym e))
    by (inr p) (inr q) = p.1 ∙ ap (λ (k : ℕ). length es + k) (g p.0 q.0 a b p.2 q.2 e) ∙ sym q.1

-- ---- outputs with their references

-- the reference at a place
referred : (name : ℕ → OutputRef) (k : ℕ) (os : List Output) (n : ℕ) (a : Entry) → slice_get (with_references name k os) n ≡ Some a → a.0 ≡ name (k + n)
referred name k [] n a h = cc
referred name k (o ∷ os) zero a h = let e : (let x : Entry = (name k, o) in x) ≡ a = cc in ap (λ (x : Entry). x.0) (sym e) ∙ ap name (omega arith)
referred name k (o ∷ os) (suc n) a h = referred name (k + 1) os n a h ∙ ap name (omega arith)

single_named : (name : ℕ → OutputRef) → ((i j : ℕ) → name i ≡ name j → i ≡ j) → (k : ℕ) (os : List Output) → Single (with_references name k os)
single_named name one k os n m a b x y e = let same = one (k + n) (k + m) (sym (referred name k os n a x) ∙ e ∙ referred name k os m b y) in omega (arith, same)

-- ---- what transactions made

-- no two of these transactions have one id
abbrev SingleIds : List Tx → Type 0
SingleIds txs = (n m : ℕ) (s t : Tx) → slice_get txs n ≡ Some s → slice_get txs m ≡ Some t → id_of s ≡ id_of t → n ≡ m

-- what they made has the id of one of them
made_in : (txs : List Tx) (n : ℕ) (a : Entry) → slice_get (created_by_all txs) n ≡ Some a → (j : ℕ) × (t : Tx) × (i : ℕ) × (slice_get txs j ≡ Some t) × (a.0 ≡ Made (id_of t) i)
made_in [] n a h = cc
made_in (tx ∷ txs) n a h =
    elim (in_either (created_by tx) (created_by_all txs) n a h) [
      | inl p ↦ (0, tx, 0 + n, refl, referred (λ j. Made (id_of tx) j) 0 tx.outputs n a p)
      | inr p ↦ let q = made_in txs p.0 a p.2 in (suc q.0, q.1, q.2, q.3, q.4)
    ]

single_made : (txs : List Tx) → SingleIds txs → Single (created_by_all txs)
single_made [] h = λ n m a b x y e. cc
single_made (tx ∷ txs) h =
    single_both (created_by tx) (created_by_all txs)
    (single_named (λ j. Made (id_of tx) j) (λ i j e. (same_made (id_of tx) (id_of tx) i j e).1) 0 tx.outputs)
    (single_made txs (λ n m s t x y e. let q : suc n ≡ suc m = h (suc n) (suc m) s t x y e in omega (arith, q)))
    (λ n m a b x y e.
    let q = made_in txs m b y in
    let same = same_made (id_of tx) (id_of q.1) (0 + n) q.2 (sym (referred (λ j. Made (id_of tx) j) 0 tx.outputs n a x) ∙ e ∙ q.4) in
    let place : 0 ≡ suc q.0 = h 0 (suc q.0) tx q.1 refl q.3 same.0 in
    absurd (omega (arith, place)))

single_created : (past : Past) → SingleIds past.accepted → Single (created past)
single_created past h =
    single_both (with_references (λ j. Genesis j) 0 past.genesis) (created_by_all past.accepted)
    (single_named (λ j. Genesis j) (λ i j e. cc) 0 past.genesis)
    (single_made past.accepted h)
    (λ n m a b x y e. let q = made_in past.accepted m b y in let wrong : Genesis (0 + n) ≡ Made (id_of q.1) q.2 = sym (referred (λ j. Genesis j) 0 past.genesis n a x) ∙ e ∙ q.4 in cc)

pub names_are_single : {V : Type 0} (j : Judges V) → FoundIsEnough j → NamesAreSingle j
names_are_single j enough named past sound = let ids = one_place j enough named past sound in (single_created past ids, ids)
