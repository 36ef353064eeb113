-- What notes tell, and which keys they have used up.
use Rattle.std.proofs.Common.{◌≡◌, ◌≢◌, ℕ, zero, suc, ◌<◌, ◌==◌, true, false, true≢false, List, [], ◌∷◌, ◌++◌, length, refl, sym, ap, ◌∙◌, subst, arith, append_assoc, set, if◌then◌else◌}
use Rattle.std.proofs.lemmas.Bool.Decides.{nat_tests}
use Rattle.std.proofs.lemmas.List.{append-nil}
use mathlib.Core.List.{IsPrefix}
use Rattle.logbook.specs.Pages.{Cell, cell}
use Rattle.journal.specs.declared.note.Note.{Note}
use Rattle.journal.specs.Notes.{next_key, last_key, entries_of, told, Unused}
use Rattle.journal.specs.Law.{AllSpent}

pub last_key-append : {E : Type 0} (k : ℕ) (xs ys : List (Note E)) → last_key k (xs ++ ys) ≡ last_key (last_key k xs) ys
last_key-append k [] ys = refl
last_key-append k (x ∷ xs) ys = last_key-append (next_key k x) xs ys

pub told-append : {E : Type 0} (k : ℕ) (xs ys : List (Note E)) → told k (xs ++ ys) ≡ told k xs ++ told (last_key k xs) ys
told-append k [] ys = refl
told-append {E} k (x ∷ xs) ys =
    let mine : List E = if x.by == k then entries_of x.entry else [] in
    ap (λ w. mine ++ w) (told-append (next_key k x) xs ys) ∙ sym (append_assoc mine (told (next_key k x) xs) (told (last_key (next_key k x) xs) ys))

pub unused_key : {E : Type 0} (k : ℕ) (ns : List (Note E)) → Unused k ns → last_key k ns ≡ k
unused_key k [] u = refl
unused_key k (n ∷ ns) u = rw u.0 (unused_key k ns u.1)

pub unused_told : {E : Type 0} (k : ℕ) (ns : List (Note E)) → Unused k ns → told k ns ≡ []
unused_told k [] u = refl
unused_told k (n ∷ ns) u = rw u.0 (unused_told k ns u.1)

apart : (a b : ℕ) → a ≢ b → (a == b) ≡ false
apart a b h = grind (arith, nat_tests)

-- a key whose word is away is unused, and so is 0
pub away_unused : {E : Type 0} (cells : List Cell) (k : ℕ) (ns : List (Note E)) → (cell cells k).1 ≡ false → AllSpent cells ns → Unused k ns
away_unused cells k [] away s = tt
away_unused cells k (n ∷ ns) away s =
    (apart n.by k (λ same. true≢false (sym s.0 ∙ (ap (λ (j : ℕ). (cell cells j).1) same ∙ away))), away_unused cells k ns away s.2)

pub zero_unused : {E : Type 0} (cells : List Cell) (ns : List (Note E)) → AllSpent cells ns → Unused 0 ns
zero_unused cells [] s = tt
zero_unused cells (n ∷ ns) s = (apart n.by 0 s.1, zero_unused cells ns s.2)

pub spent_rest : {E : Type 0} (cells : List Cell) (xs ys : List (Note E)) → AllSpent cells (xs ++ ys) → AllSpent cells ys
spent_rest cells [] ys s = s
spent_rest cells (x ∷ xs) ys s = spent_rest cells xs ys s.2

pub spent_more : {E : Type 0} (cells : List Cell) (xs ys : List (Note E)) → AllSpent cells xs → AllSpent cells ys → AllSpent cells (xs ++ ys)
spent_more cells [] ys s t = t
spent_more cells (x ∷ xs) ys s t = (s.0, s.1, spent_more cells xs ys s.2 t)

-- words that are at home stay there
pub spent_still : {E : Type 0} (cells now : List Cell) (ns : List (Note E)) → ((k : ℕ) → (cell cells k).1 ≡ true → (cell now k).1 ≡ true) → AllSpent cells ns → AllSpent now ns
spent_still cells now [] still s = tt
spent_still cells now (n ∷ ns) still s = (still n.by s.0, s.1, spent_still cells now ns still s.2)

pub home_set : (cells : List Cell) (k : ℕ) (n : ℕ) (j : ℕ) → (cell cells j).1 ≡ true → (cell (set cells k (n, true)) j).1 ≡ true
home_set [] k n j h = absurd (true≢false (sym h))
home_set (c ∷ cs) zero n zero h = refl
home_set (c ∷ cs) zero n (suc j) h = h
home_set (c ∷ cs) (suc k) n zero h = h
home_set (c ∷ cs) (suc k) n (suc j) h = home_set cs k n j h

pub home_here : (cells : List Cell) (k : ℕ) (n : ℕ) → k < length cells → (cell (set cells k (n, true)) k).1 ≡ true
home_here [] k n h = absurd (omega arith)
home_here (c ∷ cs) zero n h = refl
home_here (c ∷ cs) (suc k) n h = home_here cs k n (omega arith)

pub home_push : (cells : List Cell) (c : Cell) (j : ℕ) → (cell cells j).1 ≡ true → (cell (cells ++ c ∷ []) j).1 ≡ true
home_push [] c j h = absurd (true≢false (sym h))
home_push (d ∷ cs) c zero h = h
home_push (d ∷ cs) c (suc j) h = home_push cs c j h

-- one more note that uses up the last key
pub told_one : {E : Type 0} (k : ℕ) (xs : List (Note E)) (n : Note E) → n.by ≡ last_key k xs → told k (xs ++ n ∷ []) ≡ told k xs ++ entries_of n.entry
told_one k xs n is =
    let same : (n.by == last_key k xs) ≡ true = grind (arith, nat_tests) in
    told-append k xs (n ∷ []) ∙ ap (λ w. told k xs ++ w) (rw same (append-nil (entries_of n.entry)))

pub key_one : {E : Type 0} (k : ℕ) (xs : List (Note E)) (n : Note E) → n.by ≡ last_key k xs → last_key k (xs ++ n ∷ []) ≡ n.next
key_one k xs n is =
    let same : (n.by == last_key k xs) ≡ true = grind (arith, nat_tests) in
    last_key-append k xs (n ∷ []) ∙ rw same refl

-- the same, where notes of others came between
pub told_added : {E : Type 0} (k : ℕ) (xs rest : List (Note E)) (n : Note E) → n.by ≡ last_key k xs → told (last_key k xs) rest ≡ [] → last_key (last_key k xs) rest ≡ last_key k xs → told k ((xs ++ rest) ++ n ∷ []) ≡ told k xs ++ entries_of n.entry
told_added k xs rest n is none still =
    told_one k (xs ++ rest) n (is ∙ sym (last_key-append k xs rest ∙ still))
    ∙ ap (λ w. w ++ entries_of n.entry) (told-append k xs rest ∙ (ap (λ w. told k xs ++ w) none ∙ append-nil (told k xs)))

pub key_added : {E : Type 0} (k : ℕ) (xs rest : List (Note E)) (n : Note E) → n.by ≡ last_key k xs → last_key (last_key k xs) rest ≡ last_key k xs → last_key k ((xs ++ rest) ++ n ∷ []) ≡ n.next
key_added k xs rest n is still = key_one k (xs ++ rest) n (is ∙ sym (last_key-append k xs rest ∙ still))

pub told_prefix : {E : Type 0} (k : ℕ) (xs ys : List (Note E)) → IsPrefix xs ys → IsPrefix (told k xs) (told k ys)
told_prefix k xs ys p = (told (last_key k xs) p.0, sym (told-append k xs p.0) ∙ ap (told k) p.1)

-- once the last key is 0, no note follows
pub told_sealed : {E : Type 0} (cells : List Cell) (k : ℕ) (xs ys : List (Note E)) → IsPrefix xs ys → AllSpent cells ys → last_key k xs ≡ 0 → told k ys ≡ told k xs
told_sealed {E} cells k xs ys p s end =
    let rest : AllSpent cells p.0 = spent_rest cells xs p.0 (subst (λ (l : List (Note E)). AllSpent cells l) (sym p.1) s) in
    let none : told (last_key k xs) p.0 ≡ [] = rw end (unused_told 0 p.0 (zero_unused cells p.0 rest)) in
    ap (told k) (sym p.1) ∙ (told-append k xs p.0 ∙ (ap (λ w. told k xs ++ w) none ∙ append-nil (told k xs)))

-- what an added note tells, and the key after it
pub told_step : {E : Type 0} (k key : ℕ) (xs rest ys : List (Note E)) (n : Note E) → key ≡ last_key k xs → n.by ≡ key → ys ≡ (xs ++ rest) ++ n ∷ [] → told key rest ≡ [] → last_key key rest ≡ key → told k ys ≡ told k xs ++ entries_of n.entry
told_step k key xs rest ys n here by is none still =
    ap (told k) is ∙ told_added k xs rest n (by ∙ here) (subst (λ (j : ℕ). told j rest ≡ []) here none) (subst (λ (j : ℕ). last_key j rest ≡ j) here still)

pub key_step : {E : Type 0} (k key : ℕ) (xs rest ys : List (Note E)) (n : Note E) → key ≡ last_key k xs → n.by ≡ key → ys ≡ (xs ++ rest) ++ n ∷ [] → last_key key rest ≡ key → last_key k ys ≡ n.next
key_step k key xs rest ys n here by is still =
    ap (last_key k) is ∙ key_added k xs rest n (by ∙ here) (subst (λ (j : ℕ). last_key j rest ≡ j) here still)

unused_rest : {E : Type 0} (k : ℕ) (xs ys : List (Note E)) → Unused k (xs ++ ys) → Unused k ys
unused_rest k [] ys u = u
unused_rest k (x ∷ xs) ys u = unused_rest k xs ys u.1

-- while the last key is unused, no note follows
pub told_still : {E : Type 0} (k key : ℕ) (xs ys : List (Note E)) → IsPrefix xs ys → key ≡ last_key k xs → Unused key ys → told k ys ≡ told k xs
told_still {E} k key xs ys p here u =
    let rest : Unused key p.0 = unused_rest key xs p.0 (subst (λ (l : List (Note E)). Unused key l) (sym p.1) u) in
    let none : told (last_key k xs) p.0 ≡ [] = subst (λ (j : ℕ). told j p.0 ≡ []) here (unused_told key p.0 rest) in
    ap (told k) (sym p.1) ∙ (told-append k xs p.0 ∙ (ap (λ w. told k xs ++ w) none ∙ append-nil (told k xs)))

pub prefix_trans : {A : Type 0} (xs ys zs : List A) → IsPrefix xs ys → IsPrefix ys zs → IsPrefix xs zs
prefix_trans xs ys zs p q = (p.0 ++ q.0, sym (append_assoc xs p.0 q.0) ∙ (ap (λ w. w ++ q.0) p.1 ∙ q.1))
