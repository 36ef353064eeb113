-- The lines of notes, one after another, and all of them.
use Rattle.std.proofs.Common.{◌≡◌, ℕ, zero, suc, ◌+◌, ◌<◌, ◌≤◌, Bool, true, false, List, [], ◌∷◌, ◌++◌, length, take, drop, get_or, map, min, nat_lt, refl, sym, ap, ◌∙◌, subst, arith, append_assoc, append-nil, lt-ltb, le-ltb, ltb-true, ltb-false, cond, codes}
use Rattle.std.proofs.lemmas.List.{drop_all, drop_more, length-map, length-take}
use Rattle.unread_keys.specs.declared.unread.Unread.{Unread}
use Rattle.unread_keys.specs.Unread.{Note, note_of}
use Rattle.unread_notes.specs.Lines.{line_of, more_line}
use Rattle.unread_notes.specs.Notes.{AreLines, AreNotes, IsLine, PutsLine, PutsLines}

-- ---- lines

pub no_lines : (file text : List ℕ) (old : List ℕ) → PutsLines file text [] old old
no_lines file text old = ([], refl, sym (append-nil old))

pub lines_more : (file text : List ℕ) (note : Note) (notes : List Note) (old mid new : List ℕ) → PutsLine file text note old mid → PutsLines file text notes mid new → PutsLines file text (note ∷ notes) old new
lines_more file text note notes old mid new one rest =
    (one.0 ++ rest.0, (one.0, rest.0, one.1, rest.1, refl), rest.2 ∙ ap (λ z. z ++ rest.0) one.2 ∙ append_assoc old one.0 rest.0)

-- the lines of the keys from an index on complete those of all
abbrev pub Completes : List ℕ → List ℕ → List Unread → ℕ → List ℕ → List ℕ → Type 0
Completes file text keys i old now = (new : List ℕ) → PutsLines file text (map note_of (drop i keys)) now new → PutsLines file text (map note_of keys) old new

pub lines_past : (file text : List ℕ) (keys : List Unread) (i : ℕ) (key : Unread) (old now next : List ℕ) → i < length keys → key ≡ get_or keys i key → Completes file text keys i old now
    → PutsLine file text (note_of key) now next → Completes file text keys (i + 1) old next
lines_past file text keys i key old now next below is goes one = λ new rest.
    let cut : drop i keys ≡ key ∷ drop (i + 1) keys = drop_more keys i key below ∙ ap (λ x. x ∷ drop (i + 1) keys) (sym is) in
    goes new (subst (λ (ks : List Unread). PutsLines file text (map note_of ks) now new) (sym cut) (lines_more file text (note_of key) (map note_of (drop (i + 1) keys)) now next new one rest))

pub lines_end : (file text : List ℕ) (keys : List Unread) (i : ℕ) (old now : List ℕ) → length keys ≤ i → Completes file text keys i old now → PutsLines file text (map note_of keys) old now
lines_end file text keys i old now over goes = goes now (subst (λ (ks : List Unread). PutsLines file text (map note_of ks) now now) (sym (drop_all i keys over)) (no_lines file text now))

-- ---- a hundred at most

cut_shorter : {X : Type 0} (n m : ℕ) (xs : List X) → n ≤ m → take n (take m xs) ≡ take n xs
cut_shorter zero m xs l = refl
cut_shorter (suc n) zero xs l = absurd (omega arith)
cut_shorter (suc n) (suc m) [] l = refl
cut_shorter (suc n) (suc m) (x ∷ xs) l = ap (λ ys. x ∷ ys) (cut_shorter n m xs (omega arith))

mapped_cut : {X Y : Type 0} (f : X → Y) (n : ℕ) (xs : List X) → map f (take n xs) ≡ take n (map f xs)
mapped_cut f zero xs = refl
mapped_cut f (suc n) [] = refl
mapped_cut f (suc n) (x ∷ xs) = ap (λ ys. f x ∷ ys) (mapped_cut f n xs)

over_a_hundred : (k m : ℕ) (b : Bool) → nat_lt 100 k ≡ b → m ≡ min 101 k → nat_lt 100 m ≡ b
over_a_hundred k m true e c = let l : 100 < k = ltb-true 100 k e in lt-ltb 100 m (omega (arith, c, l))
over_a_hundred k m false e c = let l : k ≤ 100 = ltb-false 100 k e in le-ltb 100 m (omega (arith, c, l))

pub all_told : (file text : List ℕ) (all : List Note) (keys told : List Unread) (start mid lines : List ℕ) → start ≡ [] → map note_of keys ≡ take 101 all → told ≡ take 100 keys
    → PutsLines file text (map note_of told) start mid → lines ≡ mid ++ more_line file (length keys) → AreNotes file text all lines
all_told file text all keys told start mid lines none kept cut puts more =
    let hundred : map note_of told ≡ take 100 all = ap (map note_of) cut ∙ mapped_cut note_of 100 keys ∙ ap (take 100) kept ∙ cut_shorter 100 101 all (omega arith) in
    let count : length keys ≡ min 101 (length all) = sym (length-map keys note_of) ∙ ap length kept ∙ length-take 101 all in
    record {
      told = puts.0;
      are_lines = subst (λ ns. AreLines file text ns puts.0) hundred puts.1;
      lines_are = more ∙ ap (λ z. z ++ more_line file (length keys)) (puts.2 ∙ ap (λ z. z ++ puts.0) none)
          ∙ ap (λ b. puts.0 ++ cond b (codes "note: " ++ (file ++ codes ": .. and more\n")) []) (over_a_hundred (length all) (length keys) (nat_lt 100 (length all)) refl count);
    }
