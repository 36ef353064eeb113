-- Notes behind entries.
use Rattle.std.proofs.Common.{◌≡◌, ℕ, zero, suc, ◌+◌, ◌<◌, ◌≤◌, List, [], ◌∷◌, ◌++◌, length, get_or, drop, map, refl, sym, ◌∙◌, ap, arith, append_assoc, slice_set}
use Rattle.std.proofs.lemmas.List.{at_drop_more, length-map}
use Rattle.builder_spec.specs.Ledger.declared.call.Entry.{Entry}
use Rattle.play_lines.specs.PlayLines.{entry_line}
use Rattle.play_notes.specs.Notes.{put_behind, noted_entries}

-- ---- one note more

-- where there is no entry, none
pub put_outside : {S : Type 0} (f : S → List ℕ) (n : ℕ) (text : List ℕ) (xs : List S) → length xs ≤ n → map f xs ≡ put_behind n text (map f xs)
put_outside f n text [] h = refl
put_outside f zero text (x ∷ xs) h = absurd (omega (arith, h))
put_outside f (suc n) text (x ∷ xs) h = ap (λ (l : List (List ℕ)). f x ∷ l) (put_outside f n text xs (omega (arith, h)))

same_head : {S : Type 0} (f : S → List ℕ) (x old new : S) (text : List ℕ) (rest : List (List ℕ)) → old ≡ x → f new ≡ f old ++ text → f new ∷ rest ≡ (f x ++ text) ∷ rest
same_head f x old new text rest is put = ap (λ (l : List ℕ). l ∷ rest) (put ∙ ap (λ (y : _). f y ++ text) is)

-- the text of that entry is made longer
pub put_inside : {S : Type 0} (f : S → List ℕ) (n : ℕ) (text : List ℕ) (xs : List S) (old new : S) → n < length xs → old ≡ get_or xs n old → f new ≡ f old ++ text → map f (slice_set xs n new) ≡ put_behind n text (map f xs)
put_inside f n text [] old new h is put = absurd (omega (arith, h))
put_inside f zero text (x ∷ xs) old new h is put = same_head f x old new text (map f xs) is put
put_inside f (suc n) text (x ∷ xs) old new h is put = ap (λ (l : List (List ℕ)). f x ∷ l) (put_inside f n text xs old new (omega (arith, h)) is put)

-- ---- one entry more

map_at : {S : Type 0} (f : S → List ℕ) (xs : List S) (i : ℕ) (d : S) → get_or (map f xs) i (f d) ≡ f (get_or xs i d)
map_at f [] i d = refl
map_at f (x ∷ xs) zero d = refl
map_at f (x ∷ xs) (suc i) d = map_at f xs i d

next_of : (ns : List (List ℕ)) (es : List Entry) (i : ℕ) (x : List ℕ) (e : Entry) → i < length ns → i < length es → x ≡ get_or ns i x → e ≡ get_or es i e →
    noted_entries i (drop i ns) (drop i es) ≡ entry_line i e ++ (x ++ noted_entries (i + 1) (drop (i + 1) ns) (drop (i + 1) es))
next_of ns es i x e here there is so =
    at_drop_more (λ (l : List (List ℕ)). noted_entries i l (drop i es)) ns i x here
    ∙ at_drop_more (λ (l : List Entry). noted_entries i (get_or ns i x ∷ drop (i + 1) ns) l) es i e there
    ∙ ap (λ (t : List ℕ). noted_entries i (t ∷ drop (i + 1) ns) (get_or es i e ∷ drop (i + 1) es)) (sym is)
    ∙ ap (λ (y : Entry). noted_entries i (x ∷ drop (i + 1) ns) (y ∷ drop (i + 1) es)) (sym so)

pub entry_next : {S : Type 0} (f : S → List ℕ) (xs : List S) (es : List Entry) (i : ℕ) (x : S) (e : Entry) (old a b all : List ℕ) → length xs ≡ length es → i < length es → x ≡ get_or xs i x → e ≡ get_or es i e →
    a ≡ old ++ entry_line i e → b ≡ a ++ f x → old ++ noted_entries i (drop i (map f xs)) (drop i es) ≡ all → b ++ noted_entries (i + 1) (drop (i + 1) (map f xs)) (drop (i + 1) es) ≡ all
entry_next f xs es i x e old a b all long there is so line note_put whole =
    let ns = map f xs in
    let rest = noted_entries (i + 1) (drop (i + 1) ns) (drop (i + 1) es) in
    let here : i < length ns = omega (arith, length-map xs f, long, there) in
    let text : f x ≡ get_or ns i (f x) = ap f is ∙ sym (map_at f xs i x) in
    ap (λ (t : List ℕ). t ++ rest) (note_put ∙ ap (λ (t : List ℕ). t ++ f x) line)
    ∙ append_assoc (old ++ entry_line i e) (f x) rest
    ∙ append_assoc old (entry_line i e) (f x ++ rest)
    ∙ ap (λ (t : List ℕ). old ++ t) (sym (next_of ns es i (f x) e here there text so))
    ∙ whole
