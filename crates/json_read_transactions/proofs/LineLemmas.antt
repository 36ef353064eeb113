-- Lines, one by one.
use Rattle.std.proofs.Common.{◌≡◌, ℕ, ◌+◌, ◌-◌, ◌<◌, ◌≤◌, Bool, true, false, cond, List, [], ◌∷◌, ◌++◌, length, map, take, drop, Some, None, All, refl, sym, ap, ◌∙◌, arith, append-nil, length-drop}
use Rattle.std.specs.Prelude.{◌==◌, not, filter, position, nat_lt}
use Rattle.std.specs.List.{list_all, slice_split, position_or_len, before_first, after_first}
use Rattle.std.proofs.Math.Seq.{take-length}
use Rattle.std.proofs.lemmas.Bool.Decides.{nat_tests}
use Rattle.std.proofs.lemmas.List.Splits.{slice_split_first, slice_split_none}
use Rattle.std.proofs.lemmas.List.Sums.{fails_before_first}
use Rattle.contract.specs.declared.transaction.Transaction.{Transaction}
use Rattle.json_read_names.specs.Parts.{Reading}
use Rattle.json_read_names.specs.ReadsText.{of_text}
use Rattle.json_read_inputs.specs.ReadsInput.{transaction}
use Rattle.json_read_transactions.specs.ReadsTransactions.{is_blank, lines}
use Rattle.json_read_transactions.specs.TakingSupport.{line_readings}

abbrev ends : ℕ → Bool
ends b = b == 10

abbrev read_all : List (List ℕ) → List (Reading Transaction)
read_all ls = map (of_text transaction) (filter (λ line. not (list_all is_blank line)) ls)

-- a line, and the others
one_more : (l : List ℕ) (ls : List (List ℕ)) → read_all (l ∷ ls) ≡ line_readings l ++ read_all ls
one_more l ls =
    elim (list_all is_blank l) as (λ b. map (of_text transaction) (cond (not b) (l ∷ filter (λ line. not (list_all is_blank line)) ls) (filter (λ line. not (list_all is_blank line)) ls)) ≡ cond b [] (of_text transaction l ∷ []) ++ read_all ls) [ true ↦ refl | false ↦ refl ]

cut : (b : Bool) (n k : ℕ) → cond b (Some n) None ≡ Some k → (b ≡ true) × (n ≡ k)
cut true n k h = (refl, cc)
cut false n k h = cc

uncut : (b : Bool) (n : ℕ) → cond b (Some n) None ≡ None → b ≡ false
uncut true n h = cc
uncut false n h = refl

-- the first line, and those of what stands behind it
pub line_first : (text : List ℕ) (end : ℕ) → Some end ≡ position ends text → (end < length text) × (map (of_text transaction) (lines text) ≡ line_readings (take end text) ++ map (of_text transaction) (lines (drop (end + 1) text)))
line_first text end h =
    let p = cut (nat_lt (position_or_len ends text) (length text)) (position_or_len ends text) end (sym h) in
    let below : position_or_len ends text < length text = grind (arith, nat_tests, p.0) in (
      omega (arith, p.1),
      ap read_all (slice_split_first ends text 0 below)
          ∙ (one_more (before_first ends text) (slice_split ends (after_first ends text))
          ∙ ap (λ n. line_readings (take n text) ++ map (of_text transaction) (lines (drop (n + 1) text))) p.1),
    )

-- no line feed ends a line
pub line_last : (text : List ℕ) → None ≡ position ends text → map (of_text transaction) (lines text) ≡ line_readings text
line_last text h = ap read_all (slice_split_none ends text (none_ends text (uncut _ _ (sym h)))) ∙ (one_more text [] ∙ append-nil (line_readings text))
  where
    none_ends : (xs : List ℕ) → nat_lt (position_or_len ends xs) (length xs) ≡ false → All (λ b. ends b ≡ false) xs
    none_ends xs e k d h = let whole : length xs ≤ position_or_len ends xs = grind (arith, nat_tests, e) in fails_before_first ends xs k d (omega arith)

-- all that stands behind an index
pub the_rest : {X : Type 0} (n : ℕ) (xs : List X) → take (length xs - n) (drop n xs) ≡ drop n xs
the_rest n xs = ap (λ k. take k (drop n xs)) (sym (length-drop n xs)) ∙ take-length (drop n xs)
