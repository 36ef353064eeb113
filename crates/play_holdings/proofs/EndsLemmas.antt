-- Which thread is noted for an output.
use Rattle.std.proofs.Common.{◌≡◌, ℕ, ◌+◌, Bool, true, false, cond, List, [], ◌∷◌, ◌++◌, Option, Some, None, length, refl, sym, ◌∙◌, ap, subst, arith}
use Rattle.std.specs.Prelude.{is_some}
use Rattle.std.specs.Map.{lookup}
use Rattle.eutxo.specs.EutxoTypes.contracts.output_ref.OutputRefPartialEq.TheImpl.{ghosts}
use Rattle.eutxo.specs.EutxoTypes.declared.output_ref.OutputRef.{OutputRef}
use Rattle.eutxo.specs.EutxoTypes.declared.output_ref.OutputRef.TheVariants.{Genesis, Made}
use Rattle.eutxo.specs.EutxoTypes.Parts.{same_ref}
use Rattle.eutxo.proofs.SameRefLaws.{same_ref_so}
use Rattle.play_holdings.specs.Holdings.{ends_at, thread_from}
use Rattle.play_holdings.specs.SumsSupport.{or_place}

-- the code's equality is that of the rules
eq_is : (a b : OutputRef) → ghosts.eq a b ≡ same_ref a b
eq_is (Genesis i) (Genesis j) = refl
eq_is (Made n i) (Made k j) = refl
eq_is (Genesis i) (Made k j) = refl
eq_is (Made n i) (Genesis j) = refl

pub eq_same : ghosts.eq ≡ same_ref
eq_same = λ i a b. eq_is a b i

-- ---- one thread more

none_more : (n : ℕ) → n ≡ n + 0
none_more n = omega arith

one_more : (n k : ℕ) → (n + 1) + k ≡ n + (k + 1)
one_more n k = omega arith

pub thread_from-append : (n : ℕ) (r : OutputRef) (ends : List (Option OutputRef)) (e : Option OutputRef) → thread_from n r (ends ++ e ∷ []) ≡ or_place (thread_from n r ends) (ends_at r e) (n + length ends)
thread_from-append n r [] e = ap (λ (m : ℕ). cond (ends_at r e) (Some m) None) (none_more n)
thread_from-append n r (x ∷ ends) e = by (ends_at r x) (thread_from-append (n + 1) r ends e)
  where
    moved : (n + 1) + length ends ≡ n + length (x ∷ ends)
    moved = omega arith

    by : (b : Bool) → thread_from (n + 1) r (ends ++ e ∷ []) ≡ or_place (thread_from (n + 1) r ends) (ends_at r e) ((n + 1) + length ends) →
        cond b (Some n) (thread_from (n + 1) r (ends ++ e ∷ [])) ≡ or_place (cond b (Some n) (thread_from (n + 1) r ends)) (ends_at r e) (n + length (x ∷ ends))
    by true go = refl
    by false go = go ∙ ap (or_place (thread_from (n + 1) r ends) (ends_at r e)) moved

-- ---- what a map has

abbrev Places : Type 0
Places = List (OutputRef × ℕ)

pub unnoted : (o : Option ℕ) (place : ℕ) → o ≡ or_place o false place
unnoted None place = refl
unnoted (Some n) place = refl

noted : (o : Option ℕ) (b : Bool) (place : ℕ) → is_some o ≡ true → o ≡ or_place o b place
noted None b place h = cc
noted (Some n) b place h = refl

free : (o : Option ℕ) (place : ℕ) → is_some o ≡ false → Some place ≡ or_place o true place
free None place h = refl
free (Some n) place h = cc

-- an earlier thread ends there, too
pub there : (es : Places) (end r : OutputRef) (place : ℕ) → is_some (lookup (ghosts.eq end) es) ≡ true → lookup (same_ref r) es ≡ or_place (lookup (same_ref r) es) (same_ref end r) place
there es end r place h = by (same_ref end r) refl
  where
    is : is_some (lookup (same_ref end) es) ≡ true
    is = subst (λ e. is_some (lookup (e end) es) ≡ true) eq_same h

    by : (b : Bool) → same_ref end r ≡ b → lookup (same_ref r) es ≡ or_place (lookup (same_ref r) es) b place
    by true e = noted (lookup (same_ref r) es) true place (subst (λ (q : OutputRef). is_some (lookup (same_ref q) es) ≡ true) (same_ref_so end r e) is)
    by false e = unnoted (lookup (same_ref r) es) place

-- this is the first that ends there
pub put : (old new : Places) (end r : OutputRef) (place : ℕ) → is_some (lookup (ghosts.eq end) old) ≡ false → ((q : OutputRef) → lookup (ghosts.eq q) new ≡ cond (ghosts.eq end q) (Some place) (lookup (ghosts.eq q) old)) →
    lookup (same_ref r) new ≡ or_place (lookup (same_ref r) old) (same_ref end r) place
put old new end r place h updates = subst (λ e. lookup (e r) new ≡ cond (e end r) (Some place) (lookup (e r) old)) eq_same (updates r) ∙ by (same_ref end r) refl
  where
    is : is_some (lookup (same_ref end) old) ≡ false
    is = subst (λ e. is_some (lookup (e end) old) ≡ false) eq_same h

    by : (b : Bool) → same_ref end r ≡ b → cond b (Some place) (lookup (same_ref r) old) ≡ or_place (lookup (same_ref r) old) b place
    by true e = free (lookup (same_ref r) old) place (subst (λ (q : OutputRef). is_some (lookup (same_ref q) old) ≡ false) (same_ref_so end r e) is)
    by false e = unnoted (lookup (same_ref r) old) place
