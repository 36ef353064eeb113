-- From what was found for an argument to what is read of it.
use Rattle.std.proofs.Common.{◌≡◌, ◌∙◌, Bool, true, false, List, [], ℕ, Option, Some, None, Result, Ok, unwrap_or, option_map, refl, sym, ap, subst, codes}
use Rattle.std.specs.Prelude.{ℤ, ◌+◌, ◌∷◌, count_by, fold, map, if◌then◌else◌}
use Rattle.std.specs.Str.Parse.{IsNumeral, signed_digits_value, without_leading_sign}
use Rattle.std.specs.Result.{result_unwrap_or}
use Rattle.clap.specs.Words.{Text, TriesOne, matched_of, one_of, one_text, raw_values, rows_of}
use Rattle.clap.specs.declared.parser.matches.Found.{Found}
use Rattle.clap.proofs.WalkLemmas.{one_text-rows, raw_values-rows}
use Rattle.marlowe_cli.specs.Asked.{IsFlag, IsTime, given_for, inputs, is_input}

-- what a flag says is what was found for it
pub flag_given : (f : Found) (id : Text) (flag : Bool) → (one_text f id ≡ Some (codes "true") → flag ≡ true) → (one_text f id ≡ Some (codes "false") → flag ≡ false)
    → (one_text f id ≡ None → flag ≡ false) → IsFlag (one_of id (rows_of f)) flag
flag_given f id flag set other none =
    let same = one_text-rows f id in (λ is. set (same ∙ is), λ is. other (same ∙ is), λ is. none (same ∙ is))

-- all words that were found are given
pub words_given : (f : Found) (id : Text) (words : List Text) → Some words ≡ option_map raw_values (matched_of f id) → given_for id (rows_of f) ≡ words
words_given f id words is = ap (λ o. unwrap_or o []) (sym (raw_values-rows f id) ∙ sym is)

pub none_given : (f : Found) (id : Text) → None ≡ option_map raw_values (matched_of f id) → given_for id (rows_of f) ≡ []
none_given f id is = ap (λ o. unwrap_or o []) (sym (raw_values-rows f id) ∙ sym is)

-- a time that was read is what its text says
module _ {E : Type 0} (Gives : List ℕ → Result ℤ E → Type 0)
    (says : (text : List ℕ) (number : ℤ) → Gives text (Ok number) → IsNumeral 10 (without_leading_sign text) × (number ≡ signed_digits_value 10 text)) where
  time_of : (text : Option Text) (time : Option ℤ) → (text ≡ None → let read : Result (Option ℤ) E = Ok time in read ≡ Ok None)
      → ((t : Text) → text ≡ Some t → TriesOne Gives t (Ok time)) → IsTime text time
  time_of None time none some = ap (λ (r : Result (Option ℤ) E). result_unwrap_or r None) (none refl)
  time_of (Some t) None none some = absurd (some t refl)
  time_of (Some t) (Some number) none some =
      let said = says t number (some t refl) in (said.0, ap Some said.1)

  pub time_given : (f : Found) (id : Text) (time : Option ℤ) → (one_text f id ≡ None → let read : Result (Option ℤ) E = Ok time in read ≡ Ok None)
      → ((t : Text) → one_text f id ≡ Some t → TriesOne Gives t (Ok time)) → IsTime (one_of id (rows_of f)) time
  time_given f id time none some = subst (λ text. IsTime text time) (one_text-rows f id) (time_of (one_text f id) time none some)

-- paths that are standard input, counted where they stand
counted_from : {A : Type 0} (path : A → Text) (n : ℕ) (paths : List A)
    → fold (λ a p. a + (if is_input (path p) then 1 else 0)) n paths ≡ fold (λ a p. a + (if is_input p then 1 else 0)) n (map path paths)
counted_from path n [] = refl
counted_from path n (p ∷ paths) = counted_from path (n + (if is_input (path p) then 1 else 0)) paths

pub counted : {A : Type 0} (path : A → Text) (paths : List A) → count_by (λ p. is_input (path p)) paths ≡ inputs (map path paths)
counted path paths = counted_from path 0 paths
