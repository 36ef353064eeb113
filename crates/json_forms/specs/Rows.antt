-- Worked rows, computed on the definitions.
use Rattle.std.specs.Prelude.{◌≡◌, ℕ, true, false, List, [], ◌∷◌, Option, Some, None, codes}
use Rattle.json_forms.specs.declared.key.Key.{Key}
use Rattle.json_forms.specs.declared.key.Key.TheVariants as keys
use Rattle.json_forms.specs.declared.sort.Sort.{Sort}
use Rattle.json_forms.specs.declared.sort.Sort.TheVariants as sorts
use Rattle.json_forms.specs.declared.sort.Numbers.TheVariants as numbers
use Rattle.json_forms.specs.declared.form.Form.{Form}
use Rattle.json_forms.specs.declared.form.Form.TheVariants as forms
use Rattle.json_forms.specs.Forms.{key_word}
use Rattle.json_forms.specs.Spelling.{one_apart, two_apart}
use Rattle.json_forms.specs.Lacking.{meant, lacking, nearest}

-- a letter put in, left out or exchanged is one; two that have changed places are two
abbrev pub LettersAreCounted : Type 0
LettersAreCounted =
    (one_apart (codes "then") (codes "then") ≡ true)
    × (one_apart (codes "then") (codes "hen") ≡ true)
    × (one_apart (codes "then") (codes "thenn") ≡ true)
    × (one_apart (codes "then") (codes "than") ≡ true)
    × (one_apart (codes "then") (codes "thne") ≡ false)
    × (two_apart (codes "then") (codes "thne") ≡ true)
    × (two_apart (codes "from_account") (codes "from_acount") ≡ true)
    × (two_apart (codes "from_account") (codes "form_account") ≡ true)
    × (two_apart (codes "from_account") (codes "fromacounts") ≡ false)
    × (one_apart [] (codes "a") ≡ true)
    × (two_apart [] (codes "abc") ≡ false)

-- an object of these keys was meant to have the form, whose key lacks, and may have been spelled so
abbrev pub Lacks : List (List ℕ) → Sort → Form → Key → Sort → Option (List ℕ) → Type 0
Lacks given sort form key wanted spelled =
    (meant given sort ≡ Some form) × (lacking given form ≡ Some (key, wanted)) × (nearest form (key_word key) given ≡ spelled)

abbrev pub MisspelledKeysAreFound : Type 0
MisspelledKeysAreFound =
    Lacks (codes "pay" ∷ codes "token" ∷ codes "from_acount" ∷ codes "to" ∷ codes "then" ∷ []) sorts.Contract forms.Pay keys.FromAccount sorts.Party (Some (codes "from_acount"))
    × Lacks (codes "when" ∷ codes "timeout" ∷ codes "timeout_cont" ∷ []) sorts.Contract forms.When keys.TimeoutContinuation sorts.Contract None
    × Lacks (codes "asert" ∷ codes "then" ∷ []) sorts.Contract forms.Assert keys.Assert sorts.Observation (Some (codes "asert"))
    × Lacks (codes "value" ∷ codes "ge" ∷ []) sorts.Observation forms.ValueGT keys.Gt sorts.Value (Some (codes "ge"))
    × Lacks (codes "role_tokn" ∷ []) sorts.Party forms.Role keys.RoleToken sorts.Text (Some (codes "role_tokn"))
    × Lacks (codes "accounts" ∷ codes "choices" ∷ codes "bound_values" ∷ codes "minTime" ∷ []) (sorts.State numbers.Whole) (forms.State numbers.Whole) keys.BoundValues (sorts.BoundValues numbers.Whole)
    (Some (codes "bound_values"))

-- no form is meant where none of its keys is there or near
abbrev pub NoFormIsMeant : Type 0
NoFormIsMeant =
    (meant [] sorts.Contract ≡ None) × (meant (codes "role" ∷ []) sorts.Party ≡ None) × (meant (codes "foo" ∷ []) sorts.Observation ≡ None)
    × (meant (codes "pay" ∷ []) sorts.Whole ≡ None)

-- of as many keys that are there the form is meant that lacks fewer, and of as many the first
abbrev pub FewestLack : Type 0
FewestLack = Lacks (codes "then" ∷ []) sorts.Contract forms.Assert keys.Assert sorts.Observation None × Lacks (codes "value" ∷ []) sorts.Value forms.SubValue keys.Minus sorts.Value None
