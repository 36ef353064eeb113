-- Which form an object was meant to have, which of its keys lacks, and how that one may have been spelled. An object is seen as the
-- list of its keys.
use Rattle.std.specs.Prelude.{ℕ, nat_lt, nat_le, ◌==◌, Bool, not, ◌&&◌, ◌||◌, List, [], ◌∷◌, length, count_by, Option, Some, None, is_some, if◌then◌else◌}
use Rattle.std.specs.List.{find, list_any}
use Rattle.names.specs.Equal.{same_text}
use Rattle.json_forms.specs.declared.form.Form.{Form}
use Rattle.json_forms.specs.declared.sort.Sort.{Sort}
use Rattle.json_forms.specs.Forms.{Field, key_word, fields_of, forms_of, words_of}
use Rattle.json_forms.specs.Spelling.{one_apart, two_apart}

-- the key is one of these
abbrev pub is_there : List (List ℕ) → List ℕ → Bool
is_there keys word = list_any (λ key. same_text key word) keys

-- ---- spellings

-- a word of the form itself
abbrev pub is_of : Form → List ℕ → Bool
is_of form key = list_any (λ word. same_text word key) (words_of form)

-- what may have been meant for another: at most 40 bytes, and no word of the form
abbrev pub is_free : Form → List ℕ → Bool
is_free form key = nat_le (length key) 40 && not (is_of form key)

-- at most two letters apart, and of a word of three letters or fewer one
abbrev pub is_near : List ℕ → List ℕ → Bool
is_near word key = nat_le 4 (length word) && two_apart word key

abbrev pub first_or : {X : Type 0} → Option X → Option X → Option X
first_or None other = other
first_or (Some x) other = Some x

-- the key that is nearest to a word of the form: the first that is one letter apart, or else the first that is near
unfoldable pub nearest : Form → List ℕ → List (List ℕ) → Option (List ℕ)
nearest form word keys = first_or (find (λ key. is_free form key && one_apart word key) keys) (find (λ key. is_free form key && is_near word key) keys)

-- ---- the form that was meant

-- a key of the form is there, or one that is near
abbrev pub is_met : List (List ℕ) → Form → Field → Bool
is_met keys form f = is_there keys (key_word f.0) || is_some (nearest form (key_word f.0) keys)

-- how many are
unfoldable pub met : List (List ℕ) → Form → ℕ
met keys form = count_by (is_met keys form) (fields_of form)

-- of two forms the one that has more, and of as many the one that lacks fewer; else the first
abbrev pub is_fuller : List (List ℕ) → Form → Form → Bool
is_fuller keys f g = nat_lt (met keys g) (met keys f) || (met keys g == met keys f && nat_lt (length (fields_of f)) (length (fields_of g)))

abbrev pub fuller : List (List ℕ) → Form → Option Form → Option Form
fuller keys f None = if met keys f == 0 then None else Some f
fuller keys f (Some g) = if is_fuller keys g f then Some g else Some f

abbrev pub fullest : List (List ℕ) → List Form → Option Form
fullest keys [] = None
fullest keys (f ∷ fs) = fuller keys f (fullest keys fs)

-- the form of a sort that has most of the keys
abbrev pub meant : List (List ℕ) → Sort → Option Form
meant keys sort = fullest keys (forms_of sort)

-- the first key of the form that isn't there
abbrev pub lacking : List (List ℕ) → Form → Option Field
lacking keys form = find (λ (f : Field). not (is_there keys (key_word f.0))) (fields_of form)
