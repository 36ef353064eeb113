-- The members of objects that aren't read, in the order of the text.
use Rattle.std.specs.Prelude.{ℕ, ◌+◌, List, [], ◌∷◌, ◌++◌, Option, Some, None, Result, Ok, Err, option_and_then}
use Rattle.json.specs.Lex.{tokens}
use Rattle.json.specs.Json.{Json, null, boolean, number, string, array, object, Items, no_items, item, Members, no_members, member, value, if_last}
use Rattle.json_forms.specs.declared.form.Form.{Form}
use Rattle.json_forms.specs.declared.sort.Sort.{Sort}
use Rattle.json_forms.specs.Forms.{Field}
use Rattle.unread_keys.specs.declared.unread.Step.{Step}
use Rattle.unread_keys.specs.declared.unread.Step.TheVariants as steps
use Rattle.unread_keys.specs.declared.unread.Why.{Why}
use Rattle.unread_keys.specs.declared.unread.Unread.{Unread}
use Rattle.unread_keys.specs.Sorts.{form_of, item_sort, member_field}

-- a member that isn't read: the way to its object, its index there, its key, and why
pub record Note : Type 0 where
  pub path : List Step
  pub index : ℕ
  pub key : List ℕ
  pub why : Why

abbrev pub keys_of : Members → List (List ℕ)
keys_of no_members = []
keys_of (member k j ms) = k ∷ keys_of ms

-- what an item has inside, where it is read
abbrev pub inside : Option Sort → (Sort → List Note) → List Note
inside None look = []
inside (Some sort) look = look sort

-- what a member has inside, where it is read, and else itself
abbrev pub inside_or : Result Field Why → List Step → ℕ → List ℕ → (Field → List Note) → List Note
inside_or (Ok field) path n key look = look field
inside_or (Err why) path n key look = record { path = path; index = n; key = key; why = why } ∷ []

-- of a value at the end of a path, which is read as one of a sort: the members inside that aren't read
abbrev mutual
  pub notes : List Step → Sort → Json → List Note
  notes path sort null = []
  notes path sort (boolean b) = []
  notes path sort (number s) = []
  notes path sort (string s) = []
  notes path sort (array js) = items_notes path sort 0 js
  notes path sort (object ms) = members_notes path (form_of sort (keys_of ms)) 0 ms

  -- of items, counted from a number on
  pub items_notes : List Step → Sort → ℕ → Items → List Note
  items_notes path sort n no_items = []
  items_notes path sort n (item j js) = inside (item_sort sort n) (λ s. notes (path ++ steps.Item n ∷ []) s j) ++ items_notes path sort (n + 1) js

  -- of members, counted from a number on
  pub members_notes : List Step → Option Form → ℕ → Members → List Note
  members_notes path form n no_members = []
  members_notes path form n (member k j ms) =
      inside_or (member_field form k (keys_of ms)) path n k (λ f. notes (path ++ steps.Key f.0 ∷ []) f.1 j) ++ members_notes path form (n + 1) ms

-- the value that a text is, where lists and objects nest no deeper than a number
abbrev pub document_within : ℕ → List ℕ → Option Json
document_within depth text = option_and_then (λ p. if_last p.0 p.1) (value depth (tokens text))

abbrev pub notes_or_none : Sort → Option Json → List Note
notes_or_none sort None = []
notes_or_none sort (Some json) = notes [] sort json

-- the members of a text that aren't read, where it is read as one of a sort
abbrev pub notes_in : ℕ → List ℕ → Sort → List Note
notes_in depth text sort = notes_or_none sort (document_within depth text)

-- what code tells
abbrev pub note_of : Unread → Note
note_of u = record { path = u.path.items; index = u.index; key = u.key.now; why = u.why }
