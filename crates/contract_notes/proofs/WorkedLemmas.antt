-- Worked notes: the start state has no name.
use Rattle.std.proofs.Common.{◌≡◌, ℤ, ◌||◌, false, is_some, List, [], ◌∷◌, ◌++◌, if◌then◌else◌, Option, None, ap}
use Rattle.std.specs.FinMap.{get, empty, get-empty}
use Rattle.contract.specs.Names.Orders.{bytes_cmp}
use Rattle.semantics.specs.Rows.{name_x}
use Rattle.contract_notes.specs.declared.note.Source.{Source}
use Rattle.contract_notes.specs.declared.note.Source.TheVariants.{Name}
use Rattle.contract_notes.specs.declared.note.Remark.TheVariants.{Unread}
use Rattle.contract_notes.specs.declared.note.Note.{Note}
use Rattle.contract_notes.specs.Notes.{unbound_at}
use Rattle.contract_notes.specs.Rows.{NameIsUnbound, OwnValueIsUnbound}

not_there : get (empty {X = ℤ} {R = bytes_cmp}) name_x ≡ None
not_there = get-empty bytes_cmp name_x

-- the notes of a name that is read, if the start state doesn't have it
abbrev noted : Option ℤ → List Note
noted o = unbound_at [] (if (is_some o || false) || false then [] else (let found : List Source = [] in found ++ Name name_x ∷ []))

pub name_is_unbound : NameIsUnbound
name_is_unbound = ap (λ (o : Option ℤ). noted o ++ []) not_there

pub own_value_is_unbound : OwnValueIsUnbound
own_value_is_unbound = ap (λ (o : Option ℤ). noted o ++ (let n : Note = record { place = []; remark = Unread (Name name_x) } in n ∷ [])) not_there
