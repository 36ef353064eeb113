-- Worked notes, each computed on the definitions.
use Rattle.std.specs.Prelude.{◌≡◌, pos, false, [], ◌∷◌}
use Rattle.contract.specs.Names.Equal.{ada}
use Rattle.contract.specs.Names.declared.payee.Payee.TheVariants.{Party as ToParty}
use Rattle.contract.specs.Tree.{constant, use_value, choice_value, value_gt, choice, ContractTree, close, pay, when, let_be, if_obs, no_cases, case_then}
use Rattle.semantics.specs.Rows.{party_a, party_b, name_x, nothing}
use Rattle.analysis_spec.specs.declared.path.PathStep.TheVariants.{Action}
use Rattle.contract_notes.specs.declared.note.Source.TheVariants.{Name, Choice}
use Rattle.contract_notes.specs.declared.note.Remark.TheVariants.{Unbound, Unread}
use Rattle.contract_notes.specs.Notes.{notes_of, is_varied}

-- x is bound to 1, and nothing is read
abbrev pub LetIsUnread : Type 0
LetIsUnread = notes_of nothing (let_be name_x (constant (pos 1)) close) ≡ record { place = []; remark = Unread (Name name_x) } ∷ []

-- a Pay of x behind it reads it
abbrev pub pays_x : ContractTree
pays_x = pay party_a (ToParty party_b) ada (use_value name_x) close

abbrev pub LetIsRead : Type 0
LetIsRead = notes_of nothing (let_be name_x (constant (pos 1)) pays_x) ≡ []

-- without the Let x is read where nothing binds it
abbrev pub NameIsUnbound : Type 0
NameIsUnbound = notes_of nothing pays_x ≡ record { place = []; remark = Unbound (Name name_x) } ∷ []

-- x = x: the value of the Let is evaluated before it binds, and nothing behind reads x
abbrev pub OwnValueIsUnbound : Type 0
OwnValueIsUnbound =
    notes_of nothing (let_be name_x (use_value name_x) close)
    ≡ record { place = []; remark = Unbound (Name name_x) } ∷ record { place = []; remark = Unread (Name name_x) } ∷ []

-- a choice of 0 or 1, whose number nothing reads, and one that an If behind it compares
abbrev pub chooses : ContractTree → ContractTree
chooses c = when (case_then (choice (record { name = name_x; owner = party_a }) (record { from = pos 0; to = pos 1 } ∷ [])) c no_cases) (pos 100) close

abbrev pub ChoiceIsUnread : Type 0
ChoiceIsUnread = notes_of nothing (chooses close) ≡ record { place = Action 0 ∷ []; remark = Unread (Choice (record { name = name_x; owner = party_a })) } ∷ []

abbrev pub ChoiceIsRead : Type 0
ChoiceIsRead = notes_of nothing (chooses (if_obs (value_gt (choice_value (record { name = name_x; owner = party_a })) (constant (pos 0))) close close)) ≡ []

-- a choice of one number says only that it was made
abbrev pub OneNumberIsNotVaried : Type 0
OneNumberIsNotVaried = is_varied (record { from = pos 1; to = pos 1 } ∷ record { from = pos 5; to = pos 2 } ∷ []) ≡ false
