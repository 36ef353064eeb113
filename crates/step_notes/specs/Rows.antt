-- Worked rows of the lines, computed on the definitions.
use Rattle.std.specs.Prelude.{◌≡◌, pos, true, [], ◌∷◌, ◌++◌, Some, None, Ok, Err, codes}
use Rattle.contract.specs.Names.declared.party.Party.TheVariants.{Address, Role}
use Rattle.contract.specs.Names.Equal.{ada}
use Rattle.contract.specs.declared.fault.SemFault.TheVariants.{Leaves128}
use Rattle.step_notes.specs.StepLines.{deposit_line, choice_line, until_line, headed}
use Rattle.step_notes.specs.StepObjects.{deposit_object, choice_object, notify_object, until_text}

abbrev pub CasesAreTold : Type 0
CasesAreTold =
    (deposit_line (Role (codes "s")) (Address (codes "x")) ada (Ok (pos 5)) ≡ codes "waits for deposit 5 ADA by {\"address\":\"x\"} into {\"role_token\":\"s\"}\n")
    × (deposit_line (Role (codes "s")) (Address (codes "x")) ada (Err Leaves128) ≡ codes "waits for deposit by {\"address\":\"x\"} into {\"role_token\":\"s\"}: Leaves128\n")
    × (choice_line (record { name = codes "n"; owner = Role (codes "s") }) (record { from = pos 0; to = pos 1 } ∷ record { from = pos 5; to = pos 5 } ∷ [])
    ≡ codes "waits for choose \"n\" of {\"role_token\":\"s\"}: 0 to 1, 5\n")
    × (until_line (Some (pos 99)) ++ until_line None ≡ codes "waits until 99\nclosed\n")

abbrev pub LinesHaveHeads : Type 0
LinesHaveHeads = headed (codes "    a: ") true (codes "x\n\ny\n") ≡ codes "    a: x\n    a: \n    a: y\n"

-- the same of the members
abbrev pub CasesAreMembers : Type 0
CasesAreMembers =
    (deposit_object (Role (codes "s")) (Address (codes "x")) ada (Ok (pos 5))
    ≡ codes "{\"deposit\":5,\"token\":{\"currency_symbol\":\"\",\"token_name\":\"\"},\"by\":{\"address\":\"x\"},\"into\":{\"role_token\":\"s\"}}")
    × (choice_object (record { name = codes "n"; owner = Role (codes "s") }) (record { from = pos 0; to = pos 1 } ∷ record { from = pos 5; to = pos 5 } ∷ [])
    ≡ codes "{\"choose\":\"n\",\"of\":{\"role_token\":\"s\"},\"bounds\":[{\"from\":0,\"to\":1},{\"from\":5,\"to\":5}]}")
    × (notify_object (Ok true) ++ notify_object (Err Leaves128) ≡ codes "{\"notify\":true}{\"notify\":null}")
    × (until_text (Some (pos 99)) ++ until_text None ≡ codes "99null")
