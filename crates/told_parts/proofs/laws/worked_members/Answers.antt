use Rattle.told_parts.proofs.Worked.{misspelled_keys_are_members, quoted_numbers_are_members, quoted_numbers_stand_alone, repeated_entries_are_members, names_are_members}
use Rattle.told_parts.proofs.laws.worked_members.Goals as goal

pub returns : goal.returns
returns c =
    record { misspelled = misspelled_keys_are_members; quoted = quoted_numbers_are_members; alone = quoted_numbers_stand_alone; repeated = repeated_entries_are_members; names = names_are_members }
