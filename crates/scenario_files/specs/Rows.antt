-- Worked rows, computed on the definitions.
use Rattle.std.specs.Prelude.{◌≡◌, codes}
use Rattle.json_read_names.specs.declared.fault.JsonFault.TheVariants.{NoForm}
use Rattle.scenario_files.specs.declared.fault.FilesFault.TheVariants.{Contract}
use Rattle.scenario_files.specs.ScenarioFiles.{files_members, files_refusal}

abbrev pub RefusalsAreTold : Type 0
RefusalsAreTold =
    (files_refusal (Contract (codes "my deal") NoForm) ≡ codes "refused contract my deal NoForm")
    × (files_members (Contract (codes "a\"b") NoForm) ≡ codes "\"of\":\"contract\",\"name\":\"NoForm\",\"contract\":\"a\\\"b\"")
