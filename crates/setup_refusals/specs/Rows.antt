-- Worked rows, computed on the definitions.
use Rattle.std.specs.Prelude.{◌≡◌, codes}
use Rattle.setup_refusals.specs.declared.refusal.SetupRefusal.TheVariants.{Genesis, Contract, Thread}
use Rattle.setup_refusals.specs.SetupRefusals.{setup_line, setup_members}

abbrev pub LinesAreTold : Type 0
LinesAreTold =
    (setup_line (Genesis (record { fault = codes "TooLarge"; words = codes "so" })) ≡ codes "refused genesis TooLarge")
    × (setup_line (Contract (codes "one two") (record { fault = codes "IdInUse"; words = codes "so" })) ≡ codes "refused contract one two IdInUse")
    × (setup_line (Thread (codes "deal") (record { fault = codes "NotSigned"; words = codes "so" })) ≡ codes "refused thread deal NotSigned")

abbrev pub MembersAreTold : Type 0
MembersAreTold =
    (setup_members (Genesis (record { fault = codes "TooLarge"; words = codes "so" }))
    ≡ codes "\"of\":\"setup\",\"name\":\"Refused\",\"fault\":\"TooLarge\",\"why\":\"so\"")
    × (setup_members (Thread (codes "a\"b") (record { fault = codes "NotSigned"; words = codes "so" }))
    ≡ codes "\"of\":\"setup\",\"name\":\"Refused\",\"thread\":\"a\\\"b\",\"fault\":\"NotSigned\",\"why\":\"so\"")
