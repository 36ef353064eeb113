-- What of a setup is refused, as a line and as members.
use Rattle.std.specs.Prelude.{ℕ, List, ◌++◌, codes}
use Rattle.serde_json.specs.Data.{string}
use Rattle.serde_json.specs.Written.{compact_text}
use Rattle.setup_refusals.specs.declared.refusal.Cause.{Cause}
use Rattle.setup_refusals.specs.declared.refusal.SetupRefusal.{SetupRefusal}
use Rattle.setup_refusals.specs.declared.refusal.SetupRefusal.TheVariants.{Genesis, Contract, Thread}

-- ---- the line: what is refused, its name, and the fault

abbrev pub refused_named : List ℕ → List ℕ → List ℕ → List ℕ
refused_named what name fault = codes "refused " ++ (what ++ (codes " " ++ (name ++ (codes " " ++ fault))))

abbrev pub setup_line : SetupRefusal → List ℕ
setup_line (Genesis cause) = codes "refused genesis " ++ cause.fault
setup_line (Contract name cause) = refused_named (codes "contract") name cause.fault
setup_line (Thread name cause) = refused_named (codes "thread") name cause.fault

-- ---- the members: the name of what is refused, the fault as the line has it, and why, in words

abbrev pub quoted : List ℕ → List ℕ
quoted text = compact_text (string text)

abbrev pub cause_members : Cause → List ℕ
cause_members cause = codes ",\"fault\":" ++ (quoted cause.fault ++ (codes ",\"why\":" ++ quoted cause.words))

abbrev pub refused_setup : List ℕ
refused_setup = codes "\"of\":\"setup\",\"name\":\"Refused\""

abbrev pub named_members : List ℕ → List ℕ → Cause → List ℕ
named_members key name cause = refused_setup ++ (codes ",\"" ++ (key ++ (codes "\":" ++ (quoted name ++ cause_members cause))))

abbrev pub setup_members : SetupRefusal → List ℕ
setup_members (Genesis cause) = refused_setup ++ cause_members cause
setup_members (Contract name cause) = named_members (codes "contract") name cause
setup_members (Thread name cause) = named_members (codes "thread") name cause
