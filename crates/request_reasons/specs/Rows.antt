-- Worked rows, computed on the definitions.
use Rattle.std.specs.Prelude.{◌≡◌, true, List, ℕ, [], ◌∷◌, Some, None, codes}
use Rattle.json.specs.Token.{Token}
use Rattle.serde_json.specs.Data.{Data, null, boolean, string, array, object, item, no_items, no_members, put}
use Rattle.refusal_reasons.specs.JsonReadNames.declared.fault.JsonFault.TheVariants as faults
use Rattle.refusal_reasons.specs.JsonForms.declared.key.Key.TheVariants as keys
use Rattle.refusal_reasons.specs.JsonForms.declared.sort.Sort.TheVariants as sorts
use Rattle.refusal_reasons.specs.JsonStops.declared.stop.Step.TheVariants as steps
use Rattle.refusal_reasons.specs.JsonStops.Stops.{Place}
use Rattle.refusal_reasons.specs.ToldParts.Members.{part_members}
use Rattle.request_reasons.specs.Parts.{told_at}
use Rattle.request_reasons.specs.Reasons.{contract_there, numbered}

abbrev of_one : List ℕ → Data → Data
of_one key d = object (put key d no_members)

-- `{"contract":{"name":"deal"}}` names a contract, and `{"contract":"close"}` has one
abbrev pub NamesAreNoParts : Type 0
NamesAreNoParts =
    (contract_there (of_one (codes "contract") (of_one (codes "name") (string (codes "deal")))) ≡ None)
    × (contract_there (of_one (codes "contract") (string (codes "close"))) ≡ Some (string (codes "close")))

-- the second of `[true,null]`, and `true` alone
abbrev pub NumbersAreFound : Type 0
NumbersAreFound = (numbered 2 (array (item (boolean true) (item null no_items))) ≡ Some null) × (numbered 1 (boolean true) ≡ Some (boolean true))

-- a timeout in quotation marks
abbrev quoted_time : Place
quoted_time = record { path = steps.Key keys.Timeout ∷ []; sort = sorts.Time; fault = faults.NoForm; json = string (codes "100") }

abbrev pub QuotedTimesAreTold : Type 0
QuotedTimesAreTold =
    part_members (told_at quoted_time (Token.string (codes "100")) [])
    ≡ codes "\"place\":[\"timeout\"],\"wanted\":\"a time\",\"stands\":\"\\\"100\\\"\",\"hint\":\"a number stands without quotation marks\""
