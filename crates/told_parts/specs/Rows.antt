-- Worked rows, computed on the definitions.
use Rattle.std.specs.Prelude.{◌≡◌, ℕ, List, [], ◌∷◌, Some, None, codes}
use Rattle.json.specs.Token.{Token}
use Rattle.json_read_names.specs.declared.fault.JsonFault.TheVariants as faults
use Rattle.json_forms.specs.declared.key.Key.TheVariants as keys
use Rattle.json_forms.specs.declared.sort.Numbers.TheVariants as numbers
use Rattle.json_forms.specs.declared.sort.Sort.TheVariants as sorts
use Rattle.json_forms.specs.declared.sort.NamedSort.TheVariants as named
use Rattle.json_forms.specs.declared.sort.ScenarioSort.TheVariants as parts
use Rattle.json_stops.specs.declared.stop.Step.TheVariants as steps
use Rattle.told_parts.specs.Told.{Told}
use Rattle.told_parts.specs.Lines.{lines_of}
use Rattle.told_parts.specs.Members.{members_of, part_members}

abbrev pub AreLines : Told → List ℕ → Type 0
AreLines t lines = lines_of (codes "contract.json") t ≡ lines

-- a pay whose key is misspelled
abbrev pub misspelled : Told
misspelled =
    record {
      path = steps.Key keys.When ∷ steps.Item 0 ∷ steps.Key keys.Then ∷ [];
      spot = record { line = 12; column = 8 };
      sort = sorts.Contract;
      fault = faults.NoForm;
      token = Token.begin_object;
      keys = codes "pay" ∷ codes "token" ∷ codes "from_acount" ∷ codes "to" ∷ codes "then" ∷ [];
      first = None;
      names = [];
    }

abbrev pub MisspelledKeysAreTold : Type 0
MisspelledKeysAreTold =
    AreLines misspelled
    (codes
    "  contract.json:12:8 at .when[0].then: no form of a contract; its keys are \"pay\", \"token\", \"from_acount\", \"to\", \"then\"\n  a pay wants \"from_account\"\n  nearest to it is \"from_acount\"\n")

-- a word that is none
abbrev pub big_close : Told
big_close = record { path = []; spot = record { line = 1; column = 1 }; sort = sorts.Contract; fault = faults.NoForm; token = Token.string (codes "Close"); keys = []; first = None; names = [] }

abbrev pub WordsAreTold : Type 0
WordsAreTold =
    AreLines big_close (codes "  contract.json:1:1: no form of a contract; here stands \"Close\"\n  a contract is \"close\", or has \"pay\", \"if\", \"when\", \"let\" or \"assert\"\n")

-- a time in quotation marks, and one that is none
abbrev pub quoted_time : Told
quoted_time =
    record { path = steps.Key keys.Timeout ∷ []; spot = record { line = 1; column = 22 }; sort = sorts.Time; fault = faults.NoForm; token = Token.string (codes "100"); keys = []; first = None; names = [] }

abbrev pub pointed_time : Told
pointed_time =
    record { path = steps.Key keys.Timeout ∷ []; spot = record { line = 1; column = 22 }; sort = sorts.Time; fault = faults.NotWhole; token = Token.number (codes "1e3"); keys = []; first = None; names = [] }

abbrev pub NumbersAreTold : Type 0
NumbersAreTold =
    AreLines quoted_time (codes "  contract.json:1:22 at .timeout: no time; here stands \"100\"\n  a number stands without quotation marks\n")
    × AreLines pointed_time
    (codes "  contract.json:1:22 at .timeout: no whole number; here stands 1e3\n  a whole number lies from -9223372036854775808 to 18446744073709551615, without point and exponent\n")

-- an account that holds nothing, and a name that is bound twice
abbrev pub AreStateLines : Told → List ℕ → Type 0
AreStateLines t lines = lines_of (codes "state.json") t ≡ lines

abbrev pub empty_account : Told
empty_account =
    record {
      path = steps.Key keys.Accounts ∷ steps.Item 0 ∷ steps.Item 1 ∷ [];
      spot = record { line = 1; column = 76 };
      sort = sorts.Amount numbers.Whole;
      fault = faults.BadState;
      token = Token.number (codes "0");
      keys = [];
      first = None;
      names = [];
    }

abbrev pub bound_twice : Told
bound_twice =
    record {
      path = steps.Key keys.BoundValues ∷ steps.Item 2 ∷ [];
      spot = record { line = 4; column = 5 };
      sort = sorts.Repeated 0;
      fault = faults.BadState;
      token = Token.begin_array;
      keys = [];
      first = Some (record { line = 2; column = 5 });
      names = [];
    }

abbrev pub BadStatesAreTold : Type 0
BadStatesAreTold =
    AreStateLines empty_account (codes "  state.json:1:76 at .accounts[0][1]: no number above 0; here stands 0\n  an account holds a number above 0: leave out one that holds nothing\n")
    × AreStateLines bound_twice
    (codes "  state.json:4:5 at .boundValues[2]: no second entry for one key; the first stands at 2:5, .boundValues[0]\n  each key stands once: add up what belongs together, or leave one out\n")

-- ---- members for tools

abbrev pub AreMembers : Told → List ℕ → Type 0
AreMembers t members = members_of (codes "contract.json") t ≡ members

abbrev pub MisspelledKeysAreMembers : Type 0
MisspelledKeysAreMembers =
    AreMembers misspelled
    (codes
    "\"file\":\"contract.json\",\"line\":12,\"column\":8,\"place\":[\"when\",0,\"then\"],\"wanted\":\"a contract\",\"stands\":\"an object\",\"keys\":[\"pay\",\"token\",\"from_acount\",\"to\",\"then\"],\"hint\":\"a pay wants \\\"from_account\\\"\",\"nearest\":\"from_acount\"")

-- the token as the lines show it
abbrev pub QuotedNumbersAreMembers : Type 0
QuotedNumbersAreMembers =
    AreMembers quoted_time
    (codes
    "\"file\":\"contract.json\",\"line\":1,\"column\":22,\"place\":[\"timeout\"],\"wanted\":\"a time\",\"stands\":\"\\\"100\\\"\",\"hint\":\"a number stands without quotation marks\"")

-- .. and without a text
abbrev pub QuotedNumbersStandAlone : Type 0
QuotedNumbersStandAlone =
    part_members quoted_time ≡ codes "\"place\":[\"timeout\"],\"wanted\":\"a time\",\"stands\":\"\\\"100\\\"\",\"hint\":\"a number stands without quotation marks\""

-- where the first entry stands
abbrev pub RepeatedEntriesAreMembers : Type 0
RepeatedEntriesAreMembers =
    AreMembers bound_twice
    (codes
    "\"file\":\"contract.json\",\"line\":4,\"column\":5,\"place\":[\"boundValues\",2],\"wanted\":\"an entry with a key of its own\",\"stands\":\"a list\",\"hint\":\"each key stands once: add up what belongs together, or leave one out\",\"first\":{\"line\":2,\"column\":5}")

-- the names that there are
abbrev pub unknown_thread : Told
unknown_thread =
    record {
      path = steps.Key keys.Plans ∷ steps.Item 0 ∷ steps.Key keys.Intents ∷ steps.Item 1 ∷ steps.Key keys.Step ∷ [];
      spot = record { line = 7; column = 30 };
      sort = sorts.OfScenario (parts.NameOf named.Thread);
      fault = faults.NoForm;
      token = Token.string (codes "eskrow");
      keys = [];
      first = None;
      names = codes "escrow" ∷ codes "swap" ∷ [];
    }

abbrev pub NamesAreMembers : Type 0
NamesAreMembers =
    AreMembers unknown_thread
    (codes
    "\"file\":\"contract.json\",\"line\":7,\"column\":30,\"place\":[\"plans\",0,\"intents\",1,\"step\"],\"wanted\":\"a thread of the scenario\",\"stands\":\"\\\"eskrow\\\"\",\"hint\":\"a thread is named as in \\\"threads\\\"\",\"names\":[\"escrow\",\"swap\"]")
