-- Places, kinds of alarms and tokens as they are printed.
use Rattle.std.specs.Prelude.{ℕ, pos, List, [], ◌++◌, map, flat_map, codes, decimal, if◌then◌else◌}
use Rattle.serde_json.specs.Data.{Data, string, array}
use Rattle.serde_json.specs.View.{items_of}
use Rattle.serde_json.specs.Written.{compact_text}
use Rattle.contract.specs.Names.declared.token.Token.{Token}
use Rattle.contract.specs.Names.Equal.{is_ada}
use Rattle.analysis_spec.specs.declared.kind.AlarmKind.{AlarmKind}
use Rattle.analysis_spec.specs.declared.kind.AlarmKind.TheVariants.{NonPositiveDeposit, NonPositivePay, PartialPay, Shadowing, AssertionFailed, Leaves128}
use Rattle.json_write_contracts.specs.WrittenNames.{number_json, token_json}
use Rattle.places.specs.declared.key.Key.{Key}
use Rattle.places.specs.declared.key.Key.TheVariants as keys

-- ---- places

-- the word of a key: an index has none
abbrev pub key_word : Key → List ℕ
key_word keys.Then = codes "then"
key_word keys.Else = codes "else"
key_word keys.TimeoutContinuation = codes "timeout_continuation"
key_word keys.When = codes "when"
key_word keys.Case = codes "case"
key_word keys.Close = codes "close"
key_word keys.Pay = codes "pay"
key_word keys.If = codes "if"
key_word keys.Let = codes "let"
key_word keys.Assert = codes "assert"
key_word keys.Deposits = codes "deposits"
key_word keys.ChooseBetween = codes "choose_between"
key_word keys.NotifyIf = codes "notify_if"
key_word (keys.Item n) = []

-- a key with `.` before it, and an index in brackets
abbrev pub key_text : Key → List ℕ
key_text (keys.Item n) = codes "[" ++ (decimal n ++ codes "]")
key_text key = codes "." ++ key_word key

abbrev pub place_text : List Key → List ℕ
place_text = flat_map key_text

-- the same as a JSON list: words, and indexes as numbers
abbrev pub key_json : Key → Data
key_json (keys.Item n) = number_json (pos n)
key_json key = string (key_word key)

abbrev pub place_json : List Key → Data
place_json ks = array (items_of (map key_json ks))

-- ---- other words

abbrev pub kind_name : AlarmKind → List ℕ
kind_name NonPositiveDeposit = codes "NonPositiveDeposit"
kind_name NonPositivePay = codes "NonPositivePay"
kind_name PartialPay = codes "PartialPay"
kind_name Shadowing = codes "Shadowing"
kind_name AssertionFailed = codes "AssertionFailed"
kind_name Leaves128 = codes "Leaves128"

-- ada by its usual name, and each other token as compact JSON
abbrev pub token_text : Token → List ℕ
token_text t = if is_ada t then codes "ADA" else compact_text (token_json t)
