-- The lines that explain why a transaction is refused. They stand behind the line of the refusal, each indented.
use Rattle.std.specs.Prelude.{ℕ, ℤ, ◌==◌, Bool, true, List, [], ◌∷◌, ◌++◌, if◌then◌else◌, codes, decimal}
use Rattle.std.specs.Fmt.{signed_decimal}
use Rattle.serde_json.specs.Data.{string}
use Rattle.serde_json.specs.Written.{compact_text}
use Rattle.contract.specs.Names.declared.party.Party.{Party}
use Rattle.contract.specs.Names.declared.token.Token.{Token}
use Rattle.contract.specs.declared.input.Input.{Input}
use Rattle.contract.specs.declared.input.Input.TheVariants.{Deposit, Choice, Notify}
use Rattle.contract.specs.declared.interval.Interval.{Interval}
use Rattle.contract.specs.Tree.{ContractTree}
use Rattle.marlowe_next.specs.AnalysisSpec.declared.path.PathStep.{PathStep}
use Rattle.marlowe_next.specs.Places.Places.{keys_of}
use Rattle.marlowe_next.specs.Places.Texts.{place_text, token_text}
use Rattle.marlowe_next.specs.NextLines.Lines.{party_text, money_text}

-- a place of a contract, in the spelling of an analysis
abbrev pub place_of : ContractTree → List PathStep → List ℕ
place_of c path = place_text (keys_of path c)

-- an input, as what can be done next is told
abbrev pub input_text : Input → List ℕ
input_text (Deposit a p t n) = codes "deposit " ++ (money_text n t ++ (codes " by " ++ (party_text p ++ (codes " into " ++ party_text a))))
input_text (Choice id n) = codes "choose " ++ (compact_text (string id.name) ++ (codes " of " ++ (party_text id.owner ++ (codes ": " ++ signed_decimal n))))
input_text Notify = codes "notify"

-- each line of a text, behind four blanks: this begins a line, or it doesn't
abbrev pub indented : Bool → List ℕ → List ℕ
indented starts [] = []
indented starts (c ∷ cs) = (if starts then codes "    " else []) ++ c ∷ indented (c == 10) cs

-- ---- one line a fault

abbrev pub invalid_line : Interval → List ℕ
invalid_line i = codes "  the interval ends at " ++ (signed_decimal i.to ++ (codes ", before it begins at " ++ (signed_decimal i.from ++ 10 ∷ [])))

abbrev pub past_line : Interval → ℤ → List ℕ
past_line i least = codes "  the interval ends at " ++ (signed_decimal i.to ++ (codes ", before the minimum time " ++ (signed_decimal least ++ 10 ∷ [])))

-- which timeout it is, and last where it stands
abbrev pub ambiguous_head : ℤ → List ℕ
ambiguous_head timeout = codes "  the timeout " ++ (signed_decimal timeout ++ codes " at ")

-- the interval is told as it is fixed
abbrev pub ambiguous_line : Interval → List ℕ → ℤ → List ℕ
ambiguous_line j place timeout =
    ambiguous_head timeout ++ (place ++ (codes " lies inside the interval from " ++ (signed_decimal j.from ++ (codes " to " ++ (signed_decimal j.to ++ 10 ∷ [])))))

abbrev pub value_line : List ℕ → List ℕ
value_line place = codes "  at " ++ (place ++ (codes ": a number leaves 128 bits" ++ 10 ∷ []))

abbrev pub sum_line : List ℕ → Party → Token → List ℕ
sum_line place p t = codes "  at " ++ (place ++ (codes ": the sum of " ++ (token_text t ++ (codes " in the account of " ++ (party_text p ++ (codes " leaves 128 bits" ++ 10 ∷ []))))))

-- which input it is, and last where the contract stands
abbrev pub unmatched_head : ℕ → Input → List ℕ
unmatched_head n x = codes "  at .tx_inputs[" ++ (decimal n ++ (codes "]: no case takes " ++ (input_text x ++ codes "\n  the contract stands at ")))

-- what the contract takes there follows, as what can be done next is told
abbrev pub unmatched_lines : ℕ → Input → List ℕ → List ℕ → List ℕ
unmatched_lines n x place next =
    unmatched_head n x ++ (place ++ 10 ∷ indented true next)

abbrev pub useless_lines : List ℕ → List ℕ → List ℕ
useless_lines place next = codes "  there is no input, and nothing to reduce; the contract stands at " ++ (place ++ 10 ∷ indented true next)
