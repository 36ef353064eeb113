-- The lines of a table, as `marlowe table` prints them: a line for each node, which are all values first, then the observations, the
-- cases and the continuations, each list counted from 0; and last the line of the root. A line has words, with a space between two, and
-- ends in a line feed.
use Rattle.std.specs.Prelude.{ℕ, ◌+◌, List, [], ◌∷◌, ◌++◌, map, codes, decimal}
use Rattle.std.specs.Fmt.{signed_decimal}
use Rattle.serde_json.specs.Data.{string}
use Rattle.serde_json.specs.Written.{compact_text}
use Rattle.table.specs.Names.declared.party.Party.{Party}
use Rattle.table.specs.Names.declared.payee.Payee.{Payee}
use Rattle.table.specs.Names.declared.token.Token.{Token}
use Rattle.table.specs.Names.declared.choice_id.ChoiceId.{ChoiceId}
use Rattle.table.specs.Names.declared.bound.Bound.{Bound}
use Rattle.table.specs.Nodes.declared.cont.Cont.{Cont}
use Rattle.table.specs.Nodes.declared.entry.Entry.{Entry}
use Rattle.table.specs.Nodes.declared.value_node.ValueNode.{ValueNode}
use Rattle.table.specs.Nodes.declared.value_node.ValueNode.TheVariants as values
use Rattle.table.specs.Nodes.declared.observation_node.ObservationNode.{ObservationNode}
use Rattle.table.specs.Nodes.declared.observation_node.ObservationNode.TheVariants as observations
use Rattle.table.specs.Nodes.declared.case_node.CaseNode.{CaseNode}
use Rattle.table.specs.Nodes.declared.case_node.CaseNode.TheVariants as cases
use Rattle.table.specs.Nodes.declared.cont_node.ContNode.{ContNode}
use Rattle.table.specs.Nodes.declared.cont_node.ContNode.TheVariants as conts
use Rattle.table.specs.Flat.{Flat}
use Rattle.json_write_contracts.specs.WrittenNames.{party_json, payee_json, token_json, choice_id_json}
use Rattle.json_write_contracts.specs.WrittenContract.{bound_json}

-- ---- words

-- the number of a value, an observation, a case and a continuation: a letter, and the number in decimal
abbrev pub v : ℕ → List ℕ
v n = codes "v" ++ decimal n

abbrev pub o : ℕ → List ℕ
o n = codes "o" ++ decimal n

abbrev pub c : ℕ → List ℕ
c n = codes "c" ++ decimal n

abbrev pub k : Cont → List ℕ
k n = codes "k" ++ decimal n.0

-- terms: compact JSON
abbrev pub party : Party → List ℕ
party p = compact_text (party_json p)

abbrev pub payee : Payee → List ℕ
payee p = compact_text (payee_json p)

abbrev pub token : Token → List ℕ
token t = compact_text (token_json t)

abbrev pub choice_id : ChoiceId → List ℕ
choice_id id = compact_text (choice_id_json id)

abbrev pub name : List ℕ → List ℕ
name x = compact_text (string x)

abbrev pub bound : Bound → List ℕ
bound b = compact_text (bound_json b)

-- a list: its items in brackets, with a comma between two
abbrev pub listed_on : List (List ℕ) → List ℕ
listed_on [] = codes "]"
listed_on (w ∷ ws) = codes "," ++ (w ++ listed_on ws)

abbrev pub in_brackets : List (List ℕ) → List ℕ
in_brackets [] = codes "[]"
in_brackets (w ∷ ws) = codes "[" ++ (w ++ listed_on ws)

-- ---- the words of a node, after its number

abbrev pub value_words : ValueNode → List (List ℕ)
value_words (values.AvailableMoney p t) = codes "amount_of_token" ∷ token t ∷ party p ∷ []
value_words (values.Constant n) = codes "constant" ∷ signed_decimal n ∷ []
value_words (values.NegValue a) = codes "negate" ∷ v a ∷ []
value_words (values.AddValue a b) = codes "add" ∷ v a ∷ v b ∷ []
value_words (values.SubValue a b) = codes "minus" ∷ v a ∷ v b ∷ []
value_words (values.MulValue a b) = codes "multiply" ∷ v a ∷ v b ∷ []
value_words (values.DivValue a b) = codes "divide" ∷ v a ∷ v b ∷ []
value_words (values.ChoiceValue id) = codes "value_of_choice" ∷ choice_id id ∷ []
value_words values.TimeIntervalStart = codes "time_interval_start" ∷ []
value_words values.TimeIntervalEnd = codes "time_interval_end" ∷ []
value_words (values.UseValue x) = codes "use_value" ∷ name x ∷ []
value_words (values.Cond m a b) = codes "if" ∷ o m ∷ v a ∷ v b ∷ []

abbrev pub observation_words : ObservationNode → List (List ℕ)
observation_words (observations.AndObs m n) = codes "both" ∷ o m ∷ o n ∷ []
observation_words (observations.OrObs m n) = codes "either" ∷ o m ∷ o n ∷ []
observation_words (observations.NotObs m) = codes "not" ∷ o m ∷ []
observation_words (observations.ChoseSomething id) = codes "chose_something_for" ∷ choice_id id ∷ []
observation_words (observations.ValueGE a b) = codes "ge_than" ∷ v a ∷ v b ∷ []
observation_words (observations.ValueGT a b) = codes "gt" ∷ v a ∷ v b ∷ []
observation_words (observations.ValueLT a b) = codes "lt" ∷ v a ∷ v b ∷ []
observation_words (observations.ValueLE a b) = codes "le_than" ∷ v a ∷ v b ∷ []
observation_words (observations.ValueEQ a b) = codes "equal_to" ∷ v a ∷ v b ∷ []
observation_words observations.TrueObs = codes "true" ∷ []
observation_words observations.FalseObs = codes "false" ∷ []

-- of a deposit the account and who deposits
abbrev pub case_words : CaseNode → List (List ℕ)
case_words (cases.Deposit account p t a then) = codes "deposit" ∷ party account ∷ party p ∷ token t ∷ v a ∷ k then ∷ []
case_words (cases.Choice id bounds then) = codes "choice" ∷ choice_id id ∷ in_brackets (map bound bounds) ∷ k then ∷ []
case_words (cases.Notify m then) = codes "notify" ∷ o m ∷ k then ∷ []

abbrev pub cont_words : ContNode → List (List ℕ)
cont_words conts.Close = codes "close" ∷ []
cont_words (conts.Pay from to t a then) = codes "pay" ∷ v a ∷ token t ∷ party from ∷ payee to ∷ k then ∷ []
cont_words (conts.If m then otherwise) = codes "if" ∷ o m ∷ k then ∷ k otherwise ∷ []
cont_words (conts.When waits timeout then) = codes "when" ∷ in_brackets (map c waits) ∷ signed_decimal timeout ∷ k then ∷ []
cont_words (conts.Let x a then) = codes "let" ∷ name x ∷ v a ∷ k then ∷ []
cont_words (conts.Assert m then) = codes "assert" ∷ o m ∷ k then ∷ []

-- ---- lines

-- what stands behind the first word of a line: each other word behind a space, and the line feed
abbrev pub line_end : List (List ℕ) → List ℕ
line_end [] = 10 ∷ []
line_end (w ∷ ws) = 32 ∷ (w ++ line_end ws)

-- the lines of the nodes of a list, numbered from n by `number`
abbrev pub lines : {N : Type 0} → (ℕ → List ℕ) → (N → List (List ℕ)) → ℕ → List (Entry N) → List ℕ
lines number words n [] = []
lines number words n (e ∷ es) = number n ++ (line_end (words e.node) ++ lines number words (n + 1) es)

-- all lines of a table and the continuation at its root
unfoldable pub table_lines : Flat → Cont → List ℕ
table_lines table root = lines v value_words 0 table.values
    ++ (lines o observation_words 0 table.observations
    ++ (lines c case_words 0 table.cases
    ++ (lines (λ n. k (record { 0 = n })) cont_words 0 table.conts
    ++ (codes "root" ++ line_end (k root ∷ [])))))
