-- The lines of a play, as `marlowe play` prints them: a line for each entry of the history, in order; then one for each thread; and last the number of
-- entries. Each ends in a line feed.
use Rattle.std.specs.Prelude.{ℕ, ◌+◌, Bool, if◌then◌else◌, List, [], ◌∷◌, ◌++◌, length, codes, decimal}
use Rattle.std.specs.Fmt.{signed_decimal}
use Rattle.serde_json.specs.Written.{compact_text}
use Rattle.builder_spec.specs.Names.declared.party.Party.{Party}
use Rattle.builder_spec.specs.Names.declared.token.Token.{Token}
use Rattle.json_write_contracts.specs.WrittenNames.{party_json, token_json}
use Rattle.builder_spec.specs.EutxoTypes.declared.fault.TxFault.{TxFault}
use Rattle.builder_spec.specs.EutxoTypes.declared.fault.TxFault.TheVariants as rules
use Rattle.builder_spec.specs.EutxoTypes.declared.verdict.Verdict.{Verdict}
use Rattle.builder_spec.specs.EutxoTypes.declared.verdict.Verdict.TheVariants as verdicts
use Rattle.builder_spec.specs.declared.fault.BuildFault.{BuildFault}
use Rattle.builder_spec.specs.declared.fault.BuildFault.TheVariants as causes
use Rattle.builder_spec.specs.Ledger.declared.call.Reply.{Reply}
use Rattle.builder_spec.specs.Ledger.declared.call.Reply.TheVariants as replies
use Rattle.builder_spec.specs.Ledger.declared.call.Entry.{Entry}
use Rattle.builder_spec.specs.Ledger.declared.call.Ticketed.{Ticketed}
use Rattle.marlowe_refusals.specs.Refusals.{sem_fault_name, compile_fault_name}

-- ---- faults: the name, and after a space the place, the party, the token, or the name of the fault inside

abbrev pub at_place : List ℕ → ℕ → List ℕ
at_place name place = name ++ (codes " " ++ decimal place)

abbrev pub beside : List ℕ → List ℕ → List ℕ
beside name inner = name ++ (codes " " ++ inner)

abbrev pub of_party : List ℕ → Party → List ℕ
of_party name party = beside name (compact_text (party_json party))

abbrev pub of_token : List ℕ → Token → List ℕ
of_token name token = beside name (compact_text (token_json token))

abbrev pub tx_fault_text : TxFault → List ℕ
tx_fault_text rules.NoInputs = codes "NoInputs"
tx_fault_text rules.TooMany = codes "TooMany"
tx_fault_text (rules.RepeatedInput place) = at_place (codes "RepeatedInput") place
tx_fault_text (rules.NotUnspent place) = at_place (codes "NotUnspent") place
tx_fault_text rules.IdInUse = codes "IdInUse"
tx_fault_text rules.OutsideInterval = codes "OutsideInterval"
tx_fault_text (rules.UnknownScript place) = at_place (codes "UnknownScript") place
tx_fault_text (rules.NotSigned place) = at_place (codes "NotSigned") place
tx_fault_text rules.TooManyContracts = codes "TooManyContracts"
tx_fault_text (rules.WrongRedeemer place) = at_place (codes "WrongRedeemer") place
tx_fault_text (rules.RoleMissing place) = at_place (codes "RoleMissing") place
tx_fault_text (rules.Semantics fault) = beside (codes "Semantics") (sem_fault_name fault)
tx_fault_text (rules.NotAuthorised party) = of_party (codes "NotAuthorised") party
tx_fault_text rules.WrongContinuation = codes "WrongContinuation"
tx_fault_text (rules.WrongPayment place) = at_place (codes "WrongPayment") place
tx_fault_text (rules.StrayContract place) = at_place (codes "StrayContract") place
tx_fault_text (rules.WrongStart place) = at_place (codes "WrongStart") place
tx_fault_text (rules.NotPreserved token) = of_token (codes "NotPreserved") token
tx_fault_text (rules.WrongDatum place) = at_place (codes "WrongDatum") place

abbrev pub build_fault_text : BuildFault → List ℕ
build_fault_text causes.NoThread = codes "NoThread"
build_fault_text (causes.Semantics fault) = beside (codes "Semantics") (sem_fault_name fault)
build_fault_text causes.NotSigned = codes "NotSigned"
build_fault_text (causes.NotAuthorised party) = of_party (codes "NotAuthorised") party
build_fault_text (causes.NoFunds token) = of_token (codes "NoFunds") token
build_fault_text causes.TooMany = codes "TooMany"
build_fault_text causes.Repeated = codes "Repeated"
build_fault_text causes.Memory = codes "Memory"

-- ---- an entry: its place in the history, its seat and its number among those of the seat, the call and the reply

abbrev pub verdict_text : Verdict → List ℕ
verdict_text verdicts.Accepted = codes "accepted"
verdict_text (verdicts.Refused fault) = beside (codes "refused") (tx_fault_text fault)

abbrev pub ticket_text : Ticketed → List ℕ
ticket_text t = decimal t.ticket ++ (codes " " ++ verdict_text t.verdict)

-- the tickets behind the first
abbrev pub tickets_on : List Ticketed → List ℕ
tickets_on [] = []
tickets_on (t ∷ ts) = codes ", " ++ (ticket_text t ++ tickets_on ts)

abbrev pub round_text : List Ticketed → List ℕ
round_text [] = codes "none"
round_text (t ∷ ts) = ticket_text t ++ tickets_on ts

-- of each call the replies are of its own kinds
abbrev pub reply_text : Reply → List ℕ
reply_text (replies.Published id) = codes "publish published"
reply_text (replies.NotCompiled fault) = beside (codes "publish refused") (compile_fault_name fault)
reply_text replies.IdInUse = codes "publish in use"
reply_text replies.Advanced = codes "advance advanced"
reply_text replies.Backward = codes "advance backward"
reply_text (replies.Look look) = beside (codes "look tick") (signed_decimal look.tick)
reply_text (replies.Accepted id) = codes "submit accepted"
reply_text (replies.Refused fault) = beside (codes "submit refused") (tx_fault_text fault)
reply_text (replies.Ticket ticket) = at_place (codes "enqueue ticket") ticket
reply_text replies.Full = codes "enqueue full"
reply_text (replies.Round tickets) = beside (codes "round") (round_text tickets)

abbrev pub entry_line : ℕ → Entry → List ℕ
entry_line n e =
    decimal n ++ (codes " " ++ (decimal e.seat ++ (codes "." ++ (decimal e.number ++ (codes " " ++ (reply_text e.reply ++ 10 ∷ []))))))

abbrev pub entry_lines : ℕ → List Entry → List ℕ
entry_lines n [] = []
entry_lines n (e ∷ es) = entry_line n e ++ entry_lines (n + 1) es

-- ---- a thread: its name, how many steps of it were accepted, and whether the last of them left Close

pub record ThreadLine : Type 0 where
  pub name : List ℕ
  pub steps : ℕ
  pub closed : Bool

abbrev pub thread_line : ThreadLine → List ℕ
thread_line t =
    codes "thread " ++ (t.name ++ (codes " steps " ++ (decimal t.steps ++ (if t.closed then codes " closed\n" else codes " open\n"))))

abbrev pub thread_lines : List ThreadLine → List ℕ
thread_lines [] = []
thread_lines (t ∷ ts) = thread_line t ++ thread_lines ts

-- ---- all of them
unfoldable pub played_lines : List Entry → List ThreadLine → List ℕ
played_lines entries threads =
    entry_lines 0 entries ++ (thread_lines threads ++ (codes "entries " ++ (decimal (length entries) ++ 10 ∷ [])))
