-- The objects of entries and threads: one each on a line of its own.
use Rattle.std.specs.Prelude.{ℕ, ◌+◌, ℤ, Bool, if◌then◌else◌, List, [], ◌∷◌, ◌++◌, codes, decimal}
use Rattle.serde_json.specs.Written.{compact_text}
use Rattle.json_write_contracts.specs.WrittenNames.{number_json}
use Rattle.builder_spec.specs.EutxoTypes.declared.fault.TxFault.{TxFault}
use Rattle.builder_spec.specs.EutxoTypes.declared.verdict.Verdict.{Verdict}
use Rattle.builder_spec.specs.EutxoTypes.declared.verdict.Verdict.TheVariants as verdicts
use Rattle.builder_spec.specs.Ledger.declared.call.Entry.{Entry}
use Rattle.builder_spec.specs.Ledger.declared.call.Reply.{Reply}
use Rattle.builder_spec.specs.Ledger.declared.call.Reply.TheVariants as replies
use Rattle.builder_spec.specs.Ledger.declared.call.Ticketed.{Ticketed}
use Rattle.marlowe_refusals.specs.Refusals.{compile_fault_name}
use Rattle.fault_words.specs.Words.{rule_words}
use Rattle.play_lines.specs.PlayLines.{ThreadLine, tx_fault_text}
use Rattle.play_notes.specs.Intents.{quoted}
use Rattle.step_notes.specs.StepObjects.{comma}

-- ---- a reply as members, with the call that it answers; of a refusal the fault, and the rule in words

abbrev pub refusal_members : TxFault → List ℕ
refusal_members fault = codes "\"reply\":\"refused\",\"fault\":" ++ (quoted (tx_fault_text fault) ++ (codes ",\"why\":" ++ quoted (rule_words fault)))

abbrev pub verdict_members : Verdict → List ℕ
verdict_members verdicts.Accepted = codes "\"reply\":\"accepted\""
verdict_members (verdicts.Refused fault) = refusal_members fault

abbrev pub ticket_object : Ticketed → List ℕ
ticket_object t = codes "{\"ticket\":" ++ (decimal t.ticket ++ (codes "," ++ (verdict_members t.verdict ++ codes "}")))

-- the first of these at index n
abbrev pub ticket_objects : ℕ → List Ticketed → List ℕ
ticket_objects n [] = []
ticket_objects n (t ∷ ts) = (comma n ++ ticket_object t) ++ ticket_objects (n + 1) ts

abbrev pub round_members : List Ticketed → List ℕ
round_members ts = codes "\"call\":\"round\",\"reply\":\"taken\",\"tickets\":[" ++ (ticket_objects 0 ts ++ codes "]")

abbrev pub shown_members : ℤ → List ℕ
shown_members tick = codes "\"call\":\"look\",\"reply\":\"shown\",\"tick\":" ++ compact_text (number_json tick)

abbrev pub reply_members : Reply → List ℕ
reply_members (replies.Published id) = codes "\"call\":\"publish\",\"reply\":\"published\""
reply_members (replies.NotCompiled fault) = codes "\"call\":\"publish\",\"reply\":\"refused\",\"fault\":" ++ quoted (compile_fault_name fault)
reply_members replies.IdInUse = codes "\"call\":\"publish\",\"reply\":\"in use\""
reply_members replies.Advanced = codes "\"call\":\"advance\",\"reply\":\"advanced\""
reply_members replies.Backward = codes "\"call\":\"advance\",\"reply\":\"backward\",\"why\":\"the tick is later already\""
reply_members (replies.Look look) = shown_members look.tick
reply_members (replies.Accepted id) = codes "\"call\":\"submit\",\"reply\":\"accepted\""
reply_members (replies.Refused fault) = codes "\"call\":\"submit\"," ++ refusal_members fault
reply_members (replies.Ticket ticket) = codes "\"call\":\"enqueue\",\"reply\":\"pooled\",\"ticket\":" ++ decimal ticket
reply_members replies.Full = codes "\"call\":\"enqueue\",\"reply\":\"full\",\"why\":\"the pool has 1024 transactions, and takes no more\""
reply_members (replies.Round tickets) = round_members tickets

-- ---- an entry: its place in the history, its seat and its number among those of the seat, and the reply

abbrev pub entry_head : ℕ → Entry → List ℕ
entry_head n e = codes "{\"entry\":" ++ (decimal n ++ (codes ",\"seat\":" ++ (decimal e.seat ++ (codes ",\"number\":" ++ (decimal e.number ++ codes ",")))))

abbrev pub entry_object : ℕ → Entry → List ℕ
entry_object n e = entry_head n e ++ (reply_members e.reply ++ codes "}\n")

-- of each entry, the first at place n
abbrev pub entry_objects : ℕ → List Entry → List (List ℕ)
entry_objects n [] = []
entry_objects n (e ∷ es) = entry_object n e ∷ entry_objects (n + 1) es

-- ---- threads, and the number of entries

abbrev pub truth_text : Bool → List ℕ
truth_text truth = if truth then codes "true" else codes "false"

abbrev pub thread_object : ThreadLine → List ℕ
thread_object t =
    codes "{\"thread\":" ++ (quoted t.name ++ (codes ",\"steps\":" ++ (decimal t.steps ++ (codes ",\"closed\":" ++ (truth_text t.closed ++ codes "}\n")))))

abbrev pub thread_objects : List ThreadLine → List ℕ
thread_objects [] = []
thread_objects (t ∷ ts) = thread_object t ++ thread_objects ts

abbrev pub count_object : ℕ → List ℕ
count_object n = codes "{\"entries\":" ++ (decimal n ++ codes "}\n")

-- texts one behind the other
abbrev pub joined : List (List ℕ) → List ℕ
joined [] = []
joined (x ∷ xs) = x ++ joined xs

-- all objects of a history and of threads, where these texts stand for its entries
abbrev pub noted_objects : List (List ℕ) → ℕ → List ThreadLine → List ℕ
noted_objects notes count threads = joined notes ++ (thread_objects threads ++ count_object count)
