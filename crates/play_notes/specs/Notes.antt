-- What is told behind an entry of a play.
use Rattle.std.specs.Prelude.{ℕ, zero, suc, ◌+◌, List, [], ◌∷◌, ◌++◌, length, codes, decimal}
use Rattle.builder_spec.specs.EutxoTypes.declared.verdict.Verdict.{Verdict}
use Rattle.builder_spec.specs.EutxoTypes.declared.verdict.Verdict.TheVariants as verdicts
use Rattle.builder_spec.specs.Ledger.declared.call.Entry.{Entry}
use Rattle.builder_spec.specs.Ledger.declared.call.Reply.{Reply}
use Rattle.builder_spec.specs.Ledger.declared.call.Reply.TheVariants as replies
use Rattle.builder_spec.specs.Ledger.declared.call.Ticketed.{Ticketed}
use Rattle.fault_words.specs.Words.{rule_words}
use Rattle.play_lines.specs.PlayLines.{ThreadLine, entry_line, thread_lines}

-- a note: a line that begins with four blanks
abbrev pub note : List ℕ → List ℕ
note text = codes "    " ++ (text ++ 10 ∷ [])

-- ---- of replies: why something was refused

abbrev pub verdict_note : ℕ → Verdict → List ℕ
verdict_note ticket verdicts.Accepted = []
verdict_note ticket (verdicts.Refused fault) = note (codes "ticket " ++ (decimal ticket ++ (codes ": " ++ rule_words fault)))

-- of a round, of each place that was refused
abbrev pub round_notes : List Ticketed → List ℕ
round_notes [] = []
round_notes (t ∷ ts) = verdict_note t.ticket t.verdict ++ round_notes ts

abbrev pub reply_notes : Reply → List ℕ
reply_notes (replies.Refused fault) = note (rule_words fault)
reply_notes (replies.Round tickets) = round_notes tickets
reply_notes replies.Full = note (codes "the pool has 1024 transactions, and takes no more")
reply_notes replies.Backward = note (codes "the tick is later already")
reply_notes reply = []

-- of each entry
abbrev pub notes_of : List Entry → List (List ℕ)
notes_of [] = []
notes_of (e ∷ es) = reply_notes e.reply ∷ notes_of es

-- more behind the entry at a place; where there is no entry, nothing
abbrev pub put_behind : ℕ → List ℕ → List (List ℕ) → List (List ℕ)
put_behind n text [] = []
put_behind zero text (x ∷ xs) = (x ++ text) ∷ xs
put_behind (suc n) text (x ∷ xs) = x ∷ put_behind n text xs

-- ---- the lines of entries, the first with this number, each with its notes behind it

abbrev pub noted_entries : ℕ → List (List ℕ) → List Entry → List ℕ
noted_entries n notes [] = []
noted_entries n [] (e ∷ es) = entry_line n e ++ noted_entries (n + 1) [] es
noted_entries n (x ∷ xs) (e ∷ es) = entry_line n e ++ (x ++ noted_entries (n + 1) xs es)

-- all lines of a play, with notes
unfoldable pub noted_lines : List (List ℕ) → List Entry → List ThreadLine → List ℕ
noted_lines notes entries threads = noted_entries 0 notes entries ++ (thread_lines threads ++ (codes "entries " ++ (decimal (length entries) ++ 10 ∷ [])))
