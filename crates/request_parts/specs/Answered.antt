-- The line of an answer.
use Rattle.std.specs.Prelude.{ℕ, ◌-◌, ◌==◌, List, [], ◌∷◌, ◌++◌, length, take, map, Option, Some, None, Result, Ok, Err, codes, if◌then◌else◌}
use Rattle.marlowe_run.specs.MarloweRefusals.declared.trace_fault.TraceFault.{TraceFault}
use Rattle.request_parts.specs.Refusals.{refusal_object, trace_refused}
use Rattle.request_parts.specs.declared.refusal.Refusal.{Refusal}

-- the member `id`, before others
abbrev pub begun : List ℕ → List ℕ
begun id = codes "{\"id\":" ++ id

-- what is told
abbrev pub ok_answer : List ℕ → List ℕ → List ℕ
ok_answer id text = begun id ++ (codes ",\"ok\":" ++ (text ++ codes "}\n"))

-- why nothing is, and what else is told of it
abbrev pub reasoned_answer : List ℕ → Refusal → List ℕ → List ℕ
reasoned_answer id refusal reason = begun id ++ (codes ",\"refused\":" ++ (refusal_object refusal reason ++ codes "}\n"))

-- .. where nothing else is
abbrev pub refused_answer : List ℕ → Refusal → List ℕ
refused_answer id refusal = reasoned_answer id refusal []

-- under an id, with a reason where it is refused
abbrev pub answered : List ℕ → Result (List ℕ) Refusal → List ℕ → List ℕ
answered id (Ok text) reason = ok_answer id text
answered id (Err refusal) reason = reasoned_answer id refusal reason

-- ---- many outcomes

-- a printed line without its line feed
abbrev pub without_feed : List ℕ → List ℕ
without_feed line = take (length line - 1) line

abbrev pub comma_for_feed : ℕ → ℕ
comma_for_feed b = if b == 10 then 44 else b

-- lines, each of which is a JSON value, as a list
abbrev pub listed : List ℕ → List ℕ
listed lines = codes "[" ++ (map comma_for_feed (without_feed lines) ++ codes "]")

-- what is told, and why no more is
abbrev pub cut_answer : List ℕ → List ℕ → Refusal → List ℕ → List ℕ
cut_answer id text refusal reason = begun id ++ (codes ",\"ok\":" ++ (text ++ (codes ",\"refused\":" ++ (refusal_object refusal reason ++ codes "}\n"))))

abbrev pub traced_answer : List ℕ → List ℕ → Option TraceFault → List ℕ → List ℕ
traced_answer id lines None reason = ok_answer id (listed lines)
traced_answer id lines (Some fault) reason = cut_answer id (listed lines) (trace_refused fault) reason

-- outcomes, and the first transaction that is refused
abbrev pub answered_trace : List ℕ → Result (List ℕ × Option TraceFault) Refusal → List ℕ → List ℕ
answered_trace id (Ok (lines, refused)) reason = traced_answer id lines refused reason
answered_trace id (Err refusal) reason = reasoned_answer id refusal reason
