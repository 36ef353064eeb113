-- What a reply says.
use Rattle.std.specs.Prelude.{ℕ, Bool, true, false, List, [], Option, Some, None}
use Rattle.roles.specs.EutxoTypes.declared.verdict.Verdict.{Verdict}
use Rattle.roles.specs.EutxoTypes.declared.verdict.Verdict.TheVariants as told
use Rattle.ledger.specs.declared.call.Reply.{Reply}
use Rattle.ledger.specs.declared.call.Reply.TheVariants as answer
use Rattle.ledger.specs.declared.call.Ticketed.{Ticketed}

abbrev pub is_advanced : Reply → Bool
is_advanced answer.Advanced = true
is_advanced r = false

abbrev pub is_accepted : Reply → Bool
is_accepted (answer.Accepted id) = true
is_accepted r = false

abbrev pub is_published : Reply → Bool
is_published (answer.Published id) = true
is_published r = false

abbrev pub ticket_in : Reply → Option ℕ
ticket_in (answer.Ticket n) = Some n
ticket_in r = None

abbrev pub verdicts_in : Reply → List Ticketed
verdicts_in (answer.Round vs) = vs
verdicts_in r = []

abbrev pub accepts : Verdict → Bool
accepts told.Accepted = true
accepts (told.Refused f) = false
