use Rattle.std.proofs.Common.{◌≡◌, ◌++◌, drop, string_bytes}
use Rattle.builder_spec.specs.Ledger.declared.call.Reply.TheVariants as replies
use Rattle.play_lines.specs.PlayLines.{tickets_on, reply_text}
use Rattle.play_lines.proofs.entries.print_round.Given as goal

-- what was printed and the tickets that are left are one text
abbrev pub invariant-loop-ticket : goal.invariant-loop-ticket
invariant-loop-ticket l =
    string_bytes l.out ++ tickets_on (drop l.ticket-index l.rest) ≡ string_bytes l.fn.out ++ reply_text (replies.Round l.tickets)
