use Rattle.std.proofs.Common.{string_bytes}
use Rattle.play_lines.proofs.Printed.{begun}
use Rattle.play_lines.proofs.entries.print_round.Goals as goal

pub loop-ticket-init : goal.loop-ticket-init
loop-ticket-init c =
    begun (string_bytes c.args.out.now) (string_bytes c.push_str.new.self) (string_bytes c.print_ticket.new.out) c.in-Some.first.now c.in-Some.rest.now c.args.tickets.now
    c.in_ok-push_str.ensures.bytes c.in_ok-print_ticket.ensures c.in-Some.ensures.cases.0
