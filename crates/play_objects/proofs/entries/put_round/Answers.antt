use Rattle.std.proofs.Common.{codes, string_bytes}
use Rattle.std.proofs.lemmas.Result.{on_ok_weaker}
use Rattle.play_objects.specs.EntryObjects.{ticket_objects}
use Rattle.play_objects.proofs.PieceLemmas.{pushed, put_three}
use Rattle.play_objects.proofs.entries.put_round.Goals as goal

pub returns : goal.returns
returns c =
    on_ok_weaker c.push_str-2.result
    (λ h. put_three (string_bytes c.args.out.now) (codes "\"call\":\"round\",\"reply\":\"taken\",\"tickets\":[") (ticket_objects 0 c.args.tickets.now) (codes "]")
    (string_bytes c.push_str.new.self) (string_bytes c.put_tickets.new.out) (string_bytes c.push_str-2.new.self) c.in_ok-push_str.ensures.bytes c.in_ok-put_tickets.ensures h)
    (pushed c.push_str-2.result (string_bytes c.put_tickets.new.out) (string_bytes c.push_str-2.new.self) (codes "]") c.push_str-2.ensures.bytes)
