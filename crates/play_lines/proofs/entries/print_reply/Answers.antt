use Rattle.std.proofs.Common.{rules, ◌≡◌, ◌++◌, ◌∙◌, OnOk, ap, sym, codes, decimal, string_bytes}
use Rattle.play_lines.specs.PlayLines.{reply_text}
use Rattle.play_lines.proofs.Printed.{printed-as, pushed-as}
use Rattle.play_lines.proofs.entries.print_reply.Goals as goal

pub returns-in-NotCompiled : goal.returns-in-NotCompiled
returns-in-NotCompiled c =
    let name = c.compile_fault_name-name.result.now in
    let printed : OnOk c.write.result (string_bytes c.write.new.self ≡ string_bytes c.args.out.now ++ (codes "publish refused " ++ name)) = search rules in
    printed-as c.write.result (string_bytes c.args.out.now) (string_bytes c.write.new.self) (codes "publish refused " ++ name) (reply_text c.args.reply.now)
    (ap (λ n. codes "publish refused " ++ n) c.compile_fault_name-name.ensures ∙ ap (λ r. reply_text r) (sym c.in-NotCompiled.is)) printed

pub returns-in-Accepted : goal.returns-in-Accepted
returns-in-Accepted c =
    pushed-as c.push_str-in-Accepted.result (string_bytes c.args.out.now) (string_bytes c.push_str-in-Accepted.new.self) (codes "submit accepted") (reply_text c.args.reply.now)
    (ap (λ r. reply_text r) (sym c.in-Accepted.is)) c.push_str-in-Accepted.ensures.bytes

pub returns-in-Ticket : goal.returns-in-Ticket
returns-in-Ticket c =
    let ticket = decimal c.in-Ticket.ticket in
    let printed : OnOk c.write-in-Ticket.result (string_bytes c.write-in-Ticket.new.self ≡ string_bytes c.args.out.now ++ (codes "enqueue ticket " ++ ticket)) = search rules in
    printed-as c.write-in-Ticket.result (string_bytes c.args.out.now) (string_bytes c.write-in-Ticket.new.self) (codes "enqueue ticket " ++ ticket) (reply_text c.args.reply.now)
    (ap (λ r. reply_text r) (sym c.in-Ticket.is)) printed

pub returns-in-Full : goal.returns-in-Full
returns-in-Full c =
    pushed-as c.push_str-in-Full.result (string_bytes c.args.out.now) (string_bytes c.push_str-in-Full.new.self) (codes "enqueue full") (reply_text c.args.reply.now)
    (ap (λ r. reply_text r) (sym c.in-Full.is)) c.push_str-in-Full.ensures.bytes
