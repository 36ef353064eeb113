use Rattle.std.proofs.Common.{rules, ◌≡◌, ◌++◌, ◌∙◌, OnOk, ap, ap₂, sym, codes, string_bytes}
use Rattle.table_lines.specs.TableLines.{line_end, value_words}
use Rattle.table_lines.proofs.Printed.{printed-as, pushed-as}
use Rattle.table_lines.proofs.lines.ValueNodeLine.print.Goals as goal

pub returns-in_ok-party-in-AvailableMoney : goal.returns-in_ok-party-in-AvailableMoney
returns-in_ok-party-in-AvailableMoney c =
    let token = string_bytes c.in_ok-token-in-AvailableMoney.token in
    let party = string_bytes c.in_ok-party-in-AvailableMoney.party in
    let printed : OnOk c.write.result (string_bytes c.write.new.self ≡ string_bytes c.args.out.now ++ (codes " amount_of_token " ++ (token ++ (codes " " ++ (party ++ codes "\n"))))) = search rules in
    printed-as c.write.result (string_bytes c.args.out.now) (string_bytes c.write.new.self)
    (codes " amount_of_token " ++ (token ++ (codes " " ++ (party ++ codes "\n")))) (line_end (value_words c.args.self.now))
    (ap₂ (λ t p. codes " amount_of_token " ++ (t ++ (codes " " ++ (p ++ codes "\n")))) c.in_ok-token-in-AvailableMoney.ensures c.in_ok-party-in-AvailableMoney.ensures
    ∙ ap (λ n. line_end (value_words n)) (sym c.in-AvailableMoney.is))
    printed

pub returns-in-TimeIntervalStart : goal.returns-in-TimeIntervalStart
returns-in-TimeIntervalStart c =
    pushed-as c.push_str.result (string_bytes c.args.out.now) (string_bytes c.push_str.new.self) (codes " time_interval_start\n") (line_end (value_words c.args.self.now))
    (ap (λ n. line_end (value_words n)) (sym c.in-TimeIntervalStart.is)) c.push_str.ensures.bytes

pub returns-in-TimeIntervalEnd : goal.returns-in-TimeIntervalEnd
returns-in-TimeIntervalEnd c =
    pushed-as c.push_str-in-TimeIntervalEnd.result (string_bytes c.args.out.now) (string_bytes c.push_str-in-TimeIntervalEnd.new.self) (codes " time_interval_end\n") (line_end (value_words c.args.self.now))
    (ap (λ n. line_end (value_words n)) (sym c.in-TimeIntervalEnd.is)) c.push_str-in-TimeIntervalEnd.ensures.bytes
