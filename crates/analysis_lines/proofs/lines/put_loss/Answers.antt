use Rattle.std.proofs.Common.{rules, ◌≡◌, List, ℕ, ◌++◌, ap, ◌∙◌, codes, string_bytes}
use Rattle.std.proofs.lemmas.Result.{on_ok_weaker}
use Rattle.serde_json.specs.Written.{compact_text}
use Rattle.json_write_contracts.specs.WrittenNames.{party_json, token_json}
use Rattle.analysis_lines.specs.Lines.{loss_text, given_text}
use Rattle.analysis_lines.proofs.LinesLemmas.{loss_pieces}
use Rattle.analysis_lines.proofs.lines.put_loss.Goals as goal

pub returns : goal.returns
returns c =
    let l = c.args.loss.now.loss in
    let party = string_bytes c.in_ok-party.party in
    let token = string_bytes c.in_ok-token.token in
    let most = string_bytes c.in_ok-most.most in
    let line = string_bytes c.in_ok-line.line in
    let printed : line ≡ party ++ (codes " " ++ (token ++ (codes " " ++ most))) = search rules in
    let first = c.in_ok-put_bytes.ensures ∙ ap (λ (x : List ℕ). c.args.out.now.items ++ x) c.as_bytes.ensures.value in
    on_ok_weaker c.put_given.result
    (λ h. loss_pieces c.args.out.now.items c.put_bytes.new.out.items c.put_given.new.out.items party (compact_text (party_json l.party)) token (compact_text (token_json l.token)) most (loss_text l.most) (given_text c.args.given) line printed c.in_ok-party.ensures
    c.in_ok-token.ensures c.in_ok-most.ensures first h) c.put_given.ensures
