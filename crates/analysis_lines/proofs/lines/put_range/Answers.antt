use Rattle.std.proofs.Common.{rules, ◌≡◌, List, ℕ, ◌++◌, ap, ◌∙◌, codes, string_bytes}
use Rattle.std.proofs.lemmas.Result.{on_ok_weaker}
use Rattle.serde_json.specs.Written.{compact_text}
use Rattle.json_write_contracts.specs.WrittenNames.{party_json, token_json}
use Rattle.analysis_lines.specs.Lines.{bounds_text}
use Rattle.analysis_lines.proofs.LinesLemmas.{range_pieces}
use Rattle.analysis_lines.proofs.lines.put_range.Goals as goal

pub returns : goal.returns
returns c =
    let r = c.args.range.now.range in
    let party = string_bytes c.in_ok-party.party in
    let token = string_bytes c.in_ok-token.token in
    let bounds = string_bytes c.in_ok-bounds.bounds in
    let line = string_bytes c.in_ok-line.line in
    let printed : line ≡ party ++ (codes " " ++ (token ++ (codes " " ++ (bounds ++ codes "\n")))) = search rules in
    let whole = range_pieces party (compact_text (party_json r.party)) token (compact_text (token_json r.token)) bounds (bounds_text r.least r.most) line printed c.in_ok-party.ensures c.in_ok-token.ensures c.in_ok-bounds.ensures in
    on_ok_weaker c.put_bytes.result (λ h. h ∙ ap (λ (x : List ℕ). c.args.out.now.items ++ x) (c.as_bytes.ensures.value ∙ whole)) c.put_bytes.ensures
