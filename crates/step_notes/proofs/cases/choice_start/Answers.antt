use Rattle.std.proofs.Common.{rules, ◌≡◌, ◌++◌, IfOk, codes, string_bytes}
use Rattle.std.proofs.lemmas.Result.{IfOk-weaker}
use Rattle.serde_json.specs.Data.{string}
use Rattle.serde_json.specs.Written.{compact_text}
use Rattle.next_lines.specs.Lines.{party_text}
use Rattle.step_notes.proofs.PieceLemmas.{two_pieces}
use Rattle.step_notes.proofs.cases.choice_start.Goals as goal

pub returns : goal.returns
returns c =
    let name = string_bytes c.in_ok-name.name in
    let owner = string_bytes c.in_ok-owner.owner in
    let printed : IfOk c.format.result (λ text. string_bytes text ≡ codes "waits for choose " ++ (name ++ (codes " of " ++ (owner ++ codes ": ")))) = search rules in
    IfOk-weaker c.format.result _ _
    (λ text e. two_pieces (codes "waits for choose ") (codes " of ") (codes ": ") name (compact_text (string c.args.id.now.name)) owner (party_text c.args.id.now.owner) (string_bytes text) e c.in_ok-name.ensures c.in_ok-owner.ensures)
    printed
