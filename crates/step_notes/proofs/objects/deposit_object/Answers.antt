use Rattle.std.proofs.Common.{rules, ◌≡◌, ◌++◌, IfOk, codes, string_bytes}
use Rattle.std.proofs.lemmas.Result.{IfOk-weaker}
use Rattle.serde_json.specs.Written.{compact_text}
use Rattle.json_write_contracts.specs.WrittenNames.{token_json}
use Rattle.next_lines.specs.Lines.{party_text}
use Rattle.step_notes.specs.StepObjects.{amount_text}
use Rattle.step_notes.proofs.PieceLemmas.{four_pieces}
use Rattle.step_notes.proofs.objects.deposit_object.Goals as goal

pub returns : goal.returns
returns c =
    let amount = string_bytes c.in_ok-amount.amount in
    let token = string_bytes c.in_ok-token.token in
    let party = string_bytes c.in_ok-party.party in
    let account = string_bytes c.in_ok-account.account in
    let h = codes "{\"deposit\":" in
    let k = codes ",\"token\":" in
    let l = codes ",\"by\":" in
    let m = codes ",\"into\":" in
    let e = codes "}" in
    let printed : IfOk c.format.result (λ text. string_bytes text ≡ h ++ (amount ++ (k ++ (token ++ (l ++ (party ++ (m ++ (account ++ e)))))))) = search rules in
    IfOk-weaker c.format.result _ _
    (λ text is. four_pieces h k l m e amount (amount_text c.args.amount) token (compact_text (token_json c.args.token.now)) party (party_text c.args.party.now) account (party_text c.args.account.now) (string_bytes text) is
    c.in_ok-amount.ensures c.in_ok-token.ensures c.in_ok-party.ensures c.in_ok-account.ensures)
    printed
