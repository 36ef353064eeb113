use Rattle.std.proofs.Common.{rules, ◌≡◌, ◌∙◌, ◌++◌, OnOk, ap, codes, string_bytes}
use Rattle.std.proofs.lemmas.Result.{on_ok_weaker}
use Rattle.serde_json.specs.Written.{compact_text}
use Rattle.json_write_contracts.specs.WrittenNames.{token_json, wide_json}
use Rattle.play_objects.specs.HoldingObjects.{holder_members}
use Rattle.play_objects.proofs.holdings.put_holding.Goals as goal

pub returns : goal.returns
returns c =
    let old = string_bytes c.args.out.now in
    let ts = c.args.threads.now in
    let x = c.args.holding.now in
    let h = codes "{" in
    let m = codes ",\"token\":" in
    let k = codes ",\"amount\":" in
    let e = codes "}\n" in
    let holder = string_bytes c.in_ok-holder.holder in
    let token = string_bytes c.in_ok-token.token in
    let amount = string_bytes c.in_ok-amount.amount in
    let printed : OnOk c.write.result (string_bytes c.write.new.self ≡ old ++ (h ++ (holder ++ (m ++ (token ++ (k ++ (amount ++ e))))))) = search rules in
    on_ok_weaker c.write.result
    (λ is. is ∙ ap (λ y. old ++ (h ++ (y ++ (m ++ (token ++ (k ++ (amount ++ e))))))) c.in_ok-holder.ensures
    ∙ ap (λ y. old ++ (h ++ (holder_members ts x.holder ++ (m ++ (y ++ (k ++ (amount ++ e))))))) c.in_ok-token.ensures
    ∙ ap (λ y. old ++ (h ++ (holder_members ts x.holder ++ (m ++ (compact_text (token_json x.token) ++ (k ++ (y ++ e))))))) c.in_ok-amount.ensures)
    printed
