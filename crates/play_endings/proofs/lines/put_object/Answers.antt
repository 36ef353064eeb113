use Rattle.std.proofs.Common.{rules, ◌≡◌, ◌∙◌, ◌++◌, OnOk, ap, codes, decimal, string_bytes}
use Rattle.std.proofs.lemmas.Result.{on_ok_weaker}
use Rattle.play_objects.specs.IntentObjects.{intent_members}
use Rattle.play_endings.proofs.lines.put_object.Goals as goal

pub returns : goal.returns
returns c =
    let old = string_bytes c.args.out.now in
    let h = codes "{\"plan\":" in
    let k = codes ",\"place\":" in
    let m = codes ",\"intent\":{" in
    let n = codes "}," in
    let e = codes "}\n" in
    let plan = c.args.plan.now in
    let place = decimal c.args.place in
    let members = string_bytes c.in_ok-members.members in
    let ended = string_bytes c.in_ok-ended.ended in
    let printed : OnOk c.write.result (string_bytes c.write.new.self ≡ old ++ (h ++ (plan ++ (k ++ (place ++ (m ++ (members ++ (n ++ (ended ++ e))))))))) = search rules in
    on_ok_weaker c.write.result
    (λ is. is ∙ ap (λ y. old ++ (h ++ (plan ++ (k ++ (place ++ (m ++ (y ++ (n ++ (ended ++ e))))))))) c.in_ok-members.ensures
    ∙ ap (λ y. old ++ (h ++ (plan ++ (k ++ (place ++ (m ++ (intent_members c.args.threads.now c.args.contracts.now c.args.intent.now ++ (n ++ (y ++ e))))))))) c.in_ok-ended.ensures)
    printed
