use Rattle.std.proofs.Common.{rules, ◌≡◌, ◌∙◌, ◌++◌, IfOk, ap, codes, decimal, string_bytes}
use Rattle.std.proofs.lemmas.Result.{IfOk-weaker}
use Rattle.play_objects.specs.IntentObjects.{intent_members}
use Rattle.play_objects.proofs.intents.unbuilt_object.Goals as goal

pub returns : goal.returns
returns c =
    let h = codes "{\"left_out\":{" in
    let m = codes "},\"entry\":" in
    let e = codes "}\n" in
    let place = decimal c.args.place in
    let members = string_bytes c.in_ok-members.members in
    let why = string_bytes c.in_ok-why.why in
    let printed : IfOk c.format.result (λ text. string_bytes text ≡ h ++ (members ++ (m ++ (place ++ (why ++ e))))) = search rules in
    IfOk-weaker c.format.result _ _
    (λ text is. is ∙ ap (λ y. h ++ (y ++ (m ++ (place ++ (why ++ e))))) c.in_ok-members.ensures
    ∙ ap (λ y. h ++ (intent_members c.args.threads.now c.args.contracts.now c.args.intent.now ++ (m ++ (place ++ (y ++ e))))) c.in_ok-why.ensures)
    printed
