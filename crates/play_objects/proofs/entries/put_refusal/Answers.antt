use Rattle.std.proofs.Common.{rules, ◌≡◌, ◌∙◌, ◌++◌, OnOk, ap, codes, string_bytes}
use Rattle.std.proofs.lemmas.Result.{on_ok_weaker}
use Rattle.play_objects.proofs.entries.put_refusal.Goals as goal

pub returns : goal.returns
returns c =
    let old = string_bytes c.args.out.now in
    let h = codes "\"call\":\"submit\"," in
    let members = string_bytes c.in_ok-members.members in
    let printed : OnOk c.write.result (string_bytes c.write.new.self ≡ old ++ (h ++ members)) = search rules in
    on_ok_weaker c.write.result (λ is. is ∙ ap (λ y. old ++ (h ++ y)) c.in_ok-members.ensures) printed
