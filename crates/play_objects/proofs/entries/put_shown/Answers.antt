use Rattle.std.specs.Int.{w64}
use Rattle.std.proofs.lemmas.Int.{to_z-of_z}
use Rattle.std.proofs.Common.{FitsSigned, rules, ◌≡◌, ◌∙◌, ◌++◌, OnOk, ap, codes, string_bytes}
use Rattle.std.proofs.lemmas.Result.{on_ok_weaker}
use Rattle.play_objects.proofs.entries.put_shown.Goals as goal

pub returns : goal.returns
returns c =
    let old = string_bytes c.args.out.now in
    let h = codes "\"call\":\"look\",\"reply\":\"shown\",\"tick\":" in
    let tick = string_bytes c.in_ok-tick.tick in
    let printed : OnOk c.write.result (string_bytes c.write.new.self ≡ old ++ (h ++ tick)) = search rules in
    let fits : FitsSigned w64 c.args.tick = search rules in
    let told = rw (to_z-of_z w64 c.args.tick fits) at c.in_ok-tick.ensures in
    on_ok_weaker c.write.result (λ is. is ∙ ap (λ y. old ++ (h ++ y)) told) printed
