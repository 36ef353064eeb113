use Rattle.std.proofs.Common.{rules, ◌≡◌, ◌∙◌, ◌++◌, ap, codes, string_bytes, OnOk}
use Rattle.std.proofs.lemmas.Result.{on_ok_weaker}
use Rattle.machine.specs.Evaluation.Path.{waits_for}
use Rattle.machine.specs.Table.Flat.{cont_tree}
use Rattle.next_inputs.specs.Opening.{waits_until}
use Rattle.step_notes.specs.StepObjects.{case_objects, until_text}
use Rattle.step_notes.proofs.PieceLemmas.{put_three}
use Rattle.step_notes.proofs.objects.put_waiting.Goals as goal

pub returns : goal.returns
returns c =
    let tree = cont_tree c.args.table.now c.args.place.0 in
    let old = string_bytes c.args.out.now in
    let b = string_bytes c.put_cases.new.out in
    let until = string_bytes c.in_ok-until.until in
    let lit = codes "],\"waits_until\":" in
    let e = codes "}\n" in
    let printed : OnOk c.write.result (string_bytes c.write.new.self ≡ b ++ (lit ++ (until ++ e))) = search rules in
    let told = c.in_ok-until.ensures ∙ ap until_text c.waits_until.ensures.until in
    on_ok_weaker c.write.result
    (λ h. put_three old (codes "\"waits_for\":[") (case_objects c.args.interval c.args.state.now 0 (waits_for tree)) (lit ++ (until_text (waits_until tree) ++ e)) (string_bytes c.push_str.new.self) b (string_bytes c.write.new.self)
    c.in_ok-push_str.ensures.bytes c.in_ok-put_cases.ensures (h ∙ ap (λ t. b ++ (lit ++ (t ++ e))) told))
    printed
