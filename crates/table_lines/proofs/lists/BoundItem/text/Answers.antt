use Rattle.std.proofs.Common.{rules, ◌≡◌, ◌++◌, ◌∙◌, IfOk, codes, string_bytes}
use Rattle.std.specs.Fmt.{signed_decimal}
use Rattle.std.proofs.lemmas.Result.{IfOk-weaker}
use Rattle.table_lines.proofs.BoundText.{bound_is}
use Rattle.table_lines.proofs.lists.BoundItem.text.Goals as goal

pub returns : goal.returns
returns c =
    let b = c.args.self.now in
    let printed : IfOk c.format.result (λ text. string_bytes text ≡ codes "{\"from\":" ++ (signed_decimal b.from ++ (codes ",\"to\":" ++ (signed_decimal b.to ++ codes "}")))) = search rules in
    IfOk-weaker c.format.result _ _ (λ text is. is ∙ bound_is b) printed
