use Rattle.std.proofs.Common.{rules, ◌≡◌, ◌∙◌, ◌++◌, IfOk, ap, codes, string_bytes}
use Rattle.std.proofs.lemmas.Result.{IfOk-weaker}
use Rattle.play_lines.specs.PlayLines.{build_fault_text}
use Rattle.play_notes.specs.Intents.{quoted}
use Rattle.play_objects.proofs.intents.cause_members.Goals as goal

pub returns : goal.returns
returns c =
    let h = codes ",\"fault\":" in
    let m = codes ",\"why\":" in
    let name = string_bytes c.in_ok-name-2.name in
    let words = string_bytes c.in_ok-words-2.words in
    let printed : IfOk c.format.result (λ text. string_bytes text ≡ h ++ (name ++ (m ++ words))) = search rules in
    let is_name = c.in_ok-name-2.ensures ∙ ap quoted (c.as_str.ensures.value ∙ c.in_ok-name.ensures) in
    let is_words = c.in_ok-words-2.ensures ∙ ap quoted (c.as_str-2.ensures.value ∙ c.in_ok-words.ensures) in
    IfOk-weaker c.format.result _ _
    (λ text e. e ∙ ap (λ t. h ++ (t ++ (m ++ words))) is_name ∙ ap (λ t. h ++ (quoted (build_fault_text c.args.fault.now) ++ (m ++ t))) is_words)
    printed
