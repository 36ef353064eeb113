use Rattle.std.proofs.Common.{List, ℕ, ◌++◌, ap, ◌∙◌}
use Rattle.std.specs.Prelude.{codes}
use Rattle.std.proofs.lemmas.Result.{on_ok_weaker}
use Rattle.places.specs.declared.key.Key.{Key}
use Rattle.analysis_lines.specs.ToldLines.{line_of}
use Rattle.places.specs.Texts.{kind_name, place_text}
use Rattle.analysis_lines.specs.Lines.{run_lines}
use Rattle.analysis_lines.proofs.LinesLemmas.{four_pieces}
use Rattle.analysis_lines.proofs.lines.put_whole.Goals as goal

pub returns : goal.returns
returns c =
    let l = line_of c.args.alarm.now in
    let a = c.args.out.now.items in
    let d = c.put_bytes-2.new.out.items in
    let kind = c.in_ok-put_bytes.ensures ∙ ap (λ (x : List ℕ). a ++ x) (c.as_bytes.ensures.value ∙ c.kind_name.ensures) in
    let place = c.in_ok-put_place.ensures ∙ ap (λ (ks : List Key). d ++ place_text ks) c.deref.ensures.value in
    on_ok_weaker c.put_end.result
    (λ h. four_pieces a c.put_bytes.new.out.items d c.put_place.new.out.items c.put_end.new.out.items (kind_name l.kind) (codes " at ") (place_text l.place) (run_lines c.args.runs l.run) kind c.in_ok-put_bytes-2.ensures place h)
    c.put_end.ensures
