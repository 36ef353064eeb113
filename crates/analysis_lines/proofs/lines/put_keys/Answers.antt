use Rattle.std.proofs.Common.{List, ◌∷◌, [], ◌++◌, ap, ◌∙◌, codes}
use Rattle.std.proofs.lemmas.Result.{on_ok_weaker}
use Rattle.places.specs.declared.key.Key.{Key}
use Rattle.places.specs.Texts.{place_text}
use Rattle.analysis_lines.proofs.LinesLemmas.{three_pieces}
use Rattle.analysis_lines.proofs.lines.put_keys.Goals as goal

pub returns : goal.returns
returns c =
    on_ok_weaker c.put_bytes-2.result
    (λ h. three_pieces c.args.out.now.items c.put_bytes.new.out.items c.put_place.new.out.items c.put_bytes-2.new.out.items (codes "never reached: ") (place_text c.args.keys.now) (10 ∷ []) c.in_ok-put_bytes.ensures
    (c.in_ok-put_place.ensures ∙ ap (λ (ks : List Key). c.put_bytes.new.out.items ++ place_text ks) c.as_slice.ensures) h) c.put_bytes-2.ensures
