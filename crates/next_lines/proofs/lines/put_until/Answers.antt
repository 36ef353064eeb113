use Rattle.std.proofs.Common.{[], ◌∷◌, ◌∙◌, FitsSigned, rules}
use Rattle.std.specs.Int.{w128}
use Rattle.std.proofs.lemmas.Int.{to_z-of_z}
use Rattle.std.proofs.lemmas.Result.{on_ok_weaker}
use Rattle.places.specs.declared.key.Key.TheVariants.{TimeoutContinuation}
use Rattle.next_lines.specs.Lines.{times_text}
use Rattle.next_lines.proofs.PieceLemmas.{until_pieces, same_piece}
use Rattle.next_lines.proofs.lines.put_until.Goals as goal

pub returns : goal.returns
returns c =
    let fits : FitsSigned w128 c.args.last = search rules in
    let times = rw (to_z-of_z w128 c.args.last fits) at c.in_ok-times.ensures in
    on_ok_weaker c.put_bytes-2.result
    (λ h. until_pieces c.args.out.now.items c.put_bytes.new.out.items c.put_place.new.out.items c.put_bytes-2.new.out.items (times_text c.args.last) c.args.path.now (TimeoutContinuation ∷ []) (10 ∷ [])
    (same_piece _ _ _ _ c.in_ok-put_bytes.ensures (c.as_bytes.ensures.value ∙ times)) c.in_ok-put_place.ensures h)
    c.put_bytes-2.ensures
