use Rattle.std.proofs.Common.{ap}
use Rattle.std.proofs.lemmas.Result.{on_ok_weaker}
use Rattle.places.specs.Texts.{place_text}
use Rattle.next_lines.proofs.PieceLemmas.{warning_pieces}
use Rattle.next_lines.proofs.lines.put_warning.Goals as goal

pub returns : goal.returns
returns c =
    on_ok_weaker c.put_bytes-4.result
    (λ h. warning_pieces c.args.out.now.items c.put_bytes.new.out.items c.put_bytes-2.new.out.items c.put_bytes-3.new.out.items c.put_place.new.out.items c.put_bytes-4.new.out.items _ _ _ _ c.in_ok-put_bytes.ensures
    c.in_ok-put_bytes-2.ensures c.as_bytes.ensures.value c.in_ok-put_bytes-3.ensures c.in_ok-put_place.ensures (ap place_text c.deref.ensures.value) h)
    c.put_bytes-4.ensures
