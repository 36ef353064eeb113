use Rattle.std.proofs.Common.{chars, string_bytes, arith}
use Rattle.std.proofs.lemmas.Iterator.{YieldsList-from_chars}
use Rattle.std.proofs.lemmas.Iterator.Consumers.{YieldsList-turn, YieldsList-so_far, YieldsList-end}
use Rattle.std.proofs.lemmas.List.{length_push}
use Rattle.text_spots.proofs.ShownLemmas.{seen_more, shown_cut, shown_whole}
use Rattle.text_spots.proofs.shown.text_shown.Goals as goal

pub loop-c-preserved : goal.loop-c-preserved
loop-c-preserved c = record {
  count = let n = length_push c.loop-c.yielded c.in-Some.c in omega arith;
  few = omega arith;
  so_far = seen_more c.loop-c.yielded c.in-Some.c _ _ c.loop-c.invariant.so_far c.in_ok-put_seen.ensures;
}

pub returns-then-count-eq-MOST_SHOWN : goal.returns-then-count-eq-MOST_SHOWN
returns-then-count-eq-MOST_SHOWN c =
    let road = YieldsList-from_chars c.args.text.now c.utf8.text cc in
    let t = YieldsList-turn road c.loop-c.yielded _ c.loop-c.yielded_by _ _ c.in-Some.c c.in-Some.is c.next.ensures.steps in
    shown_cut (chars c.args.text.now) c.loop-c.yielded (string_bytes c.loop-c.out) (string_bytes c.push_str.new.self) (YieldsList-so_far road c.loop-c.yielded _ c.loop-c.yielded_by) (omega arith) t.0 c.loop-c.invariant.so_far
    c.in_ok-push_str.ensures.bytes

pub returns : goal.returns
returns c =
    let t = YieldsList-end (YieldsList-from_chars c.args.text.now c.utf8.text cc) c.loop-c.yielded _ c.loop-c.yielded_by _ _ c.in-None.is c.next.ensures.steps in
    shown_whole (chars c.args.text.now) c.loop-c.yielded (string_bytes c.loop-c.out) t.0 (omega arith) c.loop-c.invariant.so_far
