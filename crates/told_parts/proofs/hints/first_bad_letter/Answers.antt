use Rattle.std.proofs.Common.{chars, not, sym, ◌∙◌}
use Rattle.std.proofs.lemmas.Iterator.{YieldsList-from_chars}
use Rattle.std.proofs.lemmas.Iterator.Consumers.{YieldsList-turn, YieldsList-so_far, YieldsList-end}
use Rattle.told_parts.specs.Lines.{is_hex}
use Rattle.told_parts.proofs.SearchLemmas.{find_turn, find_past, find_end}
use Rattle.told_parts.proofs.hints.first_bad_letter.Goals as goal

pub returns-then-wrong : goal.returns-then-wrong
returns-then-wrong c =
    let road = YieldsList-from_chars c.args.text.now c.utf8.text cc in
    let t = YieldsList-turn road c.loop-c.yielded _ c.loop-c.yielded_by _ _ c.in-Some.c c.in-Some.is c.next.ensures.steps in
    find_turn (λ c. not (is_hex c)) (chars c.args.text.now) c.loop-c.yielded c.in-Some.c (YieldsList-so_far road c.loop-c.yielded _ c.loop-c.yielded_by) t.0 t.1 c.loop-c.invariant
    (sym c.is_no_hex-wrong.ensures ∙ c.if-wrong.true)

pub loop-c-preserved : goal.loop-c-preserved
loop-c-preserved c = find_past (λ c. not (is_hex c)) c.loop-c.yielded c.in-Some.c c.loop-c.invariant (sym c.is_no_hex-wrong.ensures ∙ c.if-wrong.false)

pub returns : goal.returns
returns c =
    let t = YieldsList-end (YieldsList-from_chars c.args.text.now c.utf8.text cc) c.loop-c.yielded _ c.loop-c.yielded_by _ _ c.in-None.is c.next.ensures.steps in
    find_end (λ c. not (is_hex c)) (chars c.args.text.now) c.loop-c.yielded t.0 c.loop-c.invariant
