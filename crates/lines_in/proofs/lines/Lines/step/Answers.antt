use Rattle.std.proofs.Common.{◌≡◌, ◌≤◌, ◌-◌, ◌++◌, ℕ, List, [], take, drop, Some, None, length, refl, sym, ap, ◌∙◌, subst, arith, true}
use Rattle.std.specs.Prelude.{◌||◌, not}
use Rattle.lines_in.specs.Lines.{lines, is_empty}
use Rattle.lines_in.specs.Held.{come, told}
use Rattle.lines_in.specs.LinesSupport.{first_feed}
use Rattle.lines_in.proofs.LinesLemmas.{at_feed, at_more, at_end}
use Rattle.lines_in.proofs.lines.Lines.step.Goals as goal

pub returns-in-Some-clause-lines : goal.returns-in-Some-clause-lines
returns-in-Some-clause-lines c = λ rest no_more.
    let s = c.self.inside.start in
    let e = c.self.inside.end in
    let bytes = c.self.inside.piece.items in
    let line = c.begin.new.line.items in
    let high : e ≤ length bytes = omega arith in
    let at : first_feed (take (e - s) (drop s bytes)) ≡ Some c.in-Some.count = subst (λ bs. first_feed (take (e - s) (drop s bs)) ≡ Some c.in-Some.count) c.deref.ensures.value (sym c.in-Some.ensures.first) in
    let grown : (q : List ℕ) → lines c.grow-is_long.result c.grow-is_long.new.line.items q ≡ lines c.self.inside.is_long (line ++ take c.in-Some.count (take (e - s) (drop s bytes))) q
    = λ q. subst (λ bs. lines c.grow-is_long.result c.grow-is_long.new.line.items q ≡ lines c.self.inside.is_long (line ++ take c.in-Some.count (take (e - s) (drop s bs))) q) c.deref.ensures.value (c.grow-is_long.ensures.lines q) in
    ap (λ held. come held rest) (sym c.self.view_is)
    ∙ ap (λ l. lines c.self.inside.is_long l (take (e - s) (drop s bytes) ++ rest)) (sym c.begin.ensures.items)
    ∙ at_feed bytes s e c.in-Some.count c.self.inside.is_long c.grow-is_long.result line c.grow-is_long.new.line.items rest [] (told c.ended.result c.grow-is_long.new.line.items)
    c.self.invariant.3 high at grown c.ended.ensures refl

pub returns-then-not-self-clause-lines : goal.returns-then-not-self-clause-lines
returns-then-not-self-clause-lines c = λ rest no_more.
    let s = c.self.inside.start in
    let e = c.self.inside.end in
    let bytes = c.self.inside.piece.items in
    let line = c.begin.new.line.items in
    let none : first_feed (take (e - s) (drop s bytes)) ≡ None = subst (λ bs. first_feed (take (e - s) (drop s bs)) ≡ None) c.deref.ensures.value (sym c.in-None.ensures.first) in
    let grown : (q : List ℕ) → lines c.grow-is_long-in-None.result c.grow-is_long-in-None.new.line.items q ≡ lines c.self.inside.is_long (line ++ take (e - s) (drop s bytes)) q
    = λ q. subst (λ bs. lines c.grow-is_long-in-None.result c.grow-is_long-in-None.new.line.items q ≡ lines c.self.inside.is_long (line ++ take (e - s) (drop s bs)) q) c.deref.ensures.value (c.grow-is_long-in-None.ensures.lines q) in
    ap (λ held. come held rest) (sym c.self.view_is)
    ∙ ap (λ l. lines c.self.inside.is_long l (take (e - s) (drop s bytes) ++ rest)) (sym c.begin.ensures.items)
    ∙ at_more bytes s e c.self.inside.is_long c.grow-is_long-in-None.result line c.grow-is_long-in-None.new.line.items rest none grown

pub returns-else-not-begun-clause-lines : goal.returns-else-not-begun-clause-lines
returns-else-not-begun-clause-lines c = λ rest no_more.
    let s = c.self.inside.start in
    let e = c.self.inside.end in
    let bytes = c.self.inside.piece.items in
    let line = c.begin.new.line.items in
    let none : first_feed (take (e - s) (drop s bytes)) ≡ None = subst (λ bs. first_feed (take (e - s) (drop s bs)) ≡ None) c.deref.ensures.value (sym c.in-None.ensures.first) in
    let grown : (q : List ℕ) → lines c.grow-is_long-in-None.result c.grow-is_long-in-None.new.line.items q ≡ lines c.self.inside.is_long (line ++ take (e - s) (drop s bytes)) q
    = λ q. subst (λ bs. lines c.grow-is_long-in-None.result c.grow-is_long-in-None.new.line.items q ≡ lines c.self.inside.is_long (line ++ take (e - s) (drop s bs)) q) c.deref.ensures.value (c.grow-is_long-in-None.ensures.lines q) in
    let ended : c.args.self.now.has_ended ≡ true = ap (λ held. held.has_ended) (sym c.self.view_is) ∙ c.if-not-self.false in
    let some : (c.grow-is_long-in-None.result || not (is_empty c.grow-is_long-in-None.new.line.items)) ≡ true =
    subst (λ items. (c.grow-is_long-in-None.result || not (is_empty items)) ≡ true) c.as_slice.ensures.value (sym c.is_begun-begun.ensures ∙ c.if-not-begun.false) in
    ap (λ held. come held rest) (sym c.self.view_is)
    ∙ ap (λ l. lines c.self.inside.is_long l (take (e - s) (drop s bytes) ++ rest)) (sym c.begin.ensures.items)
    ∙ at_end bytes s e c.self.inside.is_long c.grow-is_long-in-None.result line c.grow-is_long-in-None.new.line.items rest [] (told c.ended-in-None.result c.grow-is_long-in-None.new.line.items)
    none grown some c.ended-in-None.ensures refl (no_more ended)
