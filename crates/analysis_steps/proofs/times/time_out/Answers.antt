use Rattle.std.proofs.Common.{◌∙◌}
use Rattle.std.proofs.lemmas.Int.{to_z-of_z}
use Rattle.std.specs.Int.{w64}
use Rattle.analysis_steps.proofs.TimeLemmas.{times_out_not_start, times_out_not_end, times_out_so}
use Rattle.analysis_steps.proofs.times.time_out.Goals as goal

pub returns-then-not-starts : goal.returns-then-not-starts
returns-then-not-starts c =
    let k = c.args.known in
    let z = c.assume_most.new.known in
    let b = c.in_ok-start.start in
    let p = c.in_ok-starts.starts in
    times_out_not_start k z z c.args.timeout b b c.first_at-first.result p p (c.in_ok-start.ensures ∙ c.start.ensures) (rw (to_z-of_z w64 c.args.timeout c.ranges.timeout) at c.first_at-first.ensures)
    c.in_ok-starts.ensures.symbols c.if-not-starts.true

pub returns-then-not-ends : goal.returns-then-not-ends
returns-then-not-ends c =
    let k = c.args.known in
    let z = c.assume_most.new.known in
    let m = c.assume_most-2.new.known in
    times_out_not_end k z m c.args.timeout c.in_ok-end.end c.in_ok-start.start c.first_at-first.result c.in_ok-starts.starts c.in_ok-ends.ends (c.in_ok-start.ensures ∙ c.start.ensures)
    (rw (to_z-of_z w64 c.args.timeout c.ranges.timeout) at c.first_at-first.ensures) c.in_ok-starts.ensures.symbols c.assume_most.ensures.view (c.in_ok-end.ensures ∙ c.end.ensures) c.in_ok-ends.ensures.symbols
    c.if-not-ends.true

pub returns : goal.returns
returns c =
    let k = c.args.known in
    let z = c.assume_most.new.known in
    let m = c.assume_most-2.new.known in
    times_out_so k z m c.args.timeout c.in_ok-end.end c.in_ok-start.start c.first_at-first.result c.in_ok-starts.starts c.in_ok-ends.ends (c.in_ok-start.ensures ∙ c.start.ensures)
    (rw (to_z-of_z w64 c.args.timeout c.ranges.timeout) at c.first_at-first.ensures) c.in_ok-starts.ensures.symbols c.assume_most.ensures.view (c.in_ok-end.ensures ∙ c.end.ensures) c.in_ok-ends.ensures.symbols
    c.assume_most-2.ensures.view
