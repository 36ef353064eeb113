use Rattle.std.proofs.Common.{ℕ, sym, ◌∙◌}
use Rattle.file_parts.proofs.TextLemmas.{text_here, text_past, text_nowhere}
use Rattle.file_parts.proofs.put.text_at.Goals as goal

pub returns-then-here : goal.returns-then-here
returns-then-here c =
    λ depth. text_here c.args.files.now c.args.path.now depth c.loop-file.file-index _ c.loop-file-test.true (c.loop-file.invariant depth) (sym c.eq-here.ensures ∙ c.if-here.true)

pub loop-file-preserved : goal.loop-file-preserved
loop-file-preserved c =
    λ depth. text_past c.args.files.now c.args.path.now depth c.loop-file.file-index _ c.loop-file-test.true (c.loop-file.invariant depth) (sym c.eq-here.ensures ∙ c.if-here.false)

pub returns : goal.returns
returns c = λ depth. text_nowhere c.args.files.now c.args.path.now depth c.loop-file.file-index c.loop-file-test.false (c.loop-file.invariant depth)
