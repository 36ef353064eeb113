use Rattle.std.proofs.Common.{◌≡◌, [], ◌++◌, length}
use Rattle.json.specs.Lex.{tokens}
use Rattle.big_texts.specs.declared.place.Place.TheVariants.{Outside}
use Rattle.big_texts.specs.Lines.{told_from}
use Rattle.big_texts.proofs.lines.line_with_texts.Given as goal

-- what is written, and what is told of the tokens that are left
abbrev pub invariant-tokens : goal.invariant-tokens
invariant-tokens l = record {
  before : l.writer.before ≡ [];
  told : l.writer.tokens ++ told_from l.place l.reader ≡ told_from Outside (tokens l.fn.line);
}

abbrev pub decreases-tokens : goal.decreases-tokens
decreases-tokens l = length l.reader
