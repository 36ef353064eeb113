use Rattle.std.proofs.Common.{rules, subst, sym}
use Rattle.std.specs.Io.KnownBytes.{Consumes}
use Rattle.std.proofs.lemmas.List.{places}
use Rattle.std.proofs.KnownBytes.{Consumes-trans}
use Rattle.marlowe_io.proofs.TextLemmas.{loaded_to_end, loaded_first}
use Rattle.marlowe_io.proofs.loading.load.Goals as goal

pub returns-then-branch-eq0-clause-text : goal.returns-then-branch-eq0-clause-text
returns-then-branch-eq0-clause-text g c =
    let read = c.in_ok-read_piece.ensures in
    let (bytes, grown, reads) = read.bytes in
    loaded_to_end (g.S.Source.remaining c.args.from.now) (g.S.Source.remaining c.read_piece.new.from) c.read_piece.new.text.items
    (subst (Consumes (g.S.Source.remaining c.args.from.now) (g.S.Source.remaining c.read_piece.new.from)) (sym grown) (Consumes-trans _ _ _ _ _ c.loop-text.invariant.2 reads))
    (read.end (search rules)) (search (rules, places))

pub returns-clause-text : goal.returns-clause-text
returns-clause-text g c =
    loaded_first _ _ _ c.loop-text.invariant.2 (search (rules, places))
