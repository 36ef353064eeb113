use Rattle.std.proofs.Common.{◌≡◌, ◌≤◌, ◌-◌, false, vec_len}
use Rattle.std.specs.Io.KnownBytes.{Consumes}
use Rattle.marlowe_io.specs.Texts.{longest}
use Rattle.marlowe_io.proofs.loading.load.Given as goal

abbrev pub invariant-loop-text : goal.invariant-loop-text
invariant-loop-text g l = (vec_len l.text ≤ longest) × (g.S.Source.has_failed l.from ≡ false) × Consumes (g.S.Source.remaining l.fn.from) (g.S.Source.remaining l.from) l.text.items

abbrev pub decreases-loop-text : goal.decreases-loop-text
decreases-loop-text g l = longest - vec_len l.text
