use Rattle.std.proofs.Common.{◌<ℤ◌, ◌≤ℤ◌, pos, ℤ, sym, ◌∙◌, ap, subst, arith}
use Rattle.std.proofs.lemmas.Int.{ints}
use Rattle.bundle.specs.Bundles.{Amounts, amount_of}
use Rattle.bundle.proofs.ZeroLemmas.{amount_of-from_sorted}
use Rattle.bundle.proofs.bundle.Bundle.reduce.Goals as goal

above : (m n : ℤ) → pos 0 <ℤ n → n ≤ℤ m → pos 0 <ℤ m
above m n g h = omega (arith, ints, g, h)

pub set_known-requires-clause-known : goal.set_known-requires-clause-known
set_known-requires-clause-known c =
    subst (λ n. pos 0 <ℤ n)
    (ap (λ (m : Amounts). amount_of m c.args.token.now) (sym c.self.view_is) ∙ amount_of-from_sorted c.self.inside.entries.items c.args.token.now c.self.invariant.0)
    (above _ c.args.amount c.requires.positive c.requires.held)
