-- Observations that are joined.
use Rattle.std.proofs.Common.{◌≡◌, Bool, ◌&&◌, ap, Option, Some, None}
use Rattle.symbols.specs.Symbols.{Symbols}
use Rattle.analysis_values.specs.declared.junctions.Junction.{Junction}
use Rattle.analysis_values.specs.declared.junctions.Junction.TheVariants.{And, Or}
use Rattle.analysis_values.specs.declared.observations.Truths.{Truths}
use Rattle.analysis_values.specs.Steps.{LeadsEither}
use Rattle.analysis_values.specs.Junctions.{side_of, DecidesBoth}
use Rattle.analysis_values.proofs.TruthLemmas.{and_never, and_never_looks, and_decides, and_looks, or_never, or_never_looks, or_decides, or_looks}

-- truths that are turned twice
pub side_again : (j : Junction) (t u : Truths) → u ≡ side_of j t → side_of j (record { fits = u.fits; if_true = u.if_true; if_false = u.if_false }) ≡ t
side_again And t u e = e
side_again Or t u e = ap (λ (w : Truths). let z : Truths = record { fits = w.fits; if_true = w.if_false; if_false = w.if_true } in z) e

-- the first decides in any case
pub first_decides : (j : Junction) (n : Symbols) (fits : Bool) (p : Option Symbols) → DecidesBoth j n fits p None (side_of j (record { fits = fits; if_true = None; if_false = p }))
first_decides And n fits p k v x y None h g = record { truths = and_never v k n x y p h.truths; fits = and_never_looks v k n x y p fits h.truths h.fits }
first_decides And n fits p k v x y (Some m) h g = absurd g
first_decides Or n fits p k v x y None h g = record { truths = or_never v k n x y p h.truths; fits = or_never_looks v k n x y p fits h.truths h.fits }
first_decides Or n fits p k v x y (Some m) h g = absurd g

pub both_decide : (j : Junction) (n : Symbols) (fits : Bool) (p : Option Symbols) (s : Truths) (o : Option Symbols) → LeadsEither n p (side_of j s).if_false o
    → DecidesBoth j n fits p (Some s) (side_of j (record { fits = fits && (side_of j s).fits; if_true = (side_of j s).if_true; if_false = o }))
both_decide And n fits p s o e k v x y None h g = absurd (cc)
both_decide And n fits p s o e k v x y (Some m) h g = record {
  truths = and_decides v k n m g.0 x y p s.if_true s.if_false h.truths g.1.truths o e;
  fits = and_looks v k n m x y p fits s.fits h.truths h.fits g.1.fits;
}
both_decide Or n fits p s o e k v x y None h g = absurd (cc)
both_decide Or n fits p s o e k v x y (Some m) h g = record {
  truths = or_decides v k n m g.0 x y p s.if_true s.if_false h.truths g.1.truths o e;
  fits = or_looks v k n m x y p fits s.fits h.truths h.fits g.1.fits;
}
