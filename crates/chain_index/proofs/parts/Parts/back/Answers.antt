use Rattle.std.proofs.Common.{◌∙◌, ap, sym, subst}
use Rattle.std.specs.Map.{values_of}
use Rattle.chain_index.specs.PartsSupport.{AreNamed, front}
use Rattle.chain_index.proofs.ObjectLemmas.{values_taken, named_taken}
use Rattle.chain_index.proofs.parts.Parts.back.Goals as goal

pub invariant_of-self : goal.invariant_of-self
invariant_of-self c = subst AreNamed (sym c.truncate-4.ensures.entries) (named_taken c.args.sizes.now.objects c.self.inside.objects.entries c.self.invariant)

pub returns : goal.returns
returns c =
    let z = c.args.sizes.now in
    let o = ap values_of c.truncate-4.ensures.entries ∙ values_taken z.objects c.self.inside.objects.entries in
    (λ i. record {
      entries = c.truncate.ensures i;
      leaving = c.truncate-2.ensures.keys i;
      ids = c.truncate-3.ensures.keys i;
      objects = o i;
      moves = c.truncate-5.ensures.entries i;
      starts = c.truncate-6.ensures.keys i;
      datums = c.truncate-7.ensures.entries i;
    })
    ∙ ap (front z) c.self.view_is
