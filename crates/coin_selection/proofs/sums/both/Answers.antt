use Rattle.std.proofs.Common.{◌≡◌, Bool, true, false, Result, Err, refl, subst, ◌⊎◌, inl, inr}
use Rattle.std.specs.Result.{IsOkUnless}
use Rattle.builder_spec.specs.Bundle.Bundles.{too_large}
use Rattle.builder_spec.specs.Bundle.declared.fault.BundleFault.{BundleFault}
use Rattle.builder_spec.specs.Bundle.declared.fault.BundleFault.TheVariants as faults
use Rattle.builder_spec.proofs.HoldingLaws.{too_large_much}
use Rattle.coin_selection.proofs.sums.both.Goals as goal

told : {X : Type 0} {M : Type 0} (r : Result X BundleFault) (f : BundleFault) (b : Bool) → r ≡ Err f → (b ≡ true → r ≡ Err faults.TooLarge) → (b ≡ false → IsOkUnless r faults.Memory) → (b ≡ true → M) → (f ≡ faults.Memory) ⊎ ((f ≡ faults.TooLarge) × M)
told r f true e large fits much = inr (let k = large refl in cc, much refl)
told {X} r f false e large fits much = inl (subst (λ (s : Result X BundleFault). IsOkUnless s faults.Memory) e (fits refl))

pub returns-in-Err-clause-err : goal.returns-in-Err-clause-err
returns-in-Err-clause-err c =
    told c.add.result c.in-Err.fault (too_large c.args.left c.args.right.now) c.in-Err.is c.add.ensures.large c.add.ensures.fits
    (too_large_much c.args.left c.args.right.now c.entries.ensures.positive)
