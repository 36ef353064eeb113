-- An answer of an evaluation, with the fault of a transaction or with `Leaves128` alone.
use Rattle.std.specs.Prelude.{◌≡◌, refl, ℤ, Bool, true, false, List, if◌then◌else◌, Result, Ok, Err}
use Rattle.evaluation.specs.Numbers.{all_fit, within}
use Rattle.contract.specs.declared.fault.SemFault.{SemFault}
use Rattle.contract.specs.declared.fault.SemFault.TheVariants as sem
use Rattle.table.specs.declared.leaves.Leaves128.{Leaves128}
use Rattle.table.specs.Leaves.{fitting}

ok_by : {A : Type 0} (b : Bool) (x n : A) → ◌≡◌ {A = Result A SemFault} (Ok n) (if b then Ok x else Err sem.Leaves128) → ◌≡◌ {A = Result A Leaves128} (Ok n) (if b then Ok x else Err (record {}))
ok_by true x n h = cc
ok_by false x n h = absurd (cc)

err_by : {A : Type 0} (b : Bool) (x : A) (f : SemFault) (l : Leaves128) → ◌≡◌ {A = Result A SemFault} (Err f) (if b then Ok x else Err sem.Leaves128) → ◌≡◌ {A = Result A Leaves128} (Err l) (if b then Ok x else Err (record {}))
err_by true x f l h = absurd (cc)
err_by false x f l h = refl

pub fitting_ok : {A : Type 0} (ns : List ℤ) (x n : A) → Ok n ≡ within ns x → Ok n ≡ fitting ns x
fitting_ok ns x n h = ok_by (all_fit ns) x n h

pub fitting_err : {A : Type 0} (ns : List ℤ) (x : A) (f : SemFault) (l : Leaves128) → Err f ≡ within ns x → Err l ≡ fitting ns x
fitting_err ns x f l h = err_by (all_fit ns) x f l h
