-- What parties are paid, where no least is told.
use Rattle.std.proofs.Common.{◌≡◌, ℤ, List, [], ◌∷◌, map, sym, subst, Option, Some, None, IfSome, Result, Ok, Err, IfOk}
use Rattle.contract.specs.Names.declared.party.Party.{Party}
use Rattle.contract.specs.Names.declared.token.Token.{Token}
use Rattle.contract.specs.Tree.{ContractTree}
use Rattle.contract.specs.States.States.{StateMaps}
use Rattle.analysis_spec.specs.declared.paid.PaidRange.{PaidRange}
use Rattle.analysis_spec.specs.Analysed.{PaysWithinRanges, IsUnnamed}
use Rattle.counter_runs.specs.Closing.{CanClose}
use Rattle.marlowe_analyse.specs.Told.{LeastsCanCome}
use Rattle.marlowe_analyse.specs.RunsSupport.{without_least, HoldRanges}

some_so : {X : Type 0} (o : Option ℤ) → X → IfSome o (λ n. X)
some_so None x = tt
some_so (Some n) x = x

-- where some run closes
pub leasts_come : (s : StateMaps) (c : ContractTree) (ranges : List PaidRange) → CanClose s c → LeastsCanCome ranges s c
leasts_come s c [] h = tt
leasts_come s c (r ∷ rs) h = (some_so r.least h, leasts_come s c rs h)

-- without leasts
pub no_leasts : (s : StateMaps) (c : ContractTree) (ranges : List PaidRange) → LeastsCanCome (map without_least ranges) s c
no_leasts s c [] = tt
no_leasts s c (r ∷ rs) = (tt, no_leasts s c rs)

still_paid : (s : StateMaps) (c : ContractTree) (ranges : List PaidRange) → PaysWithinRanges ranges s c → PaysWithinRanges (map without_least ranges) s c
still_paid s c [] h = tt
still_paid s c (r ∷ rs) h = (record { always = h.0.always; once_closed = λ ts z. tt }, still_paid s c rs h.1)

unnamed_before : (ranges : List PaidRange) (p : Party) (t : Token) → IsUnnamed (map without_least ranges) p t → IsUnnamed ranges p t
unnamed_before [] p t h = tt
unnamed_before (r ∷ rs) p t h = (h.0, unnamed_before rs p t h.1)

pub hold_without : (s : StateMaps) (c : ContractTree) (ranges : List PaidRange) → HoldRanges s c ranges → HoldRanges s c (map without_least ranges)
hold_without s c ranges h = record { paid = still_paid s c ranges h.paid; unpaid = λ p t u. h.unpaid p t (unnamed_before ranges p t u) }

-- .. of what a call returns
pub hold_so : {E : Type 0} (s : StateMaps) (c : ContractTree) (ranges : List PaidRange) (r : Result (List PaidRange) E) → IfOk r (λ all. all ≡ map without_least ranges) → HoldRanges s c ranges → IfOk r (HoldRanges s c)
hold_so s c ranges (Ok all) e h = subst (HoldRanges s c) (sym e) (hold_without s c ranges h)
hold_so s c ranges (Err f) e h = tt

pub leasts_so : {E : Type 0} (s : StateMaps) (c : ContractTree) (ranges : List PaidRange) (r : Result (List PaidRange) E) → IfOk r (λ all. all ≡ map without_least ranges) → IfOk r (λ told. LeastsCanCome told s c)
leasts_so s c ranges (Ok all) e = subst (λ (told : List PaidRange). LeastsCanCome told s c) (sym e) (no_leasts s c ranges)
leasts_so s c ranges (Err f) e = tt
