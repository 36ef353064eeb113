-- Which alarms are among those that are concluded.
use Rattle.std.proofs.Common.{◌≡◌, Bool, true, false, List, [], ◌∷◌, ◌++◌, refl, inl, inr}
use Rattle.analysis_spec.specs.declared.kind.AlarmKind.{AlarmKind}
use Rattle.analysis_spec.specs.declared.kind.AlarmKind.TheVariants.{Leaves128}
use Rattle.analysis_walk.specs.Limits.{Scope, any_runs, written_runs, GoesOn}
use Rattle.analysis_walk.specs.Conclusions.{IsAmong}
use Rattle.analysis_walk.proofs.ListLaws.{all_right}
use Rattle.analysis_values.specs.Answered.{unless}

pub among_unless : (b : Bool) (kind : AlarmKind) (rest : List AlarmKind) → b ≡ false → IsAmong (unless b kind ++ rest) kind
among_unless true kind rest h = absurd (cc)
among_unless false kind rest h = inl refl

pub among_right : (ks ls : List AlarmKind) (kind : AlarmKind) → IsAmong ls kind → IsAmong (ks ++ ls) kind
among_right [] ls kind h = h
among_right (k ∷ ks) ls kind h = inr (among_right ks ls kind h)

pub goes_right : (scope : Scope) (ks ls : List AlarmKind) → GoesOn scope (ks ++ ls) → GoesOn scope ls
goes_right any_runs ks ls h = tt
goes_right written_runs ks ls h = all_right (λ kind. kind ≡ Leaves128 → ⊥) ks ls h

-- a test that counts in runs whose times JSON can write alone
abbrev pub Fitting : Scope → Bool → Type 0
Fitting any_runs b = Unit {0}
Fitting written_runs b = b ≡ true

pub goes_fitting : (scope : Scope) (b : Bool) → GoesOn scope (unless b Leaves128) → Fitting scope b
goes_fitting any_runs b h = tt
goes_fitting written_runs true h = refl
goes_fitting written_runs false h = absurd (h.0 refl)
