-- What is known where a deposit is taken off what its party was paid.
use Rattle.std.specs.Prelude.{◌≡◌, neg_ℤ, ◌-ℤ◌, Bool, true, List, Option}
use Rattle.std.specs.Option.{IsSomeAnd}
use Rattle.contract.specs.Names.declared.account.Account.{Account}
use Rattle.contract.specs.Names.declared.party.Party.{Party}
use Rattle.contract.specs.Names.declared.payee.Payee.TheVariants.{Party as ToParty}
use Rattle.contract.specs.Names.declared.token.Token.{Token}
use Rattle.contract.specs.declared.input.Input.{Input}
use Rattle.contract.specs.declared.interval.Interval.{Interval}
use Rattle.contract.specs.declared.payment.Payment.{Payment}
use Rattle.contract.specs.Tree.{ActionTree}
use Rattle.contract.specs.States.States.{StateMaps}
use Rattle.semantics.specs.Reduction.{balance}
use Rattle.semantics.specs.Applying.{matches, taken}
use Rattle.linear.specs.Linear.{Linear, Valuation, number_at, IsBelow}
use Rattle.symbols.specs.Symbols.{Symbols, IsValued, IsClosed, Gives}
use Rattle.analysis_spec.specs.Runs.{paid_to}
use Rattle.analysis_walk.specs.Limits.{any_runs}
use Rattle.analysis_walk.specs.Covered.{NoneTakes}
use Rattle.analysis_values.specs.Known.{Known, IsDescribed}
use Rattle.analysis_steps.specs.Moved.{PaysMore}
use Rattle.loss_walk.specs.Nets.{taken_off}

-- an expression stands for a difference
abbrev pub GivesDifference : Symbols → Symbols → Linear → Linear → Linear → Type 0
GivesDifference k m l n e = (r : Valuation) → IsClosed k → IsValued r k → IsBelow k.next l → IsBelow k.next n → Gives k r (m, e) (number_at r l -ℤ number_at r n)

-- a party is paid as much as an account holds
abbrev pub PutsHeld : Known → Known → Party → Party → Token → Type 0
PutsHeld k m p q t = (i : Interval) (s : StateMaps) (ps qs : List Payment) → IsDescribed any_runs k i s ps → PaysMore ps qs (ToParty p) t (balance s q t) → IsDescribed any_runs m i s qs

-- it is paid as much less
abbrev pub TakesHeld : Known → Known → Party → Party → Token → Type 0
TakesHeld k m p q t = (i : Interval) (s : StateMaps) (ps qs : List Payment) → IsDescribed any_runs k i s ps → PaysMore ps qs (ToParty p) t (neg_ℤ (balance s q t)) → IsDescribed any_runs m i s qs

-- what an input brings is taken off for whoever brings it, where that is asked
abbrev pub TakesOff : Bool → List Payment → List Payment → Input → Type 0
TakesOff net ps qs x = (a : Account) → paid_to a.owner a.token qs ≡ paid_to a.owner a.token ps -ℤ taken_off net a.owner a.token x

-- where an action takes an input that no earlier one takes, this is known then
abbrev pub Takes : Bool → Known → List ActionTree → ActionTree → Option Known → Type 0
Takes net k earlier a o =
    (i : Interval) (s : StateMaps) (ps : List Payment) (x : Input) → IsDescribed any_runs k i s ps → NoneTakes i s x earlier → matches i s x a ≡ true
    → IsSomeAnd o (λ m. (qs : List Payment) × IsDescribed any_runs m i (taken s x) qs × TakesOff net ps qs x)
