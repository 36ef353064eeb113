-- What moving an amount does to what is known, of whatever run that is true.
use Rattle.std.specs.Prelude.{◌≡◌, ◌≤◌, ℤ, pos, ◌+ℤ◌, ◌≤ℤ◌, Bool, List}
use Rattle.std.specs.List.{AllByRecursion}
use Rattle.contract.specs.Names.declared.account.Account.{Account}
use Rattle.contract.specs.Names.declared.party.Party.{Party}
use Rattle.contract.specs.Names.declared.payee.Payee.{Payee}
use Rattle.contract.specs.Names.declared.payee.Payee.TheVariants.{Party as ToParty}
use Rattle.contract.specs.Names.declared.token.Token.{Token}
use Rattle.contract.specs.declared.interval.Interval.{Interval}
use Rattle.contract.specs.declared.payment.Payment.{Payment}
use Rattle.contract.specs.States.States.{StateMaps, with_money, counted}
use Rattle.semantics.specs.Reduction.{account_of, balance, debited, credited, account_sums}
use Rattle.linear.specs.Linear.{Linear, Valuation, number_at, IsBelow, Agree}
use Rattle.analysis_spec.specs.declared.kind.AlarmKind.TheVariants.{Leaves128}
use Rattle.analysis_spec.specs.Runs.{reaches_party, paid_to}
use Rattle.analysis_walk.specs.Limits.{Scope, Allowed, GoesOn}
use Rattle.analysis_values.specs.Known.{Known, IsDescribed}
use Rattle.analysis_values.specs.Answered.{unless}
use Rattle.analysis_steps.specs.Amounts.{amount_paid}

-- what is known leads on to what is true of a run, in numbers that agree for the symbols so far
pub record Reaches (scope : Scope) (k : Known) (r : Valuation) (m : Known) (i : Interval) (s : StateMaps) (ps : List Payment) : Type 0 where
  pub grows : k.symbols.next ≤ m.symbols.next
  pub described : IsDescribed scope m i s ps
  pub agrees : Agree k.symbols.next described.numbers r

-- runs go on where a number is said to fit 128 bits
abbrev pub IsSaidToFit : Scope → Bool → Type 0
IsSaidToFit scope fit = GoesOn scope (unless fit Leaves128)

-- the account of a party gives so much
abbrev pub Debits : Known → Known → Party → Token → Linear → Type 0
Debits k m p t l =
    (scope : Scope) (i : Interval) (s : StateMaps) (ps : List Payment) (n : ℤ) → (d : IsDescribed scope k i s ps) → IsBelow k.symbols.next l → n ≡ number_at d.numbers l → pos 0 ≤ℤ n
    → n ≤ℤ balance s p t → Reaches scope k d.numbers m i (debited s p t n) ps

-- it gets so much
pub record IsGrown (scope : Scope) (k : Known) (r : Valuation) (m : Known) (i : Interval) (s : StateMaps) (ps : List Payment) (p : Party) (t : Token) (n : ℤ) (fit : Bool) : Type 0 where
  pub sum : IsSaidToFit scope fit → Allowed scope (balance s p t +ℤ n)
  pub known : Allowed scope (balance s p t +ℤ n) → Reaches scope k r m i (with_money s (account_of p t) (balance s p t +ℤ n)) ps

abbrev pub Grows : Known → Known → Party → Token → Linear → Bool → Type 0
Grows k m p t l fit =
    (scope : Scope) (i : Interval) (s : StateMaps) (ps : List Payment) (n : ℤ) → (d : IsDescribed scope k i s ps) → IsBelow k.symbols.next l → n ≡ number_at d.numbers l → pos 0 ≤ℤ n
    → IsGrown scope k d.numbers m i s ps p t n fit

-- with so much more paid to a payee
abbrev pub PaysMore : List Payment → List Payment → Payee → Token → ℤ → Type 0
PaysMore ps qs y t n = (a : Account) → paid_to a.owner a.token qs ≡ paid_to a.owner a.token ps +ℤ reaches_party a.owner y (counted a.token t n)

-- a party is paid so much
abbrev pub PaysOut : Known → Known → Party → Token → Linear → Type 0
PaysOut k m p t l =
    (scope : Scope) (i : Interval) (s : StateMaps) (ps qs : List Payment) (n : ℤ) → (d : IsDescribed scope k i s ps) → IsBelow k.symbols.next l → n ≡ number_at d.numbers l
    → PaysMore ps qs (ToParty p) t n → Reaches scope k d.numbers m i s qs

-- a payee gets so much
pub record IsCredited (scope : Scope) (k : Known) (r : Valuation) (m : Known) (i : Interval) (s : StateMaps) (ps : List Payment) (y : Payee) (t : Token) (n : ℤ) (fit : Bool) : Type 0 where
  pub sums : IsSaidToFit scope fit → AllByRecursion (Allowed scope) (account_sums s y t n)
  pub known : (qs : List Payment) → PaysMore ps qs y t n → AllByRecursion (Allowed scope) (account_sums s y t n) → Reaches scope k r m i (credited s y t n) qs

-- so much moves from the account of a party to a payee, whose account is looked up once the party's is reduced
abbrev pub Moves : Known → Known → Party → Payee → Token → Linear → Bool → Type 0
Moves k m p y t l fit =
    (scope : Scope) (i : Interval) (s : StateMaps) (ps : List Payment) (n : ℤ) → (d : IsDescribed scope k i s ps) → IsBelow k.symbols.next l → n ≡ number_at d.numbers l → pos 0 ≤ℤ n
    → n ≤ℤ balance s p t → IsCredited scope k d.numbers m i (debited s p t n) ps y t n fit

-- what is paid of an amount that is due moves so
abbrev pub Transfers : Known → Known → Party → Payee → Token → Linear → Bool → Type 0
Transfers k m p y t l fit =
    (scope : Scope) (i : Interval) (s : StateMaps) (ps : List Payment) (due : ℤ) → (d : IsDescribed scope k i s ps) → IsBelow k.symbols.next l → due ≡ number_at d.numbers l
    → let n = amount_paid (balance s p t) due in IsCredited scope k d.numbers m i (debited s p t n) ps y t n fit
