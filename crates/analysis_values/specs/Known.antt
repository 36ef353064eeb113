-- What is known of a run in linear expressions.
use Rattle.std.specs.Prelude.{◌≡◌, ℕ, ◌<◌, pos, ◌≤ℤ◌, List, [], ◌∷◌, Option, option_map, IfSome}
use Rattle.std.specs.Option.{unwrap_or}
use Rattle.std.specs.FinMap.{get}
use Rattle.std.specs.FinMap.Entries.{find}
use Rattle.contract.specs.Names.declared.account.Account.{Account}
use Rattle.contract.specs.Names.declared.choice_id.ChoiceId.{ChoiceId}
use Rattle.contract.specs.Names.declared.party.Party.{Party}
use Rattle.contract.specs.Names.declared.token.Token.{Token}
use Rattle.contract.specs.Names.Orders.{account_cmp, choice_id_cmp, bytes_cmp}
use Rattle.contract.specs.declared.interval.Interval.{Interval}
use Rattle.contract.specs.declared.payment.Payment.{Payment}
use Rattle.contract.specs.States.States.{StateMaps, money_of}
use Rattle.semantics.specs.Reduction.{account_of}
use Rattle.linear.specs.Linear.{Linear, Valuation, number_at, IsBelow, number}
use Rattle.symbols.specs.Symbols.{Symbols, IsValued, IsClosed}
use Rattle.analysis_spec.specs.Runs.{paid_to}
use Rattle.analysis_spec.specs.Promises.{IsWritten}
use Rattle.analysis_walk.specs.Limits.{Scope, any_runs, written_runs, Allowed}

-- a state, the interval of its transaction, and what was paid, in expressions. Of two entries of a key the first counts; an
-- account without one holds 0, and so does what a party was paid of a token
pub record View : Type 0 where
  pub accounts : List (Account × Linear)
  pub choices : List (ChoiceId × Linear)
  pub bound : List (List ℕ × Linear)
  pub paid : List (Account × Linear)
  pub start : Linear
  pub end : Linear
  -- symbols that are times
  pub times : List ℕ

pub record Known : Type 0 where
  pub symbols : Symbols
  pub view : View

abbrev pub known : Symbols → View → Known
known k v = record { symbols = k; view = v }

abbrev pub known_with : View → Option Symbols → Option Known
known_with v o = option_map (λ m. known m v) o

abbrev pub held : List (Account × Linear) → Account → Linear
held es a = unwrap_or (find account_cmp a es) (number (pos 0))

-- an account holds an amount from now on
abbrev pub with_amount : View → Party → Token → Linear → View
with_amount v p t l = record v { accounts = (account_of p t, l) ∷ v.accounts }

-- .. of what is known: an account holds an amount, a party was paid one, a number was chosen, a value is bound
abbrev pub with_account : Known → Party → Token → Linear → Known
with_account k p t l = known k.symbols (with_amount k.view p t l)

abbrev pub with_paid : Known → Party → Token → Linear → Known
with_paid k p t l = known k.symbols (record (k.view) { paid = (account_of p t, l) ∷ k.view.paid })

abbrev pub with_choice : Known → ChoiceId → Linear → Known
with_choice k id l = known k.symbols (record (k.view) { choices = (id, l) ∷ k.view.choices })

abbrev pub with_bound : Known → List ℕ → Linear → Known
with_bound k x l = known k.symbols (record (k.view) { bound = (x, l) ∷ k.view.bound })

-- in runs whose times JSON can write these symbols are such times
abbrev pub AreTimes : Scope → Valuation → List ℕ → Type 0
AreTimes any_runs r xs = Unit {0}
AreTimes written_runs r [] = Unit {0}
AreTimes written_runs r (x ∷ xs) = IsWritten (r x) × AreTimes written_runs r xs

-- with these numbers for symbols, a view is of a state, an interval and payments
pub record IsSeen (scope : Scope) (r : Valuation) (v : View) (i : Interval) (s : StateMaps) (ps : List Payment) : Type 0 where
  pub accounts : (a : Account) → money_of s a ≡ number_at r (held v.accounts a)
  pub choices : (id : ChoiceId) → get s.choices id ≡ option_map (number_at r) (find choice_id_cmp id v.choices)
  pub bound : (x : List ℕ) → get s.bound_values x ≡ option_map (number_at r) (find bytes_cmp x v.bound)
  pub paid : (a : Account) → paid_to a.owner a.token ps ≡ number_at r (held v.paid a)
  pub start : i.from ≡ number_at r v.start
  pub end : i.to ≡ number_at r v.end
  pub valid : i.from ≤ℤ i.to
  pub times : AreTimes scope r v.times
  -- no account is below 0
  pub natural : (a : Account) → pos 0 ≤ℤ money_of s a
  -- the numbers of the state and the interval may be visited
  pub money : (a : Account) → Allowed scope (money_of s a)
  pub chosen : (id : ChoiceId) → IfSome (get s.choices id) (Allowed scope)
  pub values : (x : List ℕ) → IfSome (get s.bound_values x) (Allowed scope)
  pub from : Allowed scope i.from
  pub to : Allowed scope i.to

abbrev pub EntriesBelow : {K : Type 0} → ℕ → List (K × Linear) → Type 0
EntriesBelow n [] = Unit {0}
EntriesBelow n (e ∷ es) = IsBelow n e.1 × EntriesBelow n es

abbrev pub SymbolsBelow : ℕ → List ℕ → Type 0
SymbolsBelow n [] = Unit {0}
SymbolsBelow n (x ∷ xs) = (x < n) × SymbolsBelow n xs

-- a view speaks of symbols below a number alone
pub record SeesBelow (n : ℕ) (v : View) : Type 0 where
  pub accounts : EntriesBelow n v.accounts
  pub choices : EntriesBelow n v.choices
  pub bound : EntriesBelow n v.bound
  pub paid : EntriesBelow n v.paid
  pub start : IsBelow n v.start
  pub end : IsBelow n v.end
  pub times : SymbolsBelow n v.times

-- some numbers for symbols make all that is known true
pub record IsDescribed (scope : Scope) (k : Known) (i : Interval) (s : StateMaps) (ps : List Payment) : Type 0 where
  pub closed : IsClosed k.symbols
  pub below : SeesBelow k.symbols.next k.view
  pub numbers : Valuation
  pub valued : IsValued numbers k.symbols
  pub seen : IsSeen scope numbers k.view i s ps
