-- One reduction (Marlowe specification version 3, "Reduce contract step").
use Rattle.std.specs.Prelude.{◌≡◌, ℕ, ℤ, pos, ◌+ℤ◌, ◌-ℤ◌, ◌≤ℤ◌, ◌<ℤ◌, int_lt, Bool, List, [], ◌∷◌, ◌++◌, slice_get, if◌then◌else◌, ◌⊎◌, Option, Some, None}
use Rattle.std.specs.Int.{int_min}
use Rattle.std.specs.FinMap.{entries, get, insert}
use Rattle.contract.specs.Names.declared.party.Party.{Party}
use Rattle.contract.specs.Names.declared.token.Token.{Token}
use Rattle.contract.specs.Names.declared.account.Account.{Account}
use Rattle.contract.specs.Names.declared.payee.Payee.{Payee}
use Rattle.contract.specs.Names.declared.payee.Payee.TheVariants.{Account as ToAccount, Party as ToParty}
use Rattle.contract.specs.declared.interval.Interval.{Interval}
use Rattle.contract.specs.declared.payment.Payment.{Payment}
use Rattle.contract.specs.declared.warning.Warning.{Warning}
use Rattle.contract.specs.declared.warning.Warning.TheVariants.{NonPositivePay, PartialPay, Shadowing, AssertionFailed}
use Rattle.contract.specs.States.States.{StateMaps, money_of, with_money}
use Rattle.contract.specs.Tree.{ContractTree, close, pay, if_obs, when, let_be, assert}
use Rattle.evaluation.specs.Evaluation.{eval, visited, holds, looked}
use Rattle.semantics.specs.Walk.{Turn, refund, next, then_branch, else_branch, timed_out}

-- the numbers that it visits, what it says and pays, its turn, and where it leads
pub record Reduction : Type 0 where
  pub numbers : List ℤ
  pub warnings : List Warning
  pub payments : List Payment
  pub turn : Turn
  pub state : StateMaps
  pub contract : ContractTree

-- one that pays nothing
abbrev pub going : List ℤ → List Warning → Turn → StateMaps → ContractTree → Reduction
going ns ws t s c = record { numbers = ns; warnings = ws; payments = []; turn = t; state = s; contract = c }

-- ---- Close

-- the first account in order, and what it holds
abbrev pub first_account : StateMaps → Option (Account × ℤ)
first_account s = slice_get (entries s.accounts) 0

-- what an account holds is paid from its owner to that same party
abbrev pub refund_of : Account × ℤ → Payment
refund_of e = record { from = e.0.owner; to = ToParty e.0.owner; token = e.0.token; amount = e.1 }

-- the account is removed and paid out
abbrev pub refunded : StateMaps → Account × ℤ → Reduction
refunded s e = record { numbers = []; warnings = []; payments = refund_of e ∷ []; turn = refund; state = with_money s e.0 (pos 0); contract = close }

-- ---- Pay

abbrev pub account_of : Party → Token → Account
account_of p t = record { owner = p; token = t }

-- what a party's account holds of a token
abbrev pub balance : StateMaps → Party → Token → ℤ
balance s p t = money_of s (account_of p t)

-- the payer's account is reduced
abbrev pub debited : StateMaps → Party → Token → ℤ → StateMaps
debited s p t paid = with_money s (account_of p t) (balance s p t -ℤ paid)

-- then the account of a payee that is one grows, and so a sum is made
abbrev pub credited : StateMaps → Payee → Token → ℤ → StateMaps
credited s (ToAccount p) t paid = with_money s (account_of p t) (balance s p t +ℤ paid)
credited s (ToParty p) t paid = s

abbrev pub account_sums : StateMaps → Payee → Token → ℤ → List ℤ
account_sums s (ToAccount p) t paid = (balance s p t +ℤ paid) ∷ []
account_sums s (ToParty p) t paid = []

-- less is paid than is due
abbrev pub partial_pay : Party → Payee → Token → ℤ → ℤ → List Warning
partial_pay p y t paid due = if int_lt paid due then PartialPay p y t paid due ∷ [] else []

-- an amount above 0 is due: the lesser of balance and amount is paid
abbrev pub paying : StateMaps → Party → Payee → Token → ℤ → ℤ → List ℤ → ContractTree → Reduction
paying s p y t due paid ns c =
    record { numbers = ns ++ account_sums (debited s p t paid) y t paid; warnings = partial_pay p y t paid due; payments = record { from = p; to = y; token = t; amount = paid } ∷ []; turn = next; state = credited (debited s p t paid) y t paid; contract = c }

abbrev pub paying_lesser : StateMaps → Party → Payee → Token → ℤ → List ℤ → ContractTree → Reduction
paying_lesser s p y t due ns c = paying s p y t due (int_min (balance s p t) due) ns c

-- 0 or less is due: nothing is paid
abbrev pub not_paying : StateMaps → Party → Payee → Token → ℤ → List ℤ → ContractTree → Reduction
not_paying s p y t due ns c = going ns (NonPositivePay p y t due ∷ []) next s c

-- ---- If, When, Let and Assert

-- the branch that the observation chooses
abbrev pub choosing : StateMaps → Bool → List ℤ → ContractTree → ContractTree → Reduction
choosing s b ns c d = going ns [] (if b then then_branch else else_branch) s (if b then c else d)

-- the timeout continuation
abbrev pub timing_out : StateMaps → ContractTree → Reduction
timing_out s c = going [] [] timed_out s c

abbrev pub with_bound : StateMaps → List ℕ → ℤ → StateMaps
with_bound s x n = record s { bound_values = insert s.bound_values x n }

-- a name that was bound before
abbrev pub shadowing : List ℕ → Option ℤ → ℤ → List Warning
shadowing x None new = []
shadowing x (Some old) new = Shadowing x old new ∷ []

abbrev pub binding : StateMaps → List ℕ → ℤ → List ℤ → ContractTree → Reduction
binding s x n ns c = going ns (shadowing x (get s.bound_values x) n) next (with_bound s x n) c

abbrev pub asserting : StateMaps → Bool → List ℤ → ContractTree → Reduction
asserting s b ns c = going ns (if b then [] else AssertionFailed ∷ []) next s c

-- ---- the table

-- a contract reduces so, in a fixed interval and a state
abbrev pub Reduces : Interval → StateMaps → ContractTree → Reduction → Type 0
Reduces i s close r = (e : Account × ℤ) × (first_account s ≡ Some e) × (r ≡ refunded s e)
Reduces i s (pay p y t v c) r =
    ((eval i s v ≤ℤ pos 0) × (r ≡ not_paying s p y t (eval i s v) (visited i s v) c))
    ⊎ ((pos 0 <ℤ eval i s v) × (r ≡ paying_lesser s p y t (eval i s v) (visited i s v) c))
Reduces i s (if_obs o c d) r = r ≡ choosing s (holds i s o) (looked i s o) c d
Reduces i s (when ks timeout c) r = (timeout ≤ℤ i.from) × (r ≡ timing_out s c)
Reduces i s (let_be x v c) r = r ≡ binding s x (eval i s v) (visited i s v) c
Reduces i s (assert o c) r = r ≡ asserting s (holds i s o) (looked i s o) c

-- nothing is left to reduce: Close without accounts, or a When that waits
abbrev pub Quiet : Interval → StateMaps → ContractTree → Type 0
Quiet i s close = entries s.accounts ≡ []
Quiet i s (when ks timeout c) = i.to <ℤ timeout
Quiet i s _ = ⊥

-- the interval lies on both sides of a timeout
abbrev pub IsAmbiguous : Interval → StateMaps → ContractTree → Type 0
IsAmbiguous i s (when ks timeout c) = (i.from <ℤ timeout) × (timeout ≤ℤ i.to)
IsAmbiguous i s _ = ⊥
