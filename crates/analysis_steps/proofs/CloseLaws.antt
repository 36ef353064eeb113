-- What parties are paid in the end.
use Rattle.std.proofs.Common.{◌≡◌, ℤ, ◌+ℤ◌, ◌≤ℤ◌, List, [], ◌∷◌, ◌++◌, sym, ap, ◌∙◌, subst, Option, Some, None, IfSome}
use Rattle.contract.specs.Names.declared.party.Party.{Party}
use Rattle.contract.specs.Names.declared.token.Token.{Token}
use Rattle.contract.specs.declared.interval.Interval.{Interval}
use Rattle.contract.specs.declared.payment.Payment.{Payment}
use Rattle.contract.specs.States.States.{StateMaps, counted}
use Rattle.semantics.specs.Reduction.{account_of}
use Rattle.semantics.specs.Computed.{refunds}
use Rattle.linear.specs.Linear.{Linear, number_at, IsFrom, IsUpTo}
use Rattle.linear.specs.Bounded.{IsFromAll, IsUpToAll}
use Rattle.linear.specs.Combined.{StandsFor, AreBelow}
use Rattle.symbols.specs.Symbols.{Symbols}
use Rattle.analysis_spec.specs.Runs.{reaches_party, paid_to}
use Rattle.analysis_walk.specs.declared.span.Span.{Span}
use Rattle.analysis_walk.specs.Limits.{Scope, LiesIn}
use Rattle.analysis_walk.specs.Conclusions.{ClosesIn}
use Rattle.analysis_walk.proofs.PaidLaws.{total_append}
use Rattle.analysis_values.specs.Known.{Known, held, IsDescribed}
use Rattle.analysis_values.proofs.AccountLaws.{refunded_is}
use Rattle.analysis_steps.specs.Amounts.{IsFromSum, IsUpToSum}

-- ---- bounds of a sum

pub least_here : (k : Symbols) (l m e : Linear) (o : Option ℤ) → StandsFor (λ r. number_at r l +ℤ number_at r m) (AreBelow l m) e → IsFromAll k.ranges k.facts (λ r. number_at r e) o
    → IsFromAll k.ranges k.facts (λ r. number_at r l +ℤ number_at r m) o
least_here k l m e o s h r x y = subst (IsFrom o) (s.number r) (h r x y)

pub greatest_here : (k : Symbols) (l m e : Linear) (o : Option ℤ) → StandsFor (λ r. number_at r l +ℤ number_at r m) (AreBelow l m) e → IsUpToAll k.ranges k.facts (λ r. number_at r e) o
    → IsUpToAll k.ranges k.facts (λ r. number_at r l +ℤ number_at r m) o
greatest_here k l m e o s h r x y = subst (IsUpTo o) (s.number r) (h r x y)

-- ---- the end

from_bound : (o : Option ℤ) (x y : ℤ) → x ≡ y → IsFrom o y → IfSome o (λ n. n ≤ℤ x)
from_bound None x y e h = tt
from_bound (Some b) x y e h = subst (λ z. b ≤ℤ z) (sym e) h

up_bound : (o : Option ℤ) (x y : ℤ) → x ≡ y → IsUpTo o y → IfSome o (λ n. x ≤ℤ n)
up_bound None x y e h = tt
up_bound (Some b) x y e h = subst (λ z. z ≤ℤ b) (sym e) h

module _ (k : Known) (p : Party) (t : Token) (paid left : Linear) (least most : Option ℤ) (paid_is : paid ≡ held k.view.paid (account_of p t)) (left_is : left ≡ held k.view.accounts (account_of p t))
    (from : IsFromAll k.symbols.ranges k.symbols.facts (λ r. number_at r paid +ℤ number_at r left) least) (up_to : IsUpToAll k.symbols.ranges k.symbols.facts (λ r. number_at r paid +ℤ number_at r left) most) where
  paid_lies : (scope : Scope) (i : Interval) (s : StateMaps) (ps : List Payment) → IsDescribed scope k i s ps → LiesIn (ps ++ (refunds s).payments) (record { party = p; token = t; least = least; most = most })
  paid_lies scope i s ps d =
      let r = d.numbers in
      let e : paid_to p t (ps ++ (refunds s).payments) ≡ number_at r paid +ℤ number_at r left =
      total_append (λ (q : Payment). reaches_party p q.to (counted t q.token q.amount)) ps (refunds s).payments
      ∙ ap (λ z. paid_to p t ps +ℤ z) (refunded_is p t s ∙ d.seen.accounts (account_of p t) ∙ ap (number_at r) (sym left_is))
      ∙ ap (λ z. z +ℤ number_at r left) (d.seen.paid (account_of p t) ∙ ap (number_at r) (sym paid_is)) in
      (from_bound least _ _ e (from r d.valued.ranges d.valued.facts), up_bound most _ _ e (up_to r d.valued.ranges d.valued.facts))

pub closes_by : (k : Known) (p : Party) (t : Token) (paid left : Linear) (x : Span) → paid ≡ held k.view.paid (account_of p t) → left ≡ held k.view.accounts (account_of p t)
    → IsFromAll k.symbols.ranges k.symbols.facts (λ r. number_at r paid +ℤ number_at r left) x.least → IsUpToAll k.symbols.ranges k.symbols.facts (λ r. number_at r paid +ℤ number_at r left) x.most
    → ClosesIn IsDescribed k (record { party = p; token = t; least = x.least; most = x.most } ∷ [])
closes_by k p t paid left x e f g h scope i s ps d = (paid_lies k p t paid left x.least x.most e f g h scope i s ps d, tt)
