-- What parties are paid where a contract is closed, account by account.
use Rattle.std.proofs.Common.{◌≡◌, ℕ, ◌<◌, ◌≤◌, ◌+◌, ℤ, pos, ◌≤ℤ◌, Bool, true, false, cond, List, [], ◌∷◌, ◌++◌, take, length, refl, sym, ap, subst, ◌∙◌, Option, Some, None, IfSome, ◌⊎◌, inl, inr, arith}
use Rattle.std.specs.Prelude.{is_some}
use Rattle.std.proofs.lemmas.Int.{ints}
use Rattle.std.proofs.Math.ListN.{get_or}
use Rattle.std.proofs.lemmas.List.{take_more, take_all}
use Rattle.std.specs.Option.{unwrap_or}
use Rattle.std.specs.Ordering.{eq_by_cmp}
use Rattle.std.specs.FinMap.Entries.{find, put, find-put}
use Rattle.contract.specs.Names.declared.account.Account.{Account}
use Rattle.contract.specs.Names.declared.party.Party.{Party}
use Rattle.contract.specs.Names.declared.token.Token.{Token}
use Rattle.contract.specs.Names.Orders.{account_cmp}
use Rattle.contract.specs.Names.Totals.{account_total}
use Rattle.contract.proofs.FromNames.Exact.{account_exact}
use Rattle.contract.proofs.FromNames.EqualLaws.{order_decides}
use Rattle.semantics.specs.Reduction.{account_of}
use Rattle.linear.specs.Linear.{Linear, number}
use Rattle.analysis_walk.specs.Conclusions.{ClosesIn}
use Rattle.analysis_walk.proofs.ListLaws.{all_append, all_weaker}
use Rattle.analysis_values.specs.Known.{Known, held, IsDescribed}
use Rattle.analysis_values.specs.Entries.{keys_of, other_keys}
use Rattle.analysis_values.proofs.NamedLaws.{named_or}
use Rattle.analysis_steps.proofs.CloseLaws.{closes_by}
use Rattle.analysis_walk.specs.declared.span.Span.{Span}
use Rattle.analysis_walk.specs.Spans.{nothing}
use Rattle.analysis_walk.specs.Rows.{range_of}
use Rattle.analysis_walk.specs.Knowledge.{ClosesBy}
use Rattle.analysis.specs.Closes.{ArePaid, IsNamed, NamesAll, Puts}

same_account : (a b : Account) → eq_by_cmp account_cmp a b ≡ true → a ≡ b
same_account a b e = (order_decides account_cmp account_total account_exact a b).0 e

-- ---- one account

module _ (k : Known) where
  pub puts_none : (a : Account) (spans : List (Account × Span)) → is_some (find account_cmp a spans) ≡ true → Puts k a spans spans
  puts_none a spans e = record { paid = λ h. h; own = e; kept = λ b h. h }

  paid_at : (a b : Account) (x : Span) (o : Option Span) (t : Bool) → eq_by_cmp account_cmp b a ≡ t → ClosesIn IsDescribed k (range_of a x ∷ []) → IfSome o (λ y. ClosesIn IsDescribed k (range_of b y ∷ []))
      → IfSome (cond t (Some x) o) (λ y. ClosesIn IsDescribed k (range_of b y ∷ []))
  paid_at a b x o true e h f = subst (λ (z : Account). ClosesIn IsDescribed k (range_of z x ∷ [])) (sym (same_account b a e)) h
  paid_at a b x o false e h f = f

  kept_at : (x : Span) (o : Option Span) (t : Bool) → is_some o ≡ true → is_some (cond t (Some x) o) ≡ true
  kept_at x o true h = refl
  kept_at x o false h = h

  pub puts_one : (a : Account) (x : Span) (old new : List (Account × Span)) → new ≡ put account_cmp a x old → ClosesIn IsDescribed k (range_of a x ∷ []) → Puts k a old new
  puts_one a x old new e h = record {
    paid = λ f b. subst (λ (o : Option Span). IfSome o (λ y. ClosesIn IsDescribed k (range_of b y ∷ []))) (sym (found b)) (paid_at a b x (find account_cmp b old) (eq_by_cmp account_cmp b a) refl h (f b));
    own = ap is_some (found a) ∙ ap (λ t. is_some (cond t (Some x) (find account_cmp a old))) ((order_decides account_cmp account_total account_exact a a).1 refl);
    kept = λ b f. ap is_some (found b) ∙ kept_at x (find account_cmp b old) (eq_by_cmp account_cmp b a) f;
  }
    where
      found : (b : Account) → find account_cmp b new ≡ cond (eq_by_cmp account_cmp b a) (Some x) (find account_cmp b old)
      found b = ap (find account_cmp b) e ∙ find-put account_cmp account_total b a x old

-- ---- account by account

pub named_more : (k : Known) (names : List Account) (i : ℕ) (a : Account) (old new : List (Account × Span)) → i < length names → a ≡ get_or names i a → NamesAll (take i names) old → Puts k a old new → NamesAll (take (i + 1) names) new
named_more k names i a old new l is h p =
    subst (λ (ns : List Account). NamesAll ns new) (sym (take_more names i a l ∙ ap (λ x. take i names ++ x ∷ []) (sym is)))
    (all_append (IsNamed new) (take i names) (a ∷ []) (all_weaker (IsNamed old) (IsNamed new) p.kept (take i names) h) (p.own, tt))

pub named_all : (names : List Account) (i : ℕ) (spans : List (Account × Span)) → length names ≤ i → NamesAll (take i names) spans → NamesAll names spans
named_all names i spans l h = subst (λ (ns : List Account). NamesAll ns spans) (take_all i names l) h

-- ---- who isn't named

none_named : (o : Option Span) → is_some o ≡ true → o ≡ None → ⊥
none_named None h e = absurd (cc)
none_named (Some x) h e = absurd (cc)

holds_zero : (es : List (Account × Linear)) (a : Account) → find account_cmp a es ≡ None → number (pos 0) ≡ held es a
holds_zero es a e = ap (λ (o : Option Linear). unwrap_or o (number (pos 0))) (sym e)

le_itself : (n : ℤ) → n ≤ℤ n
le_itself n = omega (arith, ints)

abbrev Names : Known → List Account
Names k = keys_of k.view.accounts ++ other_keys k.view.accounts k.view.paid

module _ (k : Known) (spans : List (Account × Span)) (paid : ArePaid k spans) (all : NamesAll (Names k) spans) where
  named_or_none : (a : Account) → ((find account_cmp a k.view.accounts ≡ None) × (find account_cmp a k.view.paid ≡ None)) ⊎ IsNamed spans a
  named_or_none a =
      named_or a (IsNamed spans a) k.view.accounts k.view.paid
      (all_weaker (IsNamed spans) (λ x. a ≡ x → IsNamed spans a) (λ x h q. subst (IsNamed spans) (sym q) h) (Names k) all)

  unnamed : (p : Party) (t : Token) → find account_cmp (account_of p t) spans ≡ None → ClosesIn IsDescribed k (record { party = p; token = t; least = Some (pos 0); most = Some (pos 0) } ∷ [])
  unnamed p t n = by_named (named_or_none (account_of p t))
    where
      by_named : ((find account_cmp (account_of p t) k.view.accounts ≡ None) × (find account_cmp (account_of p t) k.view.paid ≡ None)) ⊎ IsNamed spans (account_of p t)
          → ClosesIn IsDescribed k (record { party = p; token = t; least = Some (pos 0); most = Some (pos 0) } ∷ [])
      by_named (inl none) =
          closes_by k p t (number (pos 0)) (number (pos 0)) nothing (holds_zero k.view.paid (account_of p t) none.1) (holds_zero k.view.accounts (account_of p t) none.0)
          (λ r x y. le_itself (pos 0)) (λ r x y. le_itself (pos 0))
      by_named (inr h) = absurd (none_named (find account_cmp (account_of p t) spans) h n)

  pub closed : ClosesBy IsDescribed k spans
  closed p t = by_entry (find account_cmp (account_of p t) spans) refl (paid (account_of p t))
    where
      by_entry : (o : Option Span) → find account_cmp (account_of p t) spans ≡ o → IfSome o (λ x. ClosesIn IsDescribed k (range_of (account_of p t) x ∷ []))
          → ClosesIn IsDescribed k (record { party = p; token = t; least = (unwrap_or o nothing).least; most = (unwrap_or o nothing).most } ∷ [])
      by_entry None e h = unnamed p t e
      by_entry (Some x) e h = h
