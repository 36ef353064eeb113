-- What is concluded of a Pay, a Let, an Assert and a deposit.
use Rattle.std.proofs.Common.{◌≡◌, ℕ, ℤ, pos, ◌+ℤ◌, ◌-ℤ◌, ◌≤ℤ◌, ◌<ℤ◌, int_lt, Bool, true, false, not, cond, ◌&&◌, List, [], ◌∷◌, ◌++◌, refl, sym, ap, ◌∙◌, subst, arith, Option, Some, None, IfSome, inl, inr, ◌⊎◌}
use Rattle.std.proofs.lemmas.Int.{ints}
use Rattle.std.specs.Prelude.{option_map, is_some}
use Rattle.std.specs.Int.{int_min, int_max}
use Rattle.std.specs.List.{AllByRecursion}
use Rattle.std.specs.Option.{is_none, IsSomeAnd}
use Rattle.std.specs.Ordering.{eq_by_cmp}
use Rattle.std.specs.FinMap.Entries.{find}
use Rattle.std.specs.FinMap.{get, get-insert}
use Rattle.contract.specs.Names.declared.account.Account.{Account}
use Rattle.contract.specs.Names.declared.party.Party.{Party}
use Rattle.contract.specs.Names.declared.payee.Payee.{Payee}
use Rattle.contract.specs.Names.declared.payee.Payee.TheVariants.{Account as ToAccount, Party as ToParty}
use Rattle.contract.specs.Names.declared.token.Token.{Token}
use Rattle.contract.specs.Names.Orders.{account_cmp, bytes_cmp}
use Rattle.contract.specs.Names.Totals.{bytes_total}
use Rattle.contract.specs.declared.input.Input.TheVariants.{Deposit}
use Rattle.contract.specs.declared.interval.Interval.{Interval}
use Rattle.contract.specs.declared.payment.Payment.{Payment}
use Rattle.contract.specs.declared.warning.Warning.TheVariants as warnings
use Rattle.contract.specs.Tree.{ValueTree, available_money, constant, neg_value, add_value, sub_value, mul_value, div_value, choice_value, time_interval_start, time_interval_end, use_value, cond_value, ObservationTree, ContractTree}
use Rattle.contract.specs.States.States.{StateMaps, money_of, with_money}
use Rattle.contract.proofs.FromStates.Accounts.{money_of-with_money}
use Rattle.semantics.specs.Evaluation.Evaluation.{eval, visited, holds, looked}
use Rattle.semantics.specs.Reduction.{Reduction, account_of, balance, debited, credited, account_sums, paying, not_paying, partial_pay, binding, asserting, with_bound, shadowing}
use Rattle.semantics.specs.Applying.{taken, taken_numbers, taken_warnings}
use Rattle.semantics.specs.Computed.{pay_step}
use Rattle.linear.specs.Linear.{Linear, Valuation, number_at}
use Rattle.symbols.specs.Symbols.{Gives}
use Rattle.symbols.specs.Either.{IsAtLeast}
use Rattle.linear.proofs.NumberLaws.{true_lt, false_lt}
use Rattle.analysis_spec.specs.declared.kind.AlarmKind.{AlarmKind}
use Rattle.analysis_spec.specs.declared.kind.AlarmKind.TheVariants.{NonPositiveDeposit, NonPositivePay, PartialPay, Shadowing, AssertionFailed, Leaves128}
use Rattle.analysis_spec.specs.Promises.{kind_of}
use Rattle.analysis_walk.specs.Limits.{Scope, any_runs, written_runs, Allowed, GoesOn}
use Rattle.analysis_walk.specs.Conclusions.{IsAmong, Concludes, PaysSo, BindsSo, AssertsSo, ObservesSo}
use Rattle.analysis_walk.proofs.ListLaws.{all_append, all_right}
use Rattle.analysis_values.specs.Known.{View, Known, held, IsSeen, SeesBelow, IsDescribed, known}
use Rattle.analysis_values.specs.Answered.{unless, GoesTo, Evaluates, FitsWhereSaid, Decides, Unites}
use Rattle.analysis_values.proofs.KnownLaws.{sees_more, same_seen}
use Rattle.analysis_values.proofs.AccountLaws.{same_money_seen, account_decides, pays_one, pays_none}
use Rattle.analysis_values.proofs.AnsweredLaws.{among_unless, among_right, goes_right}
use Rattle.analysis_steps.specs.Amounts.{IsAbove, GivesAdded}
use Rattle.analysis_steps.specs.Earlier.{PutsIn}
use Rattle.analysis_steps.specs.Moved.{IsSaidToFit, IsGrown, Grows, IsCredited, Transfers}
use Rattle.analysis_steps.proofs.AmountLemmas.{min_is, max_left, max_above, max_none}
use Rattle.analysis_steps.proofs.MovedLemmas.{described_on}

-- ---- alarms

among_left : (ks ls : List AlarmKind) (kind : AlarmKind) → IsAmong ks kind → IsAmong (ks ++ ls) kind
among_left [] ls kind h = absurd h
among_left (k ∷ ks) ls kind (inl e) = inl e
among_left (k ∷ ks) ls kind (inr h) = inr (among_left ks ls kind h)

among_alone : (b : Bool) (kind : AlarmKind) → b ≡ false → IsAmong (unless b kind) kind
among_alone true kind h = absurd (cc)
among_alone false kind h = inl refl

said_both : (scope : Scope) (a b : Bool) → IsSaidToFit scope (a && b) → IsSaidToFit scope a × IsSaidToFit scope b
said_both any_runs a b h = (tt, tt)
said_both written_runs true b h = (tt, h)
said_both written_runs false b h = absurd (h.0 refl)

not_shown : (b : Bool) → (b ≡ true → ⊥) → b ≡ false
not_shown true h = absurd (h refl)
not_shown false h = refl

not_above : (n : ℤ) → n ≤ℤ pos 0 → pos 0 <ℤ n → ⊥
not_above n h k = omega (arith, ints)

lt_same : (a b : ℤ) → a ≡ b → a <ℤ b → ⊥
lt_same a b e h = omega (arith, ints)

pub one_put : (x y u : List AlarmKind) → x ≡ [] → y ≡ x ++ u → y ≡ u
one_put x y u e f = f ∙ ap (λ (w : List AlarmKind). w ++ u) e

pub two_put : (x y z u v : List AlarmKind) → x ≡ [] → y ≡ x ++ u → z ≡ y ++ v → z ≡ u ++ v
two_put x y z u v e f g = g ∙ ap (λ (w : List AlarmKind). w ++ v) (f ∙ ap (λ (w : List AlarmKind). w ++ u) e)

pub three_put : (x y z a u v w : List AlarmKind) → x ≡ [] → y ≡ x ++ u → z ≡ y ++ v → a ≡ z ++ w → a ≡ (u ++ v) ++ w
three_put x y z a u v w e f g h = h ∙ ap (λ (t : List AlarmKind). t ++ w) (two_put x y z u v e f g)

-- ---- Pay

plus_none : (n : ℤ) → n +ℤ pos 0 ≡ n
plus_none n = omega (arith, ints)

-- an account that gives and gets nothing
nothing_moves : (s : StateMaps) (p : Party) (y : Payee) (t : Token) (a : Account) → money_of (credited (debited s p t (pos 0)) y t (pos 0)) a ≡ money_of s a
nothing_moves s p y t a = by_payee y ∙ of_debit
  where
    less_none : (n : ℤ) → n -ℤ pos 0 ≡ n
    less_none n = omega (arith, ints)

    more_none : (n : ℤ) → n +ℤ pos 0 ≡ n
    more_none n = omega (arith, ints)

    by_same : (s : StateMaps) (b : Account) (n : ℤ) → n ≡ money_of s b → money_of (with_money s b n) a ≡ money_of s a
    by_same s b n h = money_of-with_money s b n a ∙ by_test (eq_by_cmp account_cmp a b) refl
      where
        by_test : (t : Bool) → eq_by_cmp account_cmp a b ≡ t → cond t n (money_of s a) ≡ money_of s a
        by_test true e = h ∙ ap (money_of s) (sym ((account_decides a b).0 e))
        by_test false e = refl

    of_debit : money_of (debited s p t (pos 0)) a ≡ money_of s a
    of_debit = by_same s (account_of p t) (balance s p t -ℤ pos 0) (less_none (balance s p t))

    by_payee : (y : Payee) → money_of (credited (debited s p t (pos 0)) y t (pos 0)) a ≡ money_of (debited s p t (pos 0)) a
    by_payee (ToAccount q) = by_same (debited s p t (pos 0)) (account_of q t) (balance (debited s p t (pos 0)) q t +ℤ pos 0) (more_none (balance (debited s p t (pos 0)) q t))
    by_payee (ToParty q) = refl

-- then the sums that it makes are what accounts held
none_allowed : (scope : Scope) (s : StateMaps) (p : Party) (y : Payee) (t : Token) → ((a : Account) → Allowed scope (money_of s a)) → AllByRecursion (Allowed scope) (account_sums (debited s p t (pos 0)) y t (pos 0))
none_allowed scope s p (ToAccount q) t h = (subst (Allowed scope) (sym (plus_none (balance (debited s p t (pos 0)) q t) ∙ nothing_moves s p (ToParty p) t (account_of q t))) (h (account_of q t)), tt)
none_allowed scope s p (ToParty q) t h = tt

credited_choices : (s : StateMaps) (y : Payee) (t : Token) (n : ℤ) → (credited s y t n).choices ≡ s.choices
credited_choices s (ToAccount p) t n = refl
credited_choices s (ToParty p) t n = refl

credited_bound : (s : StateMaps) (y : Payee) (t : Token) (n : ℤ) → (credited s y t n).bound_values ≡ s.bound_values
credited_bound s (ToAccount p) t n = refl
credited_bound s (ToParty p) t n = refl

abbrev pay_kinds : Bool → Bool → Bool → List AlarmKind
pay_kinds above covered fit = (unless above NonPositivePay ++ unless covered PartialPay) ++ unless fit Leaves128

module _ (k z m : Known) (p : Party) (y : Payee) (t : Token) (v : ValueTree) (l b : Linear) (above covered fit moved : Bool) (evaluates : Evaluates k v z l) (said : FitsWhereSaid k v fit)
    (is_above : above ≡ true → IsAbove z.symbols l) (is_covered : covered ≡ true → IsAtLeast z.symbols b l) (is_balance : b ≡ held z.view.accounts (account_of p t)) (transfers : Transfers z m p y t l moved)
    (scope : Scope) (i : Interval) (s : StateMaps) (ps : List Payment) (c : ContractTree) (d : IsDescribed scope k i s ps) where
  abbrev due : ℤ
  due = eval i s v

  abbrev given : Gives k.symbols d.numbers (z.symbols, l) due
  given = evaluates.gives scope i s ps d

  abbrev then : IsDescribed scope z i s ps
  then = described_on scope k i s ps d z l due evaluates.view given

  abbrev kinds : List AlarmKind
  kinds = pay_kinds above covered (fit && moved)

  abbrev Moved : ℤ → Type 0
  Moved n = IsCredited scope z given.values m i (debited s p t n) ps y t n moved

  due_above : above ≡ true → pos 0 <ℤ due
  due_above h = subst (λ n. pos 0 <ℤ n) (sym given.number) (is_above h given.values given.valued)

  due_covered : covered ≡ true → due ≤ℤ balance s p t
  due_covered h =
      subst (λ n. n ≤ℤ balance s p t) (sym given.number) (subst (λ n. number_at given.values l ≤ℤ n) (ap (number_at given.values) is_balance ∙ sym (then.seen.accounts (account_of p t))) (is_covered h given.values given.valued))

  goes : GoesOn scope kinds → IsSaidToFit scope fit × IsSaidToFit scope moved
  goes h = said_both scope fit moved (goes_right scope (unless above NonPositivePay ++ unless covered PartialPay) (unless (fit && moved) Leaves128) h)

  partly : (n : ℤ) → (due ≤ℤ balance s p t → n ≡ due) → AllByRecursion (λ w. IsAmong kinds (kind_of w)) (partial_pay p y t n due)
  partly n h = by_test (int_lt n due) refl
    where
      by_test : (b : Bool) → int_lt n due ≡ b → AllByRecursion (λ w. IsAmong kinds (kind_of w)) (cond b (warnings.PartialPay p y t n due ∷ []) [])
      by_test true f = (
        among_left (unless above NonPositivePay ++ unless covered PartialPay) (unless (fit && moved) Leaves128) PartialPay
            (among_right (unless above NonPositivePay) (unless covered PartialPay) PartialPay (among_alone covered PartialPay (not_shown covered (λ q. lt_same n due (h (due_covered q)) (true_lt n due f))))),
        tt,
      )
      by_test false f = tt

  pay_concludes : let r = pay_step s p y t due (visited i s v) c in Concludes IsDescribed scope (record { kinds = kinds; known = Some m }) i r.numbers r.warnings r.state (ps ++ r.payments)
  pay_concludes = by_test (int_lt (pos 0) due) refl (transfers scope i s ps due then given.below given.number)
    where
      by_test : (b : Bool) → int_lt (pos 0) due ≡ b → Moved (cond b (int_min (balance s p t) due) (pos 0))
          → let r : Reduction = cond b (paying s p y t due (int_min (balance s p t) due) (visited i s v) c) (not_paying s p y t due (visited i s v) c) in
          Concludes IsDescribed scope (record { kinds = kinds; known = Some m }) i r.numbers r.warnings r.state (ps ++ r.payments)
      by_test true f g =
          let n = int_min (balance s p t) due in
          record {
            warned = partly n (λ h. min_is (balance s p t) due h);
            numbers = λ h. all_append (Allowed scope) (visited i s v) (account_sums (debited s p t n) y t n) (said scope i s ps d (goes h).0) (g.sums (goes h).1);
            known = λ h. (g.known (ps ++ record { from = p; to = y; token = t; amount = n } ∷ []) (pays_one ps p y t n) (all_right (Allowed scope) (visited i s v) (account_sums (debited s p t n) y t n) h)).described;
          }
      by_test false f g =
          let low = false_lt (pos 0) due f in
          record {
            warned = (
              among_left (unless above NonPositivePay ++ unless covered PartialPay) (unless (fit && moved) Leaves128) NonPositivePay
                  (among_unless above NonPositivePay (unless covered PartialPay) (not_shown above (λ q. not_above due low (due_above q)))),
              tt,
            );
            numbers = λ h. said scope i s ps d (goes h).0;
            known = λ h.
                let a = (g.known (ps ++ []) (pays_none ps y t) (none_allowed scope s p y t d.seen.money)).described in
                record {
                  closed = a.closed;
                  below = a.below;
                  numbers = a.numbers;
                  valued = a.valued;
                  seen = same_money_seen scope a.numbers i m.view (credited (debited s p t (pos 0)) y t (pos 0)) s (ps ++ []) (ps ++ []) (λ c. sym (nothing_moves s p y t c))
                      (sym (credited_choices (debited s p t (pos 0)) y t (pos 0))) (sym (credited_bound (debited s p t (pos 0)) y t (pos 0))) (λ c. refl) a.seen;
                };
          }

pub pay_so : (k z m : Known) (p : Party) (y : Payee) (t : Token) (v : ValueTree) (l b : Linear) (above covered fit moved : Bool) (ks : List AlarmKind) → Evaluates k v z l → FitsWhereSaid k v fit
    → (above ≡ true → IsAbove z.symbols l) → (covered ≡ true → IsAtLeast z.symbols b l) → b ≡ held z.view.accounts (account_of p t) → Transfers z m p y t l moved
    → ks ≡ (unless above NonPositivePay ++ unless covered PartialPay) ++ unless (fit && moved) Leaves128 → PaysSo IsDescribed k p y t v (record { kinds = ks; known = Some m })
pay_so k z m p y t v l b above covered fit moved ks e f g h j x q =
    subst (λ ks. PaysSo IsDescribed k p y t v (record { kinds = ks; known = Some m })) (sym q) (λ scope i s ps c d. pay_concludes k z m p y t v l b above covered fit moved e f g h j x scope i s ps c d)

-- ---- deposits

nothing_added : (s : StateMaps) (p : Party) (t : Token) (a : Account) → money_of (with_money s (account_of p t) (balance s p t +ℤ pos 0)) a ≡ money_of s a
nothing_added s p t a = money_of-with_money s (account_of p t) (balance s p t +ℤ pos 0) a ∙ by_test (eq_by_cmp account_cmp a (account_of p t)) refl
  where
    more_none : (n : ℤ) → n +ℤ pos 0 ≡ n
    more_none n = omega (arith, ints)

    by_test : (b : Bool) → eq_by_cmp account_cmp a (account_of p t) ≡ b → cond b (balance s p t +ℤ pos 0) (money_of s a) ≡ money_of s a
    by_test true e = more_none (balance s p t) ∙ ap (money_of s) (sym ((account_decides a (account_of p t)).0 e))
    by_test false e = refl

module _ (k z w m : Known) (p : Party) (t : Token) (v : ValueTree) (l e : Linear) (above fit grown : Bool) (evaluates : Evaluates k v z l) (said : FitsWhereSaid k v fit)
    (is_above : above ≡ true → IsAbove z.symbols l) (added : GivesAdded z.symbols w.symbols l e) (same : w.view ≡ z.view) (grows : Grows w m p t e grown)
    (scope : Scope) (i : Interval) (s : StateMaps) (ps : List Payment) (q : Party) (d : IsDescribed scope k i s ps) where
  abbrev due_in : ℤ
  due_in = eval i s v

  abbrev given_in : Gives k.symbols d.numbers (z.symbols, l) due_in
  given_in = evaluates.gives scope i s ps d

  abbrev then_in : IsDescribed scope z i s ps
  then_in = described_on scope k i s ps d z l due_in evaluates.view given_in

  abbrev more : Gives z.symbols given_in.values (w.symbols, e) (int_max (pos 0) (number_at given_in.values l))
  more = added given_in.values given_in.closed given_in.valued given_in.below

  abbrev after : IsDescribed scope w i s ps
  after = described_on scope z i s ps then_in w e (int_max (pos 0) (number_at given_in.values l)) same more

  abbrev kinds_in : List AlarmKind
  kinds_in = unless above NonPositiveDeposit ++ unless (fit && grown) Leaves128

  goes_in : GoesOn scope kinds_in → IsSaidToFit scope fit × IsSaidToFit scope grown
  goes_in h = said_both scope fit grown (goes_right scope (unless above NonPositiveDeposit) (unless (fit && grown) Leaves128) h)

  abbrev Grown : ℤ → Type 0
  Grown n = IsGrown scope w more.values m i s ps p t n grown

  amount_grown : Grown (int_max (pos 0) due_in)
  amount_grown = grows scope i s ps (int_max (pos 0) due_in) after more.below (ap (int_max (pos 0)) given_in.number ∙ more.number) (max_left (pos 0) due_in)

  deposit_concludes : Concludes IsDescribed scope (record { kinds = kinds_in; known = Some m }) i (visited i s v ++ taken_numbers s (Deposit p q t due_in)) (taken_warnings (Deposit p q t due_in)) (taken s (Deposit p q t due_in)) ps
  deposit_concludes = by_test (int_lt (pos 0) due_in) refl
    where
      by_test : (b : Bool) → int_lt (pos 0) due_in ≡ b → Concludes IsDescribed scope (record { kinds = kinds_in; known = Some m }) i (visited i s v ++ cond b ((balance s p t +ℤ due_in) ∷ []) [])
          (cond b [] (warnings.NonPositiveDeposit p q t due_in ∷ [])) (cond b (with_money s (account_of p t) (balance s p t +ℤ due_in)) s) ps
      by_test true f =
          let g = subst Grown (max_above due_in (true_lt (pos 0) due_in f)) amount_grown in
          record {
            warned = tt;
            numbers = λ h. all_append (Allowed scope) (visited i s v) ((balance s p t +ℤ due_in) ∷ []) (said scope i s ps d (goes_in h).0) (g.sum (goes_in h).1, tt);
            known = λ h. (g.known (all_right (Allowed scope) (visited i s v) ((balance s p t +ℤ due_in) ∷ []) h).0).described;
          }
      by_test false f =
          let low = false_lt (pos 0) due_in f in
          let g = subst Grown (max_none due_in low) amount_grown in
          record {
            warned = (
              among_unless above NonPositiveDeposit (unless (fit && grown) Leaves128)
                  (not_shown above (λ h. not_above due_in low (subst (λ n. pos 0 <ℤ n) (sym given_in.number) (is_above h given_in.values given_in.valued)))),
              tt,
            );
            numbers = λ h. all_append (Allowed scope) (visited i s v) [] (said scope i s ps d (goes_in h).0) tt;
            known = λ h.
                let a = (g.known (subst (Allowed scope) (sym (plus_none (balance s p t))) (d.seen.money (account_of p t)))).described in
                record {
                  closed = a.closed;
                  below = a.below;
                  numbers = a.numbers;
                  valued = a.valued;
                  seen = same_money_seen scope a.numbers i m.view (with_money s (account_of p t) (balance s p t +ℤ pos 0)) s ps ps (λ c. sym (nothing_added s p t c)) refl refl (λ c. refl) a.seen;
                };
          }

pub put_so : (k z w m : Known) (p : Party) (t : Token) (v : ValueTree) (l e : Linear) (above fit grown : Bool) (ks : List AlarmKind) → Evaluates k v z l → FitsWhereSaid k v fit
    → (above ≡ true → IsAbove z.symbols l) → GivesAdded z.symbols w.symbols l e → w.view ≡ z.view → Grows w m p t e grown → ks ≡ unless above NonPositiveDeposit ++ unless (fit && grown) Leaves128
    → PutsIn k p t v (record { kinds = ks; known = Some m })
put_so k z w m p t v l e above fit grown ks f g h a same x q =
    subst (λ ks. PutsIn k p t v (record { kinds = ks; known = Some m })) (sym q)
    (λ scope i s ps from d. deposit_concludes k z w m p t v l e above fit grown f g h a same x scope i s ps from d)

-- ---- Let

one_branch : (scope : Scope) (b : Bool) (xs ys : List ℤ) (m n : ℤ) → (AllByRecursion (Allowed scope) xs → Allowed scope m) → (AllByRecursion (Allowed scope) ys → Allowed scope n)
    → AllByRecursion (Allowed scope) (cond b xs ys) → Allowed scope (cond b m n)
one_branch scope true xs ys m n f g h = f h
one_branch scope false xs ys m n f g h = g h

-- the number of a value is the last that it visits
number_visited : (scope : Scope) (i : Interval) (s : StateMaps) (x : ValueTree) → AllByRecursion (Allowed scope) (visited i s x) → Allowed scope (eval i s x)
number_visited scope i s (available_money p t) h = h.0
number_visited scope i s (constant n) h = h.0
number_visited scope i s (neg_value x) h = (all_right (Allowed scope) (visited i s x) (eval i s (neg_value x) ∷ []) h).0
number_visited scope i s (add_value x y) h = (all_right (Allowed scope) (visited i s y) (eval i s (add_value x y) ∷ []) (all_right (Allowed scope) (visited i s x) (visited i s y ++ eval i s (add_value x y) ∷ []) h)).0
number_visited scope i s (sub_value x y) h = (all_right (Allowed scope) (visited i s y) (eval i s (sub_value x y) ∷ []) (all_right (Allowed scope) (visited i s x) (visited i s y ++ eval i s (sub_value x y) ∷ []) h)).0
number_visited scope i s (mul_value x y) h = (all_right (Allowed scope) (visited i s y) (eval i s (mul_value x y) ∷ []) (all_right (Allowed scope) (visited i s x) (visited i s y ++ eval i s (mul_value x y) ∷ []) h)).0
number_visited scope i s (div_value x y) h = (all_right (Allowed scope) (visited i s y) (eval i s (div_value x y) ∷ []) (all_right (Allowed scope) (visited i s x) (visited i s y ++ eval i s (div_value x y) ∷ []) h)).0
number_visited scope i s (choice_value id) h = h.0
number_visited scope i s time_interval_start h = h.0
number_visited scope i s time_interval_end h = h.0
number_visited scope i s (use_value x) h = h.0
number_visited scope i s (cond_value o x y) h =
    one_branch scope (holds i s o) (visited i s x) (visited i s y) (eval i s x) (eval i s y) (number_visited scope i s x) (number_visited scope i s y)
    (all_right (Allowed scope) (looked i s o) (cond (holds i s o) (visited i s x) (visited i s y)) h)

pub entry_at : (r : Valuation) (b : Bool) (n : ℤ) (l : Linear) (o : Option Linear) → n ≡ number_at r l → cond b (Some n) (option_map (number_at r) o) ≡ option_map (number_at r) (cond b (Some l) o)
entry_at r true n l o e = ap (λ z. let q : Option ℤ = Some z in q) e
entry_at r false n l o e = refl

pub entry_allowed : (P : ℤ → Type 0) (b : Bool) (n : ℤ) (o : Option ℤ) → P n → IfSome o P → IfSome (cond b (Some n) o) P
entry_allowed P true n o h k = h
entry_allowed P false n o h k = k

bound_seen : (scope : Scope) (r : Valuation) (v : View) (i : Interval) (s : StateMaps) (ps : List Payment) (x : List ℕ) (l : Linear) (n : ℤ) → IsSeen scope r v i s ps → n ≡ number_at r l → Allowed scope n
    → IsSeen scope r (record v { bound = (x, l) ∷ v.bound }) i (with_bound s x n) ps
bound_seen scope r v i s ps x l n e f h = record {
  accounts = e.accounts;
  choices = e.choices;
  bound = λ y. get-insert bytes_total s.bound_values x n y ∙ ap (cond (eq_by_cmp bytes_cmp y x) (Some n)) (e.bound y) ∙ entry_at r (eq_by_cmp bytes_cmp y x) n l (find bytes_cmp y v.bound) f;
  paid = e.paid;
  start = e.start;
  end = e.end;
  valid = e.valid;
  times = e.times;
  natural = e.natural;
  money = e.money;
  chosen = e.chosen;
  values = λ y. subst (λ o. IfSome o (Allowed scope)) (sym (get-insert bytes_total s.bound_values x n y)) (entry_allowed (Allowed scope) (eq_by_cmp bytes_cmp y x) n (get s.bound_values y) h (e.values y));
  from = e.from;
  to = e.to;
}

shadow_warned : (r : Valuation) (x : List ℕ) (n : ℤ) (rest : List AlarmKind) (o : Option Linear) → AllByRecursion (λ w. IsAmong (unless (not (is_some o)) Shadowing ++ rest) (kind_of w)) (shadowing x (option_map (number_at r) o) n)
shadow_warned r x n rest None = tt
shadow_warned r x n rest (Some l) = (inl refl, tt)

pub bind_so : (k z m : Known) (x : List ℕ) (v : ValueTree) (l : Linear) (shadows fit : Bool) (ks : List AlarmKind) → Evaluates k v z l → FitsWhereSaid k v fit → shadows ≡ is_some (find bytes_cmp x z.view.bound)
    → m ≡ known z.symbols (record (z.view) { bound = (x, l) ∷ z.view.bound }) → ks ≡ unless (not shadows) Shadowing ++ unless fit Leaves128 → BindsSo IsDescribed k x v (record { kinds = ks; known = Some m })
bind_so k z m x v l shadows fit ks evaluates said is set q scope i s ps c d =
    let n = eval i s v in
    let g = evaluates.gives scope i s ps d in
    let f = described_on scope k i s ps d z l n evaluates.view g in
    let found : Option Linear = find bytes_cmp x z.view.bound in
    let goes : GoesOn scope (unless (not (is_some found)) Shadowing ++ unless fit Leaves128) → IsSaidToFit scope fit = λ h. goes_right scope (unless (not (is_some found)) Shadowing) (unless fit Leaves128) h in
    let kinds : ks ≡ unless (not (is_some found)) Shadowing ++ unless fit Leaves128 = q ∙ ap (λ b. unless (not b) Shadowing ++ unless fit Leaves128) is in
    let r = binding s x n (visited i s v) c in
    subst (λ ks. Concludes IsDescribed scope (record { kinds = ks; known = Some m }) i r.numbers r.warnings r.state ps) (sym kinds)
    (subst (λ m. Concludes IsDescribed scope (record { kinds = unless (not (is_some found)) Shadowing ++ unless fit Leaves128; known = Some m }) i r.numbers r.warnings r.state ps) (sym set)
    (record {
      warned = subst (λ o. AllByRecursion (λ w. IsAmong (unless (not (is_some found)) Shadowing ++ unless fit Leaves128) (kind_of w)) (shadowing x o n)) (sym (f.seen.bound x)) (shadow_warned g.values x n (unless fit Leaves128) found);
      numbers = λ h. said scope i s ps d (goes h);
      known = λ h.
          let b = f.below in
          record {
            closed = g.closed;
            below = record { accounts = b.accounts; choices = b.choices; bound = (g.below, b.bound); paid = b.paid; start = b.start; end = b.end; times = b.times };
            numbers = g.values;
            valued = g.valued;
            seen = bound_seen scope g.values z.view i s ps x l n f.seen g.number (number_visited scope i s v h);
          };
    }))

-- ---- Assert

led_described : (scope : Scope) (k : Known) (i : Interval) (s : StateMaps) (ps : List Payment) (d : IsDescribed scope k i s ps) (m : Known) → GoesTo k d.numbers m → IsDescribed scope m i s ps
led_described scope k i s ps d m h =
    let g = h.symbols in
    record {
      closed = g.closed;
      below = subst (λ v. SeesBelow m.symbols.next v) (sym h.view) (sees_more k.symbols.next m.symbols.next g.grows k.view d.below);
      numbers = g.values;
      valued = g.valued;
      seen = subst (λ v. IsSeen scope g.values v i s ps) (sym h.view) (same_seen scope k.symbols.next g.values d.numbers k.view i s ps g.agrees d.below d.seen);
    }

pub some_led : (scope : Scope) (k : Known) (i : Interval) (s : StateMaps) (ps : List Payment) (d : IsDescribed scope k i s ps) (o : Option Known) → IsSomeAnd o (GoesTo k d.numbers) → IsSomeAnd o (λ m. IsDescribed scope m i s ps)
some_led scope k i s ps d None h = h
some_led scope k i s ps d (Some m) h = led_described scope k i s ps d m h

pub some_is : (P : Known → Type 0) (o : Option Known) → IsSomeAnd o P → is_none o ≡ false
some_is P None h = absurd h
some_is P (Some m) h = refl

pub assert_so : (k : Known) (o : ObservationTree) (one other after : Option Known) (fit : Bool) (ks : List AlarmKind) → Decides k o one other
    → ObservesSo IsDescribed k o (record { kinds = unless fit Leaves128; if_true = one; if_false = other }) → Unites k one other after → ks ≡ unless (is_none other) AssertionFailed ++ unless fit Leaves128
    → AssertsSo IsDescribed k o (record { kinds = ks; known = after })
assert_so k o one other after fit ks decides observes unites q scope i s ps c d =
    let x = observes scope i s ps d in
    let r = asserting s (holds i s o) (looked i s o) c in
    let goes : GoesOn scope (unless (is_none other) AssertionFailed ++ unless fit Leaves128) → GoesOn scope (unless fit Leaves128) = λ h. goes_right scope (unless (is_none other) AssertionFailed) (unless fit Leaves128) h in
    subst (λ ks. Concludes IsDescribed scope (record { kinds = ks; known = after }) i r.numbers r.warnings s ps) (sym q)
    (record {
      warned = by_truth (holds i s o) (decides scope i s ps d);
      numbers = λ h. x.numbers (goes h);
      known = λ h. some_led scope k i s ps d after (unites d.numbers d.closed d.valued (either_of (holds i s o) (decides scope i s ps d)));
    })
  where
    by_truth : (b : Bool) → IsSomeAnd (cond b one other) (GoesTo k d.numbers)
        → AllByRecursion (λ w. IsAmong (unless (is_none other) AssertionFailed ++ unless fit Leaves128) (kind_of w)) (cond b [] (warnings.AssertionFailed ∷ []))
    by_truth true h = tt
    by_truth false h = (among_unless (is_none other) AssertionFailed (unless fit Leaves128) (some_is (GoesTo k d.numbers) other h), tt)

    either_of : (b : Bool) → IsSomeAnd (cond b one other) (GoesTo k d.numbers) → IsSomeAnd one (GoesTo k d.numbers) ⊎ IsSomeAnd other (GoesTo k d.numbers)
    either_of true h = inl h
    either_of false h = inr h
