-- What moving an amount does to what is known.
use Rattle.std.proofs.Common.{◌≡◌, ℕ, ◌≤◌, ℤ, pos, ◌+ℤ◌, ◌-ℤ◌, ◌≤ℤ◌, Bool, true, false, cond, List, ◌∷◌, refl, sym, ap, ◌∙◌, subst, arith, Option, Some}
use Rattle.std.proofs.lemmas.Int.{ints}
use Rattle.std.specs.Option.{unwrap_or}
use Rattle.std.specs.Ordering.{eq_by_cmp}
use Rattle.std.specs.FinMap.Entries.{find}
use Rattle.contract.specs.Names.declared.account.Account.{Account}
use Rattle.contract.specs.Names.declared.party.Party.{Party}
use Rattle.contract.specs.Names.declared.payee.Payee.{Payee}
use Rattle.contract.specs.Names.declared.payee.Payee.TheVariants.{Account as ToAccount, Party as ToParty}
use Rattle.contract.specs.Names.declared.token.Token.{Token}
use Rattle.contract.specs.Names.Orders.{account_cmp}
use Rattle.contract.specs.declared.interval.Interval.{Interval}
use Rattle.contract.specs.declared.payment.Payment.{Payment}
use Rattle.contract.specs.States.States.{StateMaps, with_money}
use Rattle.semantics.specs.Evaluation.Numbers.{fits}
use Rattle.semantics.specs.Reduction.{account_of, balance, debited, credited}
use Rattle.linear.specs.Linear.{Linear, Valuation, number_at, IsBelow, number, Agree}
use Rattle.symbols.specs.Symbols.{Symbols, IsValued, Gives}
use Rattle.linear.proofs.LinearLaws.{same_number}
use Rattle.symbols.proofs.KnownLaws.{terms_more, below_more, up_more}
use Rattle.analysis_spec.specs.Runs.{paid_to}
use Rattle.analysis_walk.specs.Limits.{Scope, any_runs, written_runs, Allowed}
use Rattle.analysis_values.specs.Known.{View, Known, held, AreTimes, IsSeen, SeesBelow, IsDescribed, with_account, with_paid}
use Rattle.analysis_values.proofs.KnownLaws.{found_below, sees_more, same_seen}
use Rattle.analysis_values.proofs.AccountLaws.{amount_seen, same_money_seen, allowed_below, sum_natural, account_decides, share_is}
use Rattle.analysis_values.proofs.AnsweredLaws.{goes_fitting}
use Rattle.analysis_values.specs.Answered.{StaysWhereSaid}
use Rattle.analysis_values.specs.Replaced.{IsAsKnown}
use Rattle.analysis_values.proofs.ReplacedLaws.{described_as}
use Rattle.analysis_steps.specs.Amounts.{amount_paid, GivesPaid, GivesSum, GivesRest}
use Rattle.analysis_steps.specs.Moved.{Reaches, IsSaidToFit, Debits, Grows, PaysMore, PaysOut, Moves, Transfers}
use Rattle.analysis_steps.proofs.AmountLemmas.{paid_natural, paid_up}

-- ---- what is known, with more symbols

module _ (scope : Scope) (k : Known) (i : Interval) (s : StateMaps) (ps : List Payment) (d : IsDescribed scope k i s ps) where
  -- of the same view
  abbrev pub described_on : (z : Known) (e : Linear) (n : ℤ) → z.view ≡ k.view → Gives k.symbols d.numbers (z.symbols, e) n → IsDescribed scope z i s ps
  described_on z e n v g = record {
    closed = g.closed;
    below = subst (λ w. SeesBelow z.symbols.next w) (sym v) (sees_more k.symbols.next z.symbols.next g.grows k.view d.below);
    numbers = g.values;
    valued = g.valued;
    seen = subst (λ w. IsSeen scope g.values w i s ps) (sym v) (same_seen scope k.symbols.next g.values d.numbers k.view i s ps g.agrees d.below d.seen);
  }

  pub held_below : (p : Party) (t : Token) → IsBelow k.symbols.next (held k.view.accounts (account_of p t))
  held_below p t = found_below account_cmp k.symbols.next k.view.accounts (account_of p t) d.below.accounts

-- one step and then another
pub reaches_then : (scope : Scope) (k z m : Known) (r : Valuation) (i j : Interval) (s u : StateMaps) (ps qs : List Payment) → (g : Reaches scope k r z i s ps) → Reaches scope z g.described.numbers m j u qs → Reaches scope k r m j u qs
reaches_then scope k z m r i j s u ps qs g h = record {
  grows = up_more k.symbols.next z.symbols.next m.symbols.next g.grows h.grows;
  described = h.described;
  agrees = λ x l. h.agrees x (below_more x k.symbols.next z.symbols.next l g.grows) ∙ g.agrees x l;
}

-- .. told by other entries
reaches_as : (scope : Scope) (k z m : Known) (r : Valuation) (i : Interval) (s : StateMaps) (ps : List Payment) → IsAsKnown z m → Reaches scope k r z i s ps → Reaches scope k r m i s ps
reaches_as scope k z m r i s ps h g = record {
  grows = subst (λ (x : Symbols). k.symbols.next ≤ x.next) (sym h.symbols) g.grows;
  described = described_as scope z m i s ps h g.described;
  agrees = g.agrees;
}

-- an expression still has its number
pub still_number : (n : ℕ) (q r : Valuation) (l : Linear) (x : ℤ) → Agree n q r → IsBelow n l → x ≡ number_at r l → x ≡ number_at q l
still_number n q r l x a b e = e ∙ sym (same_number n q r a l b)

pub allowed_where_said : (scope : Scope) (k : Known) (r : Valuation) (l : Linear) (n : ℤ) (fit : Bool) → StaysWhereSaid k l fit → IsValued r k.symbols → AreTimes scope r k.view.times → n ≡ number_at r l → IsSaidToFit scope fit
    → Allowed scope n
allowed_where_said any_runs k r l n fit h v t e g = tt
allowed_where_said written_runs k r l n fit h v t e g = ap fits e ∙ h (goes_fitting written_runs fit g) r v t

-- ---- the payer's account

rest_natural : (b p : ℤ) → p ≤ℤ b → pos 0 ≤ℤ (b -ℤ p)
rest_natural b p h = omega (arith, ints)

rest_below : (b p : ℤ) → pos 0 ≤ℤ p → (b -ℤ p) ≤ℤ b
rest_below b p h = omega (arith, ints)

pub debits_by : (k z m : Known) (p : Party) (t : Token) (l b e : Linear) → b ≡ held k.view.accounts (account_of p t) → GivesRest k.symbols z.symbols b l e → z.view ≡ k.view
    → IsAsKnown (with_account z p t e) m → Debits k m p t l
debits_by k z m p t l b e is rest same set scope i s ps n d below number natural up =
    let r = d.numbers in
    let o = held k.view.accounts (account_of p t) in
    let money : balance s p t ≡ number_at r o = d.seen.accounts (account_of p t) in
    let g = subst (λ (h : Linear). GivesRest k.symbols z.symbols h l e) is rest r d.closed d.valued (held_below scope k i s ps d p t) below (subst (λ a. pos 0 ≤ℤ a) number natural)
    (subst (λ a. a ≤ℤ number_at r o) number (subst (λ a. n ≤ℤ a) money up)) in
    let f = described_on scope k i s ps d z e (number_at r o -ℤ number_at r l) same g in
    let left = rest_natural (balance s p t) n up in
    reaches_as scope k (with_account z p t e) m r i (debited s p t n) ps set
    (record {
      grows = g.grows;
      described = record {
        closed = g.closed;
        below = record { accounts = (g.below, f.below.accounts); choices = f.below.choices; bound = f.below.bound; paid = f.below.paid; start = f.below.start; end = f.below.end; times = f.below.times };
        numbers = g.values;
        valued = g.valued;
        seen = amount_seen scope g.values i z.view s ps p t e (balance s p t -ℤ n) f.seen (ap (λ a. a -ℤ n) money ∙ ap (λ a. number_at r o -ℤ a) number ∙ g.number) left
            (allowed_below scope (balance s p t -ℤ n) (balance s p t) left (rest_below (balance s p t) n natural) (d.seen.money (account_of p t)));
      };
      agrees = g.agrees;
    })

-- ---- the payee's account

pub grows_by : (k z m : Known) (p : Party) (t : Token) (l b e : Linear) (fit : Bool) → b ≡ held k.view.accounts (account_of p t) → GivesSum k.symbols z.symbols b l e → z.view ≡ k.view
    → StaysWhereSaid z e fit → IsAsKnown (with_account z p t e) m → Grows k m p t l fit
grows_by k z m p t l b e fit is sum same stays set scope i s ps n d below number natural =
    let r = d.numbers in
    let o = held k.view.accounts (account_of p t) in
    let money : balance s p t ≡ number_at r o = d.seen.accounts (account_of p t) in
    let g = subst (λ (h : Linear). GivesSum k.symbols z.symbols h l e) is sum r d.closed d.valued (held_below scope k i s ps d p t) below in
    let f = described_on scope k i s ps d z e (number_at r o +ℤ number_at r l) same g in
    let total : balance s p t +ℤ n ≡ number_at g.values e = ap (λ a. a +ℤ n) money ∙ ap (λ a. number_at r o +ℤ a) number ∙ g.number in
    let allowed = allowed_where_said scope z g.values e (balance s p t +ℤ n) fit stays g.valued f.seen.times total in
    record {
      sum = allowed;
      known = λ h. reaches_as scope k (with_account z p t e) m r i (with_money s (account_of p t) (balance s p t +ℤ n)) ps set
          (record {
            grows = g.grows;
            described = record {
              closed = g.closed;
              below = record { accounts = (g.below, f.below.accounts); choices = f.below.choices; bound = f.below.bound; paid = f.below.paid; start = f.below.start; end = f.below.end; times = f.below.times };
              numbers = g.values;
              valued = g.valued;
              seen = amount_seen scope g.values i z.view s ps p t e (balance s p t +ℤ n) f.seen total (sum_natural (balance s p t) n (d.seen.natural (account_of p t)) natural) h;
            };
            agrees = g.agrees;
          });
    }

-- ---- what a party is paid

no_more : (a : ℤ) → a ≡ a +ℤ pos 0
no_more a = omega (arith, ints)

found_number : (r : Valuation) (b : Bool) (l : Linear) (o : Option Linear) → cond b (number_at r l) (number_at r (unwrap_or o (number (pos 0)))) ≡ number_at r (unwrap_or (cond b (Some l) o) (number (pos 0)))
found_number r true l o = refl
found_number r false l o = refl

pub paid_seen : (scope : Scope) (r : Valuation) (i : Interval) (v : View) (s : StateMaps) (ps qs : List Payment) (p : Party) (t : Token) (m : Linear) (n : ℤ) → IsSeen scope r v i s ps
    → number_at r (held v.paid (account_of p t)) +ℤ n ≡ number_at r m → PaysMore ps qs (ToParty p) t n → IsSeen scope r (record v { paid = (account_of p t, m) ∷ v.paid }) i s qs
paid_seen scope r i v s ps qs p t m n e f pays = record {
  accounts = e.accounts;
  choices = e.choices;
  bound = e.bound;
  paid = λ a.
      let b = eq_by_cmp account_cmp a (account_of p t) in
      pays a ∙ ap (λ z. paid_to a.owner a.token ps +ℤ z) (share_is a p t n)
      ∙ of_account a b refl (paid_to a.owner a.token ps) (number_at r (held v.paid a)) (number_at r m) (e.paid a)
      (λ q. ap (λ z. z +ℤ n) (e.paid a) ∙ ap (λ z. number_at r (held v.paid z) +ℤ n) ((account_decides a (account_of p t)).0 q) ∙ f)
      ∙ found_number r b m (find account_cmp a v.paid);
  start = e.start;
  end = e.end;
  valid = e.valid;
  times = e.times;
  natural = e.natural;
  money = e.money;
  chosen = e.chosen;
  values = e.values;
  from = e.from;
  to = e.to;
}
  where
    of_account : (a : Account) (b : Bool) → eq_by_cmp account_cmp a (account_of p t) ≡ b → (x y z : ℤ) → x ≡ y → (eq_by_cmp account_cmp a (account_of p t) ≡ true → x +ℤ n ≡ z) → x +ℤ cond b n (pos 0) ≡ cond b z y
    of_account a true q x y z g k = k q
    of_account a false q x y z g k = sym (no_more x) ∙ g

pub pays_out_by : (k z m : Known) (p : Party) (t : Token) (l b e : Linear) → b ≡ held k.view.paid (account_of p t) → GivesSum k.symbols z.symbols b l e → z.view ≡ k.view
    → IsAsKnown (with_paid z p t e) m → PaysOut k m p t l
pays_out_by k z m p t l b e is sum same set scope i s ps qs n d below number pays =
    let r = d.numbers in
    let o = held k.view.paid (account_of p t) in
    let g = subst (λ (h : Linear). GivesSum k.symbols z.symbols h l e) is sum r d.closed d.valued (found_below account_cmp k.symbols.next k.view.paid (account_of p t) d.below.paid) below in
    let f = described_on scope k i s ps d z e (number_at r o +ℤ number_at r l) same g in
    let before : number_at g.values (held z.view.paid (account_of p t)) ≡ number_at r o =
    ap (λ (v : View). number_at g.values (held v.paid (account_of p t))) same
    ∙ same_number k.symbols.next g.values r g.agrees o (found_below account_cmp k.symbols.next k.view.paid (account_of p t) d.below.paid) in
    reaches_as scope k (with_paid z p t e) m r i s qs set
    (record {
      grows = g.grows;
      described = record {
        closed = g.closed;
        below = record { accounts = f.below.accounts; choices = f.below.choices; bound = f.below.bound; paid = (g.below, f.below.paid); start = f.below.start; end = f.below.end; times = f.below.times };
        numbers = g.values;
        valued = g.valued;
        seen = paid_seen scope g.values i z.view s ps qs p t e n f.seen (ap (λ a. a +ℤ n) before ∙ ap (λ a. number_at r o +ℤ a) number ∙ g.number) pays;
      };
      agrees = g.agrees;
    })

-- ---- both

pub moves_to_account : (k z m : Known) (p q : Party) (t : Token) (l : Linear) (fit : Bool) → Debits k z p t l → Grows z m q t l fit → Moves k m p (ToAccount q) t l fit
moves_to_account k z m p q t l fit debits grows scope i s ps n d below number natural up =
    let a = debits scope i s ps n d below number natural up in
    let b = grows scope i (debited s p t n) ps n a.described (terms_more k.symbols.next z.symbols.next a.grows l.terms below)
    (still_number k.symbols.next a.described.numbers d.numbers l n a.agrees below number) natural in
    record {
      sums = λ h. (b.sum h, tt);
      known = λ qs pays h.
          let c = reaches_then scope k z m d.numbers i i (debited s p t n) (credited (debited s p t n) (ToAccount q) t n) ps ps a (b.known h.0) in
          record {
            grows = c.grows;
            described = record {
              closed = c.described.closed;
              below = c.described.below;
              numbers = c.described.numbers;
              valued = c.described.valued;
              seen = same_money_seen scope c.described.numbers i m.view (credited (debited s p t n) (ToAccount q) t n) (credited (debited s p t n) (ToAccount q) t n) ps qs (λ x. refl) refl refl
                  (λ x. pays x ∙ sym (no_more (paid_to x.owner x.token ps))) c.described.seen;
            };
            agrees = c.agrees;
          };
    }

pub moves_to_party : (k z m : Known) (p q : Party) (t : Token) (l : Linear) → Debits k z p t l → PaysOut z m q t l → Moves k m p (ToParty q) t l true
moves_to_party k z m p q t l debits out scope i s ps n d below number natural up =
    let a = debits scope i s ps n d below number natural up in
    record {
      sums = λ h. tt;
      known = λ qs pays h.
          reaches_then scope k z m d.numbers i i (debited s p t n) (debited s p t n) ps qs a
          (out scope i (debited s p t n) ps qs n a.described (terms_more k.symbols.next z.symbols.next a.grows l.terms below)
          (still_number k.symbols.next a.described.numbers d.numbers l n a.agrees below number) pays);
    }

pub transfers_by : (k z m : Known) (p : Party) (y : Payee) (t : Token) (l b e : Linear) (fit : Bool) → b ≡ held k.view.accounts (account_of p t) → GivesPaid k.symbols z.symbols b l e → z.view ≡ k.view → Moves z m p y t e fit
    → Transfers k m p y t l fit
transfers_by k z m p y t l b e fit is paid same moves scope i s ps due d below number =
    let r = d.numbers in
    let o = held k.view.accounts (account_of p t) in
    let money : balance s p t ≡ number_at r o = d.seen.accounts (account_of p t) in
    let natural = d.seen.natural (account_of p t) in
    let n = amount_paid (balance s p t) due in
    let g = subst (λ (h : Linear). GivesPaid k.symbols z.symbols h l e) is paid r d.closed d.valued (held_below scope k i s ps d p t) below (subst (λ a. pos 0 ≤ℤ a) money natural) in
    let f = described_on scope k i s ps d z e (amount_paid (number_at r o) (number_at r l)) same g in
    let q = moves scope i s ps n f g.below (ap (λ a. amount_paid a due) money ∙ ap (λ a. amount_paid (number_at r o) a) number ∙ g.number)
    (paid_natural (balance s p t) due natural) (paid_up (balance s p t) due natural) in
    record {
      sums = q.sums;
      known = λ qs pays h. reaches_then scope k z m r i i s (credited (debited s p t n) y t n) ps qs (record { grows = g.grows; described = f; agrees = g.agrees }) (q.known qs pays h);
    }
