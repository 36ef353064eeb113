-- What a deposit brings, taken off what its party was paid.
use Rattle.std.proofs.Common.{◌≡◌, ℤ, pos, neg_ℤ, ◌+ℤ◌, ◌-ℤ◌, ◌<ℤ◌, int_lt, Bool, true, false, cond, List, [], ◌∷◌, ◌++◌, refl, sym, ap, ◌∙◌, subst, arith, Option, Some, None}
use Rattle.std.proofs.lemmas.Int.{ints}
use Rattle.std.specs.Int.{int_max}
use Rattle.std.specs.List.{AllByRecursion, list_any}
use Rattle.std.specs.Option.{IsSomeAnd}
use Rattle.contract.specs.Names.declared.account.Account.{Account}
use Rattle.contract.specs.Names.declared.bound.Bound.{Bound}
use Rattle.contract.specs.Names.declared.choice_id.ChoiceId.{ChoiceId}
use Rattle.contract.specs.Names.declared.party.Party.{Party}
use Rattle.contract.specs.Names.declared.payee.Payee.TheVariants.{Party as ToParty}
use Rattle.contract.specs.Names.declared.token.Token.{Token}
use Rattle.contract.specs.Names.Equal.{same_party, same_token, same_choice_id}
use Rattle.contract.specs.Names.Orders.{account_cmp}
use Rattle.contract.proofs.FromNames.EqualLaws.{same_choice_id_decides}
use Rattle.contract.specs.declared.input.Input.{Input}
use Rattle.contract.specs.declared.input.Input.TheVariants.{Deposit, Choice, Notify}
use Rattle.contract.specs.declared.interval.Interval.{Interval}
use Rattle.contract.specs.declared.payment.Payment.{Payment}
use Rattle.contract.specs.Tree.{ValueTree, ObservationTree, ActionTree, deposit, choice, notify}
use Rattle.contract.specs.States.States.{StateMaps, money_of, with_money, counted}
use Rattle.contract.proofs.FromStates.Accounts.{money_of-with_money}
use Rattle.semantics.specs.Evaluation.Evaluation.{eval, visited, looked}
use Rattle.semantics.specs.Reduction.{account_of, balance}
use Rattle.semantics.specs.Applying.{in_bound, taken, taken_numbers}
use Rattle.linear.specs.Linear.{Linear, number_at, IsBelow}
use Rattle.linear.specs.Combined.{StandsFor, AreBelow}
use Rattle.linear.proofs.LinearLaws.{same_number}
use Rattle.symbols.specs.Symbols.{Symbols}
use Rattle.symbols.specs.Held.{GivesAny}
use Rattle.symbols.proofs.KnownLaws.{gives_here}
use Rattle.analysis_spec.specs.Runs.{reaches_party, paid_to}
use Rattle.analysis_walk.specs.Limits.{any_runs, Allowed}
use Rattle.analysis_walk.specs.Covered.{NoneTakes}
use Rattle.analysis_walk.specs.Conclusions.{DepositsSo, ChoosesSo, NotifiesSo}
use Rattle.analysis_walk.specs.declared.conclusion.Conclusion.{Conclusion}
use Rattle.analysis_walk.proofs.ListLaws.{both}
use Rattle.analysis_walk.proofs.WalkLaws.{same_deposit}
use Rattle.analysis_values.specs.Known.{View, Known, held, IsDescribed, with_paid}
use Rattle.analysis_values.specs.Replaced.{IsAsKnown}
use Rattle.analysis_values.proofs.KnownLaws.{found_below}
use Rattle.analysis_values.proofs.AccountLaws.{account_decides, pays_one}
use Rattle.analysis_values.proofs.ReplacedLaws.{described_as}
use Rattle.analysis_steps.specs.Amounts.{GivesSum}
use Rattle.analysis_steps.proofs.MovedLemmas.{described_on, paid_seen, pays_out_by, held_below}
use Rattle.loss_walk.specs.Brings.{GivesDifference, PutsHeld, TakesHeld, TakesOff, Takes}

-- ---- sums

pub sum_any : (k m : Symbols) (l n e : Linear) → GivesAny k m e None None → GivesSum k m l n e
sum_any k m l n e fresh r closed valued x y = fresh r (number_at r l +ℤ number_at r n) closed valued tt tt

pub difference_any : (k m : Symbols) (l n e : Linear) → GivesAny k m e None None → GivesDifference k m l n e
difference_any k m l n e fresh r closed valued x y = fresh r (number_at r l -ℤ number_at r n) closed valued tt tt

pub difference_here : (k : Symbols) (l n e : Linear) → StandsFor (λ r. number_at r l -ℤ number_at r n) (AreBelow l n) e → GivesDifference k k l n e
difference_here k l n e s r closed valued x y = gives_here k r e (number_at r l -ℤ number_at r n) closed valued (s.below k.next (x, y)) (sym (s.number r))

-- ---- what a party was paid, moved by what an account holds

pub puts_held : (k z m : Known) (p q : Party) (t : Token) (b h e : Linear) → b ≡ held k.view.paid (account_of p t) → h ≡ held k.view.accounts (account_of q t) → GivesSum k.symbols z.symbols b h e → z.view ≡ k.view
    → IsAsKnown (with_paid z p t e) m → PutsHeld k m p q t
puts_held k z m p q t b h e is has sum same set i s ps qs d pays =
    let money : balance s q t ≡ number_at d.numbers h = d.seen.accounts (account_of q t) ∙ ap (number_at d.numbers) (sym has) in
    let below = subst (λ (l : Linear). IsBelow k.symbols.next l) (sym has) (held_below any_runs k i s ps d q t) in
    (pays_out_by k z m p t h b e is sum same set any_runs i s ps qs (balance s q t) d below money pays).described

less_is : (x y n : ℤ) → n ≡ neg_ℤ y → x +ℤ n ≡ x -ℤ y
less_is x y n e = omega (arith, ints, e)

pub takes_held : (k z m : Known) (p q : Party) (t : Token) (b h e : Linear) → b ≡ held k.view.paid (account_of p t) → h ≡ held k.view.accounts (account_of q t) → GivesDifference k.symbols z.symbols b h e → z.view ≡ k.view
    → IsAsKnown (with_paid z p t e) m → TakesHeld k m p q t
takes_held k z m p q t b h e is has gap same set i s ps qs d pays =
    let r = d.numbers in
    let o = held k.view.paid (account_of p t) in
    let l = held k.view.accounts (account_of q t) in
    let paid_below = found_below account_cmp k.symbols.next k.view.paid (account_of p t) d.below.paid in
    let there : GivesDifference k.symbols z.symbols o l e = subst (λ (x : Linear). GivesDifference k.symbols z.symbols o x e) has (subst (λ (x : Linear). GivesDifference k.symbols z.symbols x h e) is gap) in
    let g = there r d.closed d.valued paid_below (held_below any_runs k i s ps d q t) in
    let f = described_on any_runs k i s ps d z e (number_at r o -ℤ number_at r l) same g in
    let before : number_at g.values (held z.view.paid (account_of p t)) ≡ number_at r o =
    ap (λ (v : View). number_at g.values (held v.paid (account_of p t))) same ∙ same_number k.symbols.next g.values r g.agrees o paid_below in
    let money : balance s q t ≡ number_at r l = d.seen.accounts (account_of q t) in
    let now : number_at g.values (held z.view.paid (account_of p t)) +ℤ neg_ℤ (balance s q t) ≡ number_at g.values e =
    ap (λ x. x +ℤ neg_ℤ (balance s q t)) before ∙ less_is (number_at r o) (number_at r l) (neg_ℤ (balance s q t)) (ap neg_ℤ money) ∙ g.number in
    described_as any_runs (with_paid z p t e) m i s qs set
    (record {
      closed = g.closed;
      below = record { accounts = f.below.accounts; choices = f.below.choices; bound = f.below.bound; paid = (g.below, f.below.paid); start = f.below.start; end = f.below.end; times = f.below.times };
      numbers = g.values;
      valued = g.valued;
      seen = paid_seen any_runs g.values i z.view s ps qs p t e (neg_ℤ (balance s q t)) f.seen now pays;
    })

-- ---- a deposit

any_allowed : (ns : List ℤ) → AllByRecursion (Allowed any_runs) ns
any_allowed [] = tt
any_allowed (n ∷ ns) = (tt, any_allowed ns)

-- the account of a deposit holds so much more
held_then : (s : StateMaps) (q p : Party) (t : Token) (n : ℤ) → balance (taken s (Deposit q p t n)) q t ≡ balance s q t +ℤ int_max (pos 0) n
held_then s q p t n = by_test (int_lt (pos 0) n) refl
  where
    a : Account
    a = account_of q t

    grown : (b : ℤ) → n <ℤ pos 0 → b ≡ b +ℤ pos 0
    grown b h = omega (arith, ints)

    same : (b : ℤ) → b ≡ b +ℤ pos 0
    same b = omega (arith, ints)

    set : (b : ℤ) → money_of (with_money s (account_of q t) b) (account_of q t) ≡ b
    set b = money_of-with_money s (account_of q t) b (account_of q t) ∙ ap (λ x. cond x b (money_of s (account_of q t))) ((account_decides (account_of q t) (account_of q t)).1 refl)

    more : (m : ℤ) → int_lt (pos 0) n ≡ true → int_max (pos 0) n ≡ n
    more m e = max_more n e
      where
        max_more : (n : ℤ) → int_lt (pos 0) n ≡ true → int_max (pos 0) n ≡ n
        max_more n e = grind (arith, ints)

    none : (m : ℤ) → int_lt (pos 0) n ≡ false → int_max (pos 0) n ≡ pos 0
    none m e = max_none n e
      where
        max_none : (n : ℤ) → int_lt (pos 0) n ≡ false → int_max (pos 0) n ≡ pos 0
        max_none n e = grind (arith, ints)

    by_test : (b : Bool) → int_lt (pos 0) n ≡ b → money_of (cond b (with_money s (account_of q t) (balance s q t +ℤ n)) s) (account_of q t) ≡ balance s q t +ℤ int_max (pos 0) n
    by_test true e = set (balance s q t +ℤ n) ∙ ap (λ x. balance s q t +ℤ x) (sym (more n e))
    by_test false e = same (balance s q t) ∙ ap (λ x. balance s q t +ℤ x) (sym (none n e))

-- what is paid as much as was held, and less what is held then, is less what was brought
nets : (a : Account) (p : Party) (t : Token) (x y z b c n : ℤ) → y ≡ x +ℤ reaches_party a.owner (ToParty p) (counted a.token t b) → z ≡ y +ℤ reaches_party a.owner (ToParty p) (counted a.token t (neg_ℤ c)) → c ≡ b +ℤ n
    → z ≡ x -ℤ cond (same_party a.owner p) (counted a.token t n) (pos 0)
nets a p t x y z b c n e f g = by_tests (same_party a.owner p) (same_token a.token t) e f
  where
    all_off : (x y z b c n : ℤ) → y ≡ x +ℤ b → z ≡ y +ℤ neg_ℤ c → c ≡ b +ℤ n → z ≡ x -ℤ n
    all_off x y z b c n e f g = omega (arith, ints, e, f, g)

    none_off : (x y z : ℤ) → y ≡ x +ℤ pos 0 → z ≡ y +ℤ pos 0 → z ≡ x -ℤ pos 0
    none_off x y z e f = omega (arith, ints, e, f)

    by_tests : (m k : Bool) → y ≡ x +ℤ cond m (cond k b (pos 0)) (pos 0) → z ≡ y +ℤ cond m (cond k (neg_ℤ c) (pos 0)) (pos 0) → z ≡ x -ℤ cond m (cond k n (pos 0)) (pos 0)
    by_tests true true e f = all_off x y z b c n e f g
    by_tests true false e f = none_off x y z e f
    by_tests false k e f = none_off x y z e f

some_then : (P Q : Known → Type 0) (o : Option Known) → ((m : Known) → o ≡ Some m → P m → Q m) → IsSomeAnd o P → IsSomeAnd o Q
some_then P Q None f h = h
some_then P Q (Some m) f h = f m refl h

-- whatever input a case for a deposit takes, it is that deposit
module _ (net : Bool) (k : Known) (earlier : List ActionTree) (q p : Party) (t : Token) (v : ValueTree) (o : Option Known)
    (rest : (i : Interval) (s : StateMaps) (ps : List Payment) → IsDescribed any_runs k i s ps → NoneTakes i s (Deposit q p t (eval i s v)) earlier
    → IsSomeAnd o (λ m. (qs : List Payment) × IsDescribed any_runs m i (taken s (Deposit q p t (eval i s v))) qs × TakesOff net ps qs (Deposit q p t (eval i s v)))) where
  of_inputs : Takes net k earlier (deposit q p t v) o
  of_inputs i s ps (Deposit a r u n) d f e =
      let l = same_deposit a r u n q p t (eval i s v) e in
      let R : Party → Party → Token → ℤ → Type 0 = λ a r u n. NoneTakes i s (Deposit a r u n) earlier → IsSomeAnd o (λ m. (qs : List Payment) × IsDescribed any_runs m i (taken s (Deposit a r u n)) qs × TakesOff net ps qs (Deposit a r u n)) in
      let at : R a r u n = subst (λ a. R a r u n) l.0 (subst (λ r. R q r u n) l.1 (subst (λ u. R q p u n) l.2 (subst (λ n. R q p t n) l.3 (rest i s ps d)))) in
      at f
  of_inputs i s ps (Choice id n) d f e = absurd (cc)
  of_inputs i s ps Notify d f e = absurd (cc)

-- what was held is paid, and the deposit taken
module _ (k z : Known) (earlier : List ActionTree) (q p : Party) (t : Token) (v : ValueTree) (x : Conclusion Known) (puts : PutsHeld k z p q t) (so : DepositsSo IsDescribed z earlier q p t v x) where
  abbrev held_paid : StateMaps → List Payment → List Payment
  held_paid s ps = ps ++ record { from = p; to = ToParty p; token = t; amount = balance s q t } ∷ []

  taken_so : (i : Interval) (s : StateMaps) (ps : List Payment) → IsDescribed any_runs k i s ps → NoneTakes i s (Deposit q p t (eval i s v)) earlier
      → IsSomeAnd x.known (λ m. IsDescribed any_runs m i (taken s (Deposit q p t (eval i s v))) (held_paid s ps))
  taken_so i s ps d f =
      let n = eval i s v in
      let input : Input = Deposit q p t n in
      let there = puts i s ps (held_paid s ps) d (pays_one ps p (ToParty p) t (balance s q t)) in
      ((so any_runs i s (held_paid s ps) there).1 f).known (any_allowed (visited i s v ++ taken_numbers s input))

-- what comes of a deposit where nothing is known behind it, and where something is
pub brings_none : (k z : Known) (earlier : List ActionTree) (q p : Party) (t : Token) (v : ValueTree) (x : Conclusion Known) → PutsHeld k z p q t → DepositsSo IsDescribed z earlier q p t v x → x.known ≡ None
    → Takes true k earlier (deposit q p t v) None
brings_none k z earlier q p t v x puts so none =
    of_inputs true k earlier q p t v None
    (λ i s ps d f. absurd (subst (λ (o : Option Known). IsSomeAnd o (λ m. IsDescribed any_runs m i (taken s (Deposit q p t (eval i s v))) (held_paid k z earlier q p t v x puts so s ps))) none (taken_so k z earlier q p t v x puts so i s ps d f)))

pub brings_some : (k z y m : Known) (earlier : List ActionTree) (q p : Party) (t : Token) (v : ValueTree) (x : Conclusion Known) → PutsHeld k z p q t → DepositsSo IsDescribed z earlier q p t v x → x.known ≡ Some y
    → TakesHeld y m p q t → Takes true k earlier (deposit q p t v) (Some m)
brings_some k z y m earlier q p t v x puts so some takes =
    of_inputs true k earlier q p t v (Some m)
    (λ i s ps d f.
    let n = eval i s v in
    let u = taken s (Deposit q p t n) in
    let rs = held_paid k z earlier q p t v x puts so s ps in
    let qs = rs ++ record { from = p; to = ToParty p; token = t; amount = neg_ℤ (balance u q t) } ∷ [] in
    let there : IsDescribed any_runs y i u rs = subst (λ (o : Option Known). IsSomeAnd o (λ m. IsDescribed any_runs m i u rs)) some (taken_so k z earlier q p t v x puts so i s ps d f) in
    let less = pays_one rs p (ToParty p) t (neg_ℤ (balance u q t)) in (
      qs,
      takes i u rs qs there less,
      λ a.
          nets a p t (paid_to a.owner a.token ps) (paid_to a.owner a.token rs) (paid_to a.owner a.token qs) (balance s q t) (balance u q t) (int_max (pos 0) n) (pays_one ps p (ToParty p) t (balance s q t) a) (less a) (held_then s q p t n),
    ))

-- ---- what takes nothing off

nothing_off : (n : ℤ) → n ≡ n -ℤ pos 0
nothing_off n = omega (arith, ints)

none_off : (net : Bool) (n : ℤ) → n ≡ n -ℤ cond net (pos 0) (pos 0)
none_off true n = nothing_off n
none_off false n = nothing_off n

some_off : (net : Bool) (i : Interval) (s : StateMaps) (ps : List Payment) (x : Input) (o : Option Known) → TakesOff net ps ps x → IsSomeAnd o (λ m. IsDescribed any_runs m i s ps)
    → IsSomeAnd o (λ m. (qs : List Payment) × IsDescribed any_runs m i s qs × TakesOff net ps qs x)
some_off net i s ps x None e h = h
some_off net i s ps x (Some m) e h = (ps, h, e)

-- a deposit, where that isn't asked
pub deposits : (k : Known) (earlier : List ActionTree) (q p : Party) (t : Token) (v : ValueTree) (x : Conclusion Known) → DepositsSo IsDescribed k earlier q p t v x → Takes false k earlier (deposit q p t v) x.known
deposits k earlier q p t v x so =
    of_inputs false k earlier q p t v x.known
    (λ i s ps d f.
    let input : Input = Deposit q p t (eval i s v) in
    some_off false i (taken s input) ps input x.known (λ a. nothing_off (paid_to a.owner a.token ps)) (((so any_runs i s ps d).1 f).known (any_allowed (visited i s v ++ taken_numbers s input))))

-- a choice, and a notify
pub chooses : (net : Bool) (k : Known) (earlier : List ActionTree) (id : ChoiceId) (bounds : List Bound) (x : Conclusion Known) → ChoosesSo IsDescribed k earlier id bounds x → Takes net k earlier (choice id bounds) x.known
chooses net k earlier jd bounds x so i s ps (Deposit a p t n) d f e = absurd (cc)
chooses net k earlier jd bounds x so i s ps (Choice id n) d f e =
    let l = both (same_choice_id id jd) (list_any (in_bound n) bounds) e in
    let q = (same_choice_id_decides id jd).0 l.0 in
    let w = so any_runs i s ps n d (subst (λ (w : ChoiceId). NoneTakes i s (Choice w n) earlier) q f) l.1 in
    some_off net i (taken s (Choice id n)) ps (Choice id n) x.known (λ a. none_off net (paid_to a.owner a.token ps))
    (subst (λ (w : ChoiceId). IsSomeAnd x.known (λ m. IsDescribed any_runs m i (taken s (Choice w n)) ps)) (sym q) (w.known tt))
chooses net k earlier jd bounds x so i s ps Notify d f e = absurd (cc)

pub notifies : (net : Bool) (k : Known) (earlier : List ActionTree) (o : ObservationTree) (x : Conclusion Known) → NotifiesSo IsDescribed k earlier o x → Takes net k earlier (notify o) x.known
notifies net k earlier o x so i s ps (Deposit a p t n) d f e = absurd (cc)
notifies net k earlier o x so i s ps (Choice id n) d f e = absurd (cc)
notifies net k earlier o x so i s ps Notify d f e =
    some_off net i s ps Notify x.known (λ a. none_off net (paid_to a.owner a.token ps)) (((so any_runs i s ps d).1 f e).known (any_allowed (looked i s o)))
