-- What steps of several threads spend covers what they make, and there is room for what is left of each.
use Rattle.std.proofs.Common.{◌≡◌, ℤ, pos, ◌+ℤ◌, ◌≤ℤ◌, int_lt, Bool, true, false, if◌then◌else◌, List, [], ◌∷◌, ◌++◌, map, is_none, Ok, Some, None, refl, sym, ◌∙◌, ap, subst, arith}
use Rattle.std.proofs.lemmas.Int.{ints}
use Rattle.std.specs.List.{cons_option}
use Rattle.std.specs.FinMap.{entries}
use Rattle.std.specs.Ordering.{eq_by_cmp}
use Rattle.contract.specs.Names.declared.token.Token.{Token}
use Rattle.contract.specs.Names.Orders.{token_cmp}
use Rattle.contract.specs.declared.input.Input.{Input}
use Rattle.contract.specs.declared.input.Input.TheVariants.{Deposit, Choice, Notify}
use Rattle.contract.specs.declared.outcome.Outcome.{Outcome}
use Rattle.contract.specs.States.States as states
use Rattle.contract.specs.States.States.{counted}
use Rattle.builder_spec.specs.Semantics.Walk.{Standing, standing}
use Rattle.builder_spec.specs.Semantics.Laws.{EndsQuiet}
use Rattle.builder_spec.specs.Semantics.Money.{deposited, paid_out, MoneyIsKept}
use Rattle.builder_spec.specs.Semantics.Naturals.{PaymentsAreNatural}
use Rattle.builder_spec.specs.Nodes.declared.cont.Cont.{Cont}
use Rattle.builder_spec.specs.Table.Flat.{cont_tree, is_close}
use Rattle.builder_spec.specs.Bundle.Bundles.{Amounts, amount_of, covers}
use Rattle.builder_spec.specs.Bundle.Totals.{total_of}
use Rattle.builder_spec.proofs.FromBundle.CoverLaws.{each_token_is_covered}
use Rattle.builder_spec.specs.Machine.declared.datum.Datum.{Datum}
use Rattle.builder_spec.specs.EutxoTypes.declared.output.Output.{Output}
use Rattle.builder_spec.specs.Roles.Sums.{sums_of}
use Rattle.builder_spec.specs.Roles.Steps.{continuation, due_outputs}
use Rattle.builder_spec.specs.Ledger.declared.look.Unspent.{Unspent}
use Rattle.builder_spec.specs.Requests.{StepsRequest}
use Rattle.builder_spec.specs.Causes.{is_much}
use Rattle.builder_spec.specs.Holding.{sums, amount_in, wanted, least_lacking, AreBundles}
use Rattle.builder_spec.specs.Steps.{Stepped, thread_terms, deposits, own_output, continuing_outputs, step_outputs_of, next_data_of}
use Rattle.builder_spec.specs.Parts.{part_walk, all_deposits, own_outputs, part_outputs, parts_outputs, next_part_data, parts_data}
use Rattle.std.specs.List.{flat_map}
use Rattle.builder_spec.proofs.HoldingLaws.{positive_sums, amount_of-sums, total_of-append, total_of-natural}
use Rattle.builder_spec.proofs.FundsLaws.{amount, all_covered, wanted-deposits, amount_of-sums_in, made_sum, quiet_total, ended_well}
use Rattle.builder.specs.OutputsSupport.{data_left, outcome_outputs}
use Rattle.builder.specs.PartsSupport.{IsOutcome, AreOutcomes, IsPositive, ArePositive, AreStanding, HaveRoom, outcomes_outputs, data_after, outcomes_data}
use Rattle.builder.proofs.CoveredLemmas.{more, room_below, both_natural, zero_counted, paid_natural}

-- ---- what a part brings: what its output holds, and its deposits

no_first : (n : ℤ) → n ≡ pos 0 +ℤ n
no_first n = omega (arith, ints)

one_further : (a b c : ℤ) → a +ℤ (b +ℤ c) ≡ (a +ℤ b) +ℤ c
one_further a b c = omega (arith, ints)

wanted-append : (t : Token) (xs ys : List (Token × ℤ)) → wanted (xs ++ ys) t ≡ wanted xs t +ℤ wanted ys t
wanted-append t [] ys = no_first (wanted ys t)
wanted-append t (x ∷ xs) ys = ap (λ n. counted t x.0 x.1 +ℤ n) (wanted-append t xs ys) ∙ one_further (counted t x.0 x.1) (wanted xs t) (wanted ys t)

-- what parts bring together
abbrev brought : Token → List Stepped → ℤ
brought t ss = total_of amount_in t (own_outputs ss) +ℤ wanted (all_deposits ss) t

abbrev brought_by : Token → Stepped → ℤ
brought_by t s = amount_of s.thread.shown.output.amount t +ℤ deposited t s.inputs

four : (a o d w x : ℤ) → x ≡ d +ℤ w → (a +ℤ o) +ℤ x ≡ (a +ℤ d) +ℤ (o +ℤ w)
four a o d w x h = omega (arith, ints, h)

one_brings : (t : Token) (s : Stepped) (ss : List Stepped) → brought t (s ∷ ss) ≡ brought_by t s +ℤ brought t ss
one_brings t s ss =
    four (amount_of s.thread.shown.output.amount t) (total_of amount_in t (own_outputs ss)) (deposited t s.inputs) (wanted (all_deposits ss) t) (wanted (all_deposits (s ∷ ss)) t)
    (wanted-append t (deposits s.inputs) (all_deposits ss) ∙ ap (λ n. n +ℤ wanted (all_deposits ss) t) (wanted-deposits t s.inputs))

above : (n : ℤ) → int_lt (pos 0) n ≡ true → pos 0 ≤ℤ n
above n h = grind (arith, ints)

nothing : pos 0 ≤ℤ pos 0
nothing = omega (arith, ints)

-- which is nowhere below 0
deposits_natural : (t : Token) (xs : List Input) → pos 0 ≤ℤ wanted (deposits xs) t
deposits_natural t [] = nothing
deposits_natural t (Deposit p q u n ∷ xs) = by (int_lt (pos 0) n) refl (deposits_natural t xs)
  where
    by : (b : Bool) → int_lt (pos 0) n ≡ b → pos 0 ≤ℤ wanted (deposits xs) t → pos 0 ≤ℤ wanted (cons_option (if b then Some (u, n) else None) (deposits xs)) t
    by true e h = both_natural (counted t u n) (wanted (deposits xs) t) (zero_counted (eq_by_cmp token_cmp t u) n (above n e)) h
    by false e h = h
deposits_natural t (Choice id n ∷ xs) = deposits_natural t xs
deposits_natural t (Notify ∷ xs) = deposits_natural t xs

all_natural : (t : Token) (ss : List Stepped) → pos 0 ≤ℤ wanted (all_deposits ss) t
all_natural t [] = nothing
all_natural t (s ∷ ss) = subst (λ n. pos 0 ≤ℤ n) (sym (wanted-append t (deposits s.inputs) (all_deposits ss))) (both_natural (wanted (deposits s.inputs) t) (wanted (all_deposits ss) t) (deposits_natural t s.inputs) (all_natural t ss))

own_bundles : (ss : List Stepped) → ArePositive ss → AreBundles amount_in (own_outputs ss)
own_bundles [] h = tt
own_bundles (s ∷ ss) h = ((h.0).amounts, own_bundles ss h.1)

brought_natural : (t : Token) (ss : List Stepped) → ArePositive ss → pos 0 ≤ℤ brought t ss
brought_natural t ss h = both_natural (total_of amount_in t (own_outputs ss)) (wanted (all_deposits ss) t) (total_of-natural amount_in t (own_outputs ss) (own_bundles ss h)) (all_natural t ss)

just_one : (n : ℤ) → n +ℤ pos 0 ≡ n
just_one n = omega (arith, ints)

one_natural : (t : Token) (s : Stepped) → IsPositive s → pos 0 ≤ℤ brought_by t s
one_natural t s h =
    both_natural (amount_of s.thread.shown.output.amount t) (deposited t s.inputs)
    (subst (λ n. pos 0 ≤ℤ n) (just_one (amount_of s.thread.shown.output.amount t)) (total_of-natural amount_in t (own_output s.thread ∷ []) (h.amounts, tt)))
    (subst (λ n. pos 0 ≤ℤ n) (wanted-deposits t s.inputs) (deposits_natural t s.inputs))

-- ---- what a part makes, by its outcome

abbrev end_of : Stepped → Outcome Cont → Standing
end_of s out = standing out.state (cont_tree s.thread.shown.published.table out.place.0)

abbrev makes : Stepped → Outcome Cont → List Output
makes s out = let p = s.thread.shown.published in outcome_outputs p (is_close (cont_tree p.table out.place.0)) out

module _ (r : StepsRequest) where
  -- it is what the layout has of it
  makes_so : (s : Stepped) (out : Outcome Cont) → IsOutcome r s out → makes s out ≡ step_outputs_of s.thread (part_walk r s) (Ok (end_of s out))
  makes_so s out h =
      let p = s.thread.shown.published in
      let a = end_of s out in
      ap (λ (place : Cont). map (continuation p.id) (if is_close a.contract then [] else record { cont = place; state = out.state } ∷ []) ++ due_outputs p.currency out.payments) (sym h.led)
      ∙ ap (λ ps. continuing_outputs s.thread (part_walk r s) a ++ due_outputs p.currency ps) h.paid

  one_laid : (s : Stepped) (out : Outcome Cont) → IsOutcome r s out → makes s out ≡ part_outputs r s
  one_laid s out h = makes_so s out h ∙ ap (step_outputs_of s.thread (part_walk r s)) (sym h.ended)

  one_left : (s : Stepped) (out : Outcome Cont) → IsOutcome r s out → data_left (is_close (cont_tree s.thread.shown.published.table out.place.0)) out ≡ next_part_data r s
  one_left s out h =
      let a = end_of s out in
      ap (λ (place : Cont). let d : List Datum = if is_close a.contract then [] else record { cont = place; state = out.state } ∷ [] in d) (sym h.led)
      ∙ ap (next_data_of s.thread (part_walk r s)) (sym h.ended)

  pub all_laid : (ss : List Stepped) (outs : List (Outcome Cont)) → AreOutcomes r ss outs → outcomes_outputs ss outs ≡ parts_outputs r ss
  all_laid [] [] h = refl
  all_laid [] (out ∷ outs) h = absurd h
  all_laid (s ∷ ss) [] h = absurd h
  all_laid (s ∷ ss) (out ∷ outs) h = ap (λ os. os ++ outcomes_outputs ss outs) (one_laid s out h.0) ∙ ap (λ os. part_outputs r s ++ os) (all_laid ss outs h.1)

  all_left : (ss : List Stepped) (outs : List (Outcome Cont)) → AreOutcomes r ss outs → data_after ss outs ≡ flat_map (next_part_data r) ss
  all_left [] [] h = refl
  all_left [] (out ∷ outs) h = absurd h
  all_left (s ∷ ss) [] h = absurd h
  all_left (s ∷ ss) (out ∷ outs) h = ap (λ ds. ds ++ data_after ss outs) (one_left s out h.0) ∙ ap (λ ds. next_part_data r s ++ ds) (all_left ss outs h.1)

  pub all_brought : (ss : List Stepped) (outs : List (Outcome Cont)) → AreOutcomes r ss outs → outcomes_data ss outs ≡ parts_data r ss
  all_brought ss outs h = ap (λ ds. map (λ (s : Stepped). s.thread.datum) ss ++ ds) (all_left ss outs h)

  module _ (money : MoneyIsKept) (quiet : EndsQuiet) (natural : PaymentsAreNatural) where
    left_is : (s d t p o : ℤ) → s +ℤ d ≡ t +ℤ p → pos 0 ≤ℤ p → o ≡ s → t ≤ℤ (o +ℤ d)
    left_is s d t p o h k e = omega (arith, ints, h, k, e)

    made_is : (s d t p o m : ℤ) → s +ℤ d ≡ t +ℤ p → m ≡ t +ℤ p → o ≡ s → m ≡ o +ℤ d
    made_is s d t p o m h k e = omega (arith, ints, h, k, e)

    -- a part makes what it brings, and what is left of it is no more
    record IsKept (t : Token) (s : Stepped) (out : Outcome Cont) : Type 0 where
      pub made : total_of amount t (makes s out) ≡ brought_by t s
      pub left : states.total_of t out.state ≤ℤ brought_by t s

    one_kept : (t : Token) (s : Stepped) (out : Outcome Cont) → IsOutcome r s out → s.thread.shown.output.amount ≡ sums_of s.thread.datum.state → IsPositive s → IsKept t s out
    one_kept t s out h held above =
        let w = part_walk r s in
        let a = end_of s out in
        let d = s.thread.datum in
        let c = (thread_terms s.thread).tree d.cont in
        let well : w.end ≡ Ok a = ended_well _ w.end a h.ended in
        let kept = money t r.interval d.state c s.inputs a well in
        let ps = natural r.interval d.state c s.inputs above.accounts in
        let own : amount_of s.thread.shown.output.amount t ≡ states.total_of t d.state = ap (λ m. amount_of m t) held ∙ amount_of-sums_in (entries d.state.accounts) t in
        let made = ap (total_of amount t) (makes_so s out h) ∙ made_sum t s.thread w a (quiet_total t a r.interval.to (quiet r.interval d.state c s.inputs a well)) ps in
        record {
          made = made_is (states.total_of t d.state) (deposited t s.inputs) (states.total_of t out.state) (paid_out t w.payments) (amount_of s.thread.shown.output.amount t) (total_of amount t (makes s out)) kept made own;
          left = left_is (states.total_of t d.state) (deposited t s.inputs) (states.total_of t out.state) (paid_out t w.payments) (amount_of s.thread.shown.output.amount t) kept (paid_natural t w.payments ps) own;
        }

    all_made : (t : Token) (ss : List Stepped) (outs : List (Outcome Cont)) → AreOutcomes r ss outs → AreStanding ss → ArePositive ss → total_of amount t (outcomes_outputs ss outs) ≡ brought t ss
    all_made t [] [] h stand above = refl
    all_made t [] (out ∷ outs) h stand above = absurd h
    all_made t (s ∷ ss) [] h stand above = absurd h
    all_made t (s ∷ ss) (out ∷ outs) h stand above =
        total_of-append amount t (makes s out) (outcomes_outputs ss outs)
        ∙ ap (λ n. n +ℤ total_of amount t (outcomes_outputs ss outs)) (one_kept t s out h.0 (stand.0).held above.0).made
        ∙ ap (λ n. brought_by t s +ℤ n) (all_made t ss outs h.1 stand.1 above.1)
        ∙ sym (one_brings t s ss)

    rest_below : (a b c all : ℤ) → a ≡ b +ℤ c → pos 0 ≤ℤ b → a ≤ℤ all → c ≤ℤ all
    rest_below a b c all h k l = omega (arith, ints, h, k, l)

    first_below : (a b c n all : ℤ) → a ≡ b +ℤ c → pos 0 ≤ℤ c → n ≤ℤ b → a ≤ℤ all → n ≤ℤ all
    first_below a b c n all h k l m = omega (arith, ints, h, k, l, m)

    -- where there is room for all that they bring, there is room for what is left of each
    room_for : (all : Amounts) → is_much all ≡ false → (ss : List Stepped) (outs : List (Outcome Cont)) → AreOutcomes r ss outs → AreStanding ss → ArePositive ss → ((t : Token) → brought t ss ≤ℤ amount_of all t) → HaveRoom ss outs
    room_for all room [] [] h stand above below = tt
    room_for all room [] (out ∷ outs) h stand above below = absurd h
    room_for all room (s ∷ ss) [] h stand above below = absurd h
    room_for all room (s ∷ ss) (out ∷ outs) h stand above below = (
      (h.0).has,
      room_below all (sums_of out.state) room (λ t k.
          more (amount_of all t) (amount_of (sums_of out.state) t) k
          (first_below (brought t (s ∷ ss)) (brought_by t s) (brought t ss) (amount_of (sums_of out.state) t) (amount_of all t) (one_brings t s ss) (brought_natural t ss above.1)
          (subst (λ n. n ≤ℤ brought_by t s) (sym (amount_of-sums_in (entries out.state.accounts) t)) (one_kept t s out h.0 (stand.0).held above.0).left) (below t))),
      room_for all room ss outs h.1 stand.1 above.1 (λ t. rest_below (brought t (s ∷ ss)) (brought_by t s) (brought t ss) (amount_of all t) (one_brings t s ss) (one_natural t s above.0) (below t)),
    )

    below_all : (o w f all : ℤ) → all ≡ o +ℤ f → w ≤ℤ f → (o +ℤ w) ≤ℤ all
    below_all o w f all h k = omega (arith, ints, h, k)

    -- what is spent is what they bring, and more
    spent_above : (t : Token) (ss : List Stepped) (us : List Unspent) → is_none (least_lacking (all_deposits ss) us) ≡ true → AreBundles amount_in us → brought t ss ≤ℤ amount_of (sums amount_in (own_outputs ss ++ us)) t
    spent_above t ss us covered bundles =
        below_all (total_of amount_in t (own_outputs ss)) (wanted (all_deposits ss) t) (total_of amount_in t us) (amount_of (sums amount_in (own_outputs ss ++ us)) t)
        (amount_of-sums amount_in (own_outputs ss ++ us) t ∙ total_of-append amount_in t (own_outputs ss) us) (all_covered t (all_deposits ss) us bundles covered)

    bundles-append : (xs ys : List Unspent) → AreBundles amount_in xs → AreBundles amount_in ys → AreBundles amount_in (xs ++ ys)
    bundles-append [] ys h k = k
    bundles-append (x ∷ xs) ys h k = (h.0, bundles-append xs ys h.1 k)

    pub parts_room : (ss : List Stepped) (outs : List (Outcome Cont)) (us : List Unspent) → AreOutcomes r ss outs → AreStanding ss → ArePositive ss → is_none (least_lacking (all_deposits ss) us) ≡ true → AreBundles amount_in us →
        is_much (sums amount_in (own_outputs ss ++ us)) ≡ false → HaveRoom ss outs
    parts_room ss outs us h stand above covered bundles room =
        room_for (sums amount_in (own_outputs ss ++ us)) room ss outs h stand above (λ t. spent_above t ss us covered bundles)

    pub parts_cover : (ss : List Stepped) (outs : List (Outcome Cont)) (us : List Unspent) → AreOutcomes r ss outs → AreStanding ss → ArePositive ss → is_none (least_lacking (all_deposits ss) us) ≡ true → AreBundles amount_in us →
        covers (sums amount_in (own_outputs ss ++ us)) (sums amount (outcomes_outputs ss outs)) ≡ true
    parts_cover ss outs us h stand above covered bundles =
        let spent = own_outputs ss ++ us in
        let made = outcomes_outputs ss outs in
        each_token_is_covered (sums amount_in spent) (sums amount made) (positive_sums amount_in spent (bundles-append (own_outputs ss) us (own_bundles ss above) bundles))
        (λ t. subst (λ n. n ≤ℤ amount_of (sums amount_in spent) t) (sym (amount_of-sums amount made t ∙ all_made t ss outs h stand above)) (spent_above t ss us covered bundles))
