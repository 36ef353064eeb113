-- Runs that are played transaction by transaction.
use Rattle.std.proofs.Common.{◌≡◌, ℤ, ◌+ℤ◌, ◌-ℤ◌, true, List, [], ◌∷◌, ◌++◌, append_assoc, append-nil, refl, sym, ap, ◌∙◌, subst, Result, Ok, Err, IsOk, Bool, Option, Some, None, IfSome, IfOk, ◌≤◌, ◌-◌, length, get_or, take, drop, arith}
use Rattle.std.specs.Result.{result_unwrap_or}
use Rattle.std.specs.Option.{IsSomeAnd}
use Rattle.std.proofs.lemmas.Int.{ints}
use Rattle.std.proofs.lemmas.List.{take_all}
use Rattle.contract.specs.Names.declared.party.Party.{Party}
use Rattle.contract.specs.Names.declared.token.Token.{Token}
use Rattle.contract.specs.declared.fault.SemFault.{SemFault}
use Rattle.contract.specs.declared.payment.Payment.{Payment}
use Rattle.contract.specs.declared.transaction.Transaction.{Transaction}
use Rattle.contract.specs.Tree.{ContractTree}
use Rattle.contract.specs.States.States.{StateMaps}
use Rattle.semantics.specs.Walk.{Standing, standing, answer_of}
use Rattle.semantics.specs.Closing.{IsSpent}
use Rattle.analysis_spec.specs.Runs.{walk_from, standing_after, paid_with, payments_of, paid_to}
use Rattle.losses.specs.Losses.{inputs_with, inputs_of, brought, brought_by}
use Rattle.reached_bounds.specs.declared.played.Played.{Played}
use Rattle.reached_bounds.specs.Reached.{AreAccepted, Close, Pays, PaysAndCloses, Loses}
use Rattle.reached_bounds.specs.ReachedSupport.{IsPlayed, brought_by_all}
use Rattle.reached_bounds.proofs.SumLemmas.{total_append}

pub none_played : (s : StateMaps) (c : ContractTree) (before : List Payment) (p : Played) → p.payments ≡ before → (p.is_spent ≡ true → IsSpent s c) → IsPlayed (standing s c) before [] p
none_played s c before p e h = record { accepted = tt; payments = e ∙ sym (append-nil before); spent = h }

pub one_played : (a b : Standing) (before ps paid : List Payment) (t : Transaction) (ts : List Transaction) (p : Played) → answer_of (walk_from a t) ≡ Ok b → ps ≡ (walk_from a t).payments → paid ≡ before ++ ps
    → IsPlayed b paid ts p → IsPlayed a before (t ∷ ts) p
one_played a b before ps paid t ts p e f g h =
    let w = walk_from a t in
    record {
      accepted = (
        subst (λ (r : Result Standing SemFault). IsOk r) (sym e) refl,
        subst (λ (r : Result Standing SemFault). AreAccepted (result_unwrap_or r a) ts) (sym e) h.accepted,
      );
      payments =
          subst (λ (r : Result Standing SemFault). p.payments ≡ before ++ (paid_with r w.payments ++ payments_of (result_unwrap_or r a) ts)) (sym e)
          (h.payments ∙ ap (λ x. x ++ payments_of b ts) (g ∙ ap (λ y. before ++ y) f) ∙ append_assoc before w.payments (payments_of b ts));
      spent = λ q. subst (λ (r : Result Standing SemFault). Close (result_unwrap_or r a) ts) (sym e) (h.spent q);
    }

-- the first of them and the rest
whole : (ts : List Transaction) (t : Transaction) → 1 ≤ length ts → t ≡ get_or ts 0 t → t ∷ take (length ts - 1) (drop 1 ts) ≡ ts
whole [] t l is = absurd (omega (arith, l))
whole (u ∷ us) t l is =
    let e : length (u ∷ us) - 1 ≡ length us = omega arith in
    ap (λ n. t ∷ take n us) e ∙ ap (λ zs. t ∷ zs) (take_all (length us) us (omega arith)) ∙ ap (λ z. z ∷ us) is

pub run_more : {E : Type 0} (a b : Standing) (before ps paid : List Payment) (t : Transaction) (ts : List Transaction) (r : Result (Option Played) E) → answer_of (walk_from a t) ≡ Ok b → ps ≡ (walk_from a t).payments
    → paid ≡ before ++ ps → 1 ≤ length ts → t ≡ get_or ts 0 t → IfOk r (λ o. IfSome o (IsPlayed b paid (take (length ts - 1) (drop 1 ts)))) → IfOk r (λ o. IfSome o (IsPlayed a before ts))
run_more a b before ps paid t ts (Ok (Some p)) e f g l is h = subst (λ us. IsPlayed a before us p) (whole ts t l is) (one_played a b before ps paid t (take (length ts - 1) (drop 1 ts)) p e f g h)
run_more a b before ps paid t ts (Ok None) e f g l is h = tt
run_more a b before ps paid t ts (Err x) e f g l is h = tt

-- what a party brings by accepted transactions is what it brings by all of them
pub brought_so : (party : Party) (token : Token) (a : Standing) (ts : List Transaction) → AreAccepted a ts → brought_by party token (inputs_of a ts) ≡ brought_by_all party token ts
brought_so party token a [] h = refl
brought_so party token a (t ∷ ts) h =
    by (answer_of (walk_from a t)) h.0
    ∙ ap (λ (z : ℤ). brought_by party token t.inputs +ℤ z) (brought_so party token (standing_after a t) ts h.1)
  where
    by : (r : Result Standing SemFault) → IsOk r → brought_by party token (inputs_with r t.inputs ++ inputs_of (standing_after a t) ts) ≡ brought_by party token t.inputs +ℤ brought_by party token (inputs_of (standing_after a t) ts)
    by (Ok b) k = total_append (brought party token) t.inputs (inputs_of (standing_after a t) ts)
    by (Err f) k = absurd (cc)

module _ (party : Party) (token : Token) (s : StateMaps) (c : ContractTree) (ts : List Transaction) (p : Played) (h : IsPlayed (standing s c) [] ts p) where
  pub pays_so : (n : ℤ) → n ≡ paid_to party token p.payments → Pays party token n s c ts
  pays_so n e = (h.accepted, sym (e ∙ ap (paid_to party token) h.payments))

  pub closes_so : (n : ℤ) → p.is_spent ≡ true → n ≡ paid_to party token p.payments → PaysAndCloses party token n s c ts
  closes_so n k e = (pays_so n e, h.spent k)

  back : (b q n : ℤ) → n ≡ b -ℤ q → b ≡ q +ℤ n
  back b q n e = omega (arith, ints, e)

  pub loses_so : (n : ℤ) → p.is_spent ≡ true → n ≡ brought_by_all party token ts -ℤ paid_to party token p.payments → Loses party token n s c ts
  loses_so n k e =
      (h.accepted, h.spent k, brought_so party token (standing s c) ts h.accepted ∙ (back _ _ n e ∙ ap (λ (ps : List Payment). paid_to party token ps +ℤ n) h.payments))

-- of bounds that are told
pub most_so : (party : Party) (token : Token) (s : StateMaps) (c : ContractTree) (ts : List Transaction) (p : Played) (most : Option ℤ) (b : Bool) → IsPlayed (standing s c) [] ts p
    → (b ≡ true → most ≡ Some (paid_to party token p.payments)) → b ≡ true → IsSomeAnd most (λ n. Pays party token n s c ts)
most_so party token s c ts p most b h f e = subst (λ (o : Option ℤ). IsSomeAnd o (λ n. Pays party token n s c ts)) (sym (f e)) (pays_so party token s c ts p h (paid_to party token p.payments) refl)

pub least_so : (party : Party) (token : Token) (s : StateMaps) (c : ContractTree) (ts : List Transaction) (p : Played) (least : Option ℤ) (b : Bool) → IsPlayed (standing s c) [] ts p → p.is_spent ≡ true
    → (b ≡ true → least ≡ Some (paid_to party token p.payments)) → b ≡ true → IsSomeAnd least (λ n. PaysAndCloses party token n s c ts)
least_so party token s c ts p least b h k f e =
    subst (λ (o : Option ℤ). IsSomeAnd o (λ n. PaysAndCloses party token n s c ts)) (sym (f e)) (closes_so party token s c ts p h (paid_to party token p.payments) k refl)

pub loss_so : (party : Party) (token : Token) (s : StateMaps) (c : ContractTree) (ts : List Transaction) (p : Played) (most : Option ℤ) (b : Bool) → IsPlayed (standing s c) [] ts p → p.is_spent ≡ true
    → (b ≡ true → most ≡ Some (brought_by_all party token ts -ℤ paid_to party token p.payments)) → b ≡ true → IsSomeAnd most (λ n. Loses party token n s c ts)
loss_so party token s c ts p most b h k f e =
    subst (λ (o : Option ℤ). IsSomeAnd o (λ n. Loses party token n s c ts)) (sym (f e)) (loses_so party token s c ts p h (brought_by_all party token ts -ℤ paid_to party token p.payments) k refl)
