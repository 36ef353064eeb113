-- Runs that break a promise.
use Rattle.std.proofs.Common.{◌≡◌, ℤ, pos, List, [], ◌∷◌, ◌++◌, length, ◌≤ℤ◌, refl, sym, ap, ◌∙◌, subst, arith}
use Rattle.std.proofs.lemmas.Int.{ints}
use Rattle.std.specs.List.{AllByRecursion}
use Rattle.std.specs.Option.{unwrap_or}
use Rattle.std.specs.Result.{result_unwrap_or}
use Rattle.std.specs.FinMap.{empty, entries, get-empty, len-empty, len-entries}
use Rattle.contract.specs.Names.declared.account.Account.{Account}
use Rattle.contract.specs.Names.declared.payee.Payee.TheVariants.{Party as ToParty}
use Rattle.contract.specs.Names.Equal.{ada}
use Rattle.contract.specs.Names.Orders.{account_cmp}
use Rattle.contract.specs.declared.transaction.Transaction.{Transaction}
use Rattle.contract.specs.declared.warning.Warning.{Warning}
use Rattle.contract.specs.declared.warning.Warning.TheVariants as warnings
use Rattle.contract.specs.Tree.{ContractTree, close}
use Rattle.contract.specs.States.States.{StateMaps}
use Rattle.semantics.specs.Evaluation.Numbers.{fits}
use Rattle.semantics.specs.Walk.{Standing, standing}
use Rattle.semantics.specs.Reduction.{account_of, balance}
use Rattle.semantics.specs.Closing.{IsSpent}
use Rattle.semantics.specs.Computed.{from_start, computed}
use Rattle.semantics.specs.Rows.{party_a, party_b, nothing, a_has_three, pays_b, PaysWhatThereIs, PaysNothing, PaysZero, ZeroIsDeposited, LaterIsBound, FalseAndFails, LeastByMinusOneIsRefused}
use Rattle.analysis_spec.specs.declared.kind.AlarmKind.{AlarmKind}
use Rattle.analysis_spec.specs.Runs.{walk_from, paid_with, paid_to}
use Rattle.analysis_spec.specs.Promises.{kind_of, NeverWarns}
use Rattle.analysis_spec.specs.Rows.{early, pays_and_waits, EmptyPayWarns, RefusedPayWarns, ZeroPayWarns, ZeroDepositWarns, SecondLetWarns, FalseAssertWarns, LeastByMinusOneLeaves, ThreeArePaid, TwoAreTooFew, FourAreTooMany, RefusedPaysNothing}

-- a first transaction that warns so
warns_at_once : (kind : AlarmKind) (s : StateMaps) (c : ContractTree) (t : Transaction) (w : Warning) → (walk_from (standing s c) t).warnings ≡ w ∷ [] → kind_of w ≡ kind → NeverWarns kind s c → ⊥
warns_at_once kind s c t w e k promise = (subst (AllByRecursion (λ w. kind_of w ≡ kind → ⊥)) e (promise [] t)).0 k

pub empty_pay_warns : PaysNothing → EmptyPayWarns
empty_pay_warns row = warns_at_once _ _ _ (early []) _ row.warns refl

has_nothing : balance nothing party_a ada ≡ pos 0
has_nothing = ap (λ o. unwrap_or o (pos 0)) (get-empty account_cmp (account_of party_a ada))

pays_partly : (walk_from (standing nothing (pays_and_waits (pos 5))) (early [])).warnings ≡ warnings.PartialPay party_a (ToParty party_b) ada (pos 0) (pos 5) ∷ []
unfolding computed from_start
pays_partly = rw has_nothing refl

pub refused_pay_warns : RefusedPayWarns
refused_pay_warns = warns_at_once _ _ _ (early []) _ pays_partly refl

pub zero_pay_warns : PaysZero → ZeroPayWarns
zero_pay_warns row = warns_at_once _ _ _ (early []) _ row.warns refl

pub zero_deposit_warns : ZeroIsDeposited → ZeroDepositWarns
zero_deposit_warns row = warns_at_once _ _ _ (early _) _ row.warns refl

pub second_let_warns : LaterIsBound → SecondLetWarns
second_let_warns row = warns_at_once _ _ _ (early []) _ row.warns refl

pub false_assert_warns : FalseAndFails → FalseAssertWarns
false_assert_warns row = warns_at_once _ _ _ (early []) _ row.warns refl

pub least_by_minus_one_leaves : LeastByMinusOneIsRefused → LeastByMinusOneLeaves
least_by_minus_one_leaves row promise =
    promise [] (early []) (((omega (arith, ints), omega (arith, ints)), (omega (arith, ints), omega (arith, ints))), tt) row

-- ---- payments

pub three_are_paid : PaysWhatThereIs → ThreeArePaid
three_are_paid row =
    let w = walk_from (standing a_has_three (pays_b (pos 5))) (early []) in
    ap (λ r. paid_to party_b ada (paid_with r w.payments ++ [])) row.answers ∙ ap (λ ps. paid_to party_b ada (ps ++ [])) row.paid

above_two : (n : ℤ) → n ≡ pos 3 → n ≤ℤ pos 2 → ⊥
above_two n e h = omega (arith, ints)

below_four : (n : ℤ) → n ≡ pos 3 → pos 4 ≤ℤ n → ⊥
below_four n e h = omega (arith, ints)

pub two_are_too_few : PaysWhatThereIs → TwoAreTooFew
two_are_too_few row promise = above_two _ (three_are_paid row) (promise.always (early [] ∷ []))

none_counted : (es : List (Account × ℤ)) → length es ≡ 0 → es ≡ []
none_counted [] h = refl
none_counted (e ∷ es) h = absurd (cc)

no_entries : entries (empty {X = ℤ} {R = account_cmp}) ≡ []
no_entries = none_counted (entries empty) (sym (len-entries (empty {X = ℤ} {R = account_cmp})) ∙ len-empty account_cmp ℤ)

pub four_are_too_many : PaysWhatThereIs → FourAreTooMany
four_are_too_many row promise =
    let a = standing a_has_three (pays_b (pos 5)) in
    let spent : IsSpent nothing close = (refl, no_entries) in
    let end = ap (λ r. result_unwrap_or r a) row.answers in
    below_four _ (three_are_paid row) (promise.once_closed (early [] ∷ []) (subst (λ (b : Standing). IsSpent b.state b.contract) (sym end) spent))

pub refused_pays_nothing : RefusedPaysNothing
unfolding computed from_start fits
refused_pays_nothing = refl
