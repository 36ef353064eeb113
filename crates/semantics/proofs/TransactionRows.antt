-- The worked transactions of the forms beside Close and When.
use Rattle.std.proofs.Common.{◌≡◌, ℤ, pos, Bool, true, false, cond, Option, Some, None, List, [], ◌∷◌, length, refl, sym, ap, ◌∙◌}
use Rattle.std.specs.Option.{unwrap_or}
use Rattle.std.specs.Ordering.{eq_by_cmp}
use Rattle.std.specs.FinMap.{get, insert, remove, empty, entries, get-empty, get-insert, get-remove, get-from_sorted, entries-insert, entries-from_sorted, len-empty, len-entries, same_map}
use Rattle.std.specs.FinMap.Entries.{put}
use Rattle.contract.specs.Names.declared.account.Account.{Account}
use Rattle.contract.specs.Names.Orders.{account_cmp, bytes_cmp}
use Rattle.contract.specs.Names.Totals.{account_total, bytes_total}
use Rattle.contract.proofs.FromNames.Exact.{account_exact}
use Rattle.contract.specs.States.States.{with_money}
use Rattle.evaluation.specs.Numbers.{fits}
use Rattle.semantics.specs.Reduction.{account_of, balance}
use Rattle.evaluation.specs.Evaluation.{quotient}
use Rattle.semantics.specs.Computed.{applied, one_input, from_start, computed}
use Rattle.contract.specs.Names.Equal.{ada}
use Rattle.semantics.specs.Rows.{party_a, party_b, party_x, name_x, a_has_three, two_accounts, nothing}
use Rattle.semantics.specs.Rows.{PaysWhatThereIs, PaysNothing, PaysZero, PaysItself, EntersNothing, MinusSevenByTwoIsBound, SevenByZeroIsBound, LeastIsBound, LeastByMinusOneIsRefused, CondIsBound, CondIsRefused, LaterIsBound, IfChooses, FalseAndFails, TrueAndIsRefused, TrueOrIsSilent, FirstIsTaken, EndsAreChosen, OutsideIsNoMatch, ZeroIsDeposited, RefundsInOrder, CloseIsUseless}
use Rattle.semantics.proofs.Refunds.{entries-refund}

-- ---- maps of no entry and of one

none_counted : (es : List (Account × ℤ)) → length es ≡ 0 → es ≡ []
none_counted [] h = refl
none_counted (e ∷ es) h = absurd (cc)

no_entries : entries (empty {X = ℤ} {R = account_cmp}) ≡ []
no_entries = none_counted (entries empty) (sym (len-entries (empty {X = ℤ} {R = account_cmp})) ∙ len-empty account_cmp ℤ)

neither : (t : Bool) → ◌≡◌ {A = Option ℤ} (cond t None None) None
neither true = refl
neither false = refl

nothing_removed : (k : Account) → remove (empty {X = ℤ} {R = account_cmp}) k ≡ empty
nothing_removed k =
    same_map account_total account_exact (remove empty k) empty (λ q.
    get-remove account_total empty k q ∙ ap (cond (eq_by_cmp account_cmp q k) None) (get-empty account_cmp q) ∙ neither (eq_by_cmp account_cmp q k) ∙ sym (get-empty account_cmp q))

has_three : balance a_has_three party_a ada ≡ pos 3
has_three = ap (λ o. unwrap_or o (pos 0)) (get-from_sorted account_cmp ((account_of party_a ada, pos 3) ∷ []) (account_of party_a ada) tt)

has_nothing : balance nothing party_a ada ≡ pos 0
has_nothing = ap (λ o. unwrap_or o (pos 0)) (get-empty account_cmp (account_of party_a ada))

none_left : entries (remove a_has_three.accounts (account_of party_a ada)) ≡ []
none_left = entries-refund a_has_three (account_of party_a ada, pos 3) [] (entries-from_sorted account_cmp ((account_of party_a ada, pos 3) ∷ []) tt)

not_bound : get (empty {X = ℤ} {R = bytes_cmp}) name_x ≡ None
not_bound = get-empty bytes_cmp name_x

bound_before : get (insert (empty {X = ℤ} {R = bytes_cmp}) name_x (pos 1)) name_x ≡ Some (pos 1)
bound_before = get-insert bytes_total empty name_x (pos 1) name_x

-- ---- Pay

pub pays_what_there_is : PaysWhatThereIs
unfolding computed from_start fits
pays_what_there_is = record { warns = rw has_three refl; paid = rw (has_three, none_left) refl; answers = refl }

pub pays_nothing : PaysNothing
unfolding computed from_start fits
pays_nothing = record { warns = rw has_nothing refl; paid = rw (has_nothing, nothing_removed (account_of party_a ada), no_entries) refl; answers = refl }

pub pays_zero : PaysZero
unfolding computed from_start fits
pays_zero = record { warns = refl; paid = rw no_entries refl; answers = refl }

has_one : balance (with_money a_has_three (account_of party_a ada) (pos 1)) party_a ada ≡ pos 1
has_one = ap (λ o. unwrap_or o (pos 0)) (get-insert account_total a_has_three.accounts (account_of party_a ada) (pos 1) (account_of party_a ada))

one_entry : entries a_has_three.accounts ≡ (account_of party_a ada, pos 3) ∷ []
one_entry = entries-from_sorted account_cmp ((account_of party_a ada, pos 3) ∷ []) tt

three_again : entries (insert (insert a_has_three.accounts (account_of party_a ada) (pos 1)) (account_of party_a ada) (pos 3)) ≡ (account_of party_a ada, pos 3) ∷ []
three_again =
    entries-insert account_total (insert a_has_three.accounts (account_of party_a ada) (pos 1)) (account_of party_a ada) (pos 3)
    ∙ ap (put account_cmp (account_of party_a ada) (pos 3)) (entries-insert account_total a_has_three.accounts (account_of party_a ada) (pos 1) ∙ ap (put account_cmp (account_of party_a ada) (pos 1)) one_entry)

pub pays_itself : PaysItself
unfolding computed from_start fits
pays_itself = record { warns = rw has_three refl; paid = rw (has_three, has_one, three_again) refl; answers = rw (has_three, has_one) refl }

b_has_nothing : balance nothing party_b ada ≡ pos 0
b_has_nothing = ap (λ o. unwrap_or o (pos 0)) (get-empty account_cmp (account_of party_b ada))

pub enters_nothing : EntersNothing
unfolding computed from_start fits
enters_nothing = record {
  warns = rw has_nothing refl;
  paid = rw (has_nothing, nothing_removed (account_of party_a ada), b_has_nothing, nothing_removed (account_of party_b ada), no_entries) refl;
  answers = rw (has_nothing, nothing_removed (account_of party_a ada), b_has_nothing) refl;
}

-- ---- Let, If and Assert

pub minus_seven_by_two_is_bound : MinusSevenByTwoIsBound
unfolding computed from_start quotient fits
minus_seven_by_two_is_bound = record { warns = rw not_bound refl; paid = rw no_entries refl; answers = refl }

pub seven_by_zero_is_bound : SevenByZeroIsBound
unfolding computed from_start quotient fits
seven_by_zero_is_bound = record { warns = rw not_bound refl; paid = rw no_entries refl; answers = refl }

pub least_is_bound : LeastIsBound
unfolding computed from_start quotient fits
least_is_bound = record { warns = rw not_bound refl; paid = rw no_entries refl; answers = refl }

pub least_by_minus_one_is_refused : LeastByMinusOneIsRefused
unfolding computed from_start quotient fits
least_by_minus_one_is_refused = refl

pub cond_is_bound : CondIsBound
unfolding computed from_start fits
cond_is_bound = record { warns = rw not_bound refl; paid = rw no_entries refl; answers = refl }

pub cond_is_refused : CondIsRefused
unfolding computed from_start fits
cond_is_refused = refl

pub later_is_bound : LaterIsBound
unfolding computed from_start fits
later_is_bound = record { warns = rw (not_bound, bound_before) refl; paid = rw no_entries refl; answers = refl }

pub if_chooses : IfChooses
unfolding computed from_start fits
if_chooses = (
  record { warns = rw not_bound refl; paid = rw no_entries refl; answers = refl },
  record { warns = refl; paid = rw no_entries refl; answers = refl },
)

pub false_and_fails : FalseAndFails
unfolding computed from_start fits
false_and_fails = record { warns = refl; paid = rw no_entries refl; answers = refl }

pub true_and_is_refused : TrueAndIsRefused
unfolding computed from_start fits
true_and_is_refused = refl

pub true_or_is_silent : TrueOrIsSilent
unfolding computed from_start fits
true_or_is_silent = record { warns = refl; paid = rw no_entries refl; answers = refl }

-- ---- inputs

pub first_is_taken : FirstIsTaken
unfolding computed from_start one_input applied fits
first_is_taken = record { warns = rw not_bound refl; paid = rw no_entries refl; answers = refl }

pub ends_are_chosen : EndsAreChosen
unfolding computed from_start one_input applied fits
ends_are_chosen = (
  record { warns = refl; paid = rw no_entries refl; answers = refl },
  record { warns = refl; paid = rw no_entries refl; answers = refl },
)

pub outside_is_no_match : OutsideIsNoMatch
unfolding computed from_start one_input applied
outside_is_no_match = refl

pub zero_is_deposited : ZeroIsDeposited
unfolding computed from_start one_input applied fits
zero_is_deposited = record { warns = refl; paid = rw no_entries refl; answers = refl }

-- ---- Close

two_entries : entries two_accounts.accounts ≡ (account_of party_x ada, pos 7) ∷ (account_of party_a ada, pos 5) ∷ []
two_entries =
    entries-insert account_total (insert empty (account_of party_a ada) (pos 5)) (account_of party_x ada) (pos 7)
    ∙ ap (put account_cmp (account_of party_x ada) (pos 7)) (entries-insert account_total empty (account_of party_a ada) (pos 5) ∙ ap (put account_cmp (account_of party_a ada) (pos 5)) no_entries)

pub refunds_in_order : RefundsInOrder
unfolding computed from_start fits
refunds_in_order = record { warns = refl; paid = rw two_entries refl; answers = rw two_entries refl }

pub close_is_useless : CloseIsUseless
unfolding computed from_start
close_is_useless = rw no_entries refl
