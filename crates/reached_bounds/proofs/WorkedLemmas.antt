-- The worked runs.
use Rattle.std.proofs.Common.{◌≡◌, ℤ, pos, ◌+ℤ◌, List, [], ◌∷◌, length, refl, sym, ap, ◌∙◌, subst, Result, Err, IsOk, arith}
use Rattle.std.proofs.lemmas.Int.{ints}
use Rattle.std.specs.Option.{unwrap_or}
use Rattle.std.specs.FinMap.{empty, entries, insert, get-empty, len-empty, len-entries, entries-insert}
use Rattle.std.specs.FinMap.Entries.{put}
use Rattle.contract.specs.Names.declared.account.Account.{Account}
use Rattle.contract.specs.Names.declared.party.Party.{Party}
use Rattle.contract.specs.Names.Equal.{ada}
use Rattle.contract.specs.Names.Orders.{account_cmp}
use Rattle.contract.specs.Names.Totals.{account_total}
use Rattle.contract.specs.declared.fault.SemFault.{SemFault}
use Rattle.contract.specs.declared.fault.SemFault.TheVariants.{NoMatch}
use Rattle.semantics.specs.Evaluation.Numbers.{fits}
use Rattle.semantics.specs.Walk.{Standing, standing}
use Rattle.semantics.specs.Reduction.{account_of, balance}
use Rattle.semantics.specs.Computed.{applied, one_input, from_start, computed}
use Rattle.semantics.specs.Rows.{party_a, party_b, nothing}
use Rattle.analysis_spec.specs.Runs.{payments_of, paid_to}
use Rattle.losses.specs.Losses.{brought_by, inputs_of}
use Rattle.losses.specs.Rows.{takes_five, gives}
use Rattle.reached_bounds.specs.Reached.{AreAccepted, Close}
use Rattle.reached_bounds.specs.Rows.{FiveArePaid, FiveAreLost, FourAreNotLost, RefusedIsNoRun, MovedIsNotPaid}

none_counted : (es : List (Account × ℤ)) → length es ≡ 0 → es ≡ []
none_counted [] h = refl
none_counted (e ∷ es) h = absurd (cc)

no_entries : entries (empty {X = ℤ} {R = account_cmp}) ≡ []
no_entries = none_counted (entries empty) (sym (len-entries (empty {X = ℤ} {R = account_cmp})) ∙ len-empty account_cmp ℤ)

has_nothing : (p : Party) → balance nothing p ada ≡ pos 0
has_nothing p = ap (λ o. unwrap_or o (pos 0)) (get-empty account_cmp (account_of p ada))

one_entry : (p : Party) → entries (insert (empty {X = ℤ} {R = account_cmp}) (account_of p ada) (pos 5)) ≡ (account_of p ada, pos 5) ∷ []
one_entry p = entries-insert account_total empty (account_of p ada) (pos 5) ∙ ap (put account_cmp (account_of p ada) (pos 5)) no_entries

accepted : AreAccepted (standing nothing (takes_five party_a)) (gives party_a (pos 5))
unfolding computed from_start one_input applied fits
accepted = rw (has_nothing party_a) (refl, tt)

closed : Close (standing nothing (takes_five party_a)) (gives party_a (pos 5))
unfolding computed from_start one_input applied fits
closed = rw (has_nothing party_a) (refl, no_entries)

paid : paid_to party_a ada (payments_of (standing nothing (takes_five party_a)) (gives party_a (pos 5))) ≡ pos 5
unfolding computed from_start one_input applied fits
paid = rw (has_nothing party_a, one_entry party_a) refl

brought : brought_by party_b ada (inputs_of (standing nothing (takes_five party_a)) (gives party_a (pos 5))) ≡ pos 5
unfolding computed from_start one_input applied fits
brought = rw (has_nothing party_a) refl

unpaid : paid_to party_b ada (payments_of (standing nothing (takes_five party_a)) (gives party_a (pos 5))) ≡ pos 0
unfolding computed from_start one_input applied fits
unpaid = rw (has_nothing party_a, one_entry party_a) refl

pub five_are_paid : FiveArePaid
five_are_paid = ((accepted, paid), closed)

five : (m n : ℤ) → m ≡ pos 5 → n ≡ pos 0 → m ≡ n +ℤ pos 5
five m n e f = omega (arith, ints, e, f)

pub five_are_lost : FiveAreLost
five_are_lost = (accepted, closed, five _ _ brought unpaid)

four : (m n : ℤ) → m ≡ pos 5 → n ≡ pos 0 → m ≡ n +ℤ pos 4 → ⊥
four m n e f h = omega (arith, ints, e, f, h)

pub four_are_not_lost : FourAreNotLost
four_are_not_lost h = four _ _ brought unpaid h.2

not_ok : (r : Result Standing SemFault) (f : SemFault) → r ≡ Err f → IsOk r → ⊥
not_ok r f e h = absurd (let q : IsOk (let x : Result Standing SemFault = Err f in x) = subst (λ (z : Result Standing SemFault). IsOk z) e h in cc)

pub refused_is_no_run : RefusedIsNoRun
unfolding computed from_start one_input applied fits
refused_is_no_run h = not_ok _ NoMatch refl h.0.0

pub moved_is_not_paid : MovedIsNotPaid
moved_is_not_paid = refl
