-- The worked losses.
use Rattle.std.proofs.Common.{◌≡◌, ℤ, pos, ◌+ℤ◌, ◌≤ℤ◌, List, [], ◌∷◌, length, refl, sym, ap, ◌∙◌, arith}
use Rattle.std.proofs.lemmas.Int.{ints}
use Rattle.std.specs.Option.{unwrap_or}
use Rattle.std.specs.FinMap.{empty, entries, insert, get-empty, len-empty, len-entries, entries-insert}
use Rattle.std.specs.FinMap.Entries.{put}
use Rattle.contract.specs.Names.declared.account.Account.{Account}
use Rattle.contract.specs.Names.declared.party.Party.{Party}
use Rattle.contract.specs.Names.Equal.{ada}
use Rattle.contract.specs.Names.Orders.{account_cmp}
use Rattle.contract.specs.Names.Totals.{account_total}
use Rattle.semantics.specs.Evaluation.Numbers.{fits}
use Rattle.semantics.specs.Walk.{standing}
use Rattle.semantics.specs.Reduction.{account_of, balance}
use Rattle.semantics.specs.Closing.{IsSpent}
use Rattle.semantics.specs.Computed.{applied, one_input, from_start, computed}
use Rattle.semantics.specs.Rows.{party_a, party_b, nothing}
use Rattle.analysis_spec.specs.Runs.{stands_after}
use Rattle.losses.specs.Rows.{takes_five, gives, FiveAreBrought, FiveAreLost, FourAreTooFew, RefusedBringsNothing, BelowZeroBringsNothing, OtherTokensBringNothing, OthersBringNothing, OwnMoneyComesBack}

none_counted : (es : List (Account × ℤ)) → length es ≡ 0 → es ≡ []
none_counted [] h = refl
none_counted (e ∷ es) h = absurd (cc)

no_entries : entries (empty {X = ℤ} {R = account_cmp}) ≡ []
no_entries = none_counted (entries empty) (sym (len-entries (empty {X = ℤ} {R = account_cmp})) ∙ len-empty account_cmp ℤ)

has_nothing : (p : Party) → balance nothing p ada ≡ pos 0
has_nothing p = ap (λ o. unwrap_or o (pos 0)) (get-empty account_cmp (account_of p ada))

one_entry : (p : Party) → entries (insert (empty {X = ℤ} {R = account_cmp}) (account_of p ada) (pos 5)) ≡ (account_of p ada, pos 5) ∷ []
one_entry p = entries-insert account_total empty (account_of p ada) (pos 5) ∙ ap (put account_cmp (account_of p ada) (pos 5)) no_entries

pub five_are_brought : FiveAreBrought
unfolding computed from_start one_input applied fits
five_are_brought = rw (has_nothing party_a) refl

pub five_are_lost : FiveAreLost
unfolding computed from_start one_input applied fits
five_are_lost = rw (has_nothing party_a, one_entry party_a) refl

pub refused_brings_nothing : RefusedBringsNothing
unfolding computed from_start one_input applied fits
refused_brings_nothing = refl

pub below_zero_brings_nothing : BelowZeroBringsNothing
below_zero_brings_nothing = refl

pub other_tokens_bring_nothing : OtherTokensBringNothing
other_tokens_bring_nothing = refl

pub others_bring_nothing : OthersBringNothing
others_bring_nothing = refl

pub own_money_comes_back : OwnMoneyComesBack
unfolding computed from_start one_input applied fits
own_money_comes_back = rw (has_nothing party_b, one_entry party_b) refl

-- nothing is left behind the deposit
spent : let b = stands_after (standing nothing (takes_five party_a)) (gives party_a (pos 5)) in IsSpent b.state b.contract
unfolding computed from_start one_input applied fits
spent = rw (has_nothing party_a) (refl, no_entries)

five_by_four : (m n : ℤ) → m ≡ pos 5 → n ≡ pos 0 → m ≤ℤ (n +ℤ pos 4) → ⊥
five_by_four m n e f h = omega (arith, ints, e, f)

pub four_are_too_few : FourAreTooFew
four_are_too_few promise = five_by_four _ _ five_are_brought five_are_lost (promise (gives party_a (pos 5)) spent)
