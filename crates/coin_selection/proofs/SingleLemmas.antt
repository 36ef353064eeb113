-- Bundles of one token, and their sums.
use Rattle.std.proofs.Common.{◌≡◌, ℤ, pos, ◌+ℤ◌, ◌<ℤ◌, ◌≤ℤ◌, List, [], ◌∷◌, map, refl, sym, ◌∙◌, ap, subst, arith}
use Rattle.std.proofs.lemmas.Int.{ints}
use Rattle.std.specs.FinMap.{entries, empty, entries-insert}
use Rattle.std.specs.FinMap.Entries.{put}
use Rattle.contract.specs.Collections.Total.{total}
use Rattle.contract.specs.Names.declared.account.Account.{Account}
use Rattle.contract.specs.Names.declared.token.Token.{Token}
use Rattle.contract.specs.Names.Orders.{token_cmp}
use Rattle.contract.specs.Names.Totals.{token_total}
use Rattle.contract.specs.States.States as states
use Rattle.contract.specs.States.States.{in_token}
use Rattle.builder_spec.specs.Bundle.Bundles.{Amounts, amount_of, AllPositive}
use Rattle.builder_spec.specs.Bundle.Totals.{total_of}
use Rattle.builder_spec.proofs.FromBundle.ApartLaws.{amounts_tell_apart}
use Rattle.builder_spec.proofs.FromBundle.PositiveLaws.{amount_of-natural}
use Rattle.builder_spec.specs.Roles.Steps.{only}
use Rattle.builder_spec.specs.Roles.Sums.{sums_in}
use Rattle.builder_spec.specs.Holding.{sums, AreBundles}
use Rattle.builder_spec.proofs.HoldingLaws.{entries-empty, amount_of-sums, positive_with, positive_sums}
use Rattle.builder_spec.proofs.FundsLaws.{amount_of-only, amount_of-sums_in}

entries-only : (t : Token) (n : ℤ) → entries (only t n) ≡ (t, n) ∷ []
entries-only t n = entries-insert token_total empty t n ∙ ap (put token_cmp t n) entries-empty

abbrev pub single : Account × ℤ → Amounts
single e = only e.0.token e.1

abbrev pub itself : Amounts → Amounts
itself m = m

total-singles : (t : Token) (es : List (Account × ℤ)) → total_of itself t (map single es) ≡ total (in_token t) es
total-singles t [] = refl
total-singles t (e ∷ es) = ap (λ n. n +ℤ total_of itself t (map single es)) (amount_of-only t e.0.token e.1) ∙ ap (λ n. in_token t e +ℤ n) (total-singles t es)

singles_positive : (es : List (Account × ℤ)) → states.AllPositive es → AreBundles itself (map single es)
singles_positive [] h = tt
singles_positive (e ∷ es) h = (subst AllPositive (sym (entries-only e.0.token e.1)) (h.0, tt), singles_positive es h.1)

two : (a b : ℤ) → pos 0 ≤ℤ a → pos 0 <ℤ b → pos 0 <ℤ (a +ℤ b)
two a b h k = omega (arith, ints, h, k)

positive_in : (es : List (Account × ℤ)) → states.AllPositive es → AllPositive (entries (sums_in es))
positive_in [] h = subst AllPositive (sym entries-empty) tt
positive_in (e ∷ es) h =
    let rest = positive_in es h.1 in
    positive_with (sums_in es) e.0.token (amount_of (sums_in es) e.0.token +ℤ e.1) (two (amount_of (sums_in es) e.0.token) e.1 (amount_of-natural (sums_in es) e.0.token rest) h.0) rest

-- what the accounts hold is the sum of what each holds
pub sums-singles : (es : List (Account × ℤ)) → states.AllPositive es → sums itself (map single es) ≡ sums_in es
sums-singles es h =
    amounts_tell_apart (sums itself (map single es)) (sums_in es) (positive_sums itself (map single es) (singles_positive es h)) (positive_in es h)
    (λ t. amount_of-sums itself (map single es) t ∙ total-singles t es ∙ sym (amount_of-sums_in es t))
