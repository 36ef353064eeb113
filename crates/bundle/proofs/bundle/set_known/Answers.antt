use Rattle.std.proofs.Common.{◌≡◌, ◌≢◌, ◌<ℤ◌, ◌≤ℤ◌, pos, ℤ, of_z, sym, ◌∙◌, ap, subst, arith}
use mir.Syntax.{w128}
use Rattle.std.proofs.Math.Dec.{T}
use Rattle.std.proofs.Math.Facts.{to_z-of_z}
use Rattle.std.proofs.lemmas.Int.{ints}
use Rattle.std.specs.FinMap.{is_sorted, from_sorted}
use Rattle.std.specs.FinMap.Entries.{put, is_sorted-put}
use Rattle.names.specs.Orders.{token_cmp}
use Rattle.names.specs.Totals.{token_total}
use Rattle.bundle.specs.Bundles.{AllPositive, with_amount}
use Rattle.bundle.specs.WalksSupport.{without_zeros}
use Rattle.bundle.proofs.PositiveLaws.{AllPositive-put}
use Rattle.bundle.proofs.ZeroLemmas.{sorted-without_zeros, positive-without_zeros, natural-put, natural_of_positive, no_zeros, put_is_change, put_without_zeros}
use Rattle.bundle.proofs.bundle.set_known.Goals as goal

above : (n : ℤ) → pos 0 ≤ℤ n → n ≢ pos 0 → pos 0 <ℤ n
above n h d = omega (arith, ints, h, d)

pub returns-then-amount-eq0-clause-sorted : goal.returns-then-amount-eq0-clause-sorted
returns-then-amount-eq0-clause-sorted c =
    let put_is : c.write_known.new.entries.items ≡ put token_cmp c.args.token.now c.args.amount c.args.entries.now.items = c.write_known.ensures ∙ ap (λ n. put token_cmp c.args.token.now n c.args.entries.now.items) (to_z-of_z c.ranges.amount) in
    let rest : c.drop_zeros.new.entries.items ≡ without_zeros (put token_cmp c.args.token.now c.args.amount c.args.entries.now.items) = c.drop_zeros.ensures ∙ ap without_zeros put_is in
    subst (λ es. T (is_sorted token_cmp es)) (sym rest) (sorted-without_zeros (put token_cmp c.args.token.now c.args.amount c.args.entries.now.items) (is_sorted-put token_cmp token_total c.args.token.now c.args.amount c.args.entries.now.items c.requires.sorted))

pub returns-then-amount-eq0-clause-positive : goal.returns-then-amount-eq0-clause-positive
returns-then-amount-eq0-clause-positive c =
    let put_is : c.write_known.new.entries.items ≡ put token_cmp c.args.token.now c.args.amount c.args.entries.now.items = c.write_known.ensures ∙ ap (λ n. put token_cmp c.args.token.now n c.args.entries.now.items) (to_z-of_z c.ranges.amount) in
    let rest : c.drop_zeros.new.entries.items ≡ without_zeros (put token_cmp c.args.token.now c.args.amount c.args.entries.now.items) = c.drop_zeros.ensures ∙ ap without_zeros put_is in
    subst AllPositive (sym rest) (positive-without_zeros (put token_cmp c.args.token.now c.args.amount c.args.entries.now.items) (natural-put c.args.token.now c.args.amount c.args.entries.now.items c.requires.natural (natural_of_positive c.args.entries.now.items c.requires.positive)))

pub returns-then-amount-eq0-clause-set : goal.returns-then-amount-eq0-clause-set
returns-then-amount-eq0-clause-set c =
    let put_is : c.write_known.new.entries.items ≡ put token_cmp c.args.token.now c.args.amount c.args.entries.now.items = c.write_known.ensures ∙ ap (λ n. put token_cmp c.args.token.now n c.args.entries.now.items) (to_z-of_z c.ranges.amount) in
    let rest : c.drop_zeros.new.entries.items ≡ without_zeros (put token_cmp c.args.token.now c.args.amount c.args.entries.now.items) = c.drop_zeros.ensures ∙ ap without_zeros put_is in
    ap (from_sorted {R = token_cmp}) rest ∙ put_without_zeros c.args.entries.now.items c.args.token.now c.args.amount c.requires.sorted
    ∙ ap (λ es. with_amount (from_sorted es) c.args.token.now c.args.amount) (no_zeros c.args.entries.now.items c.requires.positive)

pub returns-else-amount-eq0-clause-sorted : goal.returns-else-amount-eq0-clause-sorted
returns-else-amount-eq0-clause-sorted c =
    let put_is : c.write_known.new.entries.items ≡ put token_cmp c.args.token.now c.args.amount c.args.entries.now.items = c.write_known.ensures ∙ ap (λ n. put token_cmp c.args.token.now n c.args.entries.now.items) (to_z-of_z c.ranges.amount) in
    subst (λ es. T (is_sorted token_cmp es)) (sym put_is) (is_sorted-put token_cmp token_total c.args.token.now c.args.amount c.args.entries.now.items c.requires.sorted)

pub returns-else-amount-eq0-clause-positive : goal.returns-else-amount-eq0-clause-positive
returns-else-amount-eq0-clause-positive c =
    let put_is : c.write_known.new.entries.items ≡ put token_cmp c.args.token.now c.args.amount c.args.entries.now.items = c.write_known.ensures ∙ ap (λ n. put token_cmp c.args.token.now n c.args.entries.now.items) (to_z-of_z c.ranges.amount) in
    let positive = above c.args.amount c.requires.natural (λ e. c.if-amount-eq0.false (ap (of_z w128) e)) in
    subst AllPositive (sym put_is) (AllPositive-put c.args.token.now c.args.amount c.args.entries.now.items positive c.requires.positive)

pub returns-else-amount-eq0-clause-set : goal.returns-else-amount-eq0-clause-set
returns-else-amount-eq0-clause-set c =
    let put_is : c.write_known.new.entries.items ≡ put token_cmp c.args.token.now c.args.amount c.args.entries.now.items = c.write_known.ensures ∙ ap (λ n. put token_cmp c.args.token.now n c.args.entries.now.items) (to_z-of_z c.ranges.amount) in
    let positive = above c.args.amount c.requires.natural (λ e. c.if-amount-eq0.false (ap (of_z w128) e)) in
    ap (from_sorted {R = token_cmp}) put_is ∙ put_is_change c.args.entries.now.items c.args.token.now c.args.amount c.requires.sorted positive
