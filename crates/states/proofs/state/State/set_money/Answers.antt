use Rattle.std.proofs.Common.{◌≡◌, ℤ, pos, ◌≢◌, IsSome, refl, Bool, true, false, cond, to_z, of_z, sym, ◌∙◌, ap, subst, arith}
use mir.Syntax.{w128}
use Rattle.std.proofs.Math.Facts.{to_z-of_z}
use Rattle.std.proofs.lemmas.Int.{ints}
use Rattle.std.proofs.lemmas.Bool.Decides.{Decides-int_eq}
use mathlib.Core.Bool.{false≢true}
use Rattle.std.specs.Bool.{Decides}
use Rattle.std.specs.Ordering.{int_eq}
use Rattle.std.specs.FinMap.{FinMap, find, put, get, insert, remove, from_sorted, get-from_sorted}
use Rattle.names.specs.declared.account.Account.{Account}
use Rattle.names.specs.Orders.{account_cmp}
use Rattle.names.specs.Totals.{account_total}
use Rattle.states.specs.States.{StateMaps, AllPositive}
use Rattle.names.proofs.Exact.{account_exact}
use Rattle.names.proofs.FromCollections.Positive.{AllPositive-put, AllPositive-where_key}
use Rattle.names.proofs.FromCollections.Maps.{put_is_insert, without_is_remove}
use Rattle.states.proofs.state.State.set_money.Goals as goal

false_of : {P : Type 0} → (b : Bool) → Decides b P → (P → ⊥) → b ≡ false
false_of true d differs = absurd (differs (d.0 refl))
false_of false d differs = refl

pub invariant_of-self : goal.invariant_of-self
invariant_of-self c = subst AllPositive (sym c.remove.ensures.removed) (AllPositive-where_key account_cmp _ _ c.self.invariant)

pub returns-then-amount-eq0-clause-ok : goal.returns-then-amount-eq0-clause-ok
returns-then-amount-eq0-clause-ok c =
    let key : Account = record { owner = c.args.owner.now; token = c.args.token.now } in
    let zero : int_eq c.args.amount (pos 0) ≡ true = (Decides-int_eq _ _).1 (sym (to_z-of_z c.ranges.amount) ∙ ap (to_z w128) c.if-amount-eq0.true) in
    ap (λ (m : FinMap account_cmp ℤ). record { accounts = m; choices = from_sorted c.self.inside.choices; bound_values = from_sorted c.self.inside.bound_values; min_time = c.self.inside.min_time })
    (ap (from_sorted {R = account_cmp}) c.remove.ensures.removed ∙ without_is_remove account_cmp account_total c.self.inside.accounts c.remove.ensures.sorted account_exact key)
    ∙ ap (λ (s : StateMaps). record s { accounts = remove s.accounts key }) c.self.view_is
    ∙ ap (λ b. record c.args.self.now { accounts = cond b (remove c.args.self.now.accounts key) (insert c.args.self.now.accounts key c.args.amount) }) (sym zero)

-- what the state has in the account after the entry is set
set_entry : (c : goal.In_ok-set) → c.set.new.self ≡ put account_cmp (record { owner = c.args.owner.now; token = c.args.token.now }) c.args.amount c.self.inside.accounts
set_entry c = c.in_ok-set.ensures.ok ∙ ap (λ v. put account_cmp (record { owner = c.args.owner.now; token = c.args.token.now }) v c.self.inside.accounts) (to_z-of_z c.ranges.amount)

pub invariant_of-self-2 : goal.invariant_of-self-2
invariant_of-self-2 c =
    let not_zero : c.args.amount ≢ pos 0 = λ e. c.if-amount-eq0.false (ap (of_z w128) e) in
    subst AllPositive (sym (set_entry c)) (AllPositive-put account_cmp _ c.args.amount _ (omega (arith, ints, not_zero)) c.self.invariant)

pub returns-clause-ok : goal.returns-clause-ok
returns-clause-ok c =
    let key : Account = record { owner = c.args.owner.now; token = c.args.token.now } in
    let not_zero : int_eq c.args.amount (pos 0) ≡ false = false_of _ (Decides-int_eq c.args.amount (pos 0)) (λ e. c.if-amount-eq0.false (ap (of_z w128) e)) in
    ap (λ (m : FinMap account_cmp ℤ). record { accounts = m; choices = from_sorted c.self.inside.choices; bound_values = from_sorted c.self.inside.bound_values; min_time = c.self.inside.min_time })
    (ap (from_sorted {R = account_cmp}) (set_entry c) ∙ put_is_insert account_cmp account_total c.self.inside.accounts c.in_ok-set.ensures.sorted key c.args.amount)
    ∙ ap (λ (s : StateMaps). record s { accounts = insert s.accounts key c.args.amount }) c.self.view_is
    ∙ ap (λ b. record c.args.self.now { accounts = cond b (remove c.args.self.now.accounts key) (insert c.args.self.now.accounts key c.args.amount) }) (sym not_zero)

pub returns-in_err-set-clause-known : goal.returns-in_err-set-clause-known
returns-in_err-set-clause-known c h =
    let key : Account = record { owner = c.args.owner.now; token = c.args.token.now } in
    let same : get c.args.self.now.accounts key ≡ find account_cmp key c.self.inside.accounts = ap (λ (s : StateMaps). get s.accounts key) (sym c.self.view_is) ∙ get-from_sorted account_cmp _ key c.in_err-set.ensures.sorted in
    absurd (false≢true (c.in_err-set.ensures.known (subst IsSome same h)))
