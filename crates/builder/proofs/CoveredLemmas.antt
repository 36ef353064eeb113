-- What is spent covers what is made.
use Rattle.std.proofs.Common.{◌≡◌, ℕ, ℤ, pos, ◌+ℤ◌, ◌<ℤ◌, ◌≤ℤ◌, Bool, true, false, cond, not, ◌&&◌, List, [], ◌∷◌, is_none, Option, Some, None, refl, sym, ◌∙◌, ap, subst, arith}
use Rattle.std.proofs.lemmas.Int.{ints}
use Rattle.std.specs.List.{list_all, find, filter_map}
use Rattle.std.specs.Option.{option_map}
use Rattle.std.specs.FinMap.{entries}
use Rattle.std.specs.Ordering.{eq_by_cmp}
use Rattle.contract.specs.Names.declared.party.Party.{Party}
use Rattle.contract.specs.Names.declared.payee.Payee.{Payee}
use Rattle.contract.specs.Names.declared.payee.Payee.TheVariants as to
use Rattle.contract.specs.Names.declared.party.Party.TheVariants.{Address, Role}
use Rattle.contract.specs.Names.declared.token.Token.{Token}
use Rattle.contract.specs.Names.Orders.{token_cmp}
use Rattle.contract.specs.declared.payment.Payment.{Payment}
use Rattle.contract.specs.States.States.{StateMaps, counted}
use Rattle.builder_spec.specs.Semantics.Money.{taken_out, paid_out}
use Rattle.builder_spec.specs.Semantics.Naturals.{AreNatural}
use Rattle.builder_spec.specs.Bundle.Bundles.{Amounts, amount_of, covers, AllPositive}
use Rattle.builder_spec.proofs.FromBundle.CoverLaws.{covers_each_token, each_token_is_covered}
use Rattle.builder_spec.specs.EutxoTypes.declared.output.Output.{Output}
use Rattle.builder_spec.specs.Eutxo.Faults.{is_empty}
use Rattle.builder_spec.specs.Roles.Sums.{sums_of}
use Rattle.builder_spec.specs.Roles.Steps.{role_token}
use Rattle.builder_spec.specs.Ledger.declared.look.Unspent.{Unspent}
use Rattle.builder_spec.specs.Holding.{sums, amount_in, holds_token, wanted, least_lacking, AreBundles}
use Rattle.builder_spec.specs.Fronts.{shortest, suffices}
use Rattle.builder_spec.specs.Causes.{is_much}
use Rattle.builder_spec.specs.Steps.{token_of, may_act}
use Rattle.builder_spec.specs.Starts.{accounts_of, fresh_state, covers_accounts}
use Rattle.builder_spec.proofs.HoldingLaws.{amount_of-sums, positive_sums, much_at, much_of, most}
use Rattle.builder_spec.proofs.SufficesLaws.{and_so, and_true}
use Rattle.builder_spec.proofs.FrontsLaws.{shortest_passes}
use Rattle.builder_spec.proofs.FundsLaws.{amount, all_covered, wanted-accounts, amount_of-sums_in}

not_so : (b : Bool) → (b ≡ true → true ≡ false) → b ≡ false
not_so true h = absurd (cc (h refl))
not_so false h = refl

-- ---- room for what is covered

pub more : (a b : ℤ) → most <ℤ b → b ≤ℤ a → most <ℤ a
more a b h k = omega (arith, ints, h, k)

-- what has room covers nothing that hasn't
pub room_below : (a b : Amounts) → is_much a ≡ false → ((t : Token) → most <ℤ amount_of b t → most <ℤ amount_of a t) → is_much b ≡ false
room_below a b h f = not_so (is_much b) (λ e. let k = much_of b e in sym (much_at a k.0 (f k.0 k.1)) ∙ h)

pub covered_room : (a b : Amounts) → AllPositive (entries a) → is_much a ≡ false → covers a b ≡ true → is_much b ≡ false
covered_room a b p h c = room_below a b h (λ t k. more (amount_of a t) (amount_of b t) k (covers_each_token a b p c t))

-- ---- steps

pub zero_counted : (b : Bool) (n : ℤ) → pos 0 ≤ℤ n → pos 0 ≤ℤ cond b n (pos 0)
zero_counted true n h = h
zero_counted false n h = omega (arith, ints)

natural_out : (y : Payee) (n : ℤ) → pos 0 ≤ℤ n → pos 0 ≤ℤ taken_out y n
natural_out y n h = elim y as (λ z. pos 0 ≤ℤ taken_out z n) [ to.Account q ↦ omega (arith, ints) | to.Party q ↦ h ]

pub both_natural : (a b : ℤ) → pos 0 ≤ℤ a → pos 0 ≤ℤ b → pos 0 ≤ℤ (a +ℤ b)
both_natural a b h k = omega (arith, ints, h, k)

pub paid_natural : (t : Token) (ps : List Payment) → AreNatural ps → pos 0 ≤ℤ paid_out t ps
paid_natural t [] h = omega (arith, ints)
paid_natural t (p ∷ ps) h =
    both_natural (taken_out p.to (counted t p.token p.amount)) (paid_out t ps)
    (natural_out p.to (counted t p.token p.amount) (zero_counted (eq_by_cmp token_cmp t p.token) p.amount h.0)) (paid_natural t ps h.1)

-- where each party may act, what is offered holds the tokens of the roles
pub roles_offered : (currency : List ℕ) (signers : List (List ℕ)) (us : List Unspent) (ps : List Party) → find (λ p. not (may_act currency signers us p)) ps ≡ None → list_all (holds_token us) (filter_map (token_of currency) ps) ≡ true
roles_offered currency signers us [] h = refl
roles_offered currency signers us (Address a ∷ ps) h = by (may_act currency signers us (Address a)) (roles_offered currency signers us ps) h
  where
    by : (b : Bool) → (find (λ p. not (may_act currency signers us p)) ps ≡ None → list_all (holds_token us) (filter_map (token_of currency) ps) ≡ true) →
        cond (not b) (let o : Option Party = Some (Address a) in o) (find (λ p. not (may_act currency signers us p)) ps) ≡ None → list_all (holds_token us) (filter_map (token_of currency) ps) ≡ true
    by true f k = f k
    by false f k = absurd (cc)
roles_offered currency signers us (Role r ∷ ps) h = by (holds_token us (role_token currency r)) (roles_offered currency signers us ps) h
  where
    by : (b : Bool) → (find (λ p. not (may_act currency signers us p)) ps ≡ None → list_all (holds_token us) (filter_map (token_of currency) ps) ≡ true) →
        cond (not b) (let o : Option Party = Some (Role r) in o) (find (λ p. not (may_act currency signers us p)) ps) ≡ None → b && list_all (holds_token us) (filter_map (token_of currency) ps) ≡ true
    by true f k = f k
    by false f k = absurd (cc)

pub unmapped : {A B : Type 0} (f : A → B) (o : Option A) → option_map f o ≡ None → o ≡ None
unmapped f None h = refl
unmapped f (Some x) h = absurd (cc)

-- ---- starts

-- where a start is funded, its front covers the accounts
pub start_covered : {G : Type 0} (g : Token → G) (s : StateMaps) (us : List Unspent) → is_empty us ≡ false → option_map g (least_lacking (accounts_of s) us) ≡ None → is_none (least_lacking (accounts_of s) (shortest (covers_accounts s) us)) ≡ true
start_covered g s us h k =
    let some : covers_accounts s us ≡ true = and_true (not (is_empty us)) (suffices [] (accounts_of s) us) (ap not h) (ap is_none (unmapped g _ k)) in
    (and_so (not (is_empty (shortest (covers_accounts s) us))) (suffices [] (accounts_of s) (shortest (covers_accounts s) us)) (shortest_passes (covers_accounts s) us some)).1

start_has : (s : StateMaps) (us : List Unspent) → AreBundles amount_in us → is_none (least_lacking (accounts_of s) us) ≡ true → (t : Token) → amount_of (sums_of (fresh_state s)) t ≤ℤ amount_of (sums amount_in us) t
start_has s us b c t =
    subst (λ n. n ≤ℤ amount_of (sums amount_in us) t) (wanted-accounts t s ∙ sym (amount_of-sums_in (entries s.accounts) t))
    (subst (λ n. wanted (accounts_of s) t ≤ℤ n) (sym (amount_of-sums amount_in us t)) (all_covered t (accounts_of s) us b c))

pub start_room : (s : StateMaps) (us : List Unspent) → AreBundles amount_in us → is_none (least_lacking (accounts_of s) us) ≡ true → is_much (sums amount_in us) ≡ false → is_much (sums_of (fresh_state s)) ≡ false
start_room s us b c room = room_below (sums amount_in us) (sums_of (fresh_state s)) room (λ t k. more (amount_of (sums amount_in us) t) (amount_of (sums_of (fresh_state s)) t) k (start_has s us b c t))

just_one : (n : ℤ) → n +ℤ pos 0 ≡ n
just_one n = omega (arith, ints)

pub start_covers : (s : StateMaps) (us : List Unspent) (o : Output) → o.amount ≡ sums_of (fresh_state s) → AreBundles amount_in us → is_none (least_lacking (accounts_of s) us) ≡ true → covers (sums amount_in us) (sums amount (o ∷ [])) ≡ true
start_covers s us o h b c =
    each_token_is_covered (sums amount_in us) (sums amount (o ∷ [])) (positive_sums amount_in us b) (λ t.
    subst (λ n. n ≤ℤ amount_of (sums amount_in us) t) (sym (amount_of-sums amount (o ∷ []) t ∙ just_one (amount_of o.amount t) ∙ ap (λ m. amount_of m t) h)) (start_has s us b c t))

-- where neither clause on funds fails
pub start_clear : {F : Type 0} (b : Bool) (x : F) (o : Option F) → cond b (Some x) o ≡ None → (b ≡ false) × (o ≡ None)
start_clear true x o h = absurd (cc)
start_clear false x o h = (refl, h)
