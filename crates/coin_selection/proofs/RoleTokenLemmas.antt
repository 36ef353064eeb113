-- Parties that may not act, by the roles' tokens that nobody holds.
use Rattle.std.proofs.Common.{◌≡◌, ℕ, zero, suc, ◌+◌, ◌<◌, Bool, true, false, not, ◌||◌, if◌then◌else◌, List, [], ◌∷◌, length, drop, get_or, Option, Some, None, refl, sym, ◌∙◌, ap, subst}
use Rattle.std.specs.List.{list_any, find, filter_map, cons_option}
use Rattle.std.specs.Option.{option_or}
use Rattle.std.specs.Ordering.{eq_by_cmp, is_eq}
use Rattle.std.specs.Prelude.{is_some}
use Rattle.std.specs.FinMap.{get}
use Rattle.std.specs.Cmp.{tied_itself}
use Rattle.contract.specs.Names.declared.party.Party.{Party}
use Rattle.contract.specs.Names.declared.party.Party.TheVariants.{Address, Role}
use Rattle.contract.specs.Names.declared.token.Token.{Token}
use Rattle.contract.specs.Names.Orders.{token_cmp}
use Rattle.contract.specs.Names.Totals.{token_total}
use Rattle.contract.specs.declared.input.Input.{Input}
use Rattle.builder_spec.specs.Bundle.Bundles.{Amounts}
use Rattle.builder_spec.specs.Roles.Steps.{role_token, actor}
use Rattle.builder_spec.specs.Ledger.declared.look.Unspent.{Unspent}
use Rattle.builder_spec.specs.Holding.{amount_in, holds_token, first_unheld, AreBundles}
use Rattle.builder_spec.specs.Steps.{token_of, roles_of, may_act, first_barred}
use Rattle.coin_selection.specs.RequiredSupport.{lacking_amount, IsMissing, may_act_but}
use Rattle.coin_selection.proofs.ListLaws.{here}
use Rattle.coin_selection.proofs.EnoughLemmas.{unheld_is}

or_left : (a b : Bool) → a ≡ true → a || b ≡ true
or_left a b h = rw h refl

or_right : (a b : Bool) → b ≡ true → a || b ≡ true
or_right true b h = refl
or_right false b h = h

not_not : (b : Bool) → not (not b) ≡ b
not_not true = refl
not_not false = refl

itself : (t : Token) → eq_by_cmp token_cmp t t ≡ true
itself t = ap is_eq (tied_itself token_total t)

-- ---- tokens among others

any_drop : {A : Type 0} (q : A → Bool) (i : ℕ) (xs : List A) → list_any q (drop i xs) ≡ true → list_any q xs ≡ true
any_drop q zero xs h = h
any_drop q (suc i) [] h = h
any_drop q (suc i) (x ∷ xs) h = or_right (q x) (list_any q xs) (any_drop q i xs h)

-- a token is among those where it stands
pub among : (rs : List Token) (i : ℕ) (t : Token) → i < length rs → t ≡ get_or rs i t → list_any (λ r. eq_by_cmp token_cmp r t) rs ≡ true
among rs i t l is = any_drop (λ r. eq_by_cmp token_cmp r t) i rs (subst (λ qs. list_any (λ r. eq_by_cmp token_cmp r t) qs ≡ true) (sym (here rs i t l is)) (or_left (eq_by_cmp token_cmp t t) _ (itself t)))

role_first : (q : Token → Bool) (currency : List ℕ) (x : Input) (xs : List Input) (p : Party) (t : Token) → actor x ≡ Some p → token_of currency p ≡ Some t → q t ≡ true → list_any q (roles_of currency (x ∷ xs)) ≡ true
role_first q currency x xs p t h k l =
    ap (λ o. list_any q (filter_map (token_of currency) (cons_option o (filter_map actor xs)))) h
    ∙ ap (λ o. list_any q (cons_option o (roles_of currency xs))) k
    ∙ or_left (q t) (list_any q (roles_of currency xs)) l

role_later : (q : Token → Bool) (currency : List ℕ) (i : ℕ) (xs : List Input) → list_any q (roles_of currency (drop i xs)) ≡ true → list_any q (roles_of currency xs) ≡ true
role_later q currency zero xs h = h
role_later q currency (suc i) [] h = h
role_later q currency (suc i) (x ∷ xs) h = by (actor x) (role_later q currency i xs h)
  where
    of_token : (o : Option Token) → list_any q (roles_of currency xs) ≡ true → list_any q (cons_option o (roles_of currency xs)) ≡ true
    of_token None k = k
    of_token (Some t) k = or_right (q t) (list_any q (roles_of currency xs)) k

    by : (o : Option Party) → list_any q (roles_of currency xs) ≡ true → list_any q (filter_map (token_of currency) (cons_option o (filter_map actor xs))) ≡ true
    by None k = k
    by (Some p) k = of_token (token_of currency p) k

-- ---- parties that the inputs need

-- by the tokens that are left, a party may act as by those that are offered
acts_so : (currency : List ℕ) (signers : List (List ℕ)) (us : List Unspent) (xs : List Input) (m : Amounts) (i : ℕ) (x : Input) (p : Party) → AreBundles amount_in us → IsMissing (lacking_amount (roles_of currency xs) [] us) m →
    i < length xs → x ≡ get_or xs i x → actor x ≡ Some p → may_act_but currency signers m p ≡ may_act currency signers us p
acts_so currency signers us xs m i x (Address a) b s l is h = refl
acts_so currency signers us xs m i x (Role r) b s l is h =
    let t = role_token currency r in
    let there = role_first (λ q. eq_by_cmp token_cmp q t) currency x (drop (i + 1) xs) (Role r) t h refl (itself t) in
    ap not (unheld_is (roles_of currency xs) us m t b s
    (role_later (λ q. eq_by_cmp token_cmp q t) currency i xs (subst (λ ys. list_any (λ q. eq_by_cmp token_cmp q t) (roles_of currency ys) ≡ true) (sym (here xs i x l is)) there)))
    ∙ not_not (holds_token us t)

first_by : (f g : Party → Bool) (x : Input) (xs : List Input) → ((p : Party) → actor x ≡ Some p → f p ≡ g p) →
    first_barred g (x ∷ xs) ≡ option_or (first_barred f (x ∷ [])) (first_barred g xs)
first_by f g x xs same = by (actor x) refl
  where
    either : (b : Bool) (p : Party) → (if not b then Some p else find (λ q. not (g q)) (filter_map actor xs)) ≡ option_or (if not b then Some p else None) (find (λ q. not (g q)) (filter_map actor xs))
    either true p = refl
    either false p = refl

    by : (o : Option Party) → actor x ≡ o → find (λ p. not (g p)) (cons_option o (filter_map actor xs)) ≡ option_or (find (λ p. not (f p)) (cons_option o [])) (find (λ p. not (g p)) (filter_map actor xs))
    by None e = refl
    by (Some p) e = either (g p) p ∙ ap (λ b. option_or (if not b then Some p else None) (find (λ q. not (g q)) (filter_map actor xs))) (sym (same p e))

-- of the parties from an input on the first that may not act is the one that it needs, or one of a later input
pub barred_first : (currency : List ℕ) (signers : List (List ℕ)) (us : List Unspent) (xs : List Input) (m : Amounts) (i : ℕ) (x : Input) → AreBundles amount_in us → IsMissing (lacking_amount (roles_of currency xs) [] us) m → i < length xs → x ≡ get_or xs i x →
    first_barred (may_act currency signers us) (drop i xs) ≡ option_or (first_barred (may_act_but currency signers m) (x ∷ [])) (first_barred (may_act currency signers us) (drop (i + 1) xs))
barred_first currency signers us xs m i x b s l is =
    ap (first_barred (may_act currency signers us)) (here xs i x l is)
    ∙ first_by (may_act_but currency signers m) (may_act currency signers us) x (drop (i + 1) xs) (λ p. acts_so currency signers us xs m i x p b s l is)

-- of the tokens from a place on the first that no output holds is the one there, where it is still needed
pub unheld_first : (rs : List Token) (us : List Unspent) (m : Amounts) (i : ℕ) (r : Token) (b : Bool) → AreBundles amount_in us → IsMissing (lacking_amount rs [] us) m → i < length rs → r ≡ get_or rs i r → b ≡ is_some (get m r) →
    first_unheld us (drop i rs) ≡ (if b then Some r else first_unheld us (drop (i + 1) rs))
unheld_first rs us m i r b p s l is h =
    ap (first_unheld us) (here rs i r l is)
    ∙ ap (λ a. if a then Some r else first_unheld us (drop (i + 1) rs)) (sym (h ∙ unheld_is rs us m r p s (among rs i r l is)))
