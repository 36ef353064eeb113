-- Which clause of a request of parts answers, and what funds it.
use Rattle.std.proofs.Common.{◌≡◌, ℕ, ℤ, ◌+◌, ◌<◌, Bool, true, List, [], ◌∷◌, ◌++◌, map, length, drop, get_or, is_none, Option, Some, None, refl, sym, ◌∙◌, ap, subst}
use Rattle.std.specs.List.{list_all, filter_map}
use Rattle.contract.specs.Names.declared.token.Token.{Token}
use Rattle.builder_spec.specs.Bundle.Bundles.{Amounts}
use Rattle.builder_spec.specs.Eutxo.Faults.{first_of}
use Rattle.builder_spec.specs.Roles.Steps.{actor}
use Rattle.builder_spec.specs.Ledger.declared.look.Unspent.{Unspent}
use Rattle.builder_spec.specs.declared.fault.BuildFault.TheVariants.{NotAuthorised, NoFunds}
use Rattle.builder_spec.specs.Requests.{StepsRequest}
use Rattle.builder_spec.specs.Holding.{sums, amount_in, holds_token, least_lacking, AreBundles}
use Rattle.builder_spec.specs.Fronts.{front}
use Rattle.builder_spec.specs.Causes.{funds_cause}
use Rattle.builder_spec.specs.Steps.{Stepped, roles_of, authority_cause}
use Rattle.builder_spec.specs.Parts.{all_roles, all_deposits, own_outputs, parts_front, parts_authority_cause}
use Rattle.builder_spec.proofs.SufficesLaws.{and_so, and_true, front_suffices}
use Rattle.coin_selection.proofs.ListLaws.{here}
use Rattle.builder.specs.PartsSupport.{ArePartsFunds}
use Rattle.builder.proofs.CoveredLemmas.{roles_offered, unmapped}

-- ---- one clause of all parts

pub cause_passes : {A B : Type 0} (f : A → Option B) (xs : List A) (i : ℕ) (x : A) → i < length xs → x ≡ get_or xs i x → f x ≡ None → first_of (map f (drop i xs)) ≡ first_of (map f (drop (i + 1) xs))
cause_passes f xs i x l is h = ap (λ ys. first_of (map f ys)) (here xs i x l is) ∙ ap (λ o. first_of (o ∷ map f (drop (i + 1) xs))) h

pub cause_stops : {A B : Type 0} (f : A → Option B) (xs : List A) (i : ℕ) (x : A) (b : B) → i < length xs → x ≡ get_or xs i x → f x ≡ Some b → first_of (map f (drop i xs)) ≡ Some b
cause_stops f xs i x b l is h = ap (λ ys. first_of (map f ys)) (here xs i x l is) ∙ ap (λ o. first_of (o ∷ map f (drop (i + 1) xs))) h

neither : {A : Type 0} (o : Option A) (os : List (Option A)) → first_of (o ∷ os) ≡ None → (o ≡ None) × (first_of os ≡ None)
neither None os h = (refl, h)
neither (Some x) os h = absurd (cc)

-- ---- what funds them

all-append : {A : Type 0} (p : A → Bool) (xs ys : List A) → list_all p xs ≡ true → list_all p ys ≡ true → list_all p (xs ++ ys) ≡ true
all-append p [] ys h k = k
all-append p (x ∷ xs) ys h k = let two = and_so (p x) (list_all p xs) h in and_true (p x) (list_all p (xs ++ ys)) two.0 (all-append p xs ys two.1 k)

-- where each party may act, what is offered holds the tokens of all roles
all_offered : (r : StepsRequest) (ss : List Stepped) → parts_authority_cause r ss ≡ None → list_all (holds_token r.offered) (all_roles ss) ≡ true
all_offered r [] h = refl
all_offered r (s ∷ ss) h =
    let currency = s.thread.shown.published.currency in
    let two = neither (authority_cause currency r.signers r.offered s.inputs) (map (λ (x : Stepped). authority_cause x.thread.shown.published.currency r.signers r.offered x.inputs) ss) h in
    all-append (holds_token r.offered) (roles_of currency s.inputs) (all_roles ss) (roles_offered currency r.signers r.offered (filter_map actor s.inputs) (unmapped NotAuthorised _ two.0)) (all_offered r ss two.1)

-- so their front covers the deposits
front_covers : (r : StepsRequest) (ss : List Stepped) → parts_authority_cause r ss ≡ None → funds_cause (all_deposits ss) r.offered ≡ None → is_none (least_lacking (all_deposits ss) (parts_front r ss)) ≡ true
front_covers r ss h k =
    let some = and_true (list_all (holds_token r.offered) (all_roles ss)) (is_none (least_lacking (all_deposits ss) r.offered)) (all_offered r ss h) (ap is_none (unmapped NoFunds _ k)) in
    (and_so (list_all (holds_token (parts_front r ss)) (all_roles ss)) _ (front_suffices (all_roles ss) (all_deposits ss) r.offered some)).1

front_is : (r s : StepsRequest) (ss : List Stepped) (roles : List Token) (ns : List (Token × ℤ)) (taken : List Unspent) → s ≡ r → roles ≡ all_roles ss → ns ≡ all_deposits ss → taken ≡ front roles ns s.offered → taken ≡ parts_front r ss
front_is r s ss roles ns taken same h w f =
    f ∙ ap (λ rs. front rs ns s.offered) h ∙ ap (λ xs. front (all_roles ss) xs s.offered) w ∙ ap (λ (x : StepsRequest). parts_front x ss) same

pub funds_are : (r s : StepsRequest) (ss : List Stepped) (roles : List Token) (ns ms : List (Token × ℤ)) (owns taken : List Unspent) (all : Amounts) → s ≡ r → roles ≡ all_roles ss → ns ≡ all_deposits ss → ms ≡ all_deposits ss → owns ≡ own_outputs ss → taken ≡ front roles ns s.offered →
    parts_authority_cause r ss ≡ None → funds_cause ms s.offered ≡ None → all ≡ sums amount_in (owns ++ taken) → AreBundles amount_in taken → ArePartsFunds r ss (record { all = all; front = taken })
funds_are r s ss roles ns ms owns taken all same h w v o f may held is b =
    let part = front_is r s ss roles ns taken same h w f in
    let enough = front_covers r ss may (subst (λ (x : StepsRequest). funds_cause (all_deposits ss) x.offered ≡ None) same (subst (λ xs. funds_cause xs s.offered ≡ None) v held)) in
    record {
      all = is ∙ ap (λ us. sums amount_in (us ++ taken)) o ∙ ap (λ us. sums amount_in (own_outputs ss ++ us)) part;
      front = part;
      covered = subst (λ us. is_none (least_lacking (all_deposits ss) us) ≡ true) (sym part) enough;
      bundles = b;
    }
