-- The accounts that have an entry, of what is held or of what was paid.
use Rattle.std.proofs.Common.{◌≡◌, ℕ, ◌<◌, ◌+◌, Bool, true, false, cond, ◌⊎◌, inl, inr, List, [], ◌∷◌, ◌++◌, take, length, get_or}
use Rattle.std.proofs.Common.{refl, sym, ap, ◌∙◌, append_assoc, Some, None}
use Rattle.std.proofs.lemmas.List.{take_more, map-append}
use Rattle.std.proofs.lemmas.List.Elements.{filter-append}
use Rattle.std.specs.Prelude.{filter, not, is_some}
use Rattle.std.specs.List.{AllByRecursion}
use Rattle.std.specs.Ordering.{eq_by_cmp}
use Rattle.std.specs.FinMap.Entries.{find}
use Rattle.contract.specs.Names.declared.account.Account.{Account}
use Rattle.contract.specs.Names.Orders.{account_cmp}
use Rattle.linear.specs.Linear.{Linear}
use Rattle.analysis_walk.proofs.ListLaws.{all_left, all_right}
use Rattle.analysis_values.specs.Entries.{keys_of, other_keys}
use Rattle.analysis_values.proofs.AccountLaws.{account_decides}

abbrev Entry : Type 0
Entry = Account × Linear

-- ---- one entry more

module _ (others es : List Entry) (i : ℕ) (e : Entry) (l : i < length es) (is : e ≡ get_or es i e) where
  abbrev there : Bool
  there = is_some (find account_cmp e.0 others)

  abbrev before : List Account
  before = other_keys others (take i es)

  keys_more : other_keys others (take (i + 1) es) ≡ before ++ cond there [] (e.0 ∷ [])
  keys_more =
      let missing : Account → Bool = λ a. not (is_some (find account_cmp a others)) in
      ap (other_keys others) (take_more es i e l ∙ ap (λ x. take i es ++ x ∷ []) (sym is))
      ∙ ap (filter missing) (map-append (λ (y : Entry). y.0) (take i es) (e ∷ []))
      ∙ filter-append missing (keys_of (take i es)) (e.0 ∷ [])
      ∙ ap (λ ks. before ++ ks) (last there)
    where
      last : (b : Bool) → cond (not b) (e.0 ∷ []) [] ≡ cond b [] (e.0 ∷ [])
      last true = refl
      last false = refl

  pub put_more : (old now new : List Account) (b : Bool) → b ≡ there → now ≡ old ++ before → new ≡ now ++ cond b [] (e.0 ∷ []) → new ≡ old ++ other_keys others (take (i + 1) es)
  put_more old now new b same h put =
      put ∙ ap (λ ks. ks ++ cond b [] (e.0 ∷ [])) h ∙ append_assoc old before (cond b [] (e.0 ∷ []))
      ∙ ap (λ ks. old ++ ks) (ap (λ t. before ++ cond t [] (e.0 ∷ [])) same ∙ sym keys_more)

-- ---- who isn't named

module _ (a : Account) (P : Type 0) where
  abbrev Gives : Account → Type 0
  Gives x = a ≡ x → P

  abbrev IsMissing : List Entry → Type 0
  IsMissing es = find account_cmp a es ≡ None

  found_or : (es : List Entry) → AllByRecursion Gives (keys_of es) → IsMissing es ⊎ P
  found_or [] h = inl refl
  found_or (e ∷ es) h = by_test (eq_by_cmp account_cmp a e.0) refl (found_or es h.1)
    where
      by_test : (t : Bool) → eq_by_cmp account_cmp a e.0 ≡ t → IsMissing es ⊎ P → (cond t (Some e.1) (find account_cmp a es) ≡ None) ⊎ P
      by_test true q r = inr (h.0 ((account_decides a e.0).0 q))
      by_test false q r = r

  module _ (others : List Entry) (missing : IsMissing others) where
    other_or : (es : List Entry) → AllByRecursion Gives (other_keys others es) → IsMissing es ⊎ P
    other_or [] h = inl refl
    other_or (e ∷ es) h = by_tests (eq_by_cmp account_cmp a e.0) (is_some (find account_cmp e.0 others)) refl refl h (other_or es)
      where
        rest : List Account
        rest = other_keys others es

        by_tests : (t b : Bool) → eq_by_cmp account_cmp a e.0 ≡ t → is_some (find account_cmp e.0 others) ≡ b → AllByRecursion Gives (cond (not b) (e.0 ∷ rest) rest)
            → (AllByRecursion Gives rest → IsMissing es ⊎ P) → (cond t (Some e.1) (find account_cmp a es) ≡ None) ⊎ P
        by_tests false true q n k more = more k
        by_tests false false q n k more = more k.1
        by_tests true false q n k more = inr (k.0 ((account_decides a e.0).0 q))
        by_tests true true q n k more =
            let same : e.0 ≡ a = sym ((account_decides a e.0).0 q) in
            absurd (let z : true ≡ false = sym n ∙ ap is_some (ap (λ x. find account_cmp x others) same ∙ missing) in cc)

  -- what each account that is named gives, if it is this one, is there, or this one has no entry
  pub named_or : (held paid : List Entry) → AllByRecursion Gives (keys_of held ++ other_keys held paid) → (IsMissing held × IsMissing paid) ⊎ P
  named_or held paid h = by_held (found_or held (all_left Gives (keys_of held) (other_keys held paid) h))
    where
      by_paid : IsMissing held → IsMissing paid ⊎ P → (IsMissing held × IsMissing paid) ⊎ P
      by_paid e (inl f) = inl (e, f)
      by_paid e (inr p) = inr p

      by_held : IsMissing held ⊎ P → (IsMissing held × IsMissing paid) ⊎ P
      by_held (inl e) = by_paid e (other_or held e paid (all_right Gives (keys_of held) (other_keys held paid) h))
      by_held (inr p) = inr p
