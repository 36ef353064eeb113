-- What is told of a party that keeps up.
use Rattle.std.proofs.Common.{◌≡◌, ◌≢◌, ℕ, zero, suc, ◌<◌, ◌≤◌, ◌+◌, ℤ, pos, neg_ℤ, ◌≤ℤ◌, cond, Bool, true, false, List, [], ◌∷◌, ◌++◌, take, length, refl, sym, ap, subst, ◌∙◌, Option, Some, None, IfSome, ◌⊎◌, inl, inr, arith}
use Rattle.std.proofs.lemmas.Int.{ints}
use Rattle.std.proofs.Math.ListN.{get_or}
use Rattle.std.proofs.lemmas.List.{take_more, take_all}
use Rattle.std.specs.List.{AllByRecursion}
use Rattle.std.specs.Ordering.{eq_by_cmp}
use Rattle.std.specs.FinMap.{entries}
use Rattle.std.specs.FinMap.Entries.{find}
use Rattle.contract.specs.Names.declared.account.Account.{Account}
use Rattle.contract.specs.Names.declared.party.Party.{Party}
use Rattle.contract.specs.Names.declared.token.Token.{Token}
use Rattle.contract.specs.Names.Equal.{same_party, same_token}
use Rattle.contract.proofs.FromNames.EqualLaws.{same_party_decides, same_token_decides}
use Rattle.contract.specs.Names.Orders.{account_cmp}
use Rattle.contract.specs.Tree.{ContractTree}
use Rattle.contract.specs.States.States.{StateMaps, AllPositive}
use Rattle.semantics.specs.Walk.{standing}
use Rattle.semantics.specs.Reduction.{account_of}
use Rattle.semantics.specs.Naturals.{PaymentsAreNatural, AccountsStayPositive}
use Rattle.analysis_spec.specs.Runs.{payments_of, paid_to}
use Rattle.keeping_up.specs.declared.kept.Kept.{Kept}
use Rattle.keeping_up.specs.KeepsUp.{PaidAtLeastWhile, LosesAtMostWhile}
use Rattle.keeping_up.specs.Told.{KeepsWithin, IsUnnamed, OthersAreKept}
use Rattle.analysis_walk.proofs.ListLaws.{all_append, all_left, all_right, all_weaker}
use Rattle.analysis_values.proofs.AccountLaws.{account_decides}
use Rattle.loss_walk.specs.declared.floor.Floor.{Floor}
use Rattle.loss_walk.specs.Floors.{Rows, IsUnder, least_of, IsOneOf, IsFloor, RowsHoldWhile, IsToldBy, TellsAllOf, TellsOwn}
use Rattle.loss_walk.proofs.SoleLemmas.{natural_paid, natural_run}

-- ---- who the owner is

pub owner_apart : (a b : Party) (r : Bool) → r ≡ same_party a b → r ≡ false → a ≢ b
owner_apart a b r e f h = let z : false ≡ true = sym f ∙ e ∙ (same_party_decides a b).1 h in cc

pub owner_same : (a b : Party) (r : Bool) → r ≡ same_party a b → r ≡ true → a ≡ b
owner_same a b r e f = (same_party_decides a b).0 (sym e ∙ f)

-- ---- which accounts are asked

pub account_so : (a b : Account) (p t : Bool) → p ≡ same_party a.owner b.owner → t ≡ same_token a.token b.token → p ≡ true → t ≡ true → a ≡ b
account_so a b p t e f g h =
    let x = owner_same a.owner b.owner p e g in
    let y = (same_token_decides a.token b.token).0 (sym f ∙ h) in
    (λ i. record { owner = x i; token = y i })

pub one_at : (xs : List Account) (i : ℕ) (x a : Account) → i < length xs → x ≡ get_or xs i x → a ≡ x → IsOneOf xs a
one_at [] i x a l is e = absurd (omega arith)
one_at (y ∷ xs) zero x a l is e = inl (e ∙ is)
one_at (y ∷ xs) (suc i) x a l is e = inr (one_at xs i x a (omega arith) is e)

-- ---- one floor

-- what is told of a row
pub floor_for : (asked : List Account) (rows : Rows) (x : Account) (o least : Option ℤ) → least ≡ least_of (find account_cmp x rows) → IfSome o (λ n. ((n ≤ℤ pos 0) ⊎ IsOneOf asked x) × IsUnder least n) → IfSome o (IsFloor asked rows x)
floor_for asked rows x None least e h = tt
floor_for asked rows x (Some n) least e h = (h.0, subst (λ (z : Option ℤ). IsUnder z n) e h.1)

-- .. that is never less than 0
pub least_for : (asked : List Account) (rows : Rows) (x : Account) (n : ℤ) (least : Option ℤ) → least ≡ least_of (find account_cmp x rows) → (n ≤ℤ pos 0) ⊎ (IsOneOf asked x × IsUnder least n) → (n ≤ℤ pos 0) ⊎ IsFloor asked rows x n
least_for asked rows x n least e (inl h) = inl h
least_for asked rows x n least e (inr h) = inr (inr h.0, subst (λ (z : Option ℤ). IsUnder z n) e h.1)

-- .. and turned
pub turned_floor : (asked : List Account) (rows : Rows) (x : Account) (o most : Option ℤ) → IfSome o (IsFloor asked rows x) → IfSome most (λ n. o ≡ Some (neg_ℤ n)) → IfSome most (λ n. IsFloor asked rows x (neg_ℤ n))
turned_floor asked rows x o None h e = tt
turned_floor asked rows x o (Some n) h e = subst (λ (z : Option ℤ). IfSome z (IsFloor asked rows x)) e h

-- ---- row by row

-- the row of another party
pub tells_other : (party : Party) (asked : List Account) (paid net : Rows) (x : Account) (all : List Kept) → x.owner ≢ party → TellsOwn party asked paid net x all all
tells_other party asked paid net x all other = record { kept = λ t h. h; own = λ h. other; told = λ h. h }

pub tells_own : (party : Party) (asked : List Account) (paid net : Rows) (x : Account) (k : Kept) (old new : List Kept) → new ≡ old ++ k ∷ [] → k.token ≡ x.token → x.owner ≡ party → (k.least ≤ℤ pos 0) ⊎ IsFloor asked paid x k.least
    → IfSome k.most (λ n. IsFloor asked net x (neg_ℤ n)) → TellsOwn party asked paid net x old new
tells_own party asked paid net x k old new added is of least most = record {
  kept = λ t u. all_left (λ (y : Kept). y.token ≢ t) old (k ∷ []) (subst (λ (ys : List Kept). IsUnnamed ys t) added u);
  own = λ u. absurd ((all_right (λ (y : Kept). y.token ≢ x.token) old (k ∷ []) (subst (λ (ys : List Kept). IsUnnamed ys x.token) added u)).0 is);
  told = λ h.
      subst (AllByRecursion (IsToldBy party asked paid net)) (sym added)
      (all_append (IsToldBy party asked paid net) old (k ∷ []) h (subst (λ (z : Account). ((k.least ≤ℤ pos 0) ⊎ IsFloor asked paid z k.least) × IfSome k.most (λ n. IsFloor asked net z (neg_ℤ n))) (sym same) (least, most), tt));
}
  where
    same : account_of party k.token ≡ x
    same = (λ i. record { owner = sym of i; token = is i })

-- the rows so far are told
abbrev pub AreTold : Party → Rows → List Kept → Type 0
AreTold party es all = AllByRecursion (λ (e : Account × Floor). IsUnnamed all e.0.token → e.0.owner ≢ party) es

pub told_more : (party : Party) (asked : List Account) (paid net es : Rows) (i : ℕ) (e : Account × Floor) (old new : List Kept) → i < length es → e ≡ get_or es i e → AreTold party (take i es) old → TellsOwn party asked paid net e.0 old new → AreTold party (take (i + 1) es) new
told_more party asked paid net es i e old new l is h tells =
    let Q : Account × Floor → Type 0 = λ d. IsUnnamed new d.0.token → d.0.owner ≢ party in
    subst (AllByRecursion Q) (sym (take_more es i e l ∙ ap (λ x. take i es ++ x ∷ []) (sym is)))
    (all_append Q (take i es) (e ∷ []) (all_weaker (λ (d : Account × Floor). IsUnnamed old d.0.token → d.0.owner ≢ party) Q (λ d f u. f (tells.kept d.0.token u)) (take i es) h) (tells.own, tt))

no_row : (party : Party) (t : Token) (es : Rows) (all : List Kept) → AreTold party es all → IsUnnamed all t → find account_cmp (account_of party t) es ≡ None
no_row party t [] all h u = refl
no_row party t (e ∷ es) all h u = by_test (no_row party t es all h.1 u) (eq_by_cmp account_cmp (account_of party t) e.0) refl
  where
    by_test : find account_cmp (account_of party t) es ≡ None → (b : Bool) → eq_by_cmp account_cmp (account_of party t) e.0 ≡ b → cond b (Some e.1) (find account_cmp (account_of party t) es) ≡ None
    by_test none true q =
        let same : account_of party t ≡ e.0 = (account_decides (account_of party t) e.0).0 q in
        absurd (h.0 (subst (IsUnnamed all) (ap (λ (a : Account). a.token) same) u) (sym (ap (λ (a : Account). a.owner) same)))
    by_test none false q = none

pub told_all : (party : Party) (net es : Rows) (i : ℕ) (all : List Kept) → es ≡ net → length es ≤ i → AreTold party (take i es) all → TellsAllOf party net all
told_all party net es i all same l h t u = no_row party t net all (subst (λ (xs : Rows). AreTold party xs all) (take_all i es l ∙ same) h) u

-- ---- all

module _ (party : Party) (asked : List Account) (paid net : Rows) (s : StateMaps) (c : ContractTree) (pays : RowsHoldWhile false party asked paid s c) (nets : RowsHoldWhile true party asked net s c) where
  turned_back : (n : ℤ) → neg_ℤ (neg_ℤ n) ≡ n
  turned_back n = omega (arith, ints)

  no_more : (m n k : ℤ) → m ≤ℤ n → n ≤ℤ k → m ≤ℤ k
  no_more m n k p q = omega (arith, ints, p, q)

  paid_anyway : PaymentsAreNatural → AccountsStayPositive → AllPositive (entries s.accounts) → (t : Token) → PaidAtLeastWhile party t (pos 0) s c
  paid_anyway N A above t ts spent keeps = natural_paid party t (payments_of (standing s c) ts) (natural_run N A (standing s c) ts above)

  at_least : PaymentsAreNatural → AccountsStayPositive → AllPositive (entries s.accounts) → (t : Token) (n : ℤ) → (n ≤ℤ pos 0) ⊎ IsFloor asked paid (account_of party t) n → PaidAtLeastWhile party t n s c
  at_least N A above t n (inl h) = λ ts spent keeps. no_more n (pos 0) (paid_to party t (payments_of (standing s c) ts)) h (paid_anyway N A above t ts spent keeps)
  at_least N A above t n (inr h) = pays t n h

  at_most : (t : Token) (o : Option ℤ) → IfSome o (λ n. IsFloor asked net (account_of party t) (neg_ℤ n)) → IfSome o (λ n. LosesAtMostWhile party t n s c)
  at_most t None h = tt
  at_most t (Some n) h = subst (λ (m : ℤ). LosesAtMostWhile party t m s c) (turned_back n) (nets t (neg_ℤ n) h)

  pub keeps_within : PaymentsAreNatural → AccountsStayPositive → AllPositive (entries s.accounts) → (all : List Kept) → AllByRecursion (IsToldBy party asked paid net) all → KeepsWithin party all s c
  keeps_within N A above all h =
      all_weaker (IsToldBy party asked paid net) (λ (k : Kept). PaidAtLeastWhile party k.token k.least s c × IfSome k.most (λ n. LosesAtMostWhile party k.token n s c))
      (λ k f. (at_least N A above k.token k.least f.0, at_most k.token k.most f.1)) all h

  no_loss : neg_ℤ (pos 0) ≡ pos 0
  no_loss = omega (arith, ints)

  le_itself : (a : ℤ) → a ≤ℤ a
  le_itself a = omega (arith, ints)

  pub others_are_kept : PaymentsAreNatural → AccountsStayPositive → AllPositive (entries s.accounts) → (all : List Kept) → TellsAllOf party net all → OthersAreKept party all s c
  others_are_kept N A above all h t u = (
    paid_anyway N A above t,
    subst (λ (m : ℤ). LosesAtMostWhile party t m s c) no_loss
        (nets t (pos 0) (inl (le_itself (pos 0)), subst (λ (o : Option Floor). IsUnder (least_of o) (pos 0)) (sym (h t u)) (le_itself (pos 0)))),
  )
