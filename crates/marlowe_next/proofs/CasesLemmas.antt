-- What is told of cases, one after another.
use Rattle.std.proofs.Common.{◌≡◌, ◌≢◌, ℕ, zero, suc, ◌+◌, ◌<◌, ◌≤◌, ◌==◌, ℤ, true, false, ◌&&◌, List, [], ◌∷◌, ◌++◌, length, take, add-one, refl, sym, ap, ◌∙◌, subst, append-nil, append_assoc, length-append, arith, Option, Some, None}
use Rattle.std.specs.Prelude.{slice_get, IfSome}
use Rattle.std.specs.Ordering.{int_eq}
use Rattle.std.proofs.Math.ListN.{get_or}
use Rattle.std.proofs.lemmas.Bool.{eqb-true, eq-eqb}
use Rattle.std.proofs.lemmas.Bool.Decides.{Decides-int_eq}
use Rattle.std.proofs.lemmas.List.{take_all, take_at, length-map}
use Rattle.std.proofs.lemmas.Option.{slice_get_read}
use Rattle.contract.specs.Names.declared.party.Party.{Party}
use Rattle.contract.specs.Names.declared.token.Token.{Token}
use Rattle.contract.specs.Names.Equal.{same_party, same_token}
use Rattle.contract.proofs.FromNames.EqualLaws.{same_party_decides, same_token_decides}
use Rattle.contract.specs.declared.fault.SemFault.{SemFault}
use Rattle.contract.specs.declared.input.Input.{Input}
use Rattle.contract.specs.declared.input.Input.TheVariants as inputs
use Rattle.contract.specs.declared.interval.Interval.{Interval}
use Rattle.contract.specs.Tree.{ValueTree, ObservationTree, ActionTree, deposit, notify, ContractTree}
use Rattle.contract.specs.States.States.{StateMaps}
use Rattle.marlowe_run.specs.Semantics.Evaluation.Path.{waits_for}
use Rattle.marlowe_run.specs.Semantics.Transaction.{trimmed}
use Rattle.marlowe_run.specs.Semantics.Applying.{agrees}
use Rattle.next_inputs.specs.declared.offer.Offer.{Offer}
use Rattle.next_inputs.specs.declared.offer.Offer.TheVariants as offers
use Rattle.next_inputs.specs.Behind.{IsRefusedBehind}
use Rattle.next_inputs.specs.Offers.{has, offered, AreOffers}
use Rattle.next_inputs.specs.Opening.{case_from, next_case}
use Rattle.next_inputs.specs.Taking.{taken_case}
use Rattle.next_lines.specs.declared.told.CaseTold.{CaseTold}
use Rattle.next_lines.specs.Applicable.{Applicable, deposits, notifies}
use Rattle.next_lines.specs.Seen.{seen_case, seen_cases}
use Rattle.marlowe_next.specs.Applicable.{refusal, applicable, applicable_from}
use Rattle.marlowe_next.specs.AnswerSupport.{seen_if, is_full, SettlesTo, TakesAt, TellsCase, CountsCase, TellsFirst}

abbrev Pair : Type 0
Pair = ActionTree × ContractTree

-- ---- an input takes the case that offers it

agrees_itself : (a p : Party) (t : Token) → agrees a p t a p t ≡ true
agrees_itself a p t =
    let e : same_party a a ≡ true = (same_party_decides a a).1 refl in
    let f : same_party p p ≡ true = (same_party_decides p p).1 refl in
    let g : same_token t t ≡ true = (same_token_decides t t).1 refl in
    rw (e, f, g) refl

pub has_own : (a p : Party) (t : Token) (v : ValueTree) (m : ℤ) → has (deposit a p t v) (offers.Deposit m) (inputs.Deposit a p t m) ≡ true
has_own a p t v m =
    let e : agrees a p t a p t ≡ true = agrees_itself a p t in
    let f : int_eq m m ≡ true = (Decides-int_eq m m).1 refl in
    ap (λ b. b && int_eq m m) e ∙ f

offered_at : (ks : List Pair) (fs : List Offer) (n : ℕ) (k : Pair) (f : Offer) (x : Input) → slice_get ks n ≡ Some k → slice_get fs n ≡ Some f → offered ks fs n x ≡ has k.0 f x
offered_at [] fs n k f x e h = absurd (cc)
offered_at (j ∷ ks) [] n k f x e h = absurd (cc)
offered_at (j ∷ ks) (g ∷ fs) zero k f x e h = let p : j ≡ k = cc in let q : g ≡ f = cc in ap (λ (z : Pair). has z.0 g x) p ∙ ap (λ z. has k.0 z x) q
offered_at (j ∷ ks) (g ∷ fs) (suc n) k f x e h = offered_at ks fs n k f x e h

-- the offer at an index, of all of them
pub takes_at : (j : Interval) (s : StateMaps) (c : ContractTree) (fs : List Offer) (n : ℕ) (f : Offer) → AreOffers j s (waits_for c) fs → slice_get fs n ≡ Some f → TakesAt j s c n f
takes_at j s c fs n f h e k g x is = (h.exact x n).0 (offered_at (waits_for c) fs n k f x g e ∙ is)

-- ---- what follows is refused as the transaction is

pub refused_so : (j : Interval) (s : StateMaps) (c : ContractTree) (n : ℕ) (x : Input) (r : Option SemFault) (i : Interval) (from : StateMaps) (whole : ContractTree)
    → IsRefusedBehind j s c n x r → SettlesTo i from whole j s c → taken_case j s x (waits_for c) ≡ Some n → r ≡ refusal i from whole x
refused_so j s c n x r i from whole h k e =
    let next : next_case i from whole x ≡ taken_case (trimmed i from) s x (waits_for c) = ap (case_from (trimmed i from) x) k.stands in
    h i from whole k.stands k.interval (next ∙ ap (λ (z : Interval). taken_case z s x (waits_for c)) k.interval ∙ e)

-- ---- what is told of one case

module _ (j : Interval) (s : StateMaps) (c : ContractTree) (n : ℕ) (f : Offer) where
  -- an input that the offer has takes the case, so what follows is refused as the transaction is
  taken_so : (k : Pair) (x : Input) (r : Option SemFault) → TakesAt j s c n f → slice_get (waits_for c) n ≡ Some k → has k.0 f x ≡ true → IsRefusedBehind j s c n x r
      → (i : Interval) (from : StateMaps) (whole : ContractTree) → SettlesTo i from whole j s c → r ≡ refusal i from whole x
  taken_so k x r h e is t i from whole z = refused_so j s c n x r i from whole t z (h k e x is)

  same_case : (k l : Pair) → slice_get (waits_for c) n ≡ Some k → slice_get (waits_for c) n ≡ Some l → k ≡ l
  same_case k l e h = cc

  -- told of the case that is there
  told_there : (k : Pair) (told : List Applicable) → slice_get (waits_for c) n ≡ Some k → ((i : Interval) (from : StateMaps) (whole : ContractTree) → SettlesTo i from whole j s c → told ≡ applicable (refusal i from whole) n k.0 f) → TellsCase j s c n f told
  told_there k told e h i from whole z l g = h i from whole z ∙ ap (λ (q : Pair). applicable (refusal i from whole) n q.0 f) (same_case k l e g)

  pub deposit_told : (a p : Party) (t : Token) (v : ValueTree) (d : ContractTree) (m : ℤ) (x : Input) (r : Option SemFault) → TakesAt j s c n f → slice_get (waits_for c) n ≡ Some (deposit a p t v, d) → f ≡ offers.Deposit m
      → x ≡ inputs.Deposit a p t m → IsRefusedBehind j s c n x r → TellsCase j s c n f (deposits n a p t m r ∷ [])
  deposit_told a p t v d m x r h e is own k =
      let y = inputs.Deposit a p t m in
      let taken : has (deposit a p t v) f y ≡ true = ap (λ (o : Offer). has (deposit a p t v) o y) is ∙ has_own a p t v m in
      told_there (deposit a p t v, d) (deposits n a p t m r ∷ []) e
      (λ i from whole z.
      ap (λ (q : Option SemFault). deposits n a p t m q ∷ []) (taken_so (deposit a p t v, d) y r h e taken (subst (λ (w : Input). IsRefusedBehind j s c n w r) own k) i from whole z)
      ∙ ap (λ (o : Offer). applicable (refusal i from whole) n (deposit a p t v) o) (sym is))

  pub notify_told : (o : ObservationTree) (d : ContractTree) (r : Option SemFault) → TakesAt j s c n f → slice_get (waits_for c) n ≡ Some (notify o, d) → f ≡ offers.Notify → IsRefusedBehind j s c n inputs.Notify r
      → TellsCase j s c n f (notifies n r ∷ [])
  notify_told o d r h e is k =
      told_there (notify o, d) (notifies n r ∷ []) e
      (λ i from whole z.
      ap (λ (q : Option SemFault). notifies n q ∷ []) (taken_so (notify o, d) inputs.Notify r h e (ap (λ (q : Offer). has (notify o) q inputs.Notify) is) k i from whole z)
      ∙ ap (λ (q : Offer). applicable (refusal i from whole) n (notify o) q) (sym is))

-- ---- one case more

first_of : (refused : Input → Option SemFault) (before : ℕ) (k : Pair) (f : Offer) → applicable_from refused before (k ∷ []) (f ∷ []) ≡ applicable refused before k.0 f
first_of refused before k f = append-nil (applicable refused before k.0 f)

pub from_more : (refused : Input → Option SemFault) (before : ℕ) (ks : List Pair) (fs : List Offer) (n : ℕ) (k : Pair) (f : Offer) → slice_get ks n ≡ Some k → slice_get fs n ≡ Some f
    → applicable_from refused before (take (suc n) ks) (take (suc n) fs) ≡ applicable_from refused before (take n ks) (take n fs) ++ applicable refused (before + n) k.0 f
from_more refused before [] fs n k f e h = absurd (cc)
from_more refused before (j ∷ ks) [] n k f e h = absurd (cc)
from_more refused before (j ∷ ks) (g ∷ fs) zero k f e h =
    let p : j ≡ k = cc in
    let q : g ≡ f = cc in
    ap (λ (z : Pair). applicable_from refused before (z ∷ []) (g ∷ [])) p ∙ ap (λ (z : Offer). applicable_from refused before (k ∷ []) (z ∷ [])) q ∙ first_of refused before k f
    ∙ ap (λ (m : ℕ). applicable refused m k.0 f) (omega arith)
from_more refused before (j ∷ ks) (g ∷ fs) (suc n) k f e h =
    let ih = from_more refused (suc before) ks fs n k f e h in
    ap (λ (xs : List Applicable). applicable refused before j.0 g ++ xs) ih
    ∙ sym (append_assoc (applicable refused before j.0 g) (applicable_from refused (suc before) (take n ks) (take n fs)) (applicable refused (suc before + n) k.0 f))
    ∙ ap (λ (m : ℕ). (applicable refused before j.0 g ++ applicable_from refused (suc before) (take n ks) (take n fs)) ++ applicable refused m k.0 f) (omega arith)

-- there is a case at an index below their number
case_there : (ks : List Pair) (n : ℕ) → n < length ks → (k : Pair) × (slice_get ks n ≡ Some k)
case_there [] n l = absurd (omega arith)
case_there (k ∷ ks) zero l = (k, refl)
case_there (k ∷ ks) (suc n) l = case_there ks n (omega arith)

-- the offer at an index, as code reads it
pub offer_there : (fs : List Offer) (n : ℕ) (f : Offer) → n < length fs → f ≡ get_or fs n f → slice_get fs n ≡ Some f
offer_there fs n f l is = slice_get_read fs (length fs) n f refl l is

from_there : (refused : Input → Option SemFault) (ks : List Pair) (fs : List Offer) (n : ℕ) (k : Pair) (f : Offer) → slice_get ks n ≡ Some k → slice_get fs n ≡ Some f
    → applicable_from refused 0 (take (n + 1) ks) (take (n + 1) fs) ≡ applicable_from refused 0 (take n ks) (take n fs) ++ applicable refused n k.0 f
from_there refused ks fs n k f e h =
    let more : applicable_from refused 0 (take (n + 1) ks) (take (n + 1) fs) ≡ applicable_from refused 0 (take n ks) (take n fs) ++ applicable refused (0 + n) k.0 f = rw (add-one n) (from_more refused 0 ks fs n k f e h) in
    more ∙ ap (λ (m : ℕ). applicable_from refused 0 (take n ks) (take n fs) ++ applicable refused m k.0 f) (omega arith)

pub told_more : (j : Interval) (s : StateMaps) (c : ContractTree) (fs : List Offer) (n : ℕ) (f : Offer) (before case after : List Applicable) → AreOffers j s (waits_for c) fs → n < length fs → f ≡ get_or fs n f
    → TellsCase j s c n f case → after ≡ before ++ case → (i : Interval) (from : StateMaps) (whole : ContractTree) → SettlesTo i from whole j s c
    → before ≡ applicable_from (refusal i from whole) 0 (take n (waits_for c)) (take n fs) → after ≡ applicable_from (refusal i from whole) 0 (take (n + 1) (waits_for c)) (take (n + 1) fs)
told_more j s c fs n f before case after h l is t e i from whole z so_far =
    let ks = waits_for c in
    let there = case_there ks n (omega (arith, h.each)) in
    let refused = refusal i from whole in
    e ∙ ap (λ (xs : List Applicable). xs ++ case) so_far ∙ ap (λ (xs : List Applicable). applicable_from refused 0 (take n ks) (take n fs) ++ xs) (t i from whole z there.0 there.1)
    ∙ sym (from_there refused ks fs n there.0 f there.1 (offer_there fs n f l is))

-- ---- how many there are

pub counted_more : (c : ContractTree) (fs : List Offer) (n : ℕ) (f : Offer) (before count one : ℕ) → length fs ≡ length (waits_for c) → n < length fs → f ≡ get_or fs n f → CountsCase c n f one
    → (refused : Input → Option SemFault) → count + before ≡ length (applicable_from refused 0 (take n (waits_for c)) (take n fs)) → count + one + before ≡ length (applicable_from refused 0 (take (n + 1) (waits_for c)) (take (n + 1) fs))
counted_more c fs n f before count one each l is counts refused so_far =
    let ks = waits_for c in
    let there = case_there ks n (omega arith) in
    let front = applicable_from refused 0 (take n ks) (take n fs) in
    let here = applicable refused n there.0.0 f in
    let more = ap length (from_there refused ks fs n there.0 f there.1 (offer_there fs n f l is)) ∙ length-append front here in
    let is_one : one ≡ length here = counts refused there.0 there.1 in
    omega arith

-- no case is left
from_all : (refused : Input → Option SemFault) (ks : List Pair) (fs : List Offer) (n : ℕ) → length fs ≤ n → length fs ≡ length ks → applicable_from refused 0 (take n ks) (take n fs) ≡ applicable_from refused 0 ks fs
from_all refused ks fs n l each =
    ap (λ (xs : List Pair). applicable_from refused 0 xs (take n fs)) (take_all n ks (omega arith)) ∙ ap (λ (xs : List Offer). applicable_from refused 0 ks xs) (take_all n fs l)

pub counted_all : (refused : Input → Option SemFault) (ks : List Pair) (fs : List Offer) (n before count : ℕ) → count + before ≡ length (applicable_from refused 0 (take n ks) (take n fs)) → length fs ≤ n → length fs ≡ length ks
    → count + before ≡ length (applicable_from refused 0 ks fs)
counted_all refused ks fs n before count e l each = e ∙ ap length (from_all refused ks fs n l each)

-- those of the first cases come first
from_front : (refused : Input → Option SemFault) (before : ℕ) (ks : List Pair) (fs : List Offer) (n : ℕ) → (rest : List Applicable) × (applicable_from refused before ks fs ≡ applicable_from refused before (take n ks) (take n fs) ++ rest)
from_front refused before ks fs zero = (applicable_from refused before ks fs, refl)
from_front refused before [] fs (suc n) = ([], refl)
from_front refused before (k ∷ ks) [] (suc n) = ([], refl)
from_front refused before (k ∷ ks) (f ∷ fs) (suc n) =
    let behind = from_front refused (suc before) ks fs n in
    let here = applicable refused before k.0 f in
    (behind.0, ap (λ (xs : List Applicable). here ++ xs) behind.1 ∙ sym (append_assoc here (applicable_from refused (suc before) (take n ks) (take n fs)) behind.0))

-- ---- so many at most

same_number : (n m : ℕ) → (n == m) ≡ true → n ≡ m
same_number n m e = eqb-true n m e

other_number : (n m : ℕ) → (n == m) ≡ false → n ≢ m
other_number n m e = λ q. absurd (let t : true ≡ false = sym (eq-eqb n m q) ∙ e in cc)

one_told : (case : Option CaseTold) → length (seen_if case) ≤ 1
one_told None = omega arith
one_told (Some c) = omega arith

pub room_more : (most : Option ℕ) (before after : List CaseTold) (case : Option CaseTold) (n : ℕ) → IfSome most (λ m. length before ≤ m) → n ≡ length before → is_full n most ≡ false → seen_cases after ≡ seen_cases before ++ seen_if case
    → IfSome most (λ m. length after ≤ m)
room_more None before after case n h is e g = tt
room_more (Some m) before after case n h is e g =
    let others : n ≢ m = other_number n m e in
    let one : length (seen_if case) ≤ 1 = one_told case in
    let longer : length after ≡ length before + length (seen_if case) =
    sym (length-map after seen_case) ∙ ap length g ∙ length-append (seen_cases before) (seen_if case) ∙ ap (λ k. k + length (seen_if case)) (length-map before seen_case) in
    omega arith

-- all inputs are told
told_within : (most : Option ℕ) (xs : List Applicable) (told : List CaseTold) → seen_cases told ≡ xs → IfSome most (λ m. length told ≤ m) → TellsFirst most xs (seen_cases told) 0
told_within None xs told e h = (e, refl)
told_within (Some m) xs told e h =
    let same : length xs ≡ length told = ap length (sym e) ∙ length-map told seen_case in
    (e ∙ sym (take_all m xs (omega arith)), omega arith)

pub all_told : (most : Option ℕ) (refused : Input → Option SemFault) (ks : List Pair) (fs : List Offer) (n : ℕ) (told : List CaseTold) → seen_cases told ≡ applicable_from refused 0 (take n ks) (take n fs) → length fs ≤ n → length fs ≡ length ks
    → IfSome most (λ m. length told ≤ m) → TellsFirst most (applicable_from refused 0 ks fs) (seen_cases told) 0
all_told most refused ks fs n told e l each h = told_within most (applicable_from refused 0 ks fs) told (e ∙ from_all refused ks fs n l each) h

-- those of the first cases are told, which are as many as may be
pub first_told : (most : Option ℕ) (refused : Input → Option SemFault) (ks : List Pair) (fs : List Offer) (index n more : ℕ) (told : List CaseTold) → is_full n most ≡ true → n ≡ length told
    → seen_cases told ≡ applicable_from refused 0 (take index ks) (take index fs) → more + length (applicable_from refused 0 (take index ks) (take index fs)) ≡ length (applicable_from refused 0 ks fs)
    → TellsFirst most (applicable_from refused 0 ks fs) (seen_cases told) more
first_told None refused ks fs index n more told full is e counted = absurd (let bad : false ≡ true = full in cc)
first_told (Some m) refused ks fs index n more told full is e counted =
    let front = applicable_from refused 0 (take index ks) (take index fs) in
    let split = from_front refused 0 ks fs index in
    let so_many : n ≡ m = same_number n m full in
    let long : length front ≡ m = ap length (sym e) ∙ length-map told seen_case ∙ sym is ∙ so_many in
    (e ∙ sym (ap (λ (ys : List Applicable). take m ys) split.1 ∙ take_at front split.0 m long), omega arith)
