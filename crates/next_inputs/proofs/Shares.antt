-- Shares, claim by claim; and offers, case by case.
use Rattle.std.proofs.Common.{◌≡◌, ◌≢◌, ℕ, zero, suc, ◌+◌, ◌<◌, ◌≤◌, ◌==◌, ℤ, Bool, true, false, cond, List, [], ◌∷◌, ◌++◌, length, get_or, take, drop, set, append_assoc, refl, sym, ap, ◌∙◌, subst, arith, Option, Some, None}
use Rattle.std.specs.Prelude.{slice_get}
use Rattle.std.specs.List.{AllByRecursion}
use Rattle.std.proofs.lemmas.List.{at_drop_more, at_drop_all, take_more, take_all, length_push}
use Rattle.std.proofs.lemmas.Bool.Decides.{Decides-eqb}
use Rattle.claims.specs.declared.claim.Claim.{Claim}
use Rattle.contract.specs.Names.declared.bound.Bound.{Bound}
use Rattle.contract.specs.declared.interval.Interval.{Interval}
use Rattle.contract.specs.States.States.{StateMaps}
use Rattle.contract.specs.Tree.{ActionTree, ContractTree}
use Rattle.next_inputs.specs.declared.lane.Lane.{Lane}
use Rattle.next_inputs.specs.declared.offer.Offer.{Offer}
use Rattle.next_inputs.proofs.Stopping.{take_next}
use Rattle.next_inputs.specs.Claiming.{claim_of, claims_for, put, gathered, AreShares, IsOf, IsBy, offer_of, offers_of}

-- ---- claims of a case

pub claims_push : (lane : Lane) (n : ℕ) (bs : List Bound) (b : Bound) → claims_for lane n (bs ++ b ∷ []) ≡ claims_for lane n bs ++ claim_of lane n b ∷ []
claims_push lane n [] b = refl
claims_push lane n (c ∷ bs) b = ap (λ z. claim_of lane n c ∷ z) (claims_push lane n bs b)

-- claims of the bounds so far, and of the next
pub claims_bound : (lane : Lane) (n : ℕ) (bs : List Bound) (m : ℕ) (d : Bound) (first before after : List (Claim Lane)) → m < length bs → after ≡ before ++ claims_for lane n (get_or bs m d ∷ [])
    → before ≡ first ++ claims_for lane n (take m bs) → after ≡ first ++ claims_for lane n (take (m + 1) bs)
claims_bound lane n bs m d first before after h a q =
    a ∙ (ap (λ z. z ++ claims_for lane n (get_or bs m d ∷ [])) q
    ∙ (append_assoc first (claims_for lane n (take m bs)) (claims_for lane n (get_or bs m d ∷ []))
    ∙ (ap (λ z. first ++ z) (sym (claims_push lane n (take m bs) (get_or bs m d))) ∙ ap (λ z. first ++ claims_for lane n z) (sym (take_more bs m d h)))))

pub claims_all : (lane : Lane) (n : ℕ) (bs : List Bound) (m : ℕ) (first before : List (Claim Lane)) → length bs ≤ m → before ≡ first ++ claims_for lane n (take m bs) → before ≡ first ++ claims_for lane n bs
claims_all lane n bs m first before h q = q ∙ ap (λ z. first ++ claims_for lane n z) (take_all m bs h)

-- nothing for each
none_more : (xs : List (List Bound)) (n : ℕ) (bs : List Bound) → AreShares xs [] → slice_get (xs ++ [] ∷ []) n ≡ Some bs → bs ≡ []
none_more [] zero bs h e = let g : [] ≡ bs = cc in sym g
none_more [] (suc n) bs h e = absurd (cc)
none_more (x ∷ xs) zero bs h e = h 0 bs e
none_more (x ∷ xs) (suc n) bs h e = none_more xs n bs (λ m cs g. h (suc m) cs g) e

pub none_pushed : (xs new : List (List Bound)) (x : List Bound) (m : ℕ) → x ≡ [] → new ≡ xs ++ x ∷ [] → length xs ≡ m → AreShares xs [] → (length new ≡ m + 1) × AreShares new []
none_pushed xs new x m e n l h =
    let f : new ≡ xs ++ [] ∷ [] = n ∙ ap (λ z. xs ++ z ∷ []) e in
    (ap length f ∙ (length_push xs [] ∙ ap (λ k. k + 1) l), subst (λ (z : List (List Bound)). AreShares z []) (sym f) (λ k bs g. none_more xs k bs h g))

-- ---- an element that is set

get_set : {A : Type 0} (xs : List A) (i : ℕ) (y : A) → i < length xs → slice_get (set xs i y) i ≡ Some y
get_set [] i y h = absurd (omega arith)
get_set (x ∷ xs) zero y h = refl
get_set (x ∷ xs) (suc i) y h = get_set xs i y (omega arith)

get_other : {A : Type 0} (xs : List A) (i n : ℕ) (y : A) → n ≢ i → slice_get (set xs i y) n ≡ slice_get xs n
get_other [] i n y h = refl
get_other (x ∷ xs) zero zero y h = absurd (h refl)
get_other (x ∷ xs) zero (suc n) y h = refl
get_other (x ∷ xs) (suc i) zero y h = refl
get_other (x ∷ xs) (suc i) (suc n) y h = get_other xs i n y (λ e. h (ap suc e))

got : {A : Type 0} (xs : List A) (i : ℕ) (d : A) → i < length xs → slice_get xs i ≡ Some (get_or xs i d)
got [] i d h = absurd (omega arith)
got (x ∷ xs) zero d h = refl
got (x ∷ xs) (suc i) d h = got xs i d (omega arith)

-- ---- the loop over claims

-- what each case has, and what it will get of these, is what it gets of all
abbrev pub SharesSoFar : List (List Bound) → List (Claim Lane) → List (Claim Lane) → Type 0
SharesSoFar shares all rest = (n : ℕ) (bs : List Bound) → slice_get shares n ≡ Some bs → gathered bs n rest ≡ gathered [] n all

pub shares_begin : (shares : List (List Bound)) (all : List (Claim Lane)) → AreShares shares [] → SharesSoFar shares all all
shares_begin shares all h n bs e = ap (λ z. gathered z n all) (h n bs e)

pub shares_end : (shares : List (List Bound)) (all rest : List (Claim Lane)) → rest ≡ [] → SharesSoFar shares all rest → AreShares shares all
shares_end shares all rest e h n bs g = sym (ap (gathered bs n) e) ∙ h n bs g

test_same : (a b : ℕ) → a ≡ b → (a == b) ≡ true
test_same a b h = (Decides-eqb a b).1 h

test_other : (a b : ℕ) → a ≢ b → (a == b) ≡ false
test_other a b h = by (a == b) refl
  where
    by : (c : Bool) → (a == b) ≡ c → (a == b) ≡ false
    by true e = absurd (h ((Decides-eqb a b).0 e))
    by false e = e

-- a claim goes to its case
pub shares_more : (shares : List (List Bound)) (all rest : List (Claim Lane)) (c : Claim Lane) (old new : List Bound) → c.by < length shares → slice_get shares c.by ≡ Some old → new ≡ put old c.from c.to
    → SharesSoFar shares all (c ∷ rest) → SharesSoFar (set shares c.by new) all rest
shares_more shares all rest c old new l o e h n bs g = by (n == c.by) refl
  where
    there : n ≡ c.by → gathered bs n rest ≡ gathered [] n all
    there f =
        let p : Some bs ≡ Some new = sym g ∙ (ap (slice_get (set shares c.by new)) f ∙ get_set shares c.by new l) in
        let q : bs ≡ put old c.from c.to = let r : bs ≡ new = cc in r ∙ e in
        let now = h n old (ap (slice_get shares) f ∙ o) in
        ap (λ z. gathered z n rest) (q ∙ sym (ap (λ b. cond b (put old c.from c.to) old) (test_same c.by n (sym f)))) ∙ now

    elsewhere : (n ≡ c.by → ⊥) → gathered bs n rest ≡ gathered [] n all
    elsewhere f =
        let p : slice_get shares n ≡ Some bs = sym (get_other shares c.by n new f) ∙ g in
        ap (λ z. gathered z n rest) (sym (ap (λ b. cond b (put bs c.from c.to) bs) (test_other c.by n (λ k. f (sym k))))) ∙ h n bs p

    by : (b : Bool) → (n == c.by) ≡ b → gathered bs n rest ≡ gathered [] n all
    by true f = there ((Decides-eqb n c.by).0 f)
    by false f = elsewhere (λ j. let m = test_same n c.by j in absurd (cc))

-- the claim at an index is next
pub next_claim : (shares : List (List Bound)) (all : List (Claim Lane)) (m : ℕ) (c : Claim Lane) → m < length all → c ≡ get_or all m c → SharesSoFar shares all (drop m all) → SharesSoFar shares all (c ∷ drop (m + 1) all)
next_claim shares all m c h e k n bs g =
    sym (at_drop_more (λ z. gathered bs n z) all m c h ∙ ap (λ z. gathered bs n (z ∷ drop (m + 1) all)) (sym e)) ∙ k n bs g

pub had : (shares : List (List Bound)) (i : ℕ) (old : List Bound) → i < length shares → old ≡ get_or shares i old → slice_get shares i ≡ Some old
had shares i old h e = got shares i old h ∙ ap (λ z. let o : Option (List Bound) = Some z in o) (sym e)

by_at : (count : ℕ) (cs : List (Claim Lane)) (m : ℕ) (d : Claim Lane) → AllByRecursion (IsBy count) cs → m < length cs → (get_or cs m d).by < count
by_at count [] m d h l = absurd (omega arith)
by_at count (c ∷ cs) zero d h l = h.0
by_at count (c ∷ cs) (suc m) d h l = by_at count cs m d h.1 (omega arith)

pub by_within : (count : ℕ) (cs : List (Claim Lane)) (m : ℕ) (c : Claim Lane) → AllByRecursion (IsBy count) cs → m < length cs → c ≡ get_or cs m c → c.by < count
by_within count cs m c h l e = subst (λ (z : Claim Lane). z.by < count) (sym e) (by_at count cs m c h l)

-- claims of cases are by as many
below : {A : Type 0} (xs : List A) (n : ℕ) (x : A) → slice_get xs n ≡ Some x → n < length xs
below [] n x h = absurd (cc)
below (y ∷ xs) zero x h = omega arith
below (y ∷ xs) (suc n) x h = let k = below xs n x h in omega arith

pub by_count : (ks : List (ActionTree × ContractTree)) (cs : List (Claim Lane)) → AllByRecursion (IsOf ks) cs → AllByRecursion (IsBy (length ks)) cs
by_count ks [] h = tt
by_count ks (c ∷ cs) h = (below ks c.by h.0.0 h.0.1, by_count ks cs h.1)

-- ---- the loop over cases

offers_push : (i : Interval) (s : StateMaps) (js : List (ActionTree × ContractTree)) (ys : List (List Bound)) (k : ActionTree × ContractTree) (bs : List Bound) → length js ≡ length ys
    → offers_of i s (js ++ k ∷ []) (ys ++ bs ∷ []) ≡ offers_of i s js ys ++ offer_of i s k.0 bs ∷ []
offers_push i s [] [] k bs h = refl
offers_push i s [] (y ∷ ys) k bs h = absurd (omega arith)
offers_push i s (j ∷ js) [] k bs h = absurd (omega arith)
offers_push i s (j ∷ js) (y ∷ ys) k bs h = ap (λ z. offer_of i s j.0 y ∷ z) (offers_push i s js ys k bs (omega arith))

pub offers_next : (i : Interval) (s : StateMaps) (ks : List (ActionTree × ContractTree)) (ys : List (List Bound)) (m : ℕ) (k : ActionTree × ContractTree) (bs : List Bound) (old new : List Offer)
    → m ≡ length ys → slice_get ks m ≡ Some k → old ≡ offers_of i s (take m ks) ys → new ≡ old ++ offer_of i s k.0 bs ∷ [] → new ≡ offers_of i s (take (m + 1) ks) (ys ++ bs ∷ [])
offers_next i s ks ys m k bs old new h g o n =
    let t = take_next ks m k g in
    n ∙ (ap (λ z. z ++ offer_of i s k.0 bs ∷ []) o ∙ (sym (offers_push i s (take m ks) ys k bs (t.1 ∙ h)) ∙ ap (λ z. offers_of i s z (ys ++ bs ∷ [])) (sym t.0)))

pub offers_whole : (i : Interval) (s : StateMaps) (ks : List (ActionTree × ContractTree)) (ys : List (List Bound)) (m : ℕ) (offers : List Offer) → length ks ≤ m → offers ≡ offers_of i s (take m ks) ys → offers ≡ offers_of i s ks ys
offers_whole i s ks ys m offers h o = o ∙ ap (λ z. offers_of i s z ys) (take_all m ks h)

pub offers_step : (i : Interval) (s : StateMaps) (ks : List (ActionTree × ContractTree)) (ys : List (List Bound)) (m : ℕ) (k : ActionTree × ContractTree) (bs : List Bound) (o : Offer) (old new : List Offer)
    → length old ≡ length ys → m ≡ length old → slice_get ks m ≡ Some k → old ≡ offers_of i s (take (length ys) ks) ys → o ≡ offer_of i s k.0 bs → new ≡ old ++ o ∷ []
    → (length new ≡ length (ys ++ bs ∷ [])) × (new ≡ offers_of i s (take (length (ys ++ bs ∷ [])) ks) (ys ++ bs ∷ []))
offers_step i s ks ys m k bs o old new l e g h p n =
    let long : m ≡ length ys = e ∙ l in
    let so : old ≡ offers_of i s (take m ks) ys = h ∙ ap (λ z. offers_of i s (take z ks) ys) (sym long) in
    let added : new ≡ old ++ offer_of i s k.0 bs ∷ [] = n ∙ ap (λ z. old ++ z ∷ []) p in
    let next : m + 1 ≡ length (ys ++ bs ∷ []) = ap (λ z. z + 1) long ∙ sym (length_push ys bs) in (
      ap length n ∙ (length_push old o ∙ (ap (λ z. z + 1) l ∙ sym (length_push ys bs))),
      offers_next i s ks ys m k bs old new long g so added ∙ ap (λ z. offers_of i s (take z ks) (ys ++ bs ∷ [])) next,
    )

-- one claim of the loop
pub shares_step : (shares : List (List Bound)) (all : List (Claim Lane)) (m : ℕ) (c : Claim Lane) (old new : List Bound) → m < length all → c ≡ get_or all m c → c.by < length shares → old ≡ get_or shares c.by old
    → new ≡ put old c.from c.to → SharesSoFar shares all (drop m all) → SharesSoFar (set shares c.by new) all (drop (m + 1) all)
shares_step shares all m c old new h e l o n k = shares_more shares all (drop (m + 1) all) c old new l (had shares c.by old l o) n (next_claim shares all m c h e k)
