-- Holdings in order, put one behind another: they ascend, stay above 0, and come to the same.
use Rattle.std.proofs.Common.{◌≡◌, ℕ, zero, suc, ◌+◌, ◌<◌, ◌≤◌, ℤ, pos, ◌+ℤ◌, ◌<ℤ◌, ◌≤ℤ◌, Bool, true, false, cond, List, [], ◌∷◌, ◌++◌, length, get_or, drop, refl, sym, ◌∙◌, ap, subst, arith}
use Rattle.std.proofs.lemmas.Int.{ints}
use Rattle.std.proofs.lemmas.Bool.{both_ways}
use Rattle.std.proofs.lemmas.List.{at_drop_more}
use Rattle.std.specs.Cmp.{Equal-is, tied_itself}
use Rattle.std.specs.Ordering.{eq_by_cmp, is_eq, is_lt, ordering_reverse}
use Rattle.std.specs.declared.cmp.Ordering.{Ordering}
use Rattle.std.specs.declared.cmp.Ordering.TheVariants.{Less, Equal, Greater}
use Rattle.eutxo.specs.Names.declared.token.Token.{Token}
use Rattle.eutxo.specs.Names.Equal.{same_token}
use Rattle.eutxo.specs.Names.Orders.{token_cmp}
use Rattle.eutxo.specs.Names.Totals.{token_total}
use Rattle.play_holdings.specs.declared.holder.Holder.{Holder}
use Rattle.play_holdings.specs.declared.holding.Holding.{Holding}
use Rattle.play_holdings.specs.Holders.{holding_cmp}
use Rattle.play_holdings.specs.Holdings.{come_to, of_token, IsBefore, Ascend, AllAbove}
use Rattle.play_holdings.specs.SumsSupport.{most, Fit, NoneBefore, NeverFall, is_same, joined, behind, with_next, with_all, HasRoom}
use Rattle.play_holdings.proofs.HolderLemmas.{holding_total, same_parts}
use Rattle.play_holdings.proofs.TotalLemmas.{share, natural, share_natural}

-- ---- one behind the last

pub next_behind : (hs : List Holding) (last x : Holding) → with_next (hs ++ last ∷ []) x ≡ hs ++ behind last x
next_behind [] last x = refl
next_behind (h ∷ []) last x = refl
next_behind (h ∷ g ∷ hs) last x = ap (λ (l : List Holding). h ∷ l) (next_behind (g ∷ hs) last x)

-- ---- they ascend

turned : (a b : Holding) (r : Ordering) → holding_cmp a b ≡ r → holding_cmp b a ≡ ordering_reverse r
turned a b r h = holding_total.antisymm b a ∙ ap ordering_reverse h

-- neither tied nor after
less_if : (a b : Holding) → is_same a b ≡ false → is_lt (holding_cmp b a) ≡ false → holding_cmp a b ≡ Less
less_if a b e u = by (holding_cmp a b) refl
  where
    by : (r : Ordering) → holding_cmp a b ≡ r → holding_cmp a b ≡ Less
    by Less p = p
    by Equal p = let q : is_same a b ≡ true = ap is_eq p in absurd (both_ways _ e q)
    by Greater p = let q : is_lt (holding_cmp b a) ≡ true = ap is_lt (turned a b Greater p) in absurd (both_ways _ u q)

-- before one that isn't after another
less_on : (a b c : Holding) → holding_cmp a b ≡ Less → is_lt (holding_cmp c b) ≡ false → holding_cmp a c ≡ Less
less_on a b c h u = by (holding_cmp b c) refl
  where
    by : (r : Ordering) → holding_cmp b c ≡ r → holding_cmp a c ≡ Less
    by Less p = holding_total.trans a b c h p
    by Equal p = turned c a Greater (sym (holding_total.congr b c a p) ∙ turned a b Less h)
    by Greater p = let q : is_lt (holding_cmp c b) ≡ true = ap is_lt (turned b c Greater p) in absurd (both_ways _ u q)

before_next : (k x : Holding) (hs : List Holding) → IsBefore k hs → holding_cmp k x ≡ Less → IsBefore k (with_next hs x)
before_next k x [] b l = (l, tt)
before_next k x (h ∷ []) b l = by (is_same h x)
  where
    by : (s : Bool) → IsBefore k (cond s (joined h x ∷ []) (h ∷ x ∷ []))
    by true = (b.0, tt)
    by false = (b.0, (l, tt))
before_next k x (h ∷ g ∷ hs) b l = (b.0, before_next k x (g ∷ hs) b.1 l)

-- none of these stands after it
abbrev UpTo : Holding → List Holding → Type 0
UpTo x [] = Unit {0}
UpTo x (h ∷ hs) = (is_lt (holding_cmp x h) ≡ false) × UpTo x hs

up_to_next : (y x : Holding) (hs : List Holding) → UpTo y hs → is_lt (holding_cmp y x) ≡ false → UpTo y (with_next hs x)
up_to_next y x [] u l = (l, tt)
up_to_next y x (h ∷ []) u l = by (is_same h x)
  where
    by : (s : Bool) → UpTo y (cond s (joined h x ∷ []) (h ∷ x ∷ []))
    by true = (u.0, tt)
    by false = (u.0, (l, tt))
up_to_next y x (h ∷ g ∷ hs) u l = (u.0, up_to_next y x (g ∷ hs) u.1 l)

next_ascends : (x : Holding) (hs : List Holding) → Ascend hs → UpTo x hs → Ascend (with_next hs x)
next_ascends x [] a u = (tt, tt)
next_ascends x (h ∷ []) a u = by (is_same h x) refl
  where
    by : (s : Bool) → is_same h x ≡ s → Ascend (cond s (joined h x ∷ []) (h ∷ x ∷ []))
    by true e = (tt, tt)
    by false e = ((less_if h x e u.0, tt), (tt, tt))
next_ascends x (h ∷ g ∷ hs) a u = (before_next h x (g ∷ hs) a.0 (less_on h g x a.0.0 u.1.0), next_ascends x (g ∷ hs) a.1 u.1)

abbrev AllUpTo : List Holding → List Holding → Type 0
AllUpTo hs [] = Unit {0}
AllUpTo hs (x ∷ xs) = UpTo x hs × AllUpTo hs xs

all_up_to_next : (x : Holding) (hs xs : List Holding) → AllUpTo hs xs → NoneBefore x xs → AllUpTo (with_next hs x) xs
all_up_to_next x hs [] u n = tt
all_up_to_next x hs (y ∷ ys) u n = (up_to_next y x hs u.0 n.0, all_up_to_next x hs ys u.1 n.1)

all_ascend : (done xs : List Holding) → Ascend done → AllUpTo done xs → NeverFall xs → Ascend (with_all done xs)
all_ascend done [] a u n = a
all_ascend done (x ∷ xs) a u n = all_ascend (with_next done x) xs (next_ascends x done a u.0) (all_up_to_next x done xs u.1 n.0) n.1

none_yet : (xs : List Holding) → AllUpTo [] xs
none_yet [] = tt
none_yet (x ∷ xs) = (tt, none_yet xs)

pub sums_ascend : (xs : List Holding) → NeverFall xs → Ascend (with_all [] xs)
sums_ascend xs n = all_ascend [] xs tt (none_yet xs) n

-- ---- they stay above 0

both_above : (a b : ℤ) → pos 0 <ℤ a → pos 0 <ℤ b → pos 0 <ℤ (a +ℤ b)
both_above a b h k = omega (arith, ints)

pub above_next : (x : Holding) (hs : List Holding) → pos 0 <ℤ x.amount → AllAbove hs → AllAbove (with_next hs x)
above_next x [] h a = (h, tt)
above_next x (g ∷ []) h a = by (is_same g x)
  where
    by : (s : Bool) → AllAbove (cond s (joined g x ∷ []) (g ∷ x ∷ []))
    by true = (both_above g.amount x.amount a.0 h, tt)
    by false = (a.0, (h, tt))
above_next x (g ∷ f ∷ hs) h a = (a.0, above_next x (f ∷ hs) h a.1)

above_all : (done xs : List Holding) → AllAbove done → AllAbove xs → AllAbove (with_all done xs)
above_all done [] a b = a
above_all done (x ∷ xs) a b = above_all (with_next done x) xs (above_next x done b.0 a) b.1

pub sums_above : (xs : List Holding) → AllAbove xs → AllAbove (with_all [] xs)
sums_above xs a = above_all [] xs tt a

-- ---- they come to the same

in_one : (b : Bool) (n m : ℤ) → cond b (n +ℤ m) (pos 0) +ℤ pos 0 ≡ (cond b n (pos 0) +ℤ pos 0) +ℤ (cond b m (pos 0) +ℤ pos 0)
in_one true n m = omega (arith, ints)
in_one false n m = omega (arith, ints)

in_two : (a b : ℤ) → a +ℤ (b +ℤ pos 0) ≡ (a +ℤ pos 0) +ℤ (b +ℤ pos 0)
in_two a b = omega (arith, ints)

none_before : (a : ℤ) → a ≡ pos 0 +ℤ a
none_before a = omega (arith, ints)

regroup : (a b c : ℤ) → a +ℤ (b +ℤ c) ≡ (a +ℤ b) +ℤ c
regroup a b c = omega (arith, ints)

module _ (asked : Holder → Token → Bool) where
  abbrev one : Holding → ℤ
  one x = come_to asked (x ∷ [])

  joined_same : (h x : Holding) → is_same h x ≡ true → come_to asked (joined h x ∷ []) ≡ one h +ℤ one x
  joined_same h x e =
      let p = same_parts h x ((Equal-is (holding_cmp h x)).0 e) in
      let b : asked h.holder h.token ≡ asked x.holder x.token = ap (λ (y : Holder). asked y h.token) p.0 ∙ ap (λ (t : Token). asked x.holder t) p.1 in
      in_one (asked h.holder h.token) h.amount x.amount ∙ ap (λ (c : Bool). one h +ℤ (cond c x.amount (pos 0) +ℤ pos 0)) b

  pub same_next : (x : Holding) (hs : List Holding) → come_to asked (with_next hs x) ≡ come_to asked hs +ℤ one x
  same_next x [] = none_before (one x)
  same_next x (h ∷ []) = by (is_same h x) refl
    where
      by : (s : Bool) → is_same h x ≡ s → come_to asked (cond s (joined h x ∷ []) (h ∷ x ∷ [])) ≡ one h +ℤ one x
      by true e = joined_same h x e
      by false e = in_two (share asked h) (share asked x)
  same_next x (h ∷ g ∷ hs) = ap (λ z. share asked h +ℤ z) (same_next x (g ∷ hs)) ∙ regroup (share asked h) (come_to asked (g ∷ hs)) (one x)

  step : (a b c d e : ℤ) → d ≡ a +ℤ (b +ℤ pos 0) → e ≡ d +ℤ c → e ≡ a +ℤ (b +ℤ c)
  step a b c d e p q = omega (arith, ints)

  end : (a : ℤ) → a ≡ a +ℤ pos 0
  end a = omega (arith, ints)

  same_all : (done xs : List Holding) → come_to asked (with_all done xs) ≡ come_to asked done +ℤ come_to asked xs
  same_all done [] = end (come_to asked done)
  same_all done (x ∷ xs) =
      step (come_to asked done) (share asked x) (come_to asked xs) (come_to asked (with_next done x)) (come_to asked (with_all (with_next done x) xs)) (same_next x done) (same_all (with_next done x) xs)

  pub sums_same : (xs : List Holding) → come_to asked (with_all [] xs) ≡ come_to asked xs
  sums_same xs = same_all [] xs ∙ sym (none_before (come_to asked xs))

-- ---- there is room

itself : (t : Token) → same_token t t ≡ true
itself t = ap is_eq (tied_itself token_total t)

within : (a b c x m : ℤ) → a ≡ b +ℤ c → pos 0 ≤ℤ c → (a +ℤ x) ≤ℤ m → (b +ℤ x) ≤ℤ m
within a b c x m e h k = omega (arith, ints)

other_way : (b c : ℤ) → b +ℤ c ≡ c +ℤ b
other_way b c = omega (arith, ints)

room_left : (x : Holding) (hs : List Holding) → AllAbove hs → (come_to (of_token x.token) hs +ℤ x.amount) ≤ℤ most → HasRoom x hs
room_left x [] a l = tt
room_left x (h ∷ hs) a l = (here, room_left x hs a.1 (within (come_to asked (h ∷ hs)) (come_to asked hs) (share asked h) x.amount most (other_way (share asked h) (come_to asked hs)) (share_natural asked h a.0) l))
  where
    asked : Holder → Token → Bool
    asked = of_token x.token

    here : is_same h x ≡ true → (h.amount +ℤ x.amount) ≤ℤ most
    here s =
        let t : h.token ≡ x.token = (same_parts h x ((Equal-is (holding_cmp h x)).0 s)).1 in
        let y : same_token x.token h.token ≡ true = ap (same_token x.token) t ∙ itself x.token in
        let z : share asked h ≡ h.amount = ap (λ (b : Bool). cond b h.amount (pos 0)) y in
        within (come_to asked (h ∷ hs)) h.amount (come_to asked hs) x.amount most (ap (λ n. n +ℤ come_to asked hs) z) (natural asked hs a.1) l

at_most : (a b c r m x : ℤ) → a +ℤ b ≡ r → r ≤ℤ m → b ≡ x +ℤ c → pos 0 ≤ℤ c → (a +ℤ x) ≤ℤ m
at_most a b c r m x e h k l = omega (arith, ints)

-- what was summed and what is left come to all
abbrev pub AreWhole : List Holding → List Holding → List Holding → Type 0
AreWhole all done rest = (asked : Holder → Token → Bool) → come_to asked done +ℤ come_to asked rest ≡ come_to asked all

pub has_room : (all done rest : List Holding) (x : Holding) → Fit all → AllAbove done → AllAbove (x ∷ rest) → AreWhole all done (x ∷ rest) → HasRoom x done
has_room all done rest x fit a b same =
    let asked = of_token x.token in
    let z : share asked x ≡ x.amount = ap (λ (c : Bool). cond c x.amount (pos 0)) (itself x.token) in
    room_left x done a
    (at_most (come_to asked done) (come_to asked (x ∷ rest)) (come_to asked rest) (come_to asked all) most x.amount (same asked) (fit x.token) (ap (λ n. n +ℤ come_to asked rest) z) (natural asked rest b.1))

-- ---- one step of the walk

next_whole : (a s c d r : ℤ) → d ≡ a +ℤ (s +ℤ pos 0) → a +ℤ (s +ℤ c) ≡ r → d +ℤ c ≡ r
next_whole a s c d r e h = omega (arith, ints)

pub whole_next : (all done rest : List Holding) (x : Holding) → AreWhole all done (x ∷ rest) → AreWhole all (with_next done x) rest
whole_next all done rest x same asked = next_whole (come_to asked done) (share asked x) (come_to asked rest) (come_to asked (with_next done x)) (come_to asked all) (same_next asked x done) (same asked)

pub whole_first : (all : List Holding) → AreWhole all [] all
whole_first all asked = sym (none_before (come_to asked all))

-- the item at a place of a list, and those behind it
pub here_on : {A : Type 0} (F : List Holding → A) (xs : List Holding) (i : ℕ) (x : Holding) → i < length xs → x ≡ get_or xs i x → F (drop i xs) ≡ F (x ∷ drop (i + 1) xs)
here_on F xs i x h e = at_drop_more F xs i x h ∙ ap (λ (y : Holding). F (y ∷ drop (i + 1) xs)) (sym e)

pub above_from : (xs : List Holding) (i : ℕ) → AllAbove xs → AllAbove (drop i xs)
above_from xs zero a = a
above_from [] (suc i) a = tt
above_from (x ∷ xs) (suc i) a = above_from xs i a.1
