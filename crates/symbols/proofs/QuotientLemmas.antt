-- What a division leaves, and what is known of quotients.
use Rattle.std.proofs.Common.{◌≡◌, ℕ, zero, suc, ◌+◌, ◌*◌, ◌/◌, ◌<◌, ◌≤◌, ℤ, pos, negsuc, ◌+ℤ◌, ◌-ℤ◌, ◌*ℤ◌, neg_ℤ, ◌≤ℤ◌, ◌<ℤ◌, refl, sym, ap, ◌∙◌, subst, arith, true, [], Some}
use Rattle.std.proofs.lemmas.Int.{ints}
use Rattle.std.proofs.Math.Nat.{div-one, mul-div-le, lt-mul-div-succ}
use Rattle.evaluation.specs.Evaluation.{quotient}
use Rattle.linear.specs.Linear.{Linear, number_at, number, IsBelow}
use Rattle.linear.specs.Combined.{StandsFor, AreBelow, combined_at}
use Rattle.linear.specs.Bounded.{IsShown, IsUpToAll}
use Rattle.symbols.specs.Symbols.{Symbols, Gives}
use Rattle.symbols.specs.Held.{Learns}
use Rattle.symbols.specs.Results.{GivesResult, GivesMultiple}
use Rattle.symbols.specs.Quotients.{GivesQuotient, left_over, LearnsRest, LearnsQuotient, LearnsDown, IsRoom, IsRoomAbove}
use Rattle.linear.proofs.LinearLaws.{plus_none, product_neg, same_number, no_terms}
use Rattle.linear.proofs.DivisionLaws.{quotient_down, twice_opposite, sign_moves_out}
use Rattle.symbols.proofs.KnownLaws.{knows_itself, knows_then, gives_here, gives_then, terms_more}

-- ---- what is left

above_zero_suc : (n : ℕ) → 0 < suc n
above_zero_suc n = omega arith

-- what is left of a by c, after d is taken away
pub record LeavesOver (a d : ℤ) (n : ℕ) : Type 0 where
  pub low : pos 0 ≤ℤ ((a +ℤ (neg_ℤ (pos 1) *ℤ d)) +ℤ ((pos (suc n) -ℤ pos 1) +ℤ pos 0))
  pub natural : pos 0 ≤ℤ a → pos 0 ≤ℤ ((a +ℤ (neg_ℤ (pos 1) *ℤ d)) +ℤ (pos 0 +ℤ pos 0))
  pub high : pos 0 ≤ℤ ((neg_ℤ (pos 1) *ℤ (a +ℤ (neg_ℤ (pos 1) *ℤ d))) +ℤ ((pos (suc n) -ℤ pos 1) +ℤ pos 0))
  pub opposite : pos 0 ≤ℤ (neg_ℤ (pos 1) *ℤ a) → pos 0 ≤ℤ ((neg_ℤ (pos 1) *ℤ (a +ℤ (neg_ℤ (pos 1) *ℤ d))) +ℤ (pos 0 +ℤ pos 0))

leaves_natural : (a p n : ℕ) → p ≤ a → a < p + suc n → LeavesOver (pos a) (pos p) n
leaves_natural a p n h k = record { low = omega (arith, ints); natural = λ _. omega (arith, ints); high = omega (arith, ints); opposite = λ g. omega (arith, ints) }

leaves_opposite : (a p n : ℕ) → p ≤ suc a → suc a < p + suc n → LeavesOver (negsuc a) (neg_ℤ (pos p)) n
leaves_opposite a p n h k = record { low = omega (arith, ints); natural = λ g. absurd (no_natural a g); high = omega (arith, ints); opposite = λ g. omega (arith, ints) }
  where
    no_natural : (a : ℕ) → pos 0 ≤ℤ negsuc a → ⊥
    no_natural a g = omega (arith, ints)

times_opposite : (n m : ℕ) → pos (suc n) *ℤ neg_ℤ (pos m) ≡ neg_ℤ (pos (suc n * m))
times_opposite n zero = omega (arith, ints)
times_opposite n (suc m) = refl

below_next : (a k q : ℕ) → a < k * (q + 1) → a < k * q + k
below_next a k q h = omega arith

pub leaves_over : (a : ℤ) (n : ℕ) → LeavesOver a (pos (suc n) *ℤ quotient a (pos (suc n))) n
unfolding quotient
leaves_over (pos a) n = leaves_natural a (suc n * (a / suc n)) n (mul-div-le a (suc n)) (below_next a (suc n) (a / suc n) (lt-mul-div-succ a (above_zero_suc n)))
leaves_over (negsuc a) n =
    subst (λ d. LeavesOver (negsuc a) d n) (sym (times_opposite n (suc a / suc n)))
    (leaves_opposite a (suc n * (suc a / suc n)) n (mul-div-le (suc a) (suc n)) (below_next (suc a) (suc n) (suc a / suc n) (lt-mul-div-succ (suc a) (above_zero_suc n))))

pub above_is_suc : (c : ℤ) → pos 0 <ℤ c → (n : ℕ) × (c ≡ pos (suc n))
above_is_suc (pos zero) h = absurd (omega (arith, ints))
above_is_suc (pos (suc n)) h = (n, refl)
above_is_suc (negsuc n) h = absurd (omega (arith, ints))

pub quotient_none : (a c : ℤ) → c ≡ pos 0 → quotient a c ≡ pos 0
unfolding quotient
quotient_none a c e = ap (quotient a) e

quotient_whole : (a : ℤ) → quotient a (pos 1) ≡ a
unfolding quotient
quotient_whole (pos n) = ap pos (div-one n)
quotient_whole (negsuc n) = ap (λ m. neg_ℤ (pos m)) (div-one (suc n))

pub quotient_one : (a c : ℤ) → c ≡ pos 1 → quotient a c ≡ a
quotient_one a c e = ap (quotient a) e ∙ quotient_whole a

-- ---- what is learned of it

drop_none : (x y : ℤ) → pos 0 ≤ℤ (x +ℤ (y +ℤ pos 0)) → pos 0 ≤ℤ (x +ℤ y)
drop_none x y h = omega (arith, ints)

pub room_full : (k : Symbols) (l : Linear) (c room : ℤ) → pos 0 <ℤ c → room ≡ c -ℤ pos 1 → IsRoom k l c room
room_full k l c room h e r v =
    let s = above_is_suc c h in
    subst (λ z. pos 0 ≤ℤ (left_over c (number_at r l) +ℤ z)) (sym e)
    (subst (λ z. pos 0 ≤ℤ (left_over z (number_at r l) +ℤ (z -ℤ pos 1))) (sym s.1) (drop_none (left_over (pos (suc s.0)) (number_at r l)) (pos (suc s.0) -ℤ pos 1)
    (leaves_over (number_at r l) s.0).low))

pub room_none : (k : Symbols) (l : Linear) (c room : ℤ) → pos 0 <ℤ c → IsShown k.ranges k.facts l → room ≡ pos 0 → IsRoom k l c room
room_none k l c room h n e r v =
    let s = above_is_suc c h in
    subst (λ z. pos 0 ≤ℤ (left_over c (number_at r l) +ℤ z)) (sym e)
    (subst (λ z. pos 0 ≤ℤ (left_over z (number_at r l) +ℤ pos 0)) (sym s.1) (drop_none (left_over (pos (suc s.0)) (number_at r l)) (pos 0)
    ((leaves_over (number_at r l) s.0).natural (n r v.ranges v.facts))))

pub room_above_full : (k : Symbols) (l : Linear) (c room : ℤ) → pos 0 <ℤ c → room ≡ c -ℤ pos 1 → IsRoomAbove k l c room
room_above_full k l c room h e r v =
    let s = above_is_suc c h in
    subst (λ z. pos 0 ≤ℤ ((neg_ℤ (pos 1) *ℤ left_over c (number_at r l)) +ℤ z)) (sym e)
    (subst (λ z. pos 0 ≤ℤ ((neg_ℤ (pos 1) *ℤ left_over z (number_at r l)) +ℤ (z -ℤ pos 1))) (sym s.1)
    (drop_none (neg_ℤ (pos 1) *ℤ left_over (pos (suc s.0)) (number_at r l)) (pos (suc s.0) -ℤ pos 1) (leaves_over (number_at r l) s.0).high))

turned : (a b : ℤ) → a ≤ℤ b → b ≤ℤ pos 0 → pos 0 ≤ℤ (neg_ℤ (pos 1) *ℤ a)
turned a b h k = omega (arith, ints)

pub room_above_none : (k : Symbols) (l : Linear) (c b room : ℤ) → pos 0 <ℤ c → IsUpToAll k.ranges k.facts (λ r. number_at r l) (Some b) → b ≤ℤ pos 0 → room ≡ pos 0 → IsRoomAbove k l c room
room_above_none k l c b room h u n e r v =
    let s = above_is_suc c h in
    subst (λ z. pos 0 ≤ℤ ((neg_ℤ (pos 1) *ℤ left_over c (number_at r l)) +ℤ z)) (sym e)
    (subst (λ z. pos 0 ≤ℤ ((neg_ℤ (pos 1) *ℤ left_over z (number_at r l)) +ℤ pos 0)) (sym s.1)
    (drop_none (neg_ℤ (pos 1) *ℤ left_over (pos (suc s.0)) (number_at r l)) (pos 0) ((leaves_over (number_at r l) s.0).opposite (turned (number_at r l) b (u r v.ranges v.facts) n))))

pub learns_low : (k m : Symbols) (l rest fact : Linear) (c room : ℤ) → IsRoom k l c room → StandsFor (λ r. number_at r rest +ℤ room) (λ n. IsBelow n rest) fact → Learns k m fact
    → LearnsRest k m l rest c
learns_low k m l rest fact c room i s h r cl v x y e =
    h r cl v (s.below k.next y) (subst (λ z. pos 0 ≤ℤ z) (sym (s.number r)) (subst (λ z. pos 0 ≤ℤ (z +ℤ room)) (sym e) (i r v)))

turn : (x room : ℤ) → pos 0 ≤ℤ ((neg_ℤ (pos 1) *ℤ x) +ℤ room) → pos 0 ≤ℤ ((room +ℤ pos 0) -ℤ x)
turn x room h = omega (arith, ints)

pub learns_high : (k m : Symbols) (l rest bound fact : Linear) (c room : ℤ) → IsRoomAbove k l c room → bound ≡ number room
    → StandsFor (λ r. number_at r bound -ℤ number_at r rest) (AreBelow bound rest) fact → Learns k m fact → LearnsRest k m l rest c
learns_high k m l rest bound fact c room i q s h r cl v x y e =
    h r cl v (s.below k.next (subst (λ z. IsBelow k.next z) (sym q) tt, y))
    (subst (λ z. pos 0 ≤ℤ z) (sym (s.number r)) (subst (λ (z : Linear). pos 0 ≤ℤ (number_at r z -ℤ number_at r rest)) (sym q)
    (turn (number_at r rest) room (subst (λ z. pos 0 ≤ℤ ((neg_ℤ (pos 1) *ℤ z) +ℤ room)) (sym e) (i r v)))))

pub rest_none : (k : Symbols) (l rest : Linear) (c : ℤ) → LearnsRest k k l rest c
rest_none k l rest c r cl v x y e = knows_itself k r cl v

pub rest_then : (k m n : Symbols) (l rest : Linear) (c : ℤ) → LearnsRest k m l rest c → LearnsRest m n l rest c → LearnsRest k n l rest c
rest_then k m n l rest c h i r cl v x y e =
    let g = h r cl v x y e in
    knows_then k r m n g (i r g.closed g.valued (subst (λ p. IsBelow p l) (sym g.next) x) (subst (λ p. IsBelow p rest) (sym g.next) y) e)

pub quotient_unlearned : (k : Symbols) (l e : Linear) (c : ℤ) → LearnsQuotient k k l e c
quotient_unlearned k l e c r cl v x y q = knows_itself k r cl v

left_is : (l c q : ℤ) → (pos 1 *ℤ l) +ℤ (neg_ℤ c *ℤ q) ≡ l +ℤ (neg_ℤ (pos 1) *ℤ (c *ℤ q))
left_is l c q = ap (λ z. (pos 1 *ℤ l) +ℤ z) (product_neg c q) ∙ ends l (c *ℤ q)
  where
    ends : (l x : ℤ) → (pos 1 *ℤ l) +ℤ neg_ℤ x ≡ l +ℤ (neg_ℤ (pos 1) *ℤ x)
    ends l x = omega (arith, ints)

pub quotient_learned : (k m : Symbols) (l e rest : Linear) (c : ℤ) → StandsFor (combined_at (pos 1) l (neg_ℤ c) e) (AreBelow l e) rest → LearnsRest k m l rest c → LearnsQuotient k m l e c
quotient_learned k m l e rest c s h r cl v x y q =
    h r cl v x (s.below k.next (x, y)) (s.number r ∙ ap (λ z. (pos 1 *ℤ number_at r l) +ℤ (neg_ℤ c *ℤ z)) q ∙ left_is (number_at r l) c (quotient (number_at r l) c))

-- ---- quotients by a number

pub by_zero : (k : Symbols) (l : Linear) (c : ℤ) → c ≡ pos 0 → GivesQuotient c k k l (number (pos 0))
by_zero k l c e r cl v b = gives_here k r (number (pos 0)) (quotient (number_at r l) c) cl v tt (quotient_none (number_at r l) c e ∙ sym (plus_none (pos 0)))

pub by_one : (k : Symbols) (l x : Linear) (c : ℤ) → c ≡ pos 1 → x ≡ l → GivesQuotient c k k l x
by_one k l x c e q r cl v b = subst (λ z. Gives k r (k, z) (quotient (number_at r l) c)) (sym q) (gives_here k r l (quotient (number_at r l) c) cl v b (quotient_one (number_at r l) c e))

pub by_learned : (k m n : Symbols) (l d e : Linear) (c : ℤ) → d ≡ number c → GivesResult true k m l d e → LearnsQuotient m n l e c → GivesQuotient c k n l e
by_learned k m n l d e c q h i r cl v b =
    let f = h r cl v b (subst (λ z. IsBelow k.next z) (sym q) tt) in
    let p : number_at r d ≡ c = ap (number_at r) q ∙ plus_none c in
    let x = same_number k.next f.values r f.agrees l b in
    let y : number_at f.values e ≡ quotient (number_at f.values l) c = sym f.number ∙ ap (λ z. quotient (number_at r l) z) p ∙ ap (λ z. quotient z c) (sym x) in
    let j = i f.values f.closed f.valued (terms_more k.next m.next f.grows l.terms b) f.below y in
    record {
      closed = j.closed;
      below = subst (λ z. IsBelow z e) (sym j.next) f.below;
      grows = subst (λ z. k.next ≤ z) (sym j.next) f.grows;
      values = f.values;
      agrees = f.agrees;
      valued = j.valued;
      number = ap (λ z. quotient (number_at r l) z) (sym p) ∙ f.number;
    }

pub by_number : (k n : Symbols) (l d e : Linear) (c : ℤ) → c ≡ d.constant → d.terms ≡ [] → GivesQuotient c k n l e → GivesResult true k n l d e
by_number k n l d e c q z h r cl v x y = subst (λ w. Gives k r (n, e) (quotient (number_at r l) w)) (q ∙ sym (no_terms r d z)) (h r cl v x)

pub by_numbers : (l e : Linear) (a c q : ℤ) → l.terms ≡ [] → a ≡ l.constant → q ≡ quotient a c → e ≡ number q → (k : Symbols) → GivesQuotient c k k l e
by_numbers l e a c q t f g h k r cl v b =
    subst (λ z. Gives k r (k, z) (quotient (number_at r l) c)) (sym h)
    (gives_here k r (number q) (quotient (number_at r l) c) cl v tt (ap (λ z. quotient z c) (no_terms r l t ∙ sym f) ∙ sym g ∙ sym (plus_none q)))

neg_is : (a : ℤ) → neg_ℤ a ≡ neg_ℤ (pos 1) *ℤ a
neg_is a = omega (arith, ints)

pub by_turned : (k m n : Symbols) (l e f : Linear) (c : ℤ) → GivesQuotient c k m l e → GivesMultiple (negsuc 0) m n e f → GivesQuotient (neg_ℤ c) k n l f
by_turned k m n l e f c h i r cl v b =
    let g = h r cl v b in
    let q = quotient (number_at r l) c in
    let x : negsuc 0 *ℤ number_at g.values e ≡ quotient (number_at r l) (neg_ℤ c) = ap (λ z. negsuc 0 *ℤ z) (sym g.number) ∙ sym (neg_is q) ∙ sym (sign_moves_out (number_at r l) c) in
    gives_then k r (m, e) (n, f) q (quotient (number_at r l) (neg_ℤ c)) g (subst (λ z. Gives m g.values (n, f) z) x (i g.values g.closed g.valued g.below))

pub by_opposite : (k n : Symbols) (l e : Linear) (c o : ℤ) → o ≡ neg_ℤ c → GivesQuotient (neg_ℤ o) k n l e → GivesQuotient c k n l e
by_opposite k n l e c o q h = subst (λ z. GivesQuotient z k n l e) (ap neg_ℤ q ∙ twice_opposite c) h

-- ---- quotients of naturals

pub down_none : (k : Symbols) (l d e : Linear) → LearnsDown k k l d e
down_none k l d e r cl v x y q = knows_itself k r cl v

no_more : (a b : ℤ) → b ≤ℤ a → pos 0 ≤ℤ (a -ℤ b)
no_more a b h = omega (arith, ints)

pub down_learned : (k m : Symbols) (l d e fact : Linear) → IsShown k.ranges k.facts l → IsShown k.ranges k.facts d → StandsFor (λ r. number_at r l -ℤ number_at r e) (AreBelow l e) fact → Learns k m fact
    → LearnsDown k m l d e
down_learned k m l d e fact f g s h r cl v x y q =
    let p = quotient_down (number_at r l) (number_at r d) (f r v.ranges v.facts) (g r v.ranges v.facts) in
    h r cl v (s.below k.next (x, y)) (subst (λ z. pos 0 ≤ℤ z) (sym (s.number r)) (no_more (number_at r l) (number_at r e) (subst (λ z. z ≤ℤ number_at r l) (sym q) p.1)))

pub over_learned : (k m n : Symbols) (l d e : Linear) → GivesResult true k m l d e → LearnsDown m n l d e → GivesResult true k n l d e
over_learned k m n l d e h i r cl v b p =
    let f = h r cl v b p in
    let x = same_number k.next f.values r f.agrees l b in
    let w = same_number k.next f.values r f.agrees d p in
    let y : number_at f.values e ≡ quotient (number_at f.values l) (number_at f.values d) =
    sym f.number ∙ ap (λ z. quotient z (number_at r d)) (sym x) ∙ ap (λ z. quotient (number_at f.values l) z) (sym w) in
    let j = i f.values f.closed f.valued (terms_more k.next m.next f.grows l.terms b) f.below y in
    record {
      closed = j.closed;
      below = subst (λ z. IsBelow z e) (sym j.next) f.below;
      grows = subst (λ z. k.next ≤ z) (sym j.next) f.grows;
      values = f.values;
      agrees = f.agrees;
      valued = j.valued;
      number = f.number;
    }
