-- Alarms that get their heads, one after another.
use Rattle.std.proofs.Common.{◌≡◌, ℕ, zero, suc, ◌+◌, ◌<◌, ◌≤◌, Option, List, [], ◌∷◌, ◌++◌, map, length, take, refl, sym, ap, ◌∙◌, subst, arith}
use Rattle.std.specs.Prelude.{All}
use Rattle.std.proofs.Math.ListN.{get_or, set}
use Rattle.std.proofs.lemmas.List.{map-set, take_all, get_or-map, get_or_default}
use Rattle.std.proofs.lemmas.List.Elements.{All-set, All-get_or}
use Rattle.std.proofs.lemmas.List.{take_more, map-append}
use Rattle.std.proofs.lemmas.List.FromFn.{length-map-range_with_len}
use Rattle.contract.specs.Tree.{ContractTree}
use Rattle.alike_alarms.specs.declared.seen.Seen.{Seen}
use Rattle.alike_alarms.specs.Alike.{SeenAlarm, AreHeads, head_at}
use Rattle.alike_alarms.specs.AlikeSupport.{seen_of}
use Rattle.analysis_lines.specs.declared.told.ToldAlarm.{ToldAlarm}
use Rattle.analysis_lines.specs.ToldLines.{Line, line_of, with_heads, LineFits}
use Rattle.marlowe_analyse.specs.OnceSupport.{seen_told}

-- the heads of those before an index
pub record HeadsUpTo (old : List ToldAlarm) (heads : List (Option ℕ)) (i : ℕ) (now : List ToldAlarm) : Type 0 where
  pub many : length now ≡ length old
  pub lines : map line_of now ≡ with_heads (map line_of old) (take i heads)
  pub fit : All LineFits now

no_heads : (ls : List Line) → with_heads ls [] ≡ ls
no_heads [] = refl
no_heads (l ∷ ls) = refl

line_more : (ls : List Line) (hs : List (Option ℕ)) (i : ℕ) (d : Line) (h : Option ℕ) → i < length ls → i < length hs → h ≡ get_or hs i h
    → set (with_heads ls (take i hs)) i (record (get_or (with_heads ls (take i hs)) i d) { head = h }) ≡ with_heads ls (take (suc i) hs)
line_more [] hs i d h l k is = absurd (omega (arith, l))
line_more (x ∷ ls) [] i d h l k is = absurd (omega (arith, k))
line_more (x ∷ ls) (y ∷ hs) zero d h l k is = ap (λ (o : Option ℕ). let m : Line = record x { head = o } in m ∷ ls) is ∙ ap (λ (zs : List Line). let m : Line = record x { head = y } in m ∷ zs) (sym (no_heads ls))
line_more (x ∷ ls) (y ∷ hs) (suc i) d h l k is = ap (λ (zs : List Line). let m : Line = record x { head = y } in m ∷ zs) (line_more ls hs i d h (omega (arith, l)) (omega (arith, k)) is)

pub heads_none : (old : List ToldAlarm) (heads : List (Option ℕ)) → All LineFits old → HeadsUpTo old heads 0 old
heads_none old heads fit = record { many = refl; lines = sym (no_heads (map line_of old)); fit = fit }

length-lines : (ts : List ToldAlarm) → length (map line_of ts) ≡ length ts
length-lines [] = refl
length-lines (t ∷ ts) = ap suc (length-lines ts)

pub heads_more : (old : List ToldAlarm) (heads : List (Option ℕ)) (i : ℕ) (now : List ToldAlarm) (t x : ToldAlarm) (h : Option ℕ) → i < length now → i < length heads → h ≡ get_or heads i h → t ≡ get_or now i t → x ≡ record t { head = h }
    → HeadsUpTo old heads i now → HeadsUpTo old heads (i + 1) (set now i x)
heads_more old heads i now t x h l k is there same so = record {
  many = length-set now i x ∙ so.many;
  lines = map-set line_of now i x ∙ ap (λ (m : Line). set (map line_of now) i m) new ∙ ap (λ (ls : List Line). set ls i (record (get_or ls i (line_of t)) { head = h })) so.lines
      ∙ line_more (map line_of old) heads i (line_of t) h (omega (arith, l, so.many, length-lines old)) k is ∙ ap (λ (n : ℕ). with_heads (map line_of old) (take n heads)) next;
  fit = All-set LineFits now i x (subst LineFits (sym same) (subst LineFits (sym there) (All-get_or LineFits now i t l so.fit))) so.fit;
}
  where
    length-set : (ts : List ToldAlarm) (j : ℕ) (y : ToldAlarm) → length (set ts j y) ≡ length ts
    length-set [] j y = refl
    length-set (z ∷ ts) zero y = refl
    length-set (z ∷ ts) (suc j) y = ap suc (length-set ts j y)

    next : suc i ≡ i + 1
    next = omega arith

    old_line : line_of t ≡ get_or (map line_of now) i (line_of t)
    old_line = ap line_of there ∙ sym (get_or-map line_of now i t (line_of t) l)

    new : line_of x ≡ record (get_or (map line_of now) i (line_of t)) { head = h }
    new = ap line_of same ∙ ap (λ (m : Line). let n : Line = record m { head = h } in n) old_line

pub heads_all : (old : List ToldAlarm) (heads : List (Option ℕ)) (i : ℕ) (now : List ToldAlarm) → length heads ≤ i → HeadsUpTo old heads i now → map line_of now ≡ with_heads (map line_of old) heads
heads_all old heads i now l so = so.lines ∙ ap (with_heads (map line_of old)) (take_all i heads l)

-- there are as many heads as alarms
as_many : (c : ContractTree) (all : List SeenAlarm) (found : List (Option ℕ)) → AreHeads c all found → length found ≡ length all
as_many c all found h = ap length h.2 ∙ length-map-range_with_len (head_at h.0) 0 (length h.0) ∙ h.1.0

pub as_many_told : (c : ContractTree) (told : List ToldAlarm) (found : List (Option ℕ)) → AreHeads c (map seen_told told) found → length found ≡ length told
as_many_told c told found h = as_many c (map seen_told told) found h ∙ length-told told
  where
    length-told : (ts : List ToldAlarm) → length (map seen_told ts) ≡ length ts
    length-told [] = refl
    length-told (t ∷ ts) = ap suc (length-told ts)

-- one more is seen
pub seen_more : (told : List ToldAlarm) (i : ℕ) (t : ToldAlarm) (s : Seen) (before after : List Seen) → i < length told → t ≡ get_or told i t → after ≡ before ++ s ∷ [] → seen_of s ≡ seen_told t
    → map seen_of before ≡ map seen_told (take i told) → map seen_of after ≡ map seen_told (take (i + 1) told)
seen_more told i t s before after l is more same so =
    ap (map seen_of) more ∙ map-append seen_of before (s ∷ []) ∙ ap (λ (zs : List SeenAlarm). zs ++ seen_of s ∷ []) so ∙ ap (λ (z : SeenAlarm). map seen_told (take i told) ++ z ∷ []) same
    ∙ sym (map-append seen_told (take i told) (t ∷ [])) ∙ ap (map seen_told) (sym (take_more told i t l ∙ ap (λ (x : ToldAlarm). take i told ++ x ∷ []) (sym is)))
