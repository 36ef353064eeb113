-- What is gained, one piece after another.
use Rattle.std.proofs.Common.{◌≡◌, ℕ, zero, suc, ◌≤◌, ◌∙◌, List, [], ◌∷◌, ◌++◌, length, map, take, min, refl, sym, ap, subst, arith, append_assoc, append-nil}
use Rattle.std.proofs.lemmas.List.{length-map, length-take, take_all}
use Rattle.unread_keys.specs.declared.walk.Found.{Found}
use Rattle.unread_keys.specs.Unread.{Note, note_of}
use Rattle.unread_keys.specs.UnreadSupport.{Gains, Goes}

cut_twice : {X : Type 0} (n : ℕ) (xs ys : List X) → take n (take n xs ++ ys) ≡ take n (xs ++ ys)
cut_twice zero xs ys = refl
cut_twice (suc n) [] ys = refl
cut_twice (suc n) (x ∷ xs) ys = ap (λ zs. x ∷ zs) (cut_twice n xs ys)

pub gains_none : (f : Found) → Gains f f []
gains_none f = record {
  same_most = refl;
  same_path = refl;
  gained = λ small. sym (ap (take f.most) (append-nil (map note_of f.keys.items)) ∙ take_all f.most (map note_of f.keys.items) (let e : length (map note_of f.keys.items) ≡ length f.keys.items = length-map f.keys.items note_of in omega (arith, e, small)));
}

still_small : (a b : Found) (more : List Note) → Gains a b more → length a.keys.items ≤ a.most → length b.keys.items ≤ b.most
still_small a b more g small =
    let e : length (map note_of b.keys.items) ≡ length b.keys.items = length-map b.keys.items note_of in
    let t : length (map note_of b.keys.items) ≡ length (take a.most (map note_of a.keys.items ++ more)) = ap length (g.gained small) in
    let m : length (take a.most (map note_of a.keys.items ++ more)) ≡ min a.most (length (map note_of a.keys.items ++ more)) = length-take a.most (map note_of a.keys.items ++ more) in
    let s : b.most ≡ a.most = g.same_most in
    omega (arith, e, t, m, s)

pub gains_then : (a b c : Found) (one two : List Note) → Gains a b one → Gains b c two → Gains a c (one ++ two)
gains_then a b c one two g h = record {
  same_most = h.same_most ∙ g.same_most;
  same_path = h.same_path ∙ g.same_path;
  gained = λ small.
      h.gained (still_small a b one g small)
      ∙ ap (λ n. take n (map note_of b.keys.items ++ two)) g.same_most
      ∙ ap (λ ns. take a.most (ns ++ two)) (g.gained small)
      ∙ cut_twice a.most (map note_of a.keys.items ++ one) two
      ∙ ap (take a.most) (append_assoc (map note_of a.keys.items) one two);
}

pub goes_from : (f : Found) (all : List Note) → Goes f f all all
goes_from f all = record { path = refl; on = λ end g. g }

pub goes_past : (start now next : Found) (one rest all : List Note) → Goes start now (one ++ rest) all → Gains now next one → Goes start next rest all
goes_past start now next one rest all s g = record {
  path = g.same_path ∙ s.path;
  on = λ end h. s.on end (gains_then now next end one rest g h);
}

pub goes_to : (start now : Found) (rest all : List Note) → rest ≡ [] → Goes start now rest all → Gains start now all
goes_to start now rest all over s = s.on now (subst (λ ns. Gains now now ns) (sym over) (gains_none now))

-- one level further in
pub gains_inside : (a b c d : Found) (more : List Note) → b.most ≡ a.most → b.keys ≡ a.keys → Gains b c more → d.most ≡ c.most → d.keys ≡ c.keys → d.path.items ≡ a.path.items → Gains a d more
gains_inside a b c d more most keys g most_after keys_after path = record {
  same_most = most_after ∙ g.same_most ∙ most;
  same_path = path;
  gained = λ small.
      ap (λ ks. map note_of ks.items) keys_after
      ∙ g.gained (let e : length b.keys.items ≡ length a.keys.items = ap (λ ks. length ks.items) keys in omega (arith, e, most, small))
      ∙ ap (λ n. take n (map note_of b.keys.items ++ more)) most
      ∙ ap (λ ks. take a.most (map note_of ks.items ++ more)) keys;
}
