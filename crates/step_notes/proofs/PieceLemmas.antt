-- Pieces of texts, one behind the other.
use Rattle.std.proofs.Common.{◌≡◌, ◌∙◌, ℕ, List, ◌++◌, ap, append_assoc, Result, Ok, Err, is_ok, OnOk, if◌then◌else◌}

-- ---- pieces in place of others

pub two_pieces : (h m e p q a b text : List ℕ) → text ≡ h ++ (p ++ (m ++ (a ++ e))) → p ≡ q → a ≡ b → text ≡ h ++ (q ++ (m ++ (b ++ e)))
two_pieces h m e p q a b text is first second =
    is ∙ ap (λ (t : List ℕ). h ++ (t ++ (m ++ (a ++ e)))) first ∙ ap (λ (t : List ℕ). h ++ (q ++ (m ++ (t ++ e)))) second

pub four_pieces : (h k l m e p p1 q q1 r r1 s s1 text : List ℕ) → text ≡ h ++ (p ++ (k ++ (q ++ (l ++ (r ++ (m ++ (s ++ e))))))) → p ≡ p1 → q ≡ q1 → r ≡ r1 → s ≡ s1 →
    text ≡ h ++ (p1 ++ (k ++ (q1 ++ (l ++ (r1 ++ (m ++ (s1 ++ e)))))))
four_pieces h k l m e p p1 q q1 r r1 s s1 text is a b c d =
    is
    ∙ ap (λ (t : List ℕ). h ++ (t ++ (k ++ (q ++ (l ++ (r ++ (m ++ (s ++ e)))))))) a
    ∙ ap (λ (t : List ℕ). h ++ (p1 ++ (k ++ (t ++ (l ++ (r ++ (m ++ (s ++ e)))))))) b
    ∙ ap (λ (t : List ℕ). h ++ (p1 ++ (k ++ (q1 ++ (l ++ (t ++ (m ++ (s ++ e)))))))) c
    ∙ ap (λ (t : List ℕ). h ++ (p1 ++ (k ++ (q1 ++ (l ++ (r1 ++ (m ++ (t ++ e)))))))) d

-- ---- pieces put one after the other

-- a push says what it leaves in either case
pub pushed : {E : Type 0} (r : Result (Unit {0}) E) (old new text : List ℕ) → new ≡ (if is_ok r then old ++ text else old) → OnOk r (new ≡ old ++ text)
pushed (Ok done) old new text h = h
pushed (Err fault) old new text h = tt

pub put_two : (old p q a new : List ℕ) → a ≡ old ++ p → new ≡ a ++ q → new ≡ old ++ (p ++ q)
put_two old p q a new first second = second ∙ ap (λ (t : List ℕ). t ++ q) first ∙ append_assoc old p q

pub put_three : (old p q r a b new : List ℕ) → a ≡ old ++ p → b ≡ a ++ q → new ≡ b ++ r → new ≡ old ++ (p ++ (q ++ r))
put_three old p q r a b new first second third = put_two old p (q ++ r) a new first (put_two a q r b new second third)

pub put_five : (old p q r s t a b c d new : List ℕ) → a ≡ old ++ p → b ≡ a ++ q → c ≡ b ++ r → d ≡ c ++ s → new ≡ d ++ t → new ≡ old ++ (p ++ (q ++ (r ++ (s ++ t))))
put_five old p q r s t a b c d new i j k l m = put_three old p q (r ++ (s ++ t)) a b new i j (put_three b r s t c d new k l m)
