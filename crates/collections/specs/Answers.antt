-- What a call answers that may be refused for memory, and one step after another.
use Rattle.std.specs.Prelude.{◌≡◌, ◌≢◌, Result, Ok, Err, MatchResult}

-- the next step, unless there was a fault
infixl 10 ◌>>=◌
abbrev pub ◌>>=◌ : {A B F : Type 0} → Result A F → (A → Result B F) → Result B F
(Ok x) >>= f = f x
(Err fault) >>= f = Err fault

-- One fault aside, which is want of memory, a call's result is this answer: a value is one of which `see` sees what the answer has, and
-- any other fault is the answer's.
abbrev pub AsideBy : {X Y F : Type 0} → F → (X → Y) → Result X F → Result Y F → Type 0
AsideBy memory see result answer = MatchResult result (λ x. answer ≡ Ok (see x)) (λ fault. fault ≢ memory → answer ≡ Err fault)

-- the same of the value as it is
abbrev pub Aside : {X F : Type 0} → F → Result X F → Result X F → Type 0
Aside memory result answer = AsideBy memory (λ x. x) result answer
