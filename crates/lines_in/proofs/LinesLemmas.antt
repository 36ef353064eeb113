-- Lines from their parts.
use Rattle.std.proofs.Common.{◌≡◌, ℕ, suc, ◌+◌, ◌-◌, ◌<◌, ◌≤◌, List, [], ◌∷◌, ◌++◌, length, take, drop, Bool, true, false, Option, Some, None, refl, sym, ap, ◌∙◌, subst, arith, append_assoc, append-nil, length-append}
use Rattle.std.specs.Prelude.{◌==◌, ◌||◌, not, nat_lt, option_map, if◌then◌else◌}
use Rattle.std.proofs.lemmas.Bool.Decides.{nat_tests}
use Rattle.std.proofs.lemmas.List.{drop-drop, drop-take, length-take}
use Rattle.lines_in.specs.Lines.{Line, too_long, longest_line, is_empty, one_line, lines}
use Rattle.lines_in.specs.LinesSupport.{first_feed}

-- ---- a line that is too long

either : (b : Bool) (x : Line) (xs : List Line) (y z : List Line) → y ≡ z → (if b then x ∷ xs else y) ≡ (if b then x ∷ xs else z)
either true x xs y z h = refl
either false x xs y z h = h

both : (b : Bool) (x y : Line) (xs us vs : List Line) → x ≡ y → us ≡ vs → (if b then x ∷ xs else us) ≡ (if b then y ∷ xs else vs)
both true x y xs us vs h k = ap (λ l. l ∷ xs) h
both false x y xs us vs h k = k

known : (l m bs : List ℕ) → lines true l bs ≡ lines true m bs
known l m [] = refl
known l m (b ∷ bs) = either (b == 10) too_long (lines false [] bs) (lines true (l ++ b ∷ []) bs) (lines true (m ++ b ∷ []) bs) (known (l ++ b ∷ []) (m ++ b ∷ []) bs)

over : (l : List ℕ) → longest_line < length l → one_line false l ≡ too_long
over l h = let test : nat_lt longest_line (length l) ≡ true = grind (arith, nat_tests) in rw test refl

found-end : (l : List ℕ) → longest_line < length l → lines false l [] ≡ too_long ∷ []
found-end [] h = absurd (omega arith)
found-end (x ∷ xs) h = ap (λ l. l ∷ []) (over (x ∷ xs) h)

found : (l m bs : List ℕ) → longest_line < length l → lines false l bs ≡ lines true m bs
found l m [] h = found-end l h
found l m (b ∷ bs) h =
    both (b == 10) (one_line false l) too_long (lines false [] bs) (lines false (l ++ b ∷ []) bs) (lines true (m ++ b ∷ []) bs)
    (over l h) (found (l ++ b ∷ []) (m ++ b ∷ []) bs (omega (arith, length-append l (b ∷ []))))

-- a line that is known to be too long, or becomes so, needn't be kept
pub dropped : (is_long : Bool) (line more rest : List ℕ) → (is_long ≡ false → longest_line - length line < length more)
    → lines true [] rest ≡ lines is_long (line ++ more) rest
dropped true line more rest h = known [] (line ++ more) rest
dropped false line more rest h =
    let many : longest_line - length line < length more = h refl in
    sym (found (line ++ more) [] rest (omega (arith, length-append line more)))

-- .. as it is dropped
pub dropped-now : (is_long : Bool) (line more now : List ℕ) → now ≡ [] → (is_long ≡ false → longest_line - length line < length more) → (rest : List ℕ)
    → lines true now rest ≡ lines is_long (line ++ more) rest
dropped-now is_long line more now none h rest = rw none (dropped is_long line more rest h)

-- ---- where it ends

abbrev first_or : Bool → Option ℕ → Option ℕ
first_or b rest = if b then Some 0 else option_map suc rest

through-step : (test : Bool) (later : Option ℕ) (here next whole : List Line) → first_or test later ≡ None → (later ≡ None → next ≡ whole) → (if test then here else next) ≡ whole
through-step true later here next whole none f = absurd (cc)
through-step false None here next whole none f = f refl
through-step false (Some k) here next whole none f = absurd (cc)

-- bytes without a line feed
pub through : (is_long : Bool) (line p rest : List ℕ) → first_feed p ≡ None → lines is_long line (p ++ rest) ≡ lines is_long (line ++ p) rest
through is_long line [] rest none = ap (λ l. lines is_long l rest) (sym (append-nil line))
through is_long line (b ∷ p) rest none =
    through-step (b == 10) (first_feed p) (one_line is_long line ∷ lines false [] (p ++ rest)) (lines is_long (line ++ b ∷ []) (p ++ rest)) (lines is_long (line ++ b ∷ p) rest) none
    (λ later. through is_long (line ++ b ∷ []) p rest later ∙ ap (λ l. lines is_long l rest) (append_assoc line (b ∷ []) p))

to-step : (test : Bool) (later : Option ℕ) (k : ℕ) (here next : List Line) (whole : ℕ → List Line) → first_or test later ≡ Some k → here ≡ whole 0
    → ((j : ℕ) → later ≡ Some j → next ≡ whole (suc j)) → (if test then here else next) ≡ whole k
to-step true later k here next whole is first f = let z : 0 ≡ k = cc in subst (λ j. here ≡ whole j) z first
to-step false None k here next whole is first f = absurd (cc)
to-step false (Some j) k here next whole is first f = let z : suc j ≡ k = cc in subst (λ n. next ≡ whole n) z (f j refl)

-- bytes up to one
pub to_feed : (is_long : Bool) (line p rest : List ℕ) (k : ℕ) → first_feed p ≡ Some k
    → lines is_long line (p ++ rest) ≡ lines is_long (line ++ take k p) (10 ∷ (drop (suc k) p ++ rest))
to_feed is_long line [] rest k is = absurd (cc)
to_feed is_long line (b ∷ p) rest k is =
    to-step (b == 10) (first_feed p) k (one_line is_long line ∷ lines false [] (p ++ rest)) (lines is_long (line ++ b ∷ []) (p ++ rest))
    (λ j. lines is_long (line ++ take j (b ∷ p)) (10 ∷ (drop (suc j) (b ∷ p) ++ rest))) is
    (ap (λ l. one_line is_long l ∷ lines false [] (p ++ rest)) (sym (append-nil line)))
    (λ j later. to_feed is_long (line ++ b ∷ []) p rest j later ∙ ap (λ l. lines is_long l (10 ∷ (drop (suc j) p ++ rest))) (append_assoc line (b ∷ []) (take j p)))

-- ---- steps

within-step : (test : Bool) (later : Option ℕ) (k n : ℕ) → first_or test later ≡ Some k → ((j : ℕ) → later ≡ Some j → j < n) → k < suc n
within-step true later k n is f = let z : 0 ≡ k = cc in omega arith
within-step false None k n is f = absurd (cc)
within-step false (Some j) k n is f = let z : suc j ≡ k = cc in let below : j < n = f j refl in omega arith

first-within : (p : List ℕ) (k : ℕ) → first_feed p ≡ Some k → k < length p
first-within [] k is = absurd (cc)
first-within (b ∷ p) k is = within-step (b == 10) (first_feed p) k (length p) is (λ j. first-within p j)

behind-feed : (bytes : List ℕ) (start end k : ℕ) → start ≤ end → end ≤ length bytes → k < length (take (end - start) (drop start bytes))
    → drop (suc k) (take (end - start) (drop start bytes)) ≡ take (end - (start + k + 1)) (drop (start + k + 1) bytes)
behind-feed bytes start end k low high within =
    let few : k < end - start = omega (arith, length-take (end - start) (drop start bytes)) in
    let left : end - start ≡ suc k + (end - (start + k + 1)) = omega arith in
    let at : start + k + 1 ≡ start + suc k = omega arith in
    subst (λ n. drop (suc k) (take n (drop start bytes)) ≡ take (end - (start + k + 1)) (drop (start + k + 1) bytes)) (sym left)
    (drop-take (suc k) (end - (start + k + 1)) (drop start bytes)
    ∙ ap (take (end - (start + k + 1))) (drop-drop (suc k) start bytes ∙ ap (λ n. drop n bytes) (sym at)))

-- a line feed is there: the line is given, and the others come
pub at_feed : (bytes : List ℕ) (start end k : ℕ) (was is_long : Bool) (line whole rest left : List ℕ) (given : List Line) → start ≤ end → end ≤ length bytes
    → first_feed (take (end - start) (drop start bytes)) ≡ Some k → ((q : List ℕ) → lines is_long whole q ≡ lines was (line ++ take k (take (end - start) (drop start bytes))) q)
    → given ≡ one_line is_long whole ∷ [] → left ≡ []
    → lines was line (take (end - start) (drop start bytes) ++ rest) ≡ given ++ lines false left (take (end - (start + k + 1)) (drop (start + k + 1) bytes) ++ rest)
at_feed bytes start end k was is_long line whole rest left given low high at grown told none =
    let piece = take (end - start) (drop start bytes) in
    let behind = behind-feed bytes start end k low high (first-within piece k at) in
    to_feed was line piece rest k at
    ∙ sym (grown (10 ∷ (drop (suc k) piece ++ rest)))
    ∙ ap (λ more. one_line is_long whole ∷ lines false [] (more ++ rest)) behind
    ∙ ap (λ none. one_line is_long whole ∷ lines false none (take (end - (start + k + 1)) (drop (start + k + 1) bytes) ++ rest)) (sym none)
    ∙ ap (λ ls. ls ++ lines false left (take (end - (start + k + 1)) (drop (start + k + 1) bytes) ++ rest)) (sym told)

nothing-left : (bytes : List ℕ) (end : ℕ) → take (end - end) (drop end bytes) ≡ []
nothing-left bytes end = let none : end - end ≡ 0 = omega arith in rw none refl

-- none is there, and more is to be read
pub at_more : (bytes : List ℕ) (start end : ℕ) (was is_long : Bool) (line whole rest : List ℕ) → first_feed (take (end - start) (drop start bytes)) ≡ None
    → ((q : List ℕ) → lines is_long whole q ≡ lines was (line ++ take (end - start) (drop start bytes)) q)
    → lines was line (take (end - start) (drop start bytes) ++ rest) ≡ lines is_long whole (take (end - end) (drop end bytes) ++ rest)
at_more bytes start end was is_long line whole rest none grown =
    through was line (take (end - start) (drop start bytes)) rest none ∙ sym (grown rest) ∙ ap (λ more. lines is_long whole (more ++ rest)) (sym (nothing-left bytes end))

whole-line : (is_long : Bool) (line : List ℕ) → (is_long || not (is_empty line)) ≡ true → lines is_long line [] ≡ one_line is_long line ∷ []
whole-line is_long line some = rw some refl

-- .. nor is more to be read: what is left is a line
pub at_end : (bytes : List ℕ) (start end : ℕ) (was is_long : Bool) (line whole rest left : List ℕ) (given : List Line) → first_feed (take (end - start) (drop start bytes)) ≡ None
    → ((q : List ℕ) → lines is_long whole q ≡ lines was (line ++ take (end - start) (drop start bytes)) q)
    → (is_long || not (is_empty whole)) ≡ true → given ≡ one_line is_long whole ∷ [] → left ≡ [] → rest ≡ []
    → lines was line (take (end - start) (drop start bytes) ++ rest) ≡ given ++ lines false left (take (end - end) (drop end bytes) ++ rest)
at_end bytes start end was is_long line whole rest left given none grown some told empty over =
    subst (λ r. lines was line (take (end - start) (drop start bytes) ++ r) ≡ given ++ lines false left (take (end - end) (drop end bytes) ++ r)) (sym over)
    (through was line (take (end - start) (drop start bytes)) [] none ∙ sym (grown []) ∙ whole-line is_long whole some ∙ sym told ∙ sym (append-nil given)
    ∙ ap (λ none. given ++ lines false none []) (sym empty) ∙ ap (λ more. given ++ lines false left more) (sym (append-nil (take (end - end) (drop end bytes)) ∙ nothing-left bytes end)))

pub empty-length : (line : List ℕ) → (length line == 0) ≡ is_empty line
empty-length [] = refl
empty-length (b ∷ bs) = grind (arith, nat_tests)

pub ruleset empty_length = empty-length
