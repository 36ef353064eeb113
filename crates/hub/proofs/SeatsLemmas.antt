-- Seats' lists in a history that goes on, and at its end.
use Rattle.std.proofs.Common.{◌≡◌, inl, inr, ⊎_elim, ℕ, zero, suc, ◌+◌, ◌<◌, ◌≤◌, ◌==◌, Bool, true, false, List, [], ◌∷◌, ◌++◌, length, map, Some, refl, sym, ap, ◌∙◌, subst, arith, append_assoc, zero-add, add-zero, get_or, take, cond}
use Rattle.std.specs.Prelude.{slice_get, filter}
use Rattle.std.proofs.lemmas.List.{append-nil}
use Rattle.std.proofs.lemmas.Bool.Decides.{nat_tests}
use Rattle.std.proofs.lemmas.List.Elements.{filter-append}
use Rattle.std.proofs.lemmas.List.Recursion.{is_count_by}
use mathlib.Core.List.{IsPrefix}
use Rattle.ledger.specs.declared.call.Entry.{Entry}
use Rattle.chain_index.specs.LedgerSpec.Legal.{IsLegal}
use Rattle.chain_index.specs.LedgerSpec.Replay.{Course, count_of}
use Rattle.hub.specs.declared.answer.Answer.{Answer}
use Rattle.hub.specs.HubSupport.{SomeOf, Fits, AllFit}
use Rattle.hub.specs.Seats.{SeatRecord, seat_record, entry_told, entries_told, by_seat, Stand, Rise, Count, AreNumbered, IsHeard, AreHeard, answered}

-- what stands in a beginning stands in the whole, at the same place
pub prefix_get : {A : Type 0} (xs ys : List A) (k : ℕ) (x : A) → IsPrefix xs ys → slice_get xs k ≡ Some x → slice_get ys k ≡ Some x
prefix_get [] ys k x p h = absurd cc
prefix_get (y ∷ xs) [] k x p h = absurd (cc (p.1))
prefix_get (y ∷ xs) (z ∷ ys) zero x p h = cc (p.1, h)
prefix_get (y ∷ xs) (z ∷ ys) (suc k) x p h = prefix_get xs ys k x (p.0, cc (p.1)) h

pub get_last : {A : Type 0} (xs : List A) (x : A) → slice_get (xs ++ x ∷ []) (length xs) ≡ Some x
get_last [] x = refl
get_last (y ∷ xs) x = get_last xs x

pub some_length : (ys xs : List Entry) → SomeOf ys xs → length xs ≤ length ys
some_length [] [] s = omega arith
some_length [] (x ∷ xs) s = absurd s
some_length (y ∷ ys) [] s = omega arith
some_length (y ∷ ys) (x ∷ xs) s =
    ⊎_elim
    (λ (t : (x ≡ y) × SomeOf ys xs). let l = some_length ys xs t.1 in omega arith)
    (λ (t : SomeOf ys (x ∷ xs)). let l = some_length ys (x ∷ xs) t in omega arith)
    s

-- as many are all
pub some_all : (ys xs : List Entry) → SomeOf ys xs → length ys ≤ length xs → xs ≡ ys
some_all [] [] s le = refl
some_all [] (x ∷ xs) s le = absurd s
some_all (y ∷ ys) [] s le = absurd (omega arith)
some_all (y ∷ ys) (x ∷ xs) s le =
    ⊎_elim
    (λ (t : (x ≡ y) × SomeOf ys xs). let rest = some_all ys xs t.1 (omega arith) in cc (t.0, rest))
    (λ (t : SomeOf ys (x ∷ xs)). let l = some_length ys (x ∷ xs) t in absurd (omega arith))
    s

pub none_of : (ys : List Entry) → SomeOf ys []
none_of [] = tt
none_of (y ∷ ys) = tt

pub some_more : (ys zs xs : List Entry) → SomeOf ys xs → SomeOf (ys ++ zs) xs
some_more [] zs [] s = none_of zs
some_more [] zs (x ∷ xs) s = absurd s
some_more (y ∷ ys) zs [] s = tt
some_more (y ∷ ys) zs (x ∷ xs) s =
    ⊎_elim
    (λ (t : (x ≡ y) × SomeOf ys xs). inl (t.0, some_more ys zs xs t.1))
    (λ (t : SomeOf ys (x ∷ xs)). inr (some_more ys zs (x ∷ xs) t))
    s

last_of : (zs : List Entry) (x : Entry) → SomeOf (zs ++ x ∷ []) (x ∷ [])
last_of [] x = inl (refl, tt)
last_of (z ∷ zs) x = inr (last_of zs x)

pub some_one : (ys xs : List Entry) (x : Entry) → SomeOf ys xs → SomeOf (ys ++ x ∷ []) (xs ++ x ∷ [])
some_one [] [] x s = inl (refl, tt)
some_one [] (w ∷ xs) x s = absurd s
some_one (y ∷ ys) [] x s = inr (last_of ys x)
some_one (y ∷ ys) (w ∷ xs) x s =
    ⊎_elim
    (λ (t : (w ≡ y) × SomeOf ys xs). inl (t.0, some_one ys xs x t.1))
    (λ (t : SomeOf ys (w ∷ xs)). inr (some_one ys (w ∷ xs) x t))
    s

pub stand_prefix : (log now : List Entry) (seat : ℕ) (answers : List Answer) → IsPrefix log now → Stand log seat answers → Stand now seat answers
stand_prefix log now seat [] p s = tt
stand_prefix log now seat (a ∷ rest) p s = (prefix_get log now a.place (entry_told seat a) p s.0, stand_prefix log now seat rest p s.1)

stand_one : (log : List Entry) (seat : ℕ) (answers : List Answer) (a : Answer) → Stand log seat answers → slice_get log a.place ≡ Some (entry_told seat a) → Stand log seat (answers ++ a ∷ [])
stand_one log seat [] a s h = (h, tt)
stand_one log seat (b ∷ rest) a s h = (s.0, stand_one log seat rest a s.1 h)

-- a seat's answers still fit a history that goes on
pub fits_prefix : (log now : List Entry) (s : SeatRecord) → IsPrefix log now → Fits log s → Fits now s
fits_prefix log now s p f =
    let whole : by_seat s.number now ≡ by_seat s.number log ++ by_seat s.number p.0 = ap (by_seat s.number) (sym p.1) ∙ filter-append (λ (e : Entry). e.seat == s.number) log p.0 in
    (subst (λ (l : List Entry). SomeOf l (entries_told s)) (sym whole) (some_more (by_seat s.number log) (by_seat s.number p.0) (entries_told s) f.0), stand_prefix log now s.number s.answers p f.1, f.2)

map-one : (seat : ℕ) (answers : List Answer) (a : Answer) → map (entry_told seat) (answers ++ a ∷ []) ≡ map (entry_told seat) answers ++ entry_told seat a ∷ []
map-one seat [] a = refl
map-one seat (b ∷ rest) a = ap (λ l. entry_told seat b ∷ l) (map-one seat rest a)

mine : (seat : ℕ) (a : Answer) → by_seat seat (entry_told seat a ∷ []) ≡ entry_told seat a ∷ []
mine seat a =
    let same : (seat == seat) ≡ true = grind (arith, nat_tests) in rw same refl

get_below : {A : Type 0} (xs : List A) (k : ℕ) (x : A) → slice_get xs k ≡ Some x → k < length xs
get_below [] k x h = absurd cc
get_below (y ∷ xs) zero x h = omega arith
get_below (y ∷ xs) (suc k) x h = let below = get_below xs k x h in omega arith

rise_one : (low : ℕ) (log : List Entry) (seat : ℕ) (answers : List Answer) (a : Answer) → Stand log seat answers → Rise low answers → a.place ≡ length log → low ≤ length log → Rise low (answers ++ a ∷ [])
rise_one low log seat [] a s r here le = (omega (arith, here), tt)
rise_one low log seat (b ∷ rest) a s r here le =
    let below = get_below log b.place (entry_told seat b) s.0 in (r.0, rise_one (b.place + 1) log seat rest a s.1 r.1 here (omega (arith, below)))

-- one more answer, whose entry is the last
pub fits_one : (log : List Entry) (seat : ℕ) (answers : List Answer) (a : Answer) → Fits log (seat_record seat answers) → a.place ≡ length log → Fits (log ++ entry_told seat a ∷ []) (seat_record seat (answers ++ a ∷ []))
fits_one log seat answers a f here =
    let now = log ++ entry_told seat a ∷ [] in
    let p : IsPrefix log now = (entry_told seat a ∷ [], refl) in
    let whole : by_seat seat now ≡ by_seat seat log ++ entry_told seat a ∷ [] = filter-append (λ (e : Entry). e.seat == seat) log (entry_told seat a ∷ []) ∙ ap (λ l. by_seat seat log ++ l) (mine seat a) in
    let at : slice_get now a.place ≡ Some (entry_told seat a) = rw here (get_last log (entry_told seat a)) in
    (rw (whole, map-one) (some_one (by_seat seat log) (map (entry_told seat) answers) (entry_told seat a) f.0), stand_one now seat answers a (stand_prefix log now seat answers p f.1) at, rise_one 0 log seat answers a f.1 f.2 here (omega arith))

-- how many entries the seats have in all
abbrev in_all : List SeatRecord → List Entry → ℕ
in_all [] history = 0
in_all (s ∷ ss) history = length (by_seat s.number history) + in_all ss history

in_all-nil : (ss : List SeatRecord) → in_all ss [] ≡ 0
in_all-nil [] = refl
in_all-nil (s ∷ ss) = zero-add (in_all ss []) ∙ in_all-nil ss

in_all-other : (k : ℕ) (ss : List SeatRecord) (e : Entry) (history : List Entry) → AreNumbered k ss → e.seat < k → in_all ss (e ∷ history) ≡ in_all ss history
in_all-other k [] e history n lt = refl
in_all-other k (s ∷ ss) e history n lt =
    let other : (e.seat == s.number) ≡ false = grind (arith, nat_tests, n.0) in
    rw other (ap (λ m. length (by_seat s.number history) + m) (in_all-other (k + 1) ss e history n.1 (omega arith)))

in_all-test : (k : ℕ) (s : SeatRecord) (ss : List SeatRecord) (e : Entry) (history : List Entry) → AreNumbered k (s ∷ ss) → in_all ss (e ∷ history) ≤ in_all ss history + 1 → (b : Bool) → (e.seat == s.number) ≡ b → in_all (s ∷ ss) (e ∷ history) ≤ in_all (s ∷ ss) history + 1
in_all-test k s ss e history n more true is =
    let low : e.seat < k + 1 = grind (arith, nat_tests, n.0, is) in
    let rest = in_all-other (k + 1) ss e history n.1 low in rw is (omega (arith, rest))
in_all-test k s ss e history n more false is = rw is (omega (arith, more))

in_all-one : (k : ℕ) (ss : List SeatRecord) (e : Entry) (history : List Entry) → AreNumbered k ss → in_all ss (e ∷ history) ≤ in_all ss history + 1
in_all-one k [] e history n = omega arith
in_all-one k (s ∷ ss) e history n = in_all-test k s ss e history n (in_all-one (k + 1) ss e history n.1) (e.seat == s.number) refl

in_all-length : (ss : List SeatRecord) (history : List Entry) → AreNumbered 0 ss → in_all ss history ≤ length history
in_all-length ss [] n = omega (arith, in_all-nil ss)
in_all-length ss (e ∷ history) n =
    let one = in_all-one 0 ss e history n in
    let rest = in_all-length ss history n in omega (arith, one, rest)

length-map : (seat : ℕ) (answers : List Answer) → length (map (entry_told seat) answers) ≡ length answers
length-map seat [] = refl
length-map seat (a ∷ rest) = ap suc (length-map seat rest)

at_most : (ss : List SeatRecord) (history : List Entry) → AllFit history ss → answered ss ≤ in_all ss history
at_most [] history f = omega arith
at_most (s ∷ ss) history f =
    let l = some_length (by_seat s.number history) (entries_told s) f.0.0 in
    let m = length-map s.number s.answers in
    let rest = at_most ss history f.1 in omega (arith, l, m, rest)

-- each seat's list is the whole of its entries
abbrev AllWhole : List Entry → List SeatRecord → Type 0
AllWhole history [] = Unit {0}
AllWhole history (s ∷ ss) = (entries_told s ≡ by_seat s.number history) × AllWhole history ss

all_whole : (ss : List SeatRecord) (history : List Entry) → AllFit history ss → in_all ss history ≤ answered ss → AllWhole history ss
all_whole [] history f le = tt
all_whole (s ∷ ss) history f le =
    let l = some_length (by_seat s.number history) (entries_told s) f.0.0 in
    let m = length-map s.number s.answers in
    let rest = at_most ss history f.1 in
    (some_all (by_seat s.number history) (entries_told s) f.0.0 (omega (arith, l, m, rest, le)), all_whole ss history f.1 (omega (arith, l, m, rest, le)))

number_at : (k : ℕ) (ss : List SeatRecord) (i : ℕ) (s : SeatRecord) → AreNumbered k ss → slice_get ss i ≡ Some s → s.number ≡ k + i
number_at k [] i s n h = absurd cc
number_at k (t ∷ ss) zero s n h =
    let same : t ≡ s = cc in ap (λ (u : SeatRecord). u.number) (sym same) ∙ (n.0 ∙ omega arith)
number_at k (t ∷ ss) (suc i) s n h =
    let rest = number_at (k + 1) ss i s n.1 h in omega (arith, rest)

whole_at : (ss : List SeatRecord) (history : List Entry) (i : ℕ) (s : SeatRecord) → AllWhole history ss → slice_get ss i ≡ Some s → entries_told s ≡ by_seat s.number history
whole_at [] history i s w h = absurd cc
whole_at (t ∷ ss) history zero s w h =
    let same : t ≡ s = cc in subst (λ (u : SeatRecord). entries_told u ≡ by_seat u.number history) same w.0
whole_at (t ∷ ss) history (suc i) s w h = whole_at ss history i s w.1 h

fit_at : (ss : List SeatRecord) (history : List Entry) (i : ℕ) (s : SeatRecord) → AllFit history ss → slice_get ss i ≡ Some s → Fits history s
fit_at [] history i s w h = absurd cc
fit_at (t ∷ ss) history zero s w h =
    let same : t ≡ s = cc in subst (λ (u : SeatRecord). Fits history u) same w.0
fit_at (t ∷ ss) history (suc i) s w h = fit_at ss history i s w.1 h

-- where the history has no more entries than calls were answered, each seat's entries are just its list
whole_lists : (ss : List SeatRecord) (history : List Entry) → AreNumbered 0 ss → AllFit history ss → length history ≡ answered ss → (i : ℕ) (s : SeatRecord) → slice_get ss i ≡ Some s → entries_told s ≡ by_seat i history
whole_lists ss history n f count i s at =
    let w = all_whole ss history f (omega (arith, count, in_all-length ss history n)) in
    let number : s.number ≡ i = number_at 0 ss i s n at ∙ omega arith in
    whole_at ss history i s w at ∙ ap (λ (k : ℕ). by_seat k history) number

places : (ss : List SeatRecord) (history : List Entry) → AreNumbered 0 ss → AllFit history ss → (i : ℕ) (s : SeatRecord) → slice_get ss i ≡ Some s → Stand history i s.answers
places ss history n f i s at =
    let number : s.number ≡ i = number_at 0 ss i s n at ∙ omega arith in
    subst (λ (k : ℕ). Stand history k s.answers) number (fit_at ss history i s f at).1

pub all_fit_one : (history : List Entry) (ss : List SeatRecord) (s : SeatRecord) → AllFit history ss → Fits history s → AllFit history (ss ++ s ∷ [])
all_fit_one history [] s a f = (f, tt)
all_fit_one history (t ∷ ss) s a f = (a.0, all_fit_one history ss s a.1 f)

pub numbered_one : (k : ℕ) (ss : List SeatRecord) (s : SeatRecord) → AreNumbered k ss → s.number ≡ k + length ss → AreNumbered k (ss ++ s ∷ [])
numbered_one k [] s a is = (is ∙ omega arith, tt)
numbered_one k (t ∷ ss) s a is = (a.0, numbered_one (k + 1) ss s a.1 (omega (arith, is)))

-- the number of a seat at its place
pub number_or : (k : ℕ) (ss : List SeatRecord) (i : ℕ) (d : SeatRecord) → AreNumbered k ss → i < length ss → (get_or ss i d).number ≡ k + i
number_or k [] i d n lt = absurd (omega arith)
number_or k (t ∷ ss) zero d n lt = n.0 ∙ omega arith
number_or k (t ∷ ss) (suc i) d n lt =
    let rest = number_or (k + 1) ss i d n.1 (omega (arith, lt)) in omega (arith, rest)

pub answered-append : (ss ts : List SeatRecord) → answered (ss ++ ts) ≡ answered ss + answered ts
answered-append [] ts = sym (zero-add (answered ts))
answered-append (s ∷ ss) ts = let rest = answered-append ss ts in omega (arith, rest)

pub same_entry : (x y : Entry) → x.seat ≡ y.seat → x.number ≡ y.number → x.call ≡ y.call → x.reply ≡ y.reply → x ≡ y
same_entry x y s n c r = λ i. record { seat = s i; number = n i; call = c i; reply = r i }

-- what a call leaves: the list knew a beginning of the history, and the entry of the new answer is the last
pub fits_call : {made : Entry} {a : Answer} (seen line history receipt : List Entry) (seat : ℕ) (answers now : List Answer) → Fits seen (seat_record seat answers) → IsPrefix seen line → line ≡ history → receipt ≡ line ++ made ∷ [] → made ≡ entry_told seat a → a.place ≡ length history → now ≡ answers ++ a ∷ [] → Fits receipt (seat_record seat now)
fits_call {made} {a} seen line history receipt seat answers now f p same is entry place more =
    let before : Fits history (seat_record seat answers) = subst (λ (l : List Entry). Fits l (seat_record seat answers)) same (fits_prefix seen line (seat_record seat answers) p f) in
    let after : receipt ≡ history ++ entry_told seat a ∷ [] = is ∙ cc (same, entry) in
    rw (after, more) (fits_one history seat answers a before place)

-- ---- all of a history

rise_of : (ss : List SeatRecord) (history : List Entry) (i : ℕ) (s : SeatRecord) → AllFit history ss → slice_get ss i ≡ Some s → Rise 0 s.answers
rise_of ss history i s f at = (fit_at ss history i s f at).2

-- numbers that count from k on
abbrev Counted : ℕ → List Entry → Type 0
Counted k [] = Unit {0}
Counted k (e ∷ es) = (e.number ≡ k) × Counted (k + 1) es

-- each entry's number counts the earlier ones of its seat
abbrev Numbers : List Entry → List Entry → Type 0
Numbers before es = (n : ℕ) (e : Entry) → slice_get es n ≡ Some e → e.number ≡ count_of e.seat (before ++ take n es)

numbers_rest : (before : List Entry) (e : Entry) (es : List Entry) → Numbers before (e ∷ es) → Numbers (before ++ e ∷ []) es
numbers_rest before e es p n x h = subst (λ (l : List Entry). x.number ≡ count_of x.seat l) (sym (append_assoc before (e ∷ []) (take n es))) (p (suc n) x h)

number_first : (before : List Entry) (e : Entry) (es : List Entry) → Numbers before (e ∷ es) → e.number ≡ count_of e.seat before
number_first before e es p = subst (λ (l : List Entry). e.number ≡ count_of e.seat l) (append-nil before) (p 0 e refl)

-- the same count, by recursion
abbrev tally : ℕ → List Entry → ℕ
tally seat [] = 0
tally seat (x ∷ xs) = cond (x.seat == seat) (1 + tally seat xs) (tally seat xs)

tally_is : (seat : ℕ) (xs : List Entry) → tally seat xs ≡ count_of seat xs
tally_is seat xs = is_count_by (tally seat) (λ (e : Entry). e.seat == seat) refl (λ x ys. refl) xs

tally-one : (seat : ℕ) (before : List Entry) (e : Entry) (b : Bool) → (e.seat == seat) ≡ b → tally seat (before ++ e ∷ []) ≡ tally seat before + cond b 1 0
tally-one seat [] e true is = rw is refl
tally-one seat [] e false is = rw is refl
tally-one seat (x ∷ before) e b is = by (x.seat == seat) (tally-one seat before e b is)
  where
    by : (c : Bool) → tally seat (before ++ e ∷ []) ≡ tally seat before + cond b 1 0 → cond c (1 + tally seat (before ++ e ∷ [])) (tally seat (before ++ e ∷ [])) ≡ cond c (1 + tally seat before) (tally seat before) + cond b 1 0
    by true h = omega (arith, h)
    by false h = h

count_of-one : (seat : ℕ) (before : List Entry) (e : Entry) (b : Bool) → (e.seat == seat) ≡ b → count_of seat (before ++ e ∷ []) ≡ count_of seat before + cond b 1 0
count_of-one seat before e b is = sym (tally_is seat (before ++ e ∷ [])) ∙ tally-one seat before e b is ∙ ap (λ (k : ℕ). k + cond b 1 0) (tally_is seat before)

counted_test : (seat : ℕ) (before : List Entry) (e : Entry) (es : List Entry) → e.number ≡ count_of e.seat before → ((b : Bool) → (e.seat == seat) ≡ b → Counted (count_of seat before + cond b 1 0) (by_seat seat es)) → (b : Bool) → (e.seat == seat) ≡ b → Counted (count_of seat before) (by_seat seat (e ∷ es))
counted_test seat before e es number rest true is =
    let same : e.seat ≡ seat = grind (arith, nat_tests, is) in
    rw is (subst (λ (k : ℕ). e.number ≡ count_of k before) same number, rest true is)
counted_test seat before e es number rest false is = rw is (subst (λ (k : ℕ). Counted k (by_seat seat es)) (add-zero (count_of seat before)) (rest false is))

counted : (seat : ℕ) (before es : List Entry) → Numbers before es → Counted (count_of seat before) (by_seat seat es)
counted seat before [] p = tt
counted seat before (e ∷ es) p =
    let next = counted seat (before ++ e ∷ []) es (numbers_rest before e es p) in
    counted_test seat before e es (number_first before e es p) (λ b is. subst (λ (k : ℕ). Counted k (by_seat seat es)) (count_of-one seat before e b is) next) (e.seat == seat) refl

counts_along : (k seat : ℕ) (answers : List Answer) → Counted k (map (entry_told seat) answers) → Count k answers
counts_along k seat [] c = tt
counts_along k seat (a ∷ rest) c = (c.0, counts_along (k + 1) seat rest c.1)

-- in a legal history the numbers of a seat's entries count them
counts : (c : Course) (i : ℕ) (s : SeatRecord) → IsLegal c → entries_told s ≡ by_seat i c.entries → Count 0 s.answers
counts c i s legal whole = counts_along 0 s.number s.answers (subst (λ (l : List Entry). Counted 0 l) (sym whole) (counted i [] c.entries (λ n e h. (legal n e h).number)))

-- where a legal history has no more entries than calls were answered, each seat heard just what it has of it
pub all_heard : (c : Course) (ss : List SeatRecord) → IsLegal c → AreNumbered 0 ss → AllFit c.entries ss → length c.entries ≡ answered ss → AreHeard c.entries ss
all_heard c ss legal n f count i s at =
    let list = whole_lists ss c.entries n f count i s at in
    record { list = list; places = places ss c.entries n f i s at; rise = rise_of ss c.entries i s f at; numbers = counts c i s legal list }
