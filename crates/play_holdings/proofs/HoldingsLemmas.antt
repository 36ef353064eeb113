-- What outputs hold, summed.
use Rattle.std.proofs.Common.{◌≡◌, ℕ, ◌+◌, ◌<◌, ℤ, pos, ◌≤ℤ◌, ◌<ℤ◌, true, List, [], ◌∷◌, ◌++◌, length, get_or, drop, append_assoc, ◌+ℤ◌, sym, ◌∙◌, ap, subst}
use Rattle.std.specs.List.{flat_map}
use Rattle.std.proofs.lemmas.List.{at_drop_more}
use Rattle.std.specs.List.Sorted.{IsPermutation}
use Rattle.eutxo.specs.Names.declared.token.Token.{Token}
use Rattle.eutxo.specs.Bundle.Totals.{total_of}
use Rattle.eutxo.specs.EutxoTypes.declared.output.Output.{Output}
use Rattle.eutxo.specs.EutxoTypes.declared.output_ref.OutputRef.{OutputRef}
use Rattle.play_holdings.specs.declared.holding.Holding.{Holding}
use Rattle.play_holdings.specs.Holdings.{come_to, of_token, held_in, AllAbove, AreSums}
use Rattle.play_holdings.specs.SumsSupport.{most, Fit, NeverFall, is_same, with_all, HasRoom}
use Rattle.play_holdings.proofs.TotalLemmas.{in_outputs, come_to_moved, above_moved}
use Rattle.play_holdings.proofs.SumLemmas.{sums_ascend, sums_above, sums_same}

abbrev Lent : Type 0
Lent = List (OutputRef × Output)

abbrev held : Token → Lent → ℤ
held t es = total_of (λ (e : OutputRef × Output). e.1.amount) t es

pub rows_fit : (ends : List _) (es : Lent) (rows : List Holding) → rows ≡ flat_map (held_in ends) es → ((t : Token) → held t es ≤ℤ most) → Fit rows
rows_fit ends es rows are fit t = subst (λ n. n ≤ℤ most) (sym (ap (come_to (of_token t)) are ∙ in_outputs ends t es)) (fit t)

pub are_held : (ends : List _) (es : Lent) (rows hs : List Holding) → rows ≡ flat_map (held_in ends) es → AreSums rows hs → (t : Token) → come_to (of_token t) hs ≡ held t es
are_held ends es rows hs are sums t = sums.same (of_token t) ∙ ap (come_to (of_token t)) are ∙ in_outputs ends t es

-- ---- sorted

pub fit_moved : (xs ys : List Holding) → IsPermutation xs ys → Fit xs → Fit ys
fit_moved xs ys p fit t = subst (λ n. n ≤ℤ most) (sym (come_to_moved (of_token t) xs ys p)) (fit t)

pub are_sums : (rows ordered : List Holding) → IsPermutation rows ordered → NeverFall ordered → AllAbove rows → AreSums rows (with_all [] ordered)
are_sums rows ordered p n a = record {
  ascend = sums_ascend ordered n;
  above = sums_above ordered (above_moved rows ordered p a);
  same = λ asked. sums_same asked ordered ∙ come_to_moved asked rows ordered p;
}

-- ---- one by one

pub rows_next : (f : OutputRef × Output → List Holding) (es : Lent) (i : ℕ) (e : OutputRef × Output) (old new all : List Holding) → i < length es → e ≡ get_or es i e → new ≡ old ++ f e →
    old ++ flat_map f (drop i es) ≡ all → new ++ flat_map f (drop (i + 1) es) ≡ all
rows_next f es i e old new all h is put so =
    let rest = flat_map f (drop (i + 1) es) in
    ap (λ (l : List Holding). l ++ rest) put ∙ append_assoc old (f e) rest
    ∙ ap (λ (l : List Holding). old ++ l) (sym (at_drop_more (λ (l : Lent). flat_map f l) es i e h ∙ ap (λ (x : OutputRef × Output). f x ++ rest) (sym is)))
    ∙ so

-- ---- the last of a list

pub last_above : (hs : List Holding) (last : Holding) → AllAbove (hs ++ last ∷ []) → pos 0 <ℤ last.amount
last_above [] last a = a.0
last_above (h ∷ hs) last a = last_above hs last a.1

pub last_room : (x : Holding) (hs : List Holding) (last : Holding) → HasRoom x (hs ++ last ∷ []) → is_same last x ≡ true → (last.amount +ℤ x.amount) ≤ℤ most
last_room x [] last r = r.0
last_room x (h ∷ hs) last r = last_room x hs last r.1
