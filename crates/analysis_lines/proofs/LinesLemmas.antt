-- Lines behind lines.
use Rattle.std.proofs.Common.{◌≡◌, ℕ, suc, arith, Bool, true, false, List, [], ◌∷◌, ◌++◌, map, length, refl, sym, ap, ◌∙◌, subst, append_assoc, Option, Some}
use Rattle.std.specs.Prelude.{flat_map, codes, ◌==◌}
use Rattle.std.proofs.lemmas.Bool.Decides.{Decides-eqb}
use Rattle.contract.specs.Names.declared.party.Party.{Party}
use Rattle.contract.specs.declared.transaction.Transaction.{Transaction}
use Rattle.json.specs.Print.{print}
use Rattle.json.specs.Written.{Written}
use Rattle.serde_json.specs.Data.{Data, array, string}
use Rattle.serde_json.specs.View.{items_of}
use Rattle.serde_json.specs.Written.{compact_text}
use Rattle.serde_json.proofs.Texts.{print-outline}
use Rattle.json_write_contracts.specs.Tokens.{Puts, data_tokens}
use Rattle.places.specs.declared.key.Key.{Key}
use Rattle.analysis_lines.specs.declared.told.ToldAlarm.{ToldAlarm}
use Rattle.analysis_lines.specs.ToldLines.{line_of}
use Rattle.analysis_lines.specs.Lines.{transaction_line, run_lines, alarm_lines, alarms_lines}
use Rattle.places.specs.Texts.{place_json}
use Rattle.analysis_lines.specs.Tools.{alarm_json}
use Rattle.keeping_up.specs.declared.kept.Kept.{Kept}
use Rattle.analysis_lines.specs.Kept.{nothing_line, kept_line, kept_lines}

not_zero : (n : ℕ) (b : Bool) → b ≡ (suc n == 0) → b ≡ true → ⊥
not_zero n b e h = let q : suc n ≡ 0 = (Decides-eqb (suc n) 0).0 (sym e ∙ h) in absurd (omega arith)

-- two pieces, three, four
pub two_pieces : (a b c x y : List ℕ) → b ≡ a ++ x → c ≡ b ++ y → c ≡ a ++ (x ++ y)
two_pieces a b c x y e f = f ∙ ap (λ z. z ++ y) e ∙ append_assoc a x y

pub three_pieces : (a b c d x y z : List ℕ) → b ≡ a ++ x → c ≡ b ++ y → d ≡ c ++ z → d ≡ a ++ (x ++ (y ++ z))
three_pieces a b c d x y z e f g = two_pieces a b d x (y ++ z) e (two_pieces b c d y z f g)

pub four_pieces : (a b c d e x y z w : List ℕ) → b ≡ a ++ x → c ≡ b ++ y → d ≡ c ++ z → e ≡ d ++ w → e ≡ a ++ (x ++ (y ++ (z ++ w)))
four_pieces a b c d e x y z w f g h i = two_pieces a b e x (y ++ (z ++ w)) f (three_pieces b c d e y z w g h i)

-- lines of told alarms
pub lines_each : (runs : Bool) (ts : List ToldAlarm) → flat_map (alarm_lines runs) (map line_of ts) ≡ flat_map (λ t. alarm_lines runs (line_of t)) ts
lines_each runs [] = refl
lines_each runs (t ∷ ts) = ap (λ ls. alarm_lines runs (line_of t) ++ ls) (lines_each runs ts)

pub lines_some : (runs : Bool) (ts : List ToldAlarm) (b : Bool) → b ≡ (length ts == 0) → b ≡ false → flat_map (λ t. alarm_lines runs (line_of t)) ts ≡ alarms_lines runs (map line_of ts)
lines_some runs [] b e h = absurd (cc)
lines_some runs (t ∷ ts) b e h = sym (lines_each runs (t ∷ ts))

pub lines_none : (runs : Bool) (ts : List ToldAlarm) (b : Bool) → b ≡ (length ts == 0) → b ≡ true → codes "never warns, stays within 128 bits" ++ 10 ∷ [] ≡ alarms_lines runs (map line_of ts)
lines_none runs [] b e h = refl
lines_none runs (t ∷ ts) b e h = absurd (not_zero (length ts) b e h)

-- what is told of a party that keeps up
pub kept_none : (given : Bool) (p : Party) (ks : List Kept) (b : Bool) → b ≡ (length ks == 0) → b ≡ true → nothing_line given p ≡ kept_lines given p (Some ks)
kept_none given p [] b e h = refl
kept_none given p (k ∷ ks) b e h = absurd (not_zero (length ks) b e h)

pub kept_some : (given : Bool) (p : Party) (ks : List Kept) (b : Bool) → b ≡ (length ks == 0) → b ≡ false → flat_map (kept_line given p) ks ≡ kept_lines given p (Some ks)
kept_some given p [] b e h = absurd (cc)
kept_some given p (k ∷ ks) b e h = refl

pub sure_pieces : (a p b q line : List ℕ) → line ≡ a ++ (codes ", " ++ (b ++ codes " while it keeps up")) → a ≡ p → b ≡ q → line ≡ p ++ (codes ", " ++ (q ++ codes " while it keeps up"))
sure_pieces a p b q line e f g = e ∙ ap (λ x. x ++ (codes ", " ++ (b ++ codes " while it keeps up"))) f ∙ ap (λ x. p ++ (codes ", " ++ (x ++ codes " while it keeps up"))) g

-- a run that is known
pub run_pieces : (a b d : List ℕ) (o : Option (List Transaction)) (ts us : List Transaction) → o ≡ Some ts → us ≡ ts → b ≡ a ++ (codes ", by this run:" ++ 10 ∷ []) → d ≡ b ++ flat_map transaction_line us → d ≡ a ++ run_lines true o
run_pieces a b d o ts us e f g h =
    two_pieces a b d (codes ", by this run:" ++ 10 ∷ []) (flat_map transaction_line us) g h ∙ ap (λ (xs : List Transaction). a ++ ((codes ", by this run:" ++ 10 ∷ []) ++ flat_map transaction_line xs)) f
    ∙ ap (λ (z : Option (List Transaction)). a ++ run_lines true z) (sym e)

-- what a party is paid
pub range_pieces : (p q t u b d line : List ℕ) → line ≡ p ++ (codes " " ++ (t ++ (codes " " ++ (b ++ codes "\n")))) → p ≡ q → t ≡ u → b ≡ d → line ≡ q ++ (codes " " ++ (u ++ (codes " " ++ (d ++ 10 ∷ []))))
range_pieces p q t u b d line e f g h =
    e ∙ ap (λ x. x ++ (codes " " ++ (t ++ (codes " " ++ (b ++ codes "\n"))))) f ∙ ap (λ x. q ++ (codes " " ++ (x ++ (codes " " ++ (b ++ codes "\n"))))) g ∙ ap (λ x. q ++ (codes " " ++ (u ++ (codes " " ++ (x ++ codes "\n"))))) h

-- what it can lose
pub loss_pieces : (a b d p q t u m n g line : List ℕ) → line ≡ p ++ (codes " " ++ (t ++ (codes " " ++ m))) → p ≡ q → t ≡ u → m ≡ n → b ≡ a ++ line → d ≡ b ++ g → d ≡ a ++ ((q ++ (codes " " ++ (u ++ (codes " " ++ n)))) ++ g)
loss_pieces a b d p q t u m n g line e f h i j k =
    two_pieces a b d (q ++ (codes " " ++ (u ++ (codes " " ++ n)))) g
    (j
    ∙ ap (λ x. a ++ x)
    (e ∙ ap (λ x. x ++ (codes " " ++ (t ++ (codes " " ++ m)))) f ∙ ap (λ x. q ++ (codes " " ++ (x ++ (codes " " ++ m)))) h ∙ ap (λ x. q ++ (codes " " ++ (u ++ (codes " " ++ x)))) i)) k

-- ---- JSON

map_after : {X Y Z : Type 0} (f : Y → Z) (g : X → Y) (xs : List X) → map (λ x. f (g x)) xs ≡ map f (map g xs)
map_after f g [] = refl
map_after f g (x ∷ xs) = ap (λ zs. f (g x) ∷ zs) (map_after f g xs)

pub alarms_put : (runs : Bool) (a b : Written) (ts : List ToldAlarm) → Puts a b (array (items_of (map (λ t. alarm_json runs (line_of t)) ts))) → Puts a b (array (items_of (map (alarm_json runs) (map line_of ts))))
alarms_put runs a b ts h = subst (λ (ds : List Data). Puts a b (array (items_of ds))) (map_after (alarm_json runs) line_of ts) h

pub word_put : (a b : Written) (w v : List ℕ) → w ≡ v → Puts a b (string w) → Puts a b (string v)
word_put a b w v e h = subst (λ (x : List ℕ). Puts a b (string x)) e h

pub place_put : (a b : Written) (ks ls : List Key) → ks ≡ ls → Puts a b (place_json ks) → Puts a b (place_json ls)
place_put a b ks ls e h = subst (λ (x : List Key). Puts a b (place_json x)) e h

-- the text of a whole value, from a new writer
module _ (a b : Written) (start bytes : List ℕ) (d : Data) (empty : start ≡ []) (before : a.before ≡ start) (none : a.tokens ≡ []) (put : Puts a b d) (is : bytes ≡ b.before ++ print b.tokens) where
  whole_tokens : b.tokens ≡ data_tokens d
  whole_tokens = put.tokens ∙ ap (λ ts. ts ++ data_tokens d) none

  pub whole_text : bytes ≡ compact_text d
  whole_text = is ∙ ap (λ xs. xs ++ print b.tokens) (put.before ∙ before ∙ empty) ∙ ap print whole_tokens ∙ print-outline d
