-- Tokens and lines, one after another.
use Rattle.std.proofs.Common.{◌≡◌, ℕ, ◌+◌, ◌<◌, ◌≤◌, List, [], ◌∷◌, ◌++◌, length, get_or, drop, map, sym, ap, ◌∙◌, append_assoc, append-nil}
use Rattle.std.specs.Prelude.{flat_map}
use Rattle.std.specs.Borrow.{Bor}
use Rattle.std.proofs.lemmas.List.{drop_more, drop_all}
use Rattle.json.specs.Token.{Token}
use Rattle.json.specs.Written.{Written}
use Rattle.json_write_contracts.specs.Tokens.{Adds}
use Rattle.big_texts.specs.declared.place.Place.{Place}
use Rattle.big_texts.specs.Lines.{behind, told, told_from}

-- one token more
pub token_more : (old new : Written) (place next : Place) (t : Token) (left rest all : List Token) → left ≡ t ∷ rest → Adds old new (told place t ∷ []) → next ≡ behind place t
    → old.tokens ++ told_from place left ≡ all → new.tokens ++ told_from next rest ≡ all
token_more old new place next t left rest all is adds goes so =
    (λ i. adds.tokens i ++ told_from (goes i) rest)
    ∙ append_assoc old.tokens (told place t ∷ []) (told_from (behind place t) rest)
    ∙ ap (λ ts. old.tokens ++ told_from place ts) (sym is)
    ∙ so

-- one line more
pub line_more : (f : List ℕ → List ℕ) (lines : List (Bor (List ℕ))) (i : ℕ) (line : Bor (List ℕ)) (old new all : List ℕ) → i < length lines → line ≡ get_or lines i line → new ≡ old ++ f line.now
    → old ++ flat_map f (map (λ line. line.now) (drop i lines)) ≡ all → new ++ flat_map f (map (λ line. line.now) (drop (i + 1) lines)) ≡ all
line_more f lines i line old new all below here put so =
    ap (λ bytes. bytes ++ flat_map f (map (λ line. line.now) (drop (i + 1) lines))) put
    ∙ append_assoc old (f line.now) (flat_map f (map (λ line. line.now) (drop (i + 1) lines)))
    ∙ ap (λ (x : Bor (List ℕ)). old ++ (f x.now ++ flat_map f (map (λ line. line.now) (drop (i + 1) lines)))) here
    ∙ ap (λ (ls : List (Bor (List ℕ))). old ++ flat_map f (map (λ line. line.now) ls)) (sym (drop_more lines i line below))
    ∙ so

-- all lines
pub lines_done : (f : List ℕ → List ℕ) (lines : List (Bor (List ℕ))) (i : ℕ) (out all : List ℕ) → length lines ≤ i → out ++ flat_map f (map (λ line. line.now) (drop i lines)) ≡ all → out ≡ all
lines_done f lines i out all over so =
    sym (append-nil out) ∙ ap (λ (ls : List (Bor (List ℕ))). out ++ flat_map f (map (λ line. line.now) ls)) (sym (drop_all i lines over)) ∙ so
