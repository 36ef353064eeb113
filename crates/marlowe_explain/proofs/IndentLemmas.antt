-- A text that is indented, byte by byte.
use Rattle.std.proofs.Common.{◌≡◌, ℕ, ◌+◌, ◌<◌, ◌==◌, Bool, cond, List, [], ◌∷◌, ◌++◌, length, get_or, drop, append_assoc, sym, ap, ◌∙◌}
use Rattle.std.specs.Prelude.{codes}
use Rattle.std.proofs.lemmas.List.{at_drop_more, append-nil}
use Rattle.marlowe_explain.specs.Lines.{indented}

-- one byte more
pub indented_more : (out now : List ℕ) (starts : Bool) (text : List ℕ) (n c : ℕ) → n < length text → c ≡ get_or text n c → now ≡ out ++ (cond starts (codes "    ") [] ++ c ∷ [])
    → out ++ indented starts (drop n text) ≡ now ++ indented (c == 10) (drop (n + 1) text)
indented_more out now starts text n c h e k =
    let head = cond starts (codes "    ") [] in
    let more = indented (c == 10) (drop (n + 1) text) in
    ap (λ xs. out ++ xs) (at_drop_more (indented starts) text n c h ∙ ap (λ d. head ++ d ∷ indented (d == 10) (drop (n + 1) text)) (sym e) ∙ sym (append_assoc head (c ∷ []) more))
    ∙ (sym (append_assoc out (head ++ c ∷ []) more) ∙ ap (λ xs. xs ++ more) (sym k))

-- all of it
pub indented_whole : (out : List ℕ) (starts : Bool) (text : List ℕ) (n : ℕ) (whole : List ℕ) → whole ≡ out ++ indented starts (drop n text) → (drop n text ≡ []) → out ≡ whole
indented_whole out starts text n whole h e = sym (h ∙ (ap (λ xs. out ++ indented starts xs) e ∙ append-nil out))
