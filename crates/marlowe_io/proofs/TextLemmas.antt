-- What is read or written in two parts, and what a whole text is of the bytes that there were.
use Rattle.std.proofs.Common.{◌≡◌, ℕ, ◌+◌, ◌-◌, ◌≤◌, List, ◌++◌, length, take, drop, None, Some, IfSome, sym, ap, ◌∙◌, subst, append-nil, take_all}
use Rattle.std.proofs.Math.Seq.{take-add, take-append_seam}
use Rattle.std.proofs.lemmas.List.{take_rest}
use Rattle.std.proofs.KnownBytes.{Appends-trans}
use Rattle.std.specs.Io.KnownBytes.{Appends, Consumes, IsAtEnd}
use Rattle.std.specs.declared.option.Option.{Option}
use Rattle.marlowe_io.specs.Texts.{longest, loaded}

-- a beginning of a text, and then the next bytes of it
pub written_more : (old mid new : Option (List ℕ)) (text : List ℕ) (at n : ℕ) → Appends old mid (take at text) → Appends mid new (take n (take (length text - at) (drop at text))) → Appends old new (take (at + n) text)
written_more old mid new text at n first next =
    subst (Appends old new) (ap (λ rest. take at text ++ take n rest) (take_rest text at) ∙ sym (take-add at n text)) (Appends-trans old mid new (take at text) (take n (take (length text - at) (drop at text))) first next)

-- all bytes, where they ended and were few enough
pub loaded_to_end : (old new : Option (List ℕ)) (text : List ℕ) → Consumes old new text → IsAtEnd new → length text ≤ longest → IfSome old (λ bytes. text ≡ loaded bytes)
loaded_to_end None new text reads end few = tt
loaded_to_end (Some bytes) None text reads end few = absurd reads
loaded_to_end (Some bytes) (Some rest) text reads end few =
    let whole : bytes ≡ text = reads ∙ ap (λ more. text ++ more) end ∙ append-nil text in
    subst (λ all. text ≡ loaded all) (sym whole) (sym (take_all longest text few))

-- the first bytes, as many as are read at most
pub loaded_first : (old new : Option (List ℕ)) (text : List ℕ) → Consumes old new text → length text ≡ longest → IfSome old (λ bytes. text ≡ loaded bytes)
loaded_first None new text reads many = tt
loaded_first (Some bytes) None text reads many = absurd reads
loaded_first (Some bytes) (Some rest) text reads many =
    subst (λ n. text ≡ take n bytes) many (subst (λ all. text ≡ take (length text) all) (sym reads) (sym (take-append_seam text rest)))
