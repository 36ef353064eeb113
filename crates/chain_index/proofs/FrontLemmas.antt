-- Fronts of lists.
use Rattle.std.proofs.Common.{◌≡◌, ℕ, ◌≤◌, arith, List, [], ◌∷◌, ◌++◌, refl, sym, ◌∙◌, ap, subst, append_assoc, length, take, Bool, true, false}
use Rattle.std.specs.Prelude.{if◌then◌else◌}
use Rattle.std.proofs.Math.Seq.{take-append_seam}
use Rattle.std.proofs.lemmas.List.{take-append-le, length-append}
use Rattle.ledger_spec.specs.EutxoTypes.declared.output_ref.OutputRef.{OutputRef}
use Rattle.ledger_spec.proofs.FromLedgerLaws.PlainLaws.{no_more}
use Rattle.chain_index.specs.Contents.{is_among}
use Rattle.chain_index.specs.HolesSupport.{with_key}
use Rattle.chain_index.specs.PartsSupport.{IsFront}

pub same_front : {A : Type 0} (xs : List A) → IsFront xs xs
same_front xs = ([], sym (no_more xs))

pub front_more : {A : Type 0} (xs ys zs more : List A) → IsFront xs ys → zs ≡ ys ++ more → IsFront xs zs
front_more xs ys zs more f e = (f.0 ++ more, e ∙ ap (λ (l : List _). l ++ more) f.1 ∙ append_assoc xs f.0 more)

-- with one reference more, unless it is there already
pub with_front : (xs rs : List OutputRef) (r : OutputRef) → IsFront xs rs → IsFront xs (with_key rs r)
with_front xs rs r f = by (is_among rs r)
  where
    by : (b : Bool) → IsFront xs (if b then rs else rs ++ r ∷ [])
    by true = f
    by false = front_more xs rs (rs ++ r ∷ []) (r ∷ []) f refl

pub taken_back : {A : Type 0} (xs ys : List A) → IsFront xs ys → take (length xs) ys ≡ xs
taken_back xs ys f = ap (take (length xs)) f.1 ∙ take-append_seam xs f.0

pub front_kept : {A : Type 0} (n : ℕ) (xs ys : List A) → n ≤ length xs → IsFront xs ys → take n ys ≡ take n xs
front_kept n xs ys h f = ap (take n) f.1 ∙ take-append-le n xs f.0 h

pub longer : {A : Type 0} (n : ℕ) (xs ys : List A) → n ≤ length xs → IsFront xs ys → n ≤ length ys
longer n xs ys h f =
    let e = length-append xs f.0 in
    subst (λ (l : List _). n ≤ length l) (sym f.1) (omega (arith, h, e))
