-- No reader needs this file: equal time locks answer alike, as `impl Validator` has to show.
use Rattle.std.proofs.Common.{◌≡◌, ℕ, ℤ, Bool, true, false, ◌&&◌, List, refl, ap, ◌∙◌}
use Rattle.std.specs.Cmp.{signed_Decides}
use Rattle.std.specs.Cmp.Lexicographic.{bytes_decides}
use Rattle.std.specs.Ordering.{int_eq}
use Rattle.contract.specs.Names.Equal.{same_text}
use Rattle.chain.specs.LedgerSpec.Eutxo.Asked.{Stepping}
use Rattle.uses.specs.declared.other_script.TimeLock.{TimeLock}
use Rattle.uses.specs.TimeLocks.{lock_answer}

both : (a b : Bool) → a && b ≡ true → (a ≡ true) × (b ≡ true)
both true b h = (refl, h)
both false b h = cc

same_lock : (x y : TimeLock) → x.owner ≡ y.owner → x.from ≡ y.from → x ≡ y
same_lock x y o f =
    ap (λ (z : List ℕ). let l : TimeLock = record { owner = z; from = x.from } in l) o
    ∙ ap (λ (z : ℤ). let l : TimeLock = record { owner = y.owner; from = z } in l) f

pub answers_alike : (x y : TimeLock) → same_text x.owner y.owner && int_eq x.from y.from ≡ true → (s : Stepping) → lock_answer x s ≡ lock_answer y s
answers_alike x y e s =
    let p = both (same_text x.owner y.owner) (int_eq x.from y.from) e in
    ap (λ (l : TimeLock). lock_answer l s) (same_lock x y ((bytes_decides x.owner y.owner).0 p.0) ((signed_Decides x.from y.from).0 p.1))
