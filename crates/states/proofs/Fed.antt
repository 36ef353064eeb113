-- What a hasher is fed one after the other is what it is fed together.
use Rattle.std.proofs.Common.{◌≡◌, List, ◌++◌, sym, ◌∙◌, ap}
use Rattle.std.specs.List.{fold}
use Rattle.std.proofs.lemmas.List.Sums.{fold-append}

pub fed_together : {A S : Type 0} (write : S → A → S) (a b c d e : S) (w x y z : List A) → b ≡ fold write a w → c ≡ fold write b x → d ≡ fold write c y → e ≡ fold write d z
    → e ≡ fold write a (w ++ x ++ y ++ z)
fed_together write a b c d e w x y z p q r s =
    s ∙ ap (λ n. fold write n z) (r ∙ ap (λ n. fold write n y) (q ∙ ap (λ n. fold write n x) p ∙ sym (fold-append write a w x)) ∙ sym (fold-append write a (w ++ x) y))
    ∙ sym (fold-append write a (w ++ x ++ y) z)
