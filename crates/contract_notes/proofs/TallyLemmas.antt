-- Parties behind parties.
use Rattle.std.proofs.Common.{◌≡◌, List, [], ◌∷◌, ◌++◌, append_assoc, ap, ◌∙◌}
use Rattle.contract.specs.Names.declared.party.Party.{Party}

-- two parties, and then others
pub two_and_more : (a b c d : List Party) (p q : Party) (x : List Party) → b ≡ a ++ p ∷ [] → c ≡ b ++ q ∷ [] → d ≡ c ++ x → d ≡ a ++ p ∷ q ∷ x
two_and_more a b c d p q x e f g =
    g ∙ ap (λ z. z ++ x) (f ∙ ap (λ z. z ++ q ∷ []) e ∙ append_assoc a (p ∷ []) (q ∷ [])) ∙ append_assoc a (p ∷ q ∷ []) x

pub two_with_more : (a b c : List Party) (p q : Party) (x y : List Party) → b ≡ a ++ p ∷ q ∷ x → c ≡ b ++ y → c ≡ a ++ p ∷ q ∷ (x ++ y)
two_with_more a b c p q x y e f = f ∙ ap (λ z. z ++ y) e ∙ append_assoc a (p ∷ q ∷ x) y
