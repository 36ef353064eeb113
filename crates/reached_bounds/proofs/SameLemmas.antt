-- Tests of sameness, as calls answer them.
use Rattle.std.proofs.Common.{◌≡◌, Bool, true, false, refl, sym}
use Rattle.std.specs.Prelude.{◌↔◌, IsTrue}
use Rattle.contract.specs.Names.declared.party.Party.{Party}
use Rattle.contract.specs.Names.declared.token.Token.{Token}
use Rattle.contract.specs.Names.Equal.{same_party, same_token}
use Rattle.contract.specs.Names.Laws.{TellsApart}
use Rattle.contract.proofs.FromNames.EqualLaws.{same_party_decides, same_token_decides}

decided : {X : Type 0} (same : X → X → Bool) → TellsApart same → (a b : X) (r : Bool) → (IsTrue r ↔ (a ≡ b)) → r ≡ same a b
decided same d a b true h = sym ((d a b).1 (h.0 refl))
decided same d a b false h = by (same a b) refl
  where
    by : (s : Bool) → same a b ≡ s → false ≡ same a b
    by true e = absurd (let q : false ≡ true = h.1 ((d a b).0 e) in cc)
    by false e = sym e

pub party_so : (a b : Party) (r : Bool) → (IsTrue r ↔ (a ≡ b)) → r ≡ same_party a b
party_so = decided same_party same_party_decides

pub token_so : (a b : Token) (r : Bool) → (IsTrue r ↔ (a ≡ b)) → r ≡ same_token a b
token_so = decided same_token same_token_decides
