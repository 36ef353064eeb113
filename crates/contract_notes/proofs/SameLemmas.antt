-- Tests of sameness, as calls answer them.
use Rattle.std.proofs.Common.{◌≡◌, Bool, List, ℕ}
use Rattle.std.specs.Prelude.{◌↔◌, IsTrue}
use Rattle.std.specs.Bool.{one_answer}
use Rattle.contract.specs.Names.declared.choice_id.ChoiceId.{ChoiceId}
use Rattle.contract.specs.Names.Equal.{same_text, same_choice_id}
use Rattle.contract.proofs.FromNames.EqualLaws.{same_text_decides, same_choice_id_decides}

pub text_so : (a b : List ℕ) (r : Bool) → (IsTrue r ↔ (a ≡ b)) → r ≡ same_text a b
text_so a b r h = one_answer {P = a ≡ b} r (same_text a b) h (same_text_decides a b)

pub choice_so : (a b : ChoiceId) (r : Bool) → (IsTrue r ↔ (a ≡ b)) → r ≡ same_choice_id a b
choice_so a b r h = one_answer {P = a ≡ b} r (same_choice_id a b) h (same_choice_id_decides a b)
