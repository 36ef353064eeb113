-- What isn't read is no matter: another number for it changes neither a value nor an observation.
use Rattle.std.specs.Prelude.{◌≡◌, ℕ, false, is_some, List}
use Rattle.std.specs.FinMap.{get}
use Rattle.contract.specs.Names.declared.choice_id.ChoiceId.{ChoiceId}
use Rattle.contract.specs.declared.interval.Interval.{Interval}
use Rattle.contract.specs.Tree.{ValueTree, ObservationTree}
use Rattle.contract.specs.States.States.{StateMaps}
use Rattle.semantics.specs.Evaluation.Evaluation.{eval, holds}
use Rattle.contract_notes.specs.declared.note.Source.{Source}
use Rattle.contract_notes.specs.declared.note.Source.TheVariants.{Name, Choice}
use Rattle.contract_notes.specs.Reads.{same_source, reads, looks_at}

-- two states that differ in the number of one name or choice alone
pub record DifferIn (a : Source) (s z : StateMaps) : Type 0 where
  pub accounts : z.accounts ≡ s.accounts
  pub names : (x : List ℕ) → same_source a (Name x) ≡ false → get z.bound_values x ≡ get s.bound_values x
  pub choices : (id : ChoiceId) → same_source a (Choice id) ≡ false → get z.choices id ≡ get s.choices id
  pub made : (id : ChoiceId) → is_some (get z.choices id) ≡ is_some (get s.choices id)

abbrev pub UnreadIsNoMatter : Type 0
UnreadIsNoMatter =
    (a : Source) (i : Interval) (s z : StateMaps) → DifferIn a s z
    → ((v : ValueTree) → reads a v ≡ false → eval i z v ≡ eval i s v) × ((o : ObservationTree) → looks_at a o ≡ false → holds i z o ≡ holds i s o)
