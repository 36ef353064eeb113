-- No reader needs this file: it serves private functions. What is made of two numbers of a table.
use Rattle.std.specs.Prelude.{◌≡◌, ℕ}
use Rattle.contract.specs.declared.value.Value.{Value}
use Rattle.contract.specs.declared.value.Observation.{Observation}
use Rattle.contract.specs.Tree as trees
use Rattle.table.specs.Flat as flat
use Rattle.table.specs.Flat.{Flat}

-- the values, and the observations, for which they stand
abbrev pub AreValuesAt : Flat → ℕ → ℕ → Value × Value → Type 0
AreValuesAt f a b made = (trees.value_tree made.0 ≡ flat.value_tree f a) × (trees.value_tree made.1 ≡ flat.value_tree f b)

abbrev pub AreObservationsAt : Flat → ℕ → ℕ → Observation × Observation → Type 0
AreObservationsAt f a b made = (trees.observation_tree made.0 ≡ flat.observation_tree f a) × (trees.observation_tree made.1 ≡ flat.observation_tree f b)
