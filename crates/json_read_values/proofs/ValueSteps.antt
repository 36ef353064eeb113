-- One step of reading a value or an observation, by what the members stand for.
use Rattle.std.proofs.Common.{◌≡◌, ℕ, List, refl}
use Rattle.std.specs.Ordering.{nat_cmp}
use Rattle.std.specs.Cmp.Lexicographic.{slice_cmp}
use Rattle.serde_json.specs.Data.{Data, null, boolean, number, string, array, object, Members, no_members, member}
use Rattle.serde_json.specs.Find.{get_member}
use Rattle.json_read_names.specs.Forms.{value_form, observation_form}
use Rattle.contract.specs.Collections.Answers.{◌>>=◌}
use Rattle.json_read_names.specs.Parts.{needed, reading_at}
use Rattle.json_read_names.proofs.ListLaws.{read_found}
use Rattle.json_read_values.specs.ReadsValue.{value_by, observation_by, value, value_in, observation, observation_in}

value_in-found : (key : List ℕ) (ms : Members) → value_in key ms ≡ (needed (get_member key ms) >>= value)
unfolding value
value_in-found key no_members = refl
value_in-found key (member k d ms) = read_found (slice_cmp nat_cmp key k) (value_in key ms) (get_member key ms) d value (value_in-found key ms)

observation_in-found : (key : List ℕ) (ms : Members) → observation_in key ms ≡ (needed (get_member key ms) >>= observation)
unfolding value
observation_in-found key no_members = refl
observation_in-found key (member k d ms) = read_found (slice_cmp nat_cmp key k) (observation_in key ms) (get_member key ms) d observation (observation_in-found key ms)

pub value-step : (d : Data) → value d ≡ value_by (value_form d) d (reading_at value d) (reading_at observation d)
unfolding value
value-step null = refl
value-step (boolean b) = refl
value-step (number n) = refl
value-step (string s) = refl
value-step (array ds) = refl
value-step (object ms) = λ i. value_by (value_form (object ms)) (object ms) (λ key. value_in-found key ms i) (λ key. observation_in-found key ms i)

pub observation-step : (d : Data) → observation d ≡ observation_by (observation_form d) d (reading_at value d) (reading_at observation d)
unfolding value
observation-step null = refl
observation-step (boolean b) = refl
observation-step (number n) = refl
observation-step (string s) = refl
observation-step (array ds) = refl
observation-step (object ms) = λ i. observation_by (observation_form (object ms)) (object ms) (λ key. value_in-found key ms i) (λ key. observation_in-found key ms i)

pub ruleset value_steps = (value-step, observation-step)
