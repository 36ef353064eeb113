-- Alarms of one kind at equal parts of a contract: one of them is told in full, and of the others how many there are.
use Rattle.std.specs.Prelude.{◌≡◌, ◌<◌, ◌-◌, ℕ, zero, suc, ◌==◌, Bool, true, if◌then◌else◌, List, [], ◌∷◌, map, length, get_or, Option, Some, None, ◌⊎◌}
use Rattle.std.specs.List.{filter, range_with_len}
use Rattle.contract.specs.Tree.{ActionTree, ContractTree, CaseTrees, when, no_cases, case_then}
use Rattle.analysis_spec.specs.declared.alarm.Alarm.{Alarm}
use Rattle.analysis_spec.specs.declared.path.PathStep.{PathStep}
use Rattle.analysis_spec.specs.declared.path.PathStep.TheVariants.{Action}
use Rattle.analysis_spec.specs.Places.{part_behind}

-- what stands at a place: a contract, or where the place is an action its case, with what follows
pub data Part : Type 0 where
  whole : ContractTree → Part
  of_action : ActionTree → ContractTree → Part

abbrev pub case_at : CaseTrees → ℕ → Option Part
case_at no_cases n = None
case_at (case_then a c ks) zero = Some (of_action a c)
case_at (case_then a c ks) (suc n) = case_at ks n

abbrev pub case_of : ContractTree → PathStep → Option Part
case_of (when ks t c) (Action n) = case_at ks n
case_of c step = None

abbrev pub behind : (ContractTree → Option Part) → Option Part → Option ContractTree → Option Part
behind f last None = last
behind f last (Some c) = f c

-- the part at a place
abbrev pub part_at : List PathStep → ContractTree → Option Part
part_at [] c = Some (whole c)
part_at (step ∷ place) c = behind (part_at place) (case_of c step) (part_behind c step)

-- two alarms are of one kind, at equal parts
pub record AreAlike (c : ContractTree) (a b : Alarm) : Type 0 where
  pub kind : a.kind ≡ b.kind
  pub part : Part
  pub here : part_at a.place c ≡ Some part
  pub there : part_at b.place c ≡ Some part

-- an alarm, and whether it has a run
abbrev pub SeenAlarm : Type 0
SeenAlarm = Alarm × Bool

-- one, at an index, is told for another: they are alike, it has a run where the other has one, and it stands before the other unless it
-- alone has one
abbrev pub Leads : ContractTree → ℕ → ℕ → SeenAlarm → SeenAlarm → Type 0
Leads c n i a b = AreAlike c a.0 b.0 × (b.1 ≡ true → a.1 ≡ true) × (a.1 ≡ b.1 → n < i)

-- an alarm is told by one: that is told itself, and it is this one or leads it. So it is the first that has a run of all that are told by
-- it, or the first where none has one
pub record IsToldBy (c : ContractTree) (all : List SeenAlarm) (tellers : List ℕ) (i n : ℕ) : Type 0 where
  pub there : n < length all
  pub itself : get_or tellers n n ≡ n
  pub leads : (a b : SeenAlarm) → a ≡ get_or all n a → b ≡ get_or all i b → (n ≡ i) ⊎ Leads c n i a b

-- .. each of them, by the one at the index that stands in its place
abbrev pub AreToldBy : ContractTree → List SeenAlarm → List ℕ → Type 0
AreToldBy c all tellers = (length tellers ≡ length all) × ((i : ℕ) → i < length all → IsToldBy c all tellers i (get_or tellers i i))

-- how many are told by one, itself too
abbrev pub count_of : List ℕ → ℕ → ℕ
count_of tellers n = length (filter (λ t. t == n) tellers)

-- of one that is told itself how many others are told with it, and else none
abbrev pub head_at : List ℕ → ℕ → Option ℕ
head_at tellers i = if get_or tellers i i == i then Some (count_of tellers i - 1) else None

abbrev pub heads : List ℕ → List (Option ℕ)
heads tellers = map (head_at tellers) (range_with_len 0 (length tellers))

-- of each alarm: how many others are told with it, or none where it is told with another
abbrev pub AreHeads : ContractTree → List SeenAlarm → List (Option ℕ) → Type 0
AreHeads c all found = (tellers : List ℕ) × AreToldBy c all tellers × (found ≡ heads tellers)
