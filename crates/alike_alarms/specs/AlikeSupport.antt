-- Alarms as the code has them. It serves proofs alone.
use Rattle.std.specs.Prelude.{◌≡◌, ◌<◌, ℕ, List, length, get_or, take, ◌⊎◌}
use Rattle.contract.specs.Tree.{ContractTree, contract_tree, action_tree}
use Rattle.alike_alarms.specs.declared.seen.Seen.{Seen}
use Rattle.alike_alarms.specs.declared.parts.Part as parts
use Rattle.alike_alarms.specs.declared.parts.Part.TheVariants.{Whole, OfAction}
use Rattle.alike_alarms.specs.Alike.{Part, whole, of_action, SeenAlarm, Leads, count_of}

abbrev pub seen_of : Seen → SeenAlarm
seen_of s = (s.alarm.now, s.has_run)

abbrev pub part_of : parts.Part → Part
part_of (Whole c) = whole (contract_tree c.now)
part_of (OfAction k) = of_action (action_tree k.now.action) (contract_tree k.now.then)

-- a guess that is taken: of itself, or of one that leads this one and whose guess is itself
pub record IsChosen (c : ContractTree) (all : List Seen) (guesses : List ℕ) (i n : ℕ) : Type 0 where
  pub there : n < length all
  pub itself : get_or guesses i i ≡ i → n ≡ i
  pub leads : (n ≡ i) ⊎ ((get_or guesses n n ≡ n) × ((a b : Seen) → a ≡ get_or all n a → b ≡ get_or all i b → Leads c n i (seen_of a) (seen_of b)))

-- a guess that may be taken
abbrev pub CanTell : ContractTree → List Seen → List ℕ → ℕ → ℕ → Type 0
CanTell c all guesses i n = (n < length all) × (get_or guesses n n ≡ n) × ((a b : Seen) → a ≡ get_or all n a → b ≡ get_or all i b → Leads c n i (seen_of a) (seen_of b))

-- .. of each of those before an index
abbrev pub AreChosen : ContractTree → List Seen → List ℕ → List ℕ → ℕ → Type 0
AreChosen c all guesses tellers n = (length tellers ≡ n) × ((i : ℕ) → i < n → IsChosen c all guesses i (get_or tellers i i))

-- how many alarms each is told for, of those before an index
abbrev pub CountUpTo : List ℕ → List ℕ → ℕ → Type 0
CountUpTo tellers counts n = (i : ℕ) → i < length tellers → get_or counts i 0 ≡ count_of (take n tellers) i

abbrev pub AreCounts : List ℕ → List ℕ → Type 0
AreCounts tellers counts = (length counts ≡ length tellers) × ((i : ℕ) → i < length tellers → get_or counts i 0 ≡ count_of tellers i)
