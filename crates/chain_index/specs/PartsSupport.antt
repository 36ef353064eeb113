-- No reader needs this file: the lists that an index keeps, which only grow until it is settled, and its invariant.
use Rattle.std.specs.Prelude.{◌≡◌, ℕ, ◌≤◌, ◌||◌, if◌then◌else◌, true, Option, Some, None, List, [], ◌∷◌, ◌++◌, take, map, length}
use Rattle.std.specs.List.{list_any}
use Rattle.std.specs.Map.{keys_of, values_of}
use Rattle.ledger_spec.specs.Machine.declared.datum.Datum.{Datum}
use Rattle.ledger_spec.specs.EutxoTypes.declared.output.Output.{Output}
use Rattle.ledger_spec.specs.EutxoTypes.declared.output_ref.OutputRef.{OutputRef}
use Rattle.ledger_spec.specs.EutxoTypes.declared.output_ref.OutputRef.TheVariants.{Genesis, Made}
use Rattle.ledger_spec.specs.EutxoTypes.declared.spend.Spend.{Spend}
use Rattle.ledger_spec.specs.EutxoTypes.declared.tx.Tx.{Tx}
use Rattle.ledger_spec.specs.EutxoTypes.Ids.{id_of}
use Rattle.ledger_spec.specs.EutxoTypes.Parts.{Instance, same_ref}
use Rattle.ledger_spec.specs.Eutxo.Blocks.{places_in}
use Rattle.ledger_spec.specs.Roles.declared.published.Published.{Published}
use Rattle.ledger_spec.specs.LedgerLaws.Past.{with_references, created_by}
use Rattle.ledger_spec.specs.Views.{starts_in}
use Rattle.chain_index.specs.declared.moves.Move.{Move}
use Rattle.chain_index.specs.declared.parts.Sizes.{Sizes}
use Rattle.chain_index.specs.Contents.{Contents, Indexed, blocks_in, is_used, is_among}
use Rattle.chain_index.specs.HolesSupport.{live, staying, known}
use Rattle.chain_index.specs.Moves.{moves_to, starts_by}
use Rattle.chain_index.specs.Data.{data_by}
use Rattle.chain_index.specs.NamingSupport.{slots}

pub record Parts : Type 0 where
  -- outputs in order of creation; a hole where one was spent
  pub entries : List (OutputRef × Option Output)
  -- the references that were spent since it was last settled
  pub leaving : List OutputRef
  pub ids : List (List ℕ)
  pub objects : List Published
  pub moves : List (OutputRef × Move)
  pub starts : List OutputRef
  -- data of contract outputs in order of creation; a hole where one was spent
  pub datums : List (OutputRef × Option Datum)

-- what they are
abbrev pub contents_in : Parts → Contents
contents_in p =
    record { unspent = staying p.leaving (live p.entries); used = p.ids; published = p.objects; moves = p.moves; starts = p.starts; datums = staying p.leaving (live p.datums) }

abbrev pub no_parts : Parts
no_parts = record { entries = []; leaving = []; ids = []; objects = []; moves = []; starts = []; datums = [] }

abbrev pub first_parts : List Output → Parts
first_parts genesis = record no_parts { entries = slots (with_references (λ i. Genesis i) 0 genesis) }

abbrev pub sizes_of : Parts → Sizes
sizes_of p =
    record { entries = length p.entries; leaving = length p.leaving; ids = length p.ids; objects = length p.objects; moves = length p.moves; starts = length p.starts; datums = length p.datums }

-- their fronts of these sizes
abbrev pub front : Sizes → Parts → Parts
front s p =
    record {
      entries = take s.entries p.entries;
      leaving = take s.leaving p.leaving;
      ids = take s.ids p.ids;
      objects = take s.objects p.objects;
      moves = take s.moves p.moves;
      starts = take s.starts p.starts;
      datums = take s.datums p.datums;
    }

-- xs is a front of ys
abbrev pub IsFront : {A : Type 0} → List A → List A → Type 0
IsFront {A} xs ys = (rest : List A) × (ys ≡ xs ++ rest)

-- what came was added
pub record IsGrown (old new : Parts) : Type 0 where
  pub entries : IsFront old.entries new.entries
  pub leaving : IsFront old.leaving new.leaving
  pub ids : IsFront old.ids new.ids
  pub objects : IsFront old.objects new.objects
  pub moves : IsFront old.moves new.moves
  pub starts : IsFront old.starts new.starts
  pub datums : IsFront old.datums new.datums

-- what these inputs spend leaves, too
abbrev pub LeaveWith : List Spend → List OutputRef → List OutputRef → Type 0
LeaveWith xs old new = (r : OutputRef) → is_among new r ≡ (list_any (λ x. same_ref x.reference r) xs || is_among old r)

-- the output at a place, where it starts a thread
abbrev pub one_start : List ℕ → Tx → ℕ → List OutputRef
one_start id tx i = if starts_in (Made id i) tx then Made id i ∷ [] else []

-- the datum of the contract in an output, where there is one
abbrev pub one_datum : OutputRef → Option Instance → List (OutputRef × Datum)
one_datum r None = []
one_datum r (Some c) = (r, c.datum) ∷ []

-- what one accepted transaction adds
pub record Takes (tx : Tx) (old new : Parts) : Type 0 where
  pub entries : new.entries ≡ old.entries ++ slots (created_by tx)
  pub leaving : LeaveWith tx.inputs old.leaving new.leaving
  pub ids : new.ids ≡ old.ids ++ id_of tx ∷ []
  pub objects : new.objects ≡ old.objects
  pub moves : new.moves ≡ old.moves ++ moves_to (length old.ids) tx tx.inputs (places_in (blocks_in (contents_in old) tx))
  pub starts : new.starts ≡ old.starts ++ starts_by tx
  pub datums : new.datums ≡ old.datums ++ slots (data_by tx)

-- ---- the invariant

-- the made outputs among these references are of used ids
abbrev pub AreUsed : List OutputRef → List (List ℕ) → Type 0
AreUsed rs ids = (id : List ℕ) (i : ℕ) → is_among rs (Made id i) ≡ true → is_used ids id ≡ true

-- so is each reference that has an entry or a datum, be it a hole, and each that leaves
pub record AreAllUsed (p : Parts) : Type 0 where
  pub entries : AreUsed (known p.entries) p.ids
  pub datums : AreUsed (known p.datums) p.ids
  pub leaving : AreUsed p.leaving p.ids

pub record AreThere (s : Sizes) (p : Parts) : Type 0 where
  pub entries : s.entries ≤ length p.entries
  pub leaving : s.leaving ≤ length p.leaving
  pub ids : s.ids ≤ length p.ids
  pub objects : s.objects ≤ length p.objects
  pub moves : s.moves ≤ length p.moves
  pub starts : s.starts ≤ length p.starts
  pub datums : s.datums ≤ length p.datums

-- now, and when it was last settled, when it had these sizes
pub record IsIndex (p : Parts) (s : Sizes) : Type 0 where
  pub present : AreAllUsed p
  pub settled : AreAllUsed (front s p)
  pub there : AreThere s p

-- each object is under its own id
abbrev pub AreNamed : List (List ℕ × Published) → Type 0
AreNamed es = keys_of es ≡ map (λ p. p.id) (values_of es)

abbrev pub indexed : Parts → Sizes → Indexed
indexed p s = record { settled = contents_in (front s p); present = contents_in p }
