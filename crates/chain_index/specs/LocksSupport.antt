-- No reader needs this file: references of outputs, listed by the locks that the outputs are under.
use Rattle.std.specs.Prelude.{◌≡◌, Bool, false, not, ◌&&◌, ◌||◌, List, [], Option, Some, None}
use Rattle.std.specs.Map.{lookup}
use Rattle.ledger_spec.specs.EutxoTypes.declared.lock.Lock.{Lock}
use Rattle.ledger_spec.specs.EutxoTypes.declared.lock.Lock.TheVariants.{Key, Payout, Contract}
use Rattle.ledger_spec.specs.EutxoTypes.declared.output.Output.{Output}
use Rattle.ledger_spec.specs.EutxoTypes.declared.output_ref.OutputRef.{OutputRef}
use Rattle.ledger_spec.specs.EutxoTypes.Parts.{same_bytes, same_ref}
use Rattle.indexmap.specs.IndexSet.{IndexSet}
use Rattle.chain_index.specs.declared.lock_name.LockName.{LockName}
use Rattle.chain_index.specs.declared.lock_name.LockName.TheVariants.{Address, Role}
use Rattle.chain_index.specs.Contents.{is_among}

-- ---- names

-- what outputs under a lock are looked up by; those under a contract's aren't
abbrev pub name_in : Lock → Option LockName
name_in (Key a) = Some (Address a)
name_in (Payout currency role) = Some (Role currency role)
name_in (Contract script d) = None

abbrev pub same_name : LockName → LockName → Bool
same_name (Address a) (Address b) = same_bytes a b
same_name (Role c r) (Role d s) = same_bytes c d && same_bytes r s
same_name (Address a) (Role d s) = false
same_name (Role c r) (Address b) = false

abbrev pub is_name : LockName → Option LockName → Bool
is_name n None = false
is_name n (Some m) = same_name n m

-- whether a lock has this name
abbrev pub is_named : LockName → Lock → Bool
is_named n lock = is_name n (name_in lock)

-- the name that an output is under, where it is there
abbrev pub name_under : Option Output → Option LockName
name_under None = None
name_under (Some o) = name_in o.lock

abbrev pub is_under : LockName → Option Output → Bool
is_under n o = is_name n (name_under o)

-- ---- what is listed

abbrev pub refs_in : {S : Type 0} → Option (IndexSet OutputRef S) → List OutputRef
refs_in None = []
refs_in (Some refs) = refs.keys

-- the references under a name
abbrev pub refs_under : {S : Type 0} → List (LockName × IndexSet OutputRef S) → LockName → List OutputRef
refs_under m n = refs_in (lookup (same_name n) m)

abbrev pub is_listed : {S : Type 0} → List (LockName × IndexSet OutputRef S) → LockName → OutputRef → Bool
is_listed m n r = is_among (refs_under m n) r

-- listed are just the outputs that are there, each under its name
abbrev pub AreListed : {S : Type 0} → List (LockName × IndexSet OutputRef S) → List (OutputRef × Output) → Type 0
AreListed m es = (n : LockName) (r : OutputRef) → is_listed m n r ≡ is_under n (lookup (same_ref r) es)

-- the same is listed
abbrev pub IsListedAlike : {S : Type 0} → List (LockName × IndexSet OutputRef S) → List (LockName × IndexSet OutputRef S) → Type 0
IsListedAlike old new = (n : LockName) (r : OutputRef) → is_listed new n r ≡ is_listed old n r

-- and under this name, where it is one, a reference more
abbrev pub ListsMore : {S : Type 0} → Option LockName → OutputRef → List (LockName × IndexSet OutputRef S) → List (LockName × IndexSet OutputRef S) → Type 0
ListsMore name q old new = (n : LockName) (r : OutputRef) → is_listed new n r ≡ ((is_name n name && same_ref q r) || is_listed old n r)

-- but under this name, where it is one, no more a reference
abbrev pub ListsLess : {S : Type 0} → Option LockName → OutputRef → List (LockName × IndexSet OutputRef S) → List (LockName × IndexSet OutputRef S) → Type 0
ListsLess name q old new = (n : LockName) (r : OutputRef) → is_listed new n r ≡ (not (is_name n name && same_ref q r) && is_listed old n r)
