-- No reader needs this file: it serves the proofs of this crate and those above it.
-- JSON values that read as they were once they were written.
use Rattle.std.specs.Prelude.{◌≡◌, ℤ, pos, negsuc, ◌^◌, ◌<◌, ⊤, FitsSigned}
use Rattle.std.specs.Int.{w128}
use Rattle.serde_json.specs.Data.{Num, unsigned, negative, float, Data, null, boolean, number, string, array, object, Items, no_items, item, Members, no_members, member, put}

-- the members go in one after another
abbrev pub each_put : Members → Members → Members
each_put no_members old = old
each_put (member k d ms) old = each_put ms (put k d old)

-- a number that is no float, within its range
abbrev pub IsWhole : Num → Type 0
IsWhole (unsigned n) = n < 2 ^ 64
IsWhole (negative (pos n)) = ⊥
IsWhole (negative (negsuc n)) = n < 2 ^ 63
IsWhole (float x) = ⊥

-- its numbers are whole, and the keys of its objects rise
abbrev mutual
  pub Readable : Data → Type 0
  Readable null = ⊤
  Readable (boolean b) = ⊤
  Readable (number n) = IsWhole n
  Readable (string s) = ⊤
  Readable (array ds) = ItemsReadable ds
  Readable (object ms) = MembersReadable ms × (each_put ms no_members ≡ ms)

  pub ItemsReadable : Items → Type 0
  ItemsReadable no_items = ⊤
  ItemsReadable (item d ds) = Readable d × ItemsReadable ds

  pub MembersReadable : Members → Type 0
  MembersReadable no_members = ⊤
  MembersReadable (member k d ms) = Readable d × MembersReadable ms

-- the number of an entry has 128 bits
abbrev pub HasBits : {K : Type 0} → K × ℤ → Type 0
HasBits e = FitsSigned w128 e.1
