-- What a session owns.
use base.Fml.{Fml, ftrue}
use base.Stored.{Coded}
use denote.RawPtr.{Ptr}
use Rattle.std.specs.Prelude.{Bool, true, false}
use Rattle.std.specs.Box.Ownership.{box_owns}
use Rattle.std.specs.Global.{Global}
use Rattle.std.specs.contracts.impls.GlobalAllocator.TheImpl.{ghosts}
use Rattle.definitions.specs.contracts.definitions.Definitions.{the_row}

-- the same as a box of its names, where it is open, and else nothing
abbrev pub session_owns : Bool → Global → Ptr → the_row.Denot → Fml
session_owns true alloc p names = box_owns (ghosts.dealloc_token alloc) the_row p names
session_owns false alloc p names = ftrue

abbrev pub names_coded : Coded the_row.Denot
names_coded = the_row.coded
