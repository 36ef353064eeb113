-- A session may go to another thread, as a box of its names may.
use mathlib.Core.Bool.{Bool, true, false}
use mir.Raw.{raw}
use base.Fraction.{full_share}
use base.Shift.{Keyless}
use denote.Exit.{Exit, unchanged, leaves, hidden, under}
use denote.Memory.{lone}
use denote.RattleType.{RattleType}
use denote.RawPtr.{Ptr, block_ptr, null_ptr, lies_at}
use denote.Struct.Struct.{exits_of}
use denote.Struct.Owning.{shape, fields, to}
use denote.Param.Send.{IsSend, AllSend, Quiet, part_keyless, owning_send, struct_send, sendable}
use Rattle.std.specs.Global.{Global}
use Rattle.std.proofs.Crossing as heap
use Rattle.std.proofs.alloc.Global.TheSendSync as handle
use Rattle.definitions.specs.contracts.definitions.Definitions as Names
use Rattle.marlowe_library.proofs.Crossing.{names_are_sent as names}
use Rattle.marlowe_library.specs.Held.{session_owns}
use Rattle.marlowe_library.specs.contracts.session.Session.{the_row, the_type}

quiet : {D X : Type 0} (to : D → X) (e : Exit X) → Quiet e → Quiet (hidden (under to e))
quiet to unchanged q = λ x w. tt
quiet to (leaves L l S s r₀) q = λ d. q (to d)

lies : (R : RattleType) → IsSend R → (p : Ptr) (x : R.Denot) → Keyless (lies_at R full_share p x)
lies R s (block_ptr b o) x = part_keyless R s full_share x b o
lies R s null_ptr x = tt

held : (is : Bool) (a : Global) (p : Ptr) (x : Names.the_row.Denot) → Keyless (session_owns is a p x)
held true a p x = (lies Names.the_row names p x, heap.frees.frees a (raw (lone Names.the_row.mir)) p)
held false a p x = tt

pub send : IsSend the_row
send =
    let all : AllSend (fields the_type) = (search sendable, (handle.the_field_send, tt)) in
    owning_send the_type all (λ d. held d.is_open d.alloc d.at d.names)
    (λ k. quiet (to the_type) (exits_of k (fields the_type)) ((struct_send (shape the_type) all).leaving k))
