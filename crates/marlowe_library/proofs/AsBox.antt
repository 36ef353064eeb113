-- A session that is open and its parts own what a box at the same types owns.
use mathlib.Core.Path.{◌≡◌, refl}
use mathlib.Core.List.{List, [], ◌∷◌}
use lib.Dec.{T}
use mir.Syntax.{Ty, impl, tnil, dnil}
use mir.Val.{Val, vstruct, vcons, vnil, has_ty, WT}
use denote.Laws.{Typed}
use denote.Signature.{Slot, plain}
use Rattle.std.proofs.BoxSteps.Form.{Bx}
use Rattle.std.specs.contracts.alloc.Global as Heap
use Rattle.std.specs.contracts.impls.GlobalAllocator.TheImpl.{ghosts, dict}
use Rattle.std.proofs.alloc.Global.TheLaws as heap
use Rattle.definitions.specs.contracts.definitions.Definitions as Names
use Rattle.definitions.proofs.definitions.Definitions.TheLaws as names
use Rattle.marlowe_library.specs.contracts.parts.Parts as Parts
use Rattle.marlowe_library.specs.contracts.session.Session as Session

abbrev pub E : Bx
E = record { row = Names.the_row; laws = names.the_row_laws; al = record { row = Heap.the_row; laws = heap.the_row_laws; g = ghosts; d = dict; drops = impl [] tnil dnil } }

abbrev pub FromParts : Slot 0
FromParts = plain (λ _. Parts.the_row Names.the_row Heap.the_row ghosts)

abbrev pub FromSession : Slot 0
FromSession = plain (λ _. Session.the_row)

-- one machine value of a type
abbrev pub Good : Ty → Val → Type 0
Good τ v = T (has_ty τ v) × WT v

pub one : (τ : Ty) (vs : List Val) → Typed (τ ∷ []) vs → (v : Val) × (vs ≡ v ∷ []) × Good τ v
one τ [] t = absurd t
one τ (v ∷ []) t = (v, refl, t.0)
one τ (v ∷ w ∷ vs) t = absurd t.1

-- a struct of two fields
abbrev pub both : Val → Val → Val
both v w = vstruct (vcons v (vcons w vnil))
