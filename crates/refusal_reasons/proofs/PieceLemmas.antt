-- What is explained of a transaction that is a piece of a text.
use Rattle.std.proofs.Common.{◌≡◌, ℕ, List, Some, Result, Ok, Err, IfOk}
use Rattle.std.specs.Prelude.{slice_get}
use Rattle.std.specs.Borrow.{Bor}
use Rattle.std.specs.declared.vec.Vec.{Vec}
use Rattle.std.specs.declared.alloc.Global.{Global}
use Rattle.explanations.specs.JsonForms.declared.sort.Sort.TheVariants as sorts
use Rattle.refusal_reasons.specs.declared.source.Sources.{Sources}
use Rattle.explanations.specs.JsonMembers.declared.spelling.Spelling.{Spelling}
use Rattle.refusal_reasons.specs.Reasons.{within, TellsText, TellsPieceOf, TellsPiece}

-- of a piece under its path
pub piece_told : {F : Type 0} (w : Spelling) (path piece : List ℕ) (made : Result (Vec ℕ Global) F)
    → IfOk made (λ lines. TellsText (within 127 w) path piece sorts.Transaction lines.items) → IfOk made (λ lines. TellsPieceOf w path lines.items)
piece_told w path piece (Ok lines) told = record { piece = piece; tells = told }
piece_told w path piece (Err fault) told = tt

-- .. which is one of these
pub source_told : {F : Type 0} (w : Spelling) (sources : Sources) (index : ℕ) (path : Bor (List ℕ)) (made : Result (Vec ℕ Global) F) → slice_get sources.paths.now index ≡ Some path
    → IfOk made (λ lines. TellsPieceOf w path.now lines.items) → IfOk made (λ lines. TellsPiece w sources lines.items)
source_told w sources index path (Ok lines) at told = record { index = index; path = path; is_there = at; tells = told }
source_told w sources index path (Err fault) at told = tt
