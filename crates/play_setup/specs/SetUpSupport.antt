-- No reader needs this file: what holds while a play is set up, the invariants behind the clauses.
use Rattle.std.specs.Prelude.{◌≡◌, List, ◌++◌, map}
use Rattle.std.specs.List.{All, flat_map}
use Rattle.parties.specs.EutxoTypes.declared.output_ref.OutputRef.{OutputRef}
use Rattle.parties.specs.LedgerSpec.Roles.declared.published.Published.{Published}
use Rattle.parties.specs.Plans.declared.scenario.NamedThread.{NamedThread}
use Rattle.parties.specs.Answer.{Answer}
use Rattle.parties.specs.Seats.{SeatRecord, seat_record}
use Rattle.play_setup.specs.SetUp.{Told, told, Begun, Begins, starts, start_output}

-- the seat went on, and was told this
pub record WentOn (old new : SeatRecord) (all : List Told) : Type 0 where
  pub more : List Answer
  pub list : new ≡ seat_record old.number (old.answers ++ more)
  pub told_is : map told more ≡ all

-- one thread was started by the seat
pub record WasStarted (objects : List Published) (thread : NamedThread) (old new : SeatRecord) (output : OutputRef) : Type 0 where
  pub begun : Begun
  pub of : begun.thread ≡ thread
  pub begins : Begins objects begun
  pub output_is : output ≡ start_output begun
  pub seat : WentOn old new (starts begun)

-- all these threads were
pub record WereStarted (objects : List Published) (threads : List NamedThread) (old new : SeatRecord) (outputs : List OutputRef) : Type 0 where
  pub begun : List Begun
  pub of : map (λ (b : Begun). b.thread) begun ≡ threads
  pub begin : All (Begins objects) begun
  pub outputs_are : outputs ≡ map start_output begun
  pub seat : WentOn old new (flat_map starts begun)
