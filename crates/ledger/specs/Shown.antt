-- What a look holds of what the rules read of a ledger.
use Rattle.std.specs.Prelude.{ℕ, false, if◌then◌else◌, List, [], ◌∷◌, Option, Some, None}
use Rattle.roles.specs.EutxoTypes.declared.output.Output.{Output}
use Rattle.roles.specs.EutxoTypes.declared.output_ref.OutputRef.{OutputRef}
use Rattle.roles.specs.Eutxo.Judgement.{Moment}
use Rattle.roles.specs.EutxoTypes.Parts.{same_bytes, same_ref}
use Rattle.roles.specs.Eutxo.Faults.{or_else}
use Rattle.roles.specs.declared.published.Published.{Published}
use Rattle.ledger.specs.declared.look.Look.{Look}
use Rattle.ledger.specs.declared.look.ThreadOutput.{ThreadOutput}
use Rattle.ledger.specs.declared.look.Unspent.{Unspent}

-- of these outputs the first that a reference names
abbrev pub output_among : List Unspent → OutputRef → Option Output
output_among [] r = None
output_among (x ∷ xs) r = if same_ref x.reference r then Some x.output else output_among xs r

-- the thread's output, where the reference names it
abbrev pub output_of_thread : Option ThreadOutput → OutputRef → Option Output
output_of_thread None r = None
output_of_thread (Some x) r = if same_ref x.reference r then Some x.output else None

-- the output that a reference names: the thread's, or one of the keys, or one of the payouts
abbrev pub output_shown : Look → OutputRef → Option Output
output_shown look r = or_else (output_of_thread look.thread r) (or_else (output_among look.keys r) (output_among look.payouts r))

-- what is published under an id: the thread's script, where it has this id
abbrev pub script_shown : Option ThreadOutput → List ℕ → Option Published
script_shown None id = None
script_shown (Some x) id = if same_bytes x.published.id id then Some x.published else None

-- all that a look holds of a ledger at its moment. Of the ids in use it tells nothing
abbrev pub look_moment : Look → Moment Published
look_moment look = record { unspent = output_shown look; published = script_shown look.thread; is_used = λ id. false; tick = look.tick }
