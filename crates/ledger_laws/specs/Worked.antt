-- The definitions on small lists of transactions.
use Rattle.std.specs.Prelude.{◌≡◌, true, false, List, [], ◌∷◌, Option, Some, None}
use Rattle.contract.specs.declared.input.Input.{Input}
use Rattle.roles.specs.EutxoTypes.declared.output.Output.{Output}
use Rattle.roles.specs.EutxoTypes.declared.output_ref.OutputRef.{OutputRef}
use Rattle.roles.specs.EutxoTypes.declared.output_ref.OutputRef.TheVariants.{Genesis, Made}
use Rattle.roles.specs.EutxoTypes.declared.redeemer.Redeemer.TheVariants.{Step}
use Rattle.roles.specs.EutxoTypes.declared.spend.Spend.{Spend}
use Rattle.roles.specs.EutxoTypes.declared.tx.Tx.{Tx}
use Rattle.roles.specs.EutxoTypes.Ids.{id_of}
use Rattle.roles.specs.EutxoTypes.Parts.{same_ref, given_to}
use Rattle.ledger_laws.specs.Past.{Past, is_input_of, unspent_at}
use Rattle.ledger_laws.specs.Threads.{spine_by, ends_by}

-- where a thread stands next, as a row says it
abbrev pub Next : Type 0
Next = OutputRef → Tx → Option OutputRef

-- where nobody spends an output, its thread has no members, and ends there
abbrev pub NobodyCame : Type 0
NobodyCame = (next : Next) (r : OutputRef) (tx : Tx) → is_input_of r tx ≡ false → (spine_by next (Some r) (tx ∷ []) ≡ []) × (ends_by next (Some r) (spine_by next (Some r) (tx ∷ [])) ≡ Some r)

-- two transactions, the second of which spends the output in which the first goes on: the thread goes on, and is over where the second
-- goes on in none
abbrev pub TwoSteps : Type 0
TwoSteps =
    (next : Next) (r q : OutputRef) (a b : Tx) → is_input_of r a ≡ true → next r a ≡ Some q → is_input_of q b ≡ true → next q b ≡ None →
    (spine_by next (Some r) (a ∷ b ∷ []) ≡ record { spends = r; tx = a } ∷ record { spends = q; tx = b } ∷ [])
    × (ends_by next (Some r) (spine_by next (Some r) (a ∷ b ∷ [])) ≡ None)

-- what comes after a thread is over is none of its members, whatever it names
abbrev pub NoneAfterTheEnd : Type 0
NoneAfterTheEnd = (next : Next) (r : OutputRef) (a b : Tx) → is_input_of r a ≡ true → next r a ≡ None → spine_by next (Some r) (a ∷ b ∷ []) ≡ record { spends = r; tx = a } ∷ []

-- of two steps in a transaction, an output is given the inputs of the one that names it
abbrev pub GivenByName : Type 0
GivenByName =
    (p q : OutputRef) (xs ys : List Input) → same_ref p q ≡ false →
    given_to q (record { reference = p; redeemer = Step xs } ∷ record { reference = q; redeemer = Step ys } ∷ []) ≡ Some ys

-- a transaction that spends the one output that there was leaves the one that it makes
abbrev pub OneMoves : Type 0
OneMoves =
    (first made : Output) (tx : Tx) (x : Spend) → tx.inputs ≡ x ∷ [] → x.reference ≡ Genesis 0 → tx.outputs ≡ made ∷ [] →
    let past : Past = record { genesis = first ∷ []; accepted = tx ∷ [] } in
    (unspent_at past (Genesis 0) ≡ None) × (unspent_at past (Made (id_of tx) 0) ≡ Some made)
