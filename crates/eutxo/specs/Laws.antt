-- What holds of every judgement.
use Rattle.std.specs.Prelude.{◌≡◌, ◌≢◌, Bool, List, [], ◌∷◌, Option, Some, None}
use Rattle.std.specs.List.{AllByRecursion}
use Rattle.std.specs.declared.cmp.Ordering.TheVariants.{Less}
use Rattle.contract.specs.Names.declared.token.Token.{Token}
use Rattle.contract.specs.Names.Orders.{token_cmp}
use Rattle.eutxo_types.specs.Bundle.Bundles.{Amounts}
use Rattle.eutxo_types.specs.Bundle.Totals.{total_of}
use Rattle.eutxo_types.specs.Machine.declared.datum.Datum.{Datum}
use Rattle.eutxo_types.specs.declared.fault.TxFault.{TxFault}
use Rattle.eutxo_types.specs.declared.fault.TxFault.TheVariants.{NotPreserved}
use Rattle.eutxo_types.specs.declared.output.Output.{Output}
use Rattle.eutxo_types.specs.declared.spend.Spend.{Spend}
use Rattle.eutxo_types.specs.declared.tx.Tx.{Tx}
use Rattle.eutxo_types.specs.declared.verdict.Verdict.{Verdict}
use Rattle.eutxo_types.specs.declared.verdict.Verdict.TheVariants.{Refused}
use Rattle.eutxo.specs.declared.resolved.Resolved.{Resolved}
use Rattle.eutxo.specs.Asked.{Stepping, Judges}
use Rattle.eutxo.specs.Checks.{CheckOf, IsCheck}
use Rattle.eutxo.specs.Found.{script_at, with_outputs, if_known, AreEqual}
use Rattle.eutxo.specs.Judgement.{Moment, not_unspent, id_in_use, outside_interval, unknown_script, names_of, outputs_found, found, judge}
use Rattle.eutxo.specs.Blocks.{blocks_on, places_in}
use Rattle.eutxo.specs.Local.{tx_fault, whole_fault, local, places_of, verdict_of}
use Rattle.eutxo.specs.Faults.{first_of}
use Rattle.eutxo.specs.Rules.{not_preserved}

-- ---- resolutions

-- two scripts answer every step alike, and tell the same starts; or neither is there
abbrev pub AnswerAlike : {V : Type 0} → Judges V → Option V → Option V → Type 0
AnswerAlike j None None = Unit {0}
AnswerAlike j (Some v) (Some w) = ((s : Stepping) → j.step v s ≡ j.step w s) × ((d : Datum) (held : Amounts) → j.starts v d held ≡ j.starts w d held)
AnswerAlike j _ _ = ⊥

-- two resolutions of a transaction agree: they have the same outputs, and scripts that answer alike under each id that is named
pub record Agree {V : Type 0} (j : Judges V) (tx : Tx) (a b : Resolved V) : Type 0 where
  pub outputs : a.outputs ≡ b.outputs
  pub scripts : AllByRecursion (λ id. AnswerAlike j (script_at a.scripts id) (script_at b.scripts id)) (names_of tx a.outputs)

-- equal resolutions agree on every transaction
abbrev pub EqualResolutionsAgree : {V : Type 0} → Judges V → (V → V → Bool) → Type 0
EqualResolutionsAgree {V} j eq = (tx : Tx) (a b : Resolved V) → AreEqual eq a b → Agree j tx a b

-- and decide it alike
abbrev pub EqualResolutionsDecideAlike : {V : Type 0} → Judges V → (V → V → Bool) → Type 0
EqualResolutionsDecideAlike {V} j eq = (tx : Tx) (a b : Resolved V) → AreEqual eq a b → local j tx a ≡ local j tx b

-- and contracts go on in the same places
abbrev pub EqualResolutionsGoOnAlike : {V : Type 0} → Judges V → (V → V → Bool) → Type 0
EqualResolutionsGoOnAlike {V} j eq = (tx : Tx) (a b : Resolved V) → AreEqual eq a b → places_of j tx a ≡ places_of j tx b

-- ---- the judgement

-- rules 1 to 7: the first that refuses
abbrev pub ledger_fault : {V : Type 0} → Moment V → Tx → Option TxFault
ledger_fault m tx = first_of (tx_fault tx ∷ not_unspent m tx ∷ id_in_use m tx ∷ outside_interval m tx ∷ unknown_script m tx ∷ [])

-- a fault that comes first refuses; else the verdict stands
abbrev pub verdict_after : Option TxFault → Verdict → Verdict
verdict_after None v = v
verdict_after (Some f) v = Refused f

-- wherever the resolution of a check agrees with what is found, the judgement is that of rules 1 to 7, and then the verdict
abbrev pub ChecksDecide : {V : Type 0} → Judges V → Type 0
ChecksDecide {V} j = (m : Moment V) (c : CheckOf V) → IsCheck j c → Agree j c.tx (found m c.tx) c.found → verdict_of (judge j m c.tx) ≡ verdict_after (ledger_fault m c.tx) c.verdict

-- what is found leaves out nothing that the rules read of the ledger
abbrev pub FoundIsEnough : {V : Type 0} → Judges V → Type 0
FoundIsEnough {V} j =
    (m : Moment V) (tx : Tx) →
    local j tx (found m tx) ≡ first_of (tx_fault tx ∷ whole_fault j m.published tx (if_known m.published tx.outputs (with_outputs tx.inputs (outputs_found m tx))) ∷ [])

-- and by it contracts go on as by what is published
abbrev pub FoundTellsPlaces : {V : Type 0} → Judges V → Type 0
FoundTellsPlaces {V} j =
    (m : Moment V) (tx : Tx) → places_of j tx (found m tx) ≡ places_in (blocks_on j m.published tx (if_known m.published tx.outputs (with_outputs tx.inputs (outputs_found m tx))))

-- ---- the sums

-- where no token is named, the sums of every token are the same
abbrev pub SumsAreTheSame : Type 0
SumsAreTheSame = (spent : List (Spend × Output)) (made : List Output) → not_preserved spent made ≡ None → (t : Token) → total_of (λ x. x.1.amount) t spent ≡ total_of (λ o. o.amount) t made

-- the token that is named has other sums, and every lesser token the same
abbrev pub TheLeastIsNamed : Type 0
TheLeastIsNamed =
    (spent : List (Spend × Output)) (made : List Output) (t : Token) → not_preserved spent made ≡ Some (NotPreserved t) →
    (total_of (λ x. x.1.amount) t spent ≢ total_of (λ o. o.amount) t made) × ((u : Token) → token_cmp u t ≡ Less → total_of (λ x. x.1.amount) u spent ≡ total_of (λ o. o.amount) u made)
