-- No reader needs this file: what a writer of this crate says in one clause.
use Rattle.std.specs.Prelude.{◌≡◌, ℕ, List, ◌∷◌, ◌++◌, Result, OnOk, OnErr}
use Rattle.std.specs.declared.alloc.Global.{Global}
use Rattle.std.specs.declared.vec.Vec.{Vec}
use Rattle.contract.specs.Names.declared.party.Party.{Party}
use Rattle.contract.specs.Names.declared.payee.Payee.{Payee}
use Rattle.contract.specs.Names.declared.token.Token.{Token}
use Rattle.contract.specs.declared.input.Input.{Input}
use Rattle.contract.specs.declared.tree.Case.{Case}
use Rattle.contract.specs.Tree.{ValueTree, ObservationTree, ActionTree, ContractTree, action_tree, contract_tree}
use Rattle.contract_bytes.specs.Numbers.{text_bytes, TextFits}
use Rattle.contract_bytes.specs.Names.{party_bytes, token_bytes, payee_bytes, PartyFits, TokenFits, PayeeFits}
use Rattle.contract_bytes.specs.Values.{value_bytes, observation_bytes, ValueFits, ObservationFits}
use Rattle.contract_bytes.specs.Trees.{action_bytes, contract_bytes, ActionFits, ContractFits}
use Rattle.contract_bytes.specs.Inputs.{input_bytes, InputFits}
use Rattle.contract_bytes.specs.Writing.{AppendsFront}

-- it appends these bytes of what fits, or it is refused memory and appends a front of them
pub record Spells {E : Type 0} (result : Result (Unit {0}) E) (bytes : List ℕ) (Fits : Type 0) (old new : List ℕ) : Type 0 where
  pub spelling : OnOk result (new ≡ old ++ bytes)
  pub fits : OnOk result Fits
  pub err : OnErr result (AppendsFront bytes old new)

-- ---- the same of what has a spelling, appended to a vector

abbrev pub SpellsValue : {E : Type 0} → Result (Unit {0}) E → ValueTree → Vec ℕ Global → Vec ℕ Global → Type 0
SpellsValue result v old new = Spells result (value_bytes v) (ValueFits v) old.items new.items

abbrev pub SpellsObservation : {E : Type 0} → Result (Unit {0}) E → ObservationTree → Vec ℕ Global → Vec ℕ Global → Type 0
SpellsObservation result o old new = Spells result (observation_bytes o) (ObservationFits o) old.items new.items

abbrev pub SpellsAction : {E : Type 0} → Result (Unit {0}) E → ActionTree → Vec ℕ Global → Vec ℕ Global → Type 0
SpellsAction result a old new = Spells result (action_bytes a) (ActionFits a) old.items new.items

abbrev pub SpellsContract : {E : Type 0} → Result (Unit {0}) E → ContractTree → Vec ℕ Global → Vec ℕ Global → Type 0
SpellsContract result c old new = Spells result (contract_bytes c) (ContractFits c) old.items new.items

abbrev pub SpellsInput : {E : Type 0} → Result (Unit {0}) E → Input → Vec ℕ Global → Vec ℕ Global → Type 0
SpellsInput result input old new = Spells result (input_bytes input) (InputFits input) old.items new.items

-- ---- the same of parts: a tag, then an observation, two values or two observations

abbrev pub SpellsTest : {E : Type 0} → Result (Unit {0}) E → ℕ → ObservationTree → Vec ℕ Global → Vec ℕ Global → Type 0
SpellsTest result tag o old new = Spells result (tag ∷ observation_bytes o) (ObservationFits o) old.items new.items

abbrev pub SpellsTwoValues : {E : Type 0} → Result (Unit {0}) E → ℕ → ValueTree → ValueTree → Vec ℕ Global → Vec ℕ Global → Type 0
SpellsTwoValues result tag v w old new = Spells result (tag ∷ value_bytes v ++ value_bytes w) (ValueFits v × ValueFits w) old.items new.items

abbrev pub SpellsTwoObservations : {E : Type 0} → Result (Unit {0}) E → ℕ → ObservationTree → ObservationTree → Vec ℕ Global → Vec ℕ Global → Type 0
SpellsTwoObservations result tag o p old new = Spells result (tag ∷ observation_bytes o ++ observation_bytes p) (ObservationFits o × ObservationFits p) old.items new.items

-- ---- the same of what stands before the continuation of a Pay and of a Let, and of a case

abbrev pub SpellsPay : {E : Type 0} → Result (Unit {0}) E → Party → Payee → Token → ValueTree → Vec ℕ Global → Vec ℕ Global → Type 0
SpellsPay result account payee token v old new =
    Spells result (0x01 ∷ party_bytes account ++ payee_bytes payee ++ token_bytes token ++ value_bytes v) (PartyFits account × PayeeFits payee × TokenFits token × ValueFits v) old.items new.items

abbrev pub SpellsLet : {E : Type 0} → Result (Unit {0}) E → List ℕ → ValueTree → Vec ℕ Global → Vec ℕ Global → Type 0
SpellsLet result name v old new = Spells result (0x04 ∷ text_bytes name ++ value_bytes v) (TextFits name × ValueFits v) old.items new.items

abbrev pub case_bytes : Case → List ℕ
case_bytes k = action_bytes (action_tree k.action) ++ contract_bytes (contract_tree k.then)

abbrev pub CaseFits : Case → Type 0
CaseFits k = ActionFits (action_tree k.action) × ContractFits (contract_tree k.then)
