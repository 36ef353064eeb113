-- Worked tables: of small contracts, and of contracts whose nodes differ in one term alone.
use Rattle.std.specs.Prelude.{◌≡◌, ℕ, pos, List, [], ◌∷◌}
use Rattle.contract.specs.Names.declared.party.Party.{Party}
use Rattle.contract.specs.Names.declared.party.Party.TheVariants as parties
use Rattle.contract.specs.Names.declared.payee.Payee.TheVariants as payees
use Rattle.contract.specs.Names.declared.token.Token.{Token}
use Rattle.contract.specs.Names.declared.choice_id.ChoiceId.{ChoiceId}
use Rattle.contract.specs.Names.declared.bound.Bound.{Bound}
use Rattle.contract.specs.Names.Equal.{ada}
use Rattle.contract.specs.Tree.{available_money, constant, add_value, cond_value, true_obs, deposit, choice, notify, ContractTree, close, pay, if_obs, when, let_be, no_cases, case_then}
use Rattle.table.specs.Nodes.declared.entry.Entry.{Entry}
use Rattle.table.specs.Nodes.declared.cont.Cont.{Cont}
use Rattle.table.specs.Nodes.declared.value_node.ValueNode.TheVariants as values
use Rattle.table.specs.Nodes.declared.observation_node.ObservationNode.TheVariants as observations
use Rattle.table.specs.Nodes.declared.case_node.CaseNode.TheVariants as cases
use Rattle.table.specs.Nodes.declared.cont_node.ContNode.TheVariants as conts
use Rattle.lowering.specs.Code.{code}

-- ---- the roles a, b and s, a choice of b, bounds, and nodes with their heights

abbrev pub a : Party
a = parties.Role (97 ∷ [])

abbrev pub b : Party
b = parties.Role (98 ∷ [])

abbrev pub s : Party
s = parties.Role (115 ∷ [])

abbrev pub r : ChoiceId
r = record { name = 114 ∷ []; owner = b }

abbrev pub up_to : ℕ → List Bound
up_to n = record { from = pos 0; to = pos n } ∷ []

abbrev pub k : ℕ → Cont
k n = record { 0 = n }

abbrev pub entry : {N : Type 0} → N → ℕ → Entry N
entry n h = record { node = n; height = h }

-- ---- small contracts

-- k0 close, k1 when [] 100 k0; root k1
abbrev pub EmptyWhen : Type 0
EmptyWhen = code (when no_cases (pos 100) close) ≡ (
  record {
    values = [];
    observations = [];
    cases = [];
    conts = entry conts.Close 0 ∷ entry (conts.When [] (pos 100) (k 0)) 1 ∷ [];
  },
  k 1,
)

-- v0 constant 5; k0 close, k1 pay v0 of ada from role a to role b, then k0; root k1
abbrev pub PartialPay : Type 0
PartialPay = code (pay a (payees.Party b) ada (constant (pos 5)) close) ≡ (
  record {
    values = entry (values.Constant (pos 5)) 0 ∷ [];
    observations = [];
    cases = [];
    conts = entry conts.Close 0 ∷ entry (conts.Pay a (payees.Party b) ada 0 (k 0)) 1 ∷ [];
  },
  k 1,
)

-- v0 constant 1, v1 constant 2, v2 if o0 v0 v1; o0 true; k0 close, k1 let x v2 k0; root k1
abbrev pub CondLet : Type 0
CondLet = code (let_be (120 ∷ []) (cond_value true_obs (constant (pos 1)) (constant (pos 2))) close) ≡ (
  record {
    values = entry (values.Constant (pos 1)) 0 ∷ entry (values.Constant (pos 2)) 0 ∷ entry (values.Cond 0 0 1) 1 ∷ [];
    observations = entry observations.TrueObs 0 ∷ [];
    cases = [];
    conts = entry conts.Close 0 ∷ entry (conts.Let (120 ∷ []) 2 (k 0)) 2 ∷ [];
  },
  k 1,
)

-- ---- equal nodes are kept once

-- two equal cases, before and after another: o0 true; c0 notify o0 k0, c1 choice without bounds k0; k0 close,
-- k1 when [c0,c1,c0] 7 k0; root k1
abbrev pub EqualCases : Type 0
EqualCases = code (when (case_then (notify true_obs) close (case_then (choice r []) close (case_then (notify true_obs) close no_cases))) (pos 7) close) ≡ (
  record {
    values = [];
    observations = entry observations.TrueObs 0 ∷ [];
    cases = entry (cases.Notify 0 (k 0)) 1 ∷ entry (cases.Choice r [] (k 0)) 1 ∷ [];
    conts = entry conts.Close 0 ∷ entry (conts.When (0 ∷ 1 ∷ 0 ∷ []) (pos 7) (k 0)) 2 ∷ [];
  },
  k 1,
)

-- the escrow: b deposits 50 for s before 50; then b chooses before 100 whether that is paid back.
-- v0 constant 50; c0 choice r [0 to 1] k1, c1 deposit s b ada v0 k2; k0 close, k1 pay v0 of ada from s to the account of b, then k0,
-- k2 when [c0] 100 k0, k3 when [c1] 50 k0; root k3
abbrev pub escrow : ContractTree
escrow = when (case_then (deposit s b ada (constant (pos 50)))
    (when (case_then (choice r (up_to 1)) (pay s (payees.Account b) ada (constant (pos 50)) close) no_cases) (pos 100) close)
    no_cases) (pos 50) close

abbrev pub Escrow : Type 0
Escrow = code escrow ≡ (
  record {
    values = entry (values.Constant (pos 50)) 0 ∷ [];
    observations = [];
    cases = entry (cases.Choice r (up_to 1) (k 1)) 2 ∷ entry (cases.Deposit s b ada 0 (k 2)) 4 ∷ [];
    conts = entry conts.Close 0
        ∷ entry (conts.Pay s (payees.Account b) ada 0 (k 0)) 1
        ∷ entry (conts.When (0 ∷ []) (pos 100) (k 0)) 3
        ∷ entry (conts.When (1 ∷ []) (pos 50) (k 0)) 5 ∷ [];
  },
  k 3,
)

-- ---- nodes that differ in one term alone stay two

abbrev pub named : ℕ → Token
named n = record { symbol = 1 ∷ []; name = n ∷ [] }

-- the sum of what two parties hold of two tokens: v0, v1 the two amounts, v2 add v0 v1
abbrev pub two_amounts : Party → Token → Party → Token → ContractTree
two_amounts p t q u = let_be (120 ∷ []) (add_value (available_money p t) (available_money q u)) close

abbrev pub TwoAmounts : Party → Token → Party → Token → Type 0
TwoAmounts p t q u = code (two_amounts p t q u) ≡ (
  record {
    values = entry (values.AvailableMoney p t) 0 ∷ entry (values.AvailableMoney q u) 0 ∷ entry (values.AddValue 0 1) 1 ∷ [];
    observations = [];
    cases = [];
    conts = entry conts.Close 0 ∷ entry (conts.Let (120 ∷ []) 2 (k 0)) 2 ∷ [];
  },
  k 1,
)

-- of two tokens whose names differ
abbrev pub TokensDiffer : Type 0
TokensDiffer = TwoAmounts a (named 1) a (named 2)

-- of two parties
abbrev pub PartiesDiffer : Type 0
PartiesDiffer = TwoAmounts a ada b ada

-- two cases whose bounds end at 1 and 2
abbrev pub two_choices : ContractTree
two_choices = when (case_then (choice r (up_to 1)) close (case_then (choice r (up_to 2)) close no_cases)) (pos 7) close

abbrev pub BoundsDiffer : Type 0
BoundsDiffer = code two_choices ≡ (
  record {
    values = [];
    observations = [];
    cases = entry (cases.Choice r (up_to 1) (k 0)) 1 ∷ entry (cases.Choice r (up_to 2) (k 0)) 1 ∷ [];
    conts = entry conts.Close 0 ∷ entry (conts.When (0 ∷ 1 ∷ []) (pos 7) (k 0)) 2 ∷ [];
  },
  k 1,
)

-- an If of two Whens whose timeouts are 100 and 200
abbrev pub two_whens : ContractTree
two_whens = if_obs true_obs (when no_cases (pos 100) close) (when no_cases (pos 200) close)

abbrev pub TimeoutsDiffer : Type 0
TimeoutsDiffer = code two_whens ≡ (
  record {
    values = [];
    observations = entry observations.TrueObs 0 ∷ [];
    cases = [];
    conts = entry conts.Close 0 ∷ entry (conts.When [] (pos 100) (k 0)) 1 ∷ entry (conts.When [] (pos 200) (k 0)) 1 ∷ entry (conts.If 0 (k 1) (k 2)) 2 ∷ [];
  },
  k 3,
)
