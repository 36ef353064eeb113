-- Worked lines: of the table of Close, and of tables with nodes of each list.
use Rattle.std.specs.Prelude.{◌≡◌, ℕ, pos, [], ◌∷◌, codes}
use Rattle.table.specs.Names.declared.party.Party.{Party}
use Rattle.table.specs.Names.declared.party.Party.TheVariants as parties
use Rattle.table.specs.Names.declared.payee.Payee.TheVariants as payees
use Rattle.table.specs.Names.Equal.{ada}
use Rattle.table.specs.Nodes.declared.cont.Cont.{Cont}
use Rattle.table.specs.Nodes.declared.entry.Entry.{Entry}
use Rattle.table.specs.Nodes.declared.value_node.ValueNode.TheVariants as values
use Rattle.table.specs.Nodes.declared.observation_node.ObservationNode.TheVariants as observations
use Rattle.table.specs.Nodes.declared.case_node.CaseNode.TheVariants as cases
use Rattle.table.specs.Nodes.declared.cont_node.ContNode.TheVariants as conts
use Rattle.table.specs.Flat.{Flat}
use Rattle.table_lines.specs.TableLines.{table_lines}

-- the roles a and b, the number of a continuation, and a node with its height
abbrev pub a : Party
a = parties.Role (codes "a")

abbrev pub b : Party
b = parties.Role (codes "b")

abbrev pub cont : ℕ → Cont
cont n = record { 0 = n }

abbrev pub entry : {N : Type 0} → N → ℕ → Entry N
entry n h = record { node = n; height = h }

-- the table of Close
abbrev pub closing : Flat
closing = record { values = []; observations = []; cases = []; conts = entry conts.Close 0 ∷ [] }

abbrev pub CloseLines : Type 0
CloseLines = table_lines closing (cont 0) ≡ codes "k0 close\nroot k0\n"

-- of a Pay of 12 less 7 from role a to role b
abbrev pub paying : Flat
paying = record {
  values = entry (values.Constant (pos 12)) 0 ∷ entry (values.Constant (pos 7)) 0 ∷ entry (values.SubValue 0 1) 1 ∷ [];
  observations = [];
  cases = [];
  conts = entry conts.Close 0 ∷ entry (conts.Pay a (payees.Party b) ada 2 (cont 0)) 2 ∷ [];
}

abbrev pub PayLines : Type 0
PayLines = table_lines paying (cont 1)
    ≡ codes "v0 constant 12\nv1 constant 7\nv2 minus v0 v1\nk0 close\nk1 pay v2 {\"currency_symbol\":\"\",\"token_name\":\"\"} {\"role_token\":\"a\"} {\"party\":{\"role_token\":\"b\"}} k0\nroot k1\n"

-- of a When of a choice of a from 0 to 1 and a notification, until 100
abbrev pub waiting : Flat
waiting = record {
  values = [];
  observations = entry observations.TrueObs 0 ∷ [];
  cases = entry (cases.Choice (record { name = codes "r"; owner = a }) (record { from = pos 0; to = pos 1 } ∷ []) (cont 0)) 1 ∷ entry (cases.Notify 0 (cont 0)) 1 ∷ [];
  conts = entry conts.Close 0 ∷ entry (conts.When (0 ∷ 1 ∷ []) (pos 100) (cont 0)) 2 ∷ [];
}

abbrev pub WhenLines : Type 0
WhenLines = table_lines waiting (cont 1)
    ≡ codes "o0 true\nc0 choice {\"choice_name\":\"r\",\"choice_owner\":{\"role_token\":\"a\"}} [{\"from\":0,\"to\":1}] k0\nc1 notify o0 k0\nk0 close\nk1 when [c0,c1] 100 k0\nroot k1\n"
