-- Worked rows, computed on the definitions, whatever was called.
use Rattle.std.specs.Prelude.{◌≡◌, pos, true, false, [], ◌∷◌, codes}
use Rattle.contract.specs.Names.Equal.{ada}
use Rattle.contract.specs.declared.interval.Interval.{Interval}
use Rattle.builder_spec.specs.EutxoTypes.declared.fault.TxFault.TheVariants.{NotUnspent, OutsideInterval}
use Rattle.builder_spec.specs.EutxoTypes.declared.verdict.Verdict.TheVariants.{Accepted, Refused}
use Rattle.builder_spec.specs.declared.fault.BuildFault.TheVariants.{NoThread, NotSigned}
use Rattle.builder_spec.specs.Ledger.declared.call.Call.{Call}
use Rattle.builder_spec.specs.Ledger.declared.call.Reply.TheVariants as replies
use Rattle.plans.specs.declared.intent.Intent.TheVariants.{Claim, Round}
use Rattle.play_holdings.specs.declared.holder.Holder.TheVariants.{Payout}
use Rattle.play_objects.specs.EntryObjects.{entry_object, thread_object, count_object}
use Rattle.play_objects.specs.IntentObjects.{unbuilt_object}
use Rattle.play_objects.specs.HoldingObjects.{holding_object}

-- a refused submit has its fault and its rule; a round each ticket that it took
abbrev pub EntriesAreTold : Type 0
EntriesAreTold =
    (call : Call) →
    (entry_object 0 (record { seat = 1; number = 2; call = call; reply = replies.Refused (NotUnspent 3) })
    ≡ codes "{\"entry\":0,\"seat\":1,\"number\":2,\"call\":\"submit\",\"reply\":\"refused\",\"fault\":\"NotUnspent 3\",\"why\":\"rule 4: what input 3 spends was spent before, or never was\"}\n")
    × (entry_object 7 (record {
      seat = 2;
      number = 0;
      call = call;
      reply = replies.Round (record { ticket = 7; verdict = Accepted } ∷ record { ticket = 8; verdict = Refused OutsideInterval } ∷ []);
    })
    ≡ codes "{\"entry\":7,\"seat\":2,\"number\":0,\"call\":\"round\",\"reply\":\"taken\",\"tickets\":[{\"ticket\":7,\"reply\":\"accepted\"},{\"ticket\":8,\"reply\":\"refused\",\"fault\":\"OutsideInterval\",\"why\":\"rule 6: the ledger's tick isn't in the interval\"}]}\n")

abbrev pub OthersAreTold : Type 0
OthersAreTold =
    (i : Interval) →
    (unbuilt_object [] [] 5 (Claim 0 (codes "b") i) [] NoThread ≡ codes "{\"left_out\":{\"claim\":,\"role\":\"b\"},\"entry\":5,\"why\":\"nothing to claim\"}\n")
    × (unbuilt_object [] [] 5 (Round 2 1) [] NotSigned
    ≡ codes "{\"left_out\":{\"round\":2},\"entry\":5,\"fault\":\"NotSigned\",\"why\":\"an output is offered whose address isn't among the signers\"}\n")
    × (thread_object (record { name = codes "deal"; steps = 2; closed = true }) ≡ codes "{\"thread\":\"deal\",\"steps\":2,\"closed\":true}\n")
    × (count_object 9 ≡ codes "{\"entries\":9}\n")
    × (holding_object [] (record { holder = Payout (170 ∷ []) (codes "b"); token = ada; amount = pos 50 })
    ≡ codes "{\"unclaimed\":\"aa\",\"role\":\"b\",\"token\":{\"currency_symbol\":\"\",\"token_name\":\"\"},\"amount\":50}\n")
