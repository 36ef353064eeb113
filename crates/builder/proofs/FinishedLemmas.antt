-- Steps that may be laid out: there is room for what is left of each, they cover what they make, and they are laid out as they have to be.
use Rattle.std.proofs.Common.{◌≡◌, true, false, List, ◌++◌, map, sym, ◌∙◌, ap, subst}
use Rattle.contract.specs.declared.outcome.Outcome.{Outcome}
use Rattle.builder_spec.specs.Semantics.Laws.{EndsQuiet}
use Rattle.builder_spec.specs.Semantics.Money.{MoneyIsKept}
use Rattle.builder_spec.specs.Semantics.Naturals.{PaymentsAreNatural}
use Rattle.builder_spec.specs.Nodes.declared.cont.Cont.{Cont}
use Rattle.builder_spec.specs.Bundle.Bundles.{covers, minus}
use Rattle.builder_spec.specs.Machine.declared.datum.Datum.{Datum}
use Rattle.builder_spec.specs.EutxoTypes.declared.output.Output.{Output}
use Rattle.builder_spec.specs.EutxoTypes.declared.tx.Tx.{Tx}
use Rattle.builder_spec.specs.Requests.{StepsRequest}
use Rattle.builder_spec.specs.Holding.{sums, amount_in}
use Rattle.builder_spec.specs.Causes.{is_much}
use Rattle.builder_spec.specs.Laying.{by_key, by_step, paid_to}
use Rattle.builder_spec.specs.Steps.{Stepped, own_output}
use Rattle.builder_spec.specs.Parts.{own_outputs, parts_spent, parts_outputs, parts_data, layout_threads}
use Rattle.builder_spec.proofs.FundsLaws.{amount}
use Rattle.builder.specs.FundsSupport.{Funds}
use Rattle.builder.specs.PartsSupport.{ArePositive, AreFinished, HaveRoom, outcomes_outputs, outcomes_data}
use Rattle.builder.proofs.PartsCoveredLemmas.{all_laid, all_brought, parts_room, parts_cover}

spent_all : (r : StepsRequest) (ss : List Stepped) (f : Funds) (outs : List (Outcome Cont)) → AreFinished r ss f outs → f.all ≡ sums amount_in (own_outputs ss ++ f.front)
spent_all r ss f outs h = h.funds.all ∙ ap (λ us. sums amount_in (own_outputs ss ++ us)) (sym h.funds.front)

pub finished_room : MoneyIsKept → EndsQuiet → PaymentsAreNatural → (r : StepsRequest) (ss : List Stepped) (f g : Funds) (outs : List (Outcome Cont)) → AreFinished r ss f outs → ArePositive ss → g ≡ f → is_much g.all ≡ false → HaveRoom ss outs
finished_room money quiet natural r ss f g outs h above same room =
    parts_room r money quiet natural ss outs f.front h.outcomes h.standing above h.funds.covered h.funds.bundles
    (subst (λ m. is_much m ≡ false) (ap (λ (x : Funds). x.all) same ∙ spent_all r ss f outs h) room)

pub finished_covers : MoneyIsKept → EndsQuiet → PaymentsAreNatural → (r : StepsRequest) (ss : List Stepped) (f : Funds) (outs : List (Outcome Cont)) (made : List Output) → AreFinished r ss f outs → ArePositive ss → made ≡ outcomes_outputs ss outs → covers f.all (sums amount made) ≡ true
finished_covers money quiet natural r ss f outs made h above is =
    subst (λ m. covers m (sums amount made) ≡ true) (sym (spent_all r ss f outs h)) (subst (λ os. covers (sums amount_in (own_outputs ss ++ f.front)) (sums amount os) ≡ true) (sym is)
    (parts_cover r money quiet natural ss outs f.front h.outcomes h.standing above h.funds.covered h.funds.bundles))

-- a transaction from what is spent, what is made but for the change, and the data
abbrev pub laid_out : StepsRequest → List Stepped → Funds → List Output → List Datum → Tx
laid_out r ss f made brought = record {
  inputs = map (λ (s : Stepped). by_step s.inputs (own_output s.thread)) ss ++ map by_key f.front;
  outputs = made ++ paid_to r.change (minus f.all (sums amount made));
  interval = r.interval;
  signers = r.signers;
  datums = brought;
}

pub finished_layout : (r : StepsRequest) (ss : List Stepped) (f : Funds) (outs : List (Outcome Cont)) (made : List Output) (brought : List Datum) → AreFinished r ss f outs → made ≡ outcomes_outputs ss outs → brought ≡ outcomes_data ss outs → laid_out r ss f made brought ≡ layout_threads r ss
finished_layout r ss f outs made brought h is are =
    ap (λ os. laid_out r ss f os brought) (is ∙ all_laid r ss outs h.outcomes)
    ∙ ap (laid_out r ss f (parts_outputs r ss)) (are ∙ all_brought r ss outs h.outcomes)
    ∙ ap (λ all. laid_out r ss (record { all = all; front = f.front }) (parts_outputs r ss) (parts_data r ss)) h.funds.all
    ∙ ap (λ us. laid_out r ss (record { all = sums amount_in (parts_spent r ss); front = us }) (parts_outputs r ss) (parts_data r ss)) h.funds.front
