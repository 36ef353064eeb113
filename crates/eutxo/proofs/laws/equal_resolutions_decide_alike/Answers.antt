use Rattle.eutxo.proofs.JudgementLemmas as judging
use Rattle.eutxo.proofs.laws.equal_resolutions_decide_alike.Goals as goal

pub returns-clause-agree : goal.returns-clause-agree
returns-clause-agree g c =
    judging.equal_resolutions_agree g.V.Validator.judges g.V.PartialEq.eq g.met.V.Validator.alike

pub returns-clause-alike : goal.returns-clause-alike
returns-clause-alike g c =
    judging.equal_resolutions_decide_alike g.V.Validator.judges g.V.PartialEq.eq g.met.V.Validator.alike

pub returns-clause-places : goal.returns-clause-places
returns-clause-places g c =
    judging.equal_resolutions_go_on_alike g.V.Validator.judges g.V.PartialEq.eq g.met.V.Validator.alike
