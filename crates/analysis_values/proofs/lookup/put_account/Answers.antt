use Rattle.std.proofs.Common.{List, subst}
use Rattle.std.proofs.lemmas.Result.{on_ok_weaker}
use Rattle.contract.specs.Names.declared.account.Account.{Account}
use Rattle.semantics.specs.Reduction.{account_of}
use Rattle.linear.specs.Linear.{Linear}
use Rattle.analysis_values.specs.Replaced.{IsPlaceOf}
use Rattle.analysis_values.proofs.ReplacedLaws.{same_found}
use Rattle.analysis_values.proofs.lookup.put_account.Goals as goal

pub returns-in-Some : goal.returns-in-Some
returns-in-Some c =
    let a = account_of c.args.owner.now c.args.token.now in
    let place = subst (λ (es : List (Account × Linear)). IsPlaceOf es a c.in-Some.at) c.deref.ensures.value c.in-Some.ensures in
    on_ok_weaker c.put_again.result (λ h. h a place) c.put_again.ensures

pub returns-in-None : goal.returns-in-None
returns-in-None c = on_ok_weaker c.put_first.result (λ h. same_found _ _ h) c.put_first.ensures
