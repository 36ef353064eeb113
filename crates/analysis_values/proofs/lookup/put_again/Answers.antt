use Rattle.std.proofs.Common.{List, ◌∷◌, ap, ◌∙◌}
use Rattle.contract.specs.Names.declared.account.Account.{Account}
use Rattle.linear.specs.Linear.{Linear}
use Rattle.analysis_values.proofs.ReplacedLaws.{again_found}
use Rattle.analysis_values.proofs.lookup.put_again.Goals as goal

pub returns : goal.returns
returns c a place =
    let taken = c.remove-account.ensures in
    let e = c.remove-account.result in
    let first = c.in_ok-insert.ensures.items ∙ ap (λ (es : List (Account × Linear)). (e.0, c.args.value) ∷ es) taken.items in
    again_found c.args.entries.now.items c.insert.new.self.items c.args.at e a c.args.value place.0 taken.value (place.1 e taken.value) first
