use Rattle.std.proofs.Common.{◌∷◌, [], sym, ◌∙◌, ap}
use Rattle.std.proofs.Math.Facts.{to_z-of_z}
use Rattle.std.specs.FinMap.{entries, same_entries_map}
use Rattle.roles.proofs.SumsLemmas.{entries-only}
use Rattle.roles.proofs.amounts.is_only.Goals as goal

pub returns : goal.returns
returns c =
    let number = ap (λ n. (c.args.token.now, n) ∷ []) (to_z-of_z c.ranges.number) in (
      λ yes. same_entries_map _ _ (sym c.entries.ensures.all ∙ c.is_one.ensures.0 yes ∙ number ∙ sym (entries-only c.args.token.now c.args.number)),
      λ e. c.is_one.ensures.1 (c.entries.ensures.all ∙ ap entries e ∙ entries-only c.args.token.now c.args.number ∙ sym number),
    )
