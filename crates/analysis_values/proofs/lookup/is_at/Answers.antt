use Rattle.std.proofs.Common.{sym, ◌∙◌}
use Rattle.semantics.specs.Reduction.{account_of}
use Rattle.analysis_values.proofs.ReplacedLaws.{place_by}
use Rattle.analysis_values.proofs.lookup.is_at.Goals as goal

pub returns : goal.returns
returns c h =
    let a = account_of c.args.owner.now c.args.token.now in
    let x = c.index-entries-at.result in
    place_by c.args.entries.now c.args.at x a c.requires c.index-entries-at.is (sym c.is_key.ensures ∙ h)
