use Rattle.std.proofs.Common.{◌≡◌, ◌+◌, drop}
use Rattle.evaluation.specs.Numbers.{all_fit}
use Rattle.evaluation.specs.Path.{waits_for}
use Rattle.semantics.specs.Computed.{first_match, first_match_index, tried_to_match}
use Rattle.semantics.proofs.inputs.matching_case.Given as goal

-- the cases so far fit and don't match
abbrev pub invariant-loop-index : goal.invariant-loop-index
invariant-loop-index g l =
    let ks = waits_for (g.S.Parts.tree l.parts l.place) in
    record {
      fits : all_fit (tried_to_match l.interval l.state l.input ks) ≡ all_fit (tried_to_match l.interval l.state l.input (drop l.index ks));
      first : first_match l.interval l.state l.input ks ≡ first_match l.interval l.state l.input (drop l.index ks);
      place : first_match_index l.interval l.state l.input ks ≡ l.index + first_match_index l.interval l.state l.input (drop l.index ks);
    }
