use Rattle.std.proofs.Common.{ap, ◌∙◌}
use Rattle.std.specs.Option.{option_map}
use Rattle.std.specs.Map.{lookup}
use Rattle.chain_index.specs.declared.moves.Move.{Move}
use Rattle.chain_index.specs.Moves.{place_of}
use Rattle.chain_index.proofs.RefLemmas.{eq_same}
use Rattle.chain_index.proofs.moves.step_from.Goals as goal

pub returns-in-Some : goal.returns-in-Some
returns-in-Some c =
    ap (option_map (λ (m : Move). (place_of c.args.spends m.number, m.next))) (c.in-Some.ensures.value ∙ ap (λ e. lookup (e c.args.spends) c.args.moves.now.entries) eq_same)

pub returns-in-None : goal.returns-in-None
returns-in-None c =
    ap (option_map (λ (m : Move). (place_of c.args.spends m.number, m.next))) (c.in-None.ensures.value ∙ ap (λ e. lookup (e c.args.spends) c.args.moves.now.entries) eq_same)
