use Rattle.std.proofs.Common.{[], ◌∷◌}
use Rattle.contract_bytes.specs.Numbers.{list_bytes}
use Rattle.contract_bytes.specs.Names.{choice_id_bytes, bound_bytes}
use Rattle.contract_bytes.specs.Trees.{action_bytes}
use Rattle.contract_bytes.proofs.Fronts.{front_first, front_then, wrote_both}
use Rattle.contract_bytes.proofs.Spellings.{no_front, refused, part, behind, fitting}
use Rattle.contract_bytes.proofs.tree.put_choice.Goals as goal

pub returns-in_err-put_byte : goal.returns-in_err-put_byte
returns-in_err-put_byte c = refused c.from_residual.result c.from_residual.ensures.0 (no_front _ c.in_err-put_byte.ensures.err)

pub returns-in_err-put_choice_id : goal.returns-in_err-put_choice_id
unfolding action_bytes
returns-in_err-put_choice_id c = refused c.from_residual-in_err-put_choice_id.result c.from_residual-in_err-put_choice_id.ensures.0 (front_first (list_bytes bound_bytes c.args.bounds.now) (front_then (0x01 ∷ []) c.in_ok-put_byte.ensures.spelling c.in_err-put_choice_id.ensures.err))

pub returns : goal.returns
unfolding action_bytes
returns c =
    let id = choice_id_bytes c.args.id.now in
    let first = wrote_both _ (0x01 ∷ []) id c.in_ok-put_byte.ensures.spelling c.in_ok-put_choice_id.ensures.spelling in
    fitting c.put_list.result (λ h. (c.in_ok-put_choice_id.ensures.fits, h)) (behind (0x01 ∷ id) c.put_list.result first (part c.put_list.result c.put_list.ensures.spelling c.put_list.ensures.fits c.put_list.ensures.err))
