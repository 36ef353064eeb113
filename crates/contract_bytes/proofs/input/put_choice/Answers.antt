use Rattle.std.proofs.Common.{[], ◌∷◌, subst, rules, SFits}
use Rattle.std.proofs.lemmas.Int.{to_z-of_z}
use Rattle.std.specs.Int.{w128}
use Rattle.contract_bytes.specs.Numbers.{number_bytes, NumberFits}
use Rattle.contract_bytes.specs.Names.{choice_id_bytes}
use Rattle.contract_bytes.specs.WritingSupport.{Spells}
use Rattle.contract_bytes.proofs.Fronts.{front_first, front_then, wrote_both}
use Rattle.contract_bytes.proofs.Spellings.{no_front, refused, a_number, behind, fitting}
use Rattle.contract_bytes.proofs.input.put_choice.Goals as goal

pub returns-in_err-put_byte : goal.returns-in_err-put_byte
returns-in_err-put_byte c = refused c.from_residual.result c.from_residual.ensures.0 (no_front _ c.in_err-put_byte.ensures.err)

pub returns-in_err-put_choice_id : goal.returns-in_err-put_choice_id
returns-in_err-put_choice_id c = refused c.from_residual-in_err-put_choice_id.result c.from_residual-in_err-put_choice_id.ensures.0 (front_first (number_bytes c.args.number) (front_then (0x01 ∷ []) c.in_ok-put_byte.ensures.spelling c.in_err-put_choice_id.ensures.err))

pub returns : goal.returns
returns c =
    let id = choice_id_bytes c.args.id.now in
    let first = wrote_both _ (0x01 ∷ []) id c.in_ok-put_byte.ensures.spelling c.in_ok-put_choice_id.ensures.spelling in
    let fits : SFits w128 c.args.number = search rules in
    let number = subst (λ n. Spells c.put_number.result (number_bytes n) (NumberFits n) c.put_choice_id.new.out.items c.put_number.new.out.items) (to_z-of_z w128 c.args.number fits) (a_number c.put_number.result c.put_number.ensures.spelling c.put_number.ensures.fits c.put_number.ensures.err) in
    fitting c.put_number.result (λ h. (c.in_ok-put_choice_id.ensures.fits, h)) (behind (0x01 ∷ id) c.put_number.result first number)
