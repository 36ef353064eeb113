use Rattle.std.proofs.Common.{[], ◌∷◌, subst, rules, SFits}
use Rattle.std.proofs.lemmas.Int.{to_z-of_z}
use Rattle.std.specs.Int.{w128}
use Rattle.contract_bytes.specs.Numbers.{number_bytes, NumberFits}
use Rattle.contract_bytes.specs.WritingSupport.{Spells}
use Rattle.contract_bytes.proofs.Spellings.{no_front, refused, a_number, behind}
use Rattle.contract_bytes.proofs.value.put_constant.Goals as goal

pub returns-in_err-put_byte : goal.returns-in_err-put_byte
returns-in_err-put_byte c = refused c.from_residual.result c.from_residual.ensures.0 (no_front _ c.in_err-put_byte.ensures.err)

pub returns : goal.returns
returns c =
    let fits : SFits w128 c.args.number = search rules in
    let same = to_z-of_z w128 c.args.number fits in
    let put = a_number c.put_number.result c.put_number.ensures.spelling c.put_number.ensures.fits c.put_number.ensures.err in
    behind (0x01 ∷ []) c.put_number.result c.in_ok-put_byte.ensures.spelling
    (subst (λ n. Spells c.put_number.result (number_bytes n) (NumberFits n) c.put_byte.new.out.items c.put_number.new.out.items) same put)
