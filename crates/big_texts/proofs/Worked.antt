-- The worked row.
use Rattle.std.proofs.Common.{refl}
use Rattle.std.specs.Fmt.{digits}
use Rattle.json.proofs.OnLiterals.{json_on_literals}
use Rattle.json_read_inputs.specs.ReadsNumber.{is_in_128_bits, number_of_text}
use Rattle.big_texts.specs.Rows.{DoublesStay}

pub doubles_stay : DoublesStay
unfolding digits json_on_literals is_in_128_bits number_of_text
doubles_stay = refl
