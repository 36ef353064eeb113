-- The worked rows.
use Rattle.std.proofs.Common.{refl}
use Rattle.std.specs.Str.{is_utf8, chars}
use Rattle.std.specs.Float.Numeral.{scan_numeral}
use lib.Utf8.{encode}
use Rattle.json.specs.Json.{value}
use Rattle.json.specs.Lex.{punctuate, lex}
use Rattle.json.specs.Text.{content}
use Rattle.json.specs.Word.{word, after_number}
use Rattle.serde_json.specs.Read.{number_of}
use Rattle.json_read_names.specs.ReadsText.{json_of}
use Rattle.json_read_transactions.specs.ReadsTransactions.{readings, transactions_of}
use Rattle.json_read_transactions.specs.Rows.{NoneIsRead, BlankLinesAreLeftOut, FourAreRead, FaultsAreNumbered, TenThousandAreRead}

pub none_is_read : NoneIsRead
unfolding transactions_of readings json_of is_utf8 chars encode value punctuate lex content word after_number number_of scan_numeral
none_is_read = refl

pub blank_lines_are_left_out : BlankLinesAreLeftOut
blank_lines_are_left_out = refl

pub four_are_read : FourAreRead
unfolding transactions_of readings json_of is_utf8 chars encode value punctuate lex content word after_number number_of scan_numeral
four_are_read = refl

pub faults_are_numbered : FaultsAreNumbered
unfolding transactions_of readings json_of is_utf8 chars encode value punctuate lex content word after_number number_of scan_numeral
faults_are_numbered = (refl, refl, refl)

pub ten_thousand_are_read : TenThousandAreRead
ten_thousand_are_read = (refl, refl, refl)
