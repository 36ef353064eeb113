-- The symbol of a token reads back.
use Rattle.std.proofs.Common.{◌≡◌, Ok, ap, ◌∙◌}
use Rattle.serde_json.specs.Data.{Data}
use Rattle.hex.proofs.HexLemmas.{decode_of-encode_lower}
use Rattle.hex.specs.Hex.{IsBytes}
use Rattle.contract.specs.Names.declared.token.Token.{Token}
use Rattle.json_write_contracts.specs.WrittenNames.{token_json}
use Rattle.contract.specs.Collections.Answers.{◌>>=◌}
use Rattle.json_read_names.specs.Parts.{decoded}
use Rattle.json_read_names.specs.ReadsNames.{token}

-- a token that was written is read as it was
pub token-token_json : (d : Data) (t : Token) → d ≡ token_json t → IsBytes t.symbol → token d ≡ Ok t
token-token_json d t e h = ap token e ∙ ap (λ r. decoded r >>= λ symbol. Ok (record { symbol = symbol; name = t.name })) (decode_of-encode_lower t.symbol h)
