use Rattle.std.proofs.Common.{refl}
use Rattle.json_write_contracts.specs.WrittenNames.{token_json}
use Rattle.contract_json.proofs.Hexes.{token-token_json}
use Rattle.contract_json.proofs.puts.TokenPutJson.put.Goals as goal

pub returns-clause-reads_back : goal.returns-clause-reads_back
returns-clause-reads_back c = token-token_json (token_json c.args.self.now) c.args.self.now refl c.in_ok-put_token.ensures.symbol
