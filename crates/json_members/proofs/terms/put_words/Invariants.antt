use Rattle.std.proofs.Common.{take, map}
use Rattle.serde_json.specs.Data.{string}
use Rattle.json_write_contracts.specs.Tokens.{Adds}
use Rattle.json_write_contracts.proofs.ListedLaws.{front}
use Rattle.json_members.proofs.terms.put_words.Given as goal

-- the words so far are written
abbrev pub invariant-loop-text : goal.invariant-loop-text
invariant-loop-text l = Adds l.initial.out l.out (front (map (λ word. string word.now) (take l.text-index l.words)))
