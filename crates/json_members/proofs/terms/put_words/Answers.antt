use Rattle.std.proofs.Common.{ℕ, List, refl}
use Rattle.std.specs.Borrow.{Bor}
use Rattle.serde_json.specs.Data.{Data, string}
use Rattle.json_write_contracts.proofs.AddsLaws.{wrote}
use Rattle.json_write_contracts.proofs.ListedLaws.{listed-at, closed}
use Rattle.json_members.proofs.terms.put_words.Goals as goal

pub loop-text-preserved : goal.loop-text-preserved
loop-text-preserved c =
    listed-at _ (λ word. string word.now) c.args.words.now c.loop-text.text-index c.begin_array.new.self c.loop-text.out c.word.new.out c.loop-text-test.true c.loop-text.invariant c.in_ok-word.ensures.put

pub returns-clause-put : goal.returns-clause-put
returns-clause-put c =
    closed (λ word. string word.now) c.args.words.now c.args.words.now c.loop-text.text-index c.args.out.now c.begin_array.new.self c.loop-text.out c.end_array.new.self refl c.loop-text-test.false
    (wrote c.in_ok-begin_array.ensures) c.loop-text.invariant (wrote c.in_ok-end_array.ensures)
