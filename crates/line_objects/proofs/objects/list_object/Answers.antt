use Rattle.std.specs.Borrow.{Bor}
use Rattle.std.proofs.Common.{ℕ, List, rules}
use Rattle.serde_json.specs.Data.{string}
use Rattle.line_objects.proofs.LineLemmas.{map_twice}
use Rattle.line_objects.proofs.objects.list_object.Goals as goal

pub returns : goal.returns
returns c = rw (map_twice (λ x. string x) (λ (line : Bor (List ℕ)). line.now) c.args.lines.now) (search rules)
