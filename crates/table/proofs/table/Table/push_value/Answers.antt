use Rattle.std.proofs.Common.{◌≡◌, length, rules}
use Rattle.table.specs.Flat.{Flat, trees, value_of, value_tree, a_value}
use Rattle.table.proofs.PushingLaws.{Pushed}
use Rattle.table.proofs.Pushed.{pushed_value_by}
use Rattle.table.proofs.table.Table.push_value.Goals as goal

done : (c : goal.In_ok-push) → (let g : Flat = record { values = c.push.new.self.items; observations = c.self.inside.observations.items; cases = c.self.inside.cases.items; conts = c.self.inside.conts.items } in Pushed c.args.self.now g (a_value (length c.args.self.now.values)) (value_tree g (length c.args.self.now.values) ≡ value_of (trees c.args.self.now) c.args.node))
done c =
    pushed_value_by (record { values = c.self.inside.values.items; observations = c.self.inside.observations.items; cases = c.self.inside.cases.items; conts = c.self.inside.conts.items }) c.args.self.now _ c.args.node c.value_height-height.result c.self.view_is c.self.invariant
    c.requires.stand c.requires.low (search rules) c.in_ok-push.ensures.items

pub invariant_of-self-2 : goal.invariant_of-self-2
invariant_of-self-2 c = (done c).flat

pub returns-clause-tree : goal.returns-clause-tree
returns-clause-tree c = let e : c.len-number.result ≡ length c.args.self.now.values = search rules in rw e (done c).tree

pub returns-clause-keeps : goal.returns-clause-keeps
returns-clause-keeps c = (done c).keeps

pub returns-clause-stands : goal.returns-clause-stands
returns-clause-stands c = let e : c.len-number.result ≡ length c.args.self.now.values = search rules in rw e (record { flat = (done c).flat; stands = (done c).stands })
