use Rattle.std.proofs.Common.{rules, ◌≡◌, false}
use Rattle.std.specs.List.{list_any}
use Rattle.table_builder.proofs.IndexingLemmas.{Inserted, inserted}
use Rattle.table_builder.proofs.node_index.Nodes.place.Goals as goal

done : (g : _) (c : goal.In-Ok g) → Inserted g.N.PartialEq.eq c.args.self.now c.args.node
done g c = let e : list_any (g.N.PartialEq.eq c.args.node) c.args.self.now ≡ false = search rules in inserted g.N.PartialEq.eq c.args.self.now c.args.node e

pub returns-in-Ok-clause-place : goal.returns-in-Ok-clause-place
returns-in-Ok-clause-place g c =
    let i = done g c in
    let copy : c.in-Ok.copy ≡ c.args.node = search (rules, i.itself) in
    (i.absent, copy)

pub returns-in-Ok-clause-nodes : goal.returns-in-Ok-clause-nodes
returns-in-Ok-clause-nodes g c = let i = done g c in search (rules, i.absent, i.last)
