use Rattle.std.proofs.Common.{◌≡◌, ◌∙◌, ◌++◌, ◌∷◌, [], ap, sym, subst, None}
use Rattle.std.specs.Map.{lookup}
use Rattle.ledger_spec.specs.Roles.declared.published.Published.{Published}
use Rattle.ledger_spec.specs.EutxoTypes.Parts.{same_bytes}
use Rattle.indexmap.proofs.CallerLemmas.{insert_entry-new}
use Rattle.chain_index.specs.PartsSupport.{AreNamed}
use Rattle.chain_index.proofs.ObjectLemmas.{Named, found_named, named_more}
use Rattle.chain_index.proofs.objects.put_object.Goals as goal

so : (c : goal.Joined-insert-2) → c.insert.new.self.entries ≡ c.args.objects.now.entries ++ (c.args.object.id, c.args.object) ∷ []
so c =
    let m = c.args.objects.now in
    let p : Published = c.args.object in
    let none = subst (λ (x : Published). lookup (same_bytes x.id) m.entries ≡ None) (sym c.get.ensures) (found_named m.entries p.id c.requires.named ∙ c.requires.new) in
    c.in-Ok.ensures.entries ∙ insert_entry-new {X = Published} same_bytes m c.get.result.now.id p none ∙ ap (λ (x : Published). let l : Named = m.entries ++ (x.id, p) ∷ [] in l) c.get.ensures

pub returns-in-Ok-clause-ok : goal.returns-in-Ok-clause-ok
returns-in-Ok-clause-ok c = so c

pub returns-in-Ok-clause-still : goal.returns-in-Ok-clause-still
returns-in-Ok-clause-still c = subst AreNamed (sym (so c)) (named_more c.args.objects.now.entries c.args.object c.requires.named)
