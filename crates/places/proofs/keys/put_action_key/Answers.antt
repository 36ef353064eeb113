use Rattle.std.proofs.Common.{List, [], ◌∷◌, ◌++◌, sym, ap, ◌∙◌, append-nil}
use Rattle.std.proofs.lemmas.Result.{on_ok_weaker}
use Rattle.places.specs.declared.key.Key.{Key}
use Rattle.places.proofs.PlacesLemmas.{case_key_at, case_key_over}
use Rattle.places.proofs.keys.put_action_key.Goals as goal

pub returns-in-Some : goal.returns-in-Some
returns-in-Some c =
    let e = case_key_at c.args.cases.now c.args.index c.in-Some.case.now c.in-Some.ensures.lookup.3.0 c.in-Some.ensures.lookup.1 in
    let one = ap (λ (k : Key). let ks : List Key = k ∷ [] in ks) c.action_key.ensures in
    on_ok_weaker c.put_key.result (λ h. h ∙ ap (λ (ks : List Key). c.args.keys.now.items ++ ks) (one ∙ sym e)) c.put_key.ensures

pub returns-in-None : goal.returns-in-None
returns-in-None c =
    sym (append-nil c.args.keys.now.items) ∙ ap (λ (ks : List Key). c.args.keys.now.items ++ ks) (sym (case_key_over c.args.cases.now c.args.index c.in-None.ensures.lookup.3))
