use Rattle.std.proofs.Common.{Bool, [], ◌∷◌, ◌++◌, cond, sym, ap, ◌∙◌, append-nil}
use Rattle.contract.specs.Names.declared.account.Account.{Account}
use Rattle.analysis_values.proofs.NamedLaws.{put_more}
use Rattle.analysis_values.proofs.lookup.put_other_keys.Goals as goal
use Rattle.analysis_values.proofs.lookup.put_other_keys.Goals.{then-not-there+in_ok-try_clone+in_ok-push, else-not-there}

pub loop-key-preserved : goal.loop-key-preserved
loop-key-preserved c =
    let e = c.loop-key-item.result in
    let i = c.loop-key.key-index in
    let now = c.loop-key.keys in
    let more = λ (b : Bool). now ++ cond b [] (e.0 ∷ []) in
    put_more c.args.others.now c.args.entries.now i e c.loop-key-test.true c.loop-key-item.is
    c.args.keys.now now c.if-not-there.keys c.has-there.result c.has-there.ensures c.loop-key.invariant
    (elim c.if-not-there.branch [
      | then-not-there+in_ok-try_clone+in_ok-push w ↦
          let put = w.keys-is ∙ w.in_ok-push.ensures.added in
          put ∙ ap (λ (x : Account). now ++ x ∷ []) w.in_ok-try_clone.ensures ∙ ap more (sym w.if-not-there.true)
      | else-not-there w ↦ w.keys-is ∙ sym (append-nil now) ∙ ap more (sym w.if-not-there.false)
    ])
