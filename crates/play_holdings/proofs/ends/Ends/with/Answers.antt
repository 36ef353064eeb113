use Rattle.std.proofs.Common.{◌≡◌, ℕ, ◌+◌, List, Option, ◌∷◌, [], ◌++◌, length, ◌∙◌, ap, sym, arith}
use Rattle.std.proofs.lemmas.Grind.{common_steps}
use Rattle.eutxo.specs.EutxoTypes.declared.output_ref.OutputRef.{OutputRef}
use Rattle.play_holdings.specs.Holdings.{ends_at, thread_from}
use Rattle.play_holdings.specs.SumsSupport.{or_place}
use Rattle.play_holdings.proofs.EndsLemmas.{thread_from-append}
use Rattle.play_holdings.proofs.ends.Ends.with.Goals as goal

-- the new end has the place behind the others, and these keep theirs
pub invariant_of-result : goal.invariant_of-result
invariant_of-result c =
    let ends = c.self.inside.ends.items in
    let count : c.len.result ≡ 0 + length ends = grind (arith, common_steps) in
    λ r.
    c.in_ok-note_end.ensures r
    ∙ ap (λ (o : Option ℕ). or_place o (ends_at r c.args.end) c.len.result) (c.self.invariant r)
    ∙ ap (λ (n : ℕ). or_place (thread_from 0 r ends) (ends_at r c.args.end) n) count
    ∙ sym (thread_from-append 0 r ends c.args.end)
    ∙ ap (λ (l : List (Option OutputRef)). thread_from 0 r l) (sym c.in_ok-push.ensures.items)
