-- A look changes nothing that looks show of threads.
use Rattle.std.proofs.Common.{◌≡◌, ℕ, ℤ, ◌+◌, ◌<◌, List, [], ◌∷◌, ◌++◌, length, map, take, get_or, refl, sym, ◌∙◌, ap, ap₂, Option, Some, None}
use Rattle.std.proofs.lemmas.List.{take_more}
use Rattle.ledger_kept.specs.EutxoTypes.declared.output_ref.OutputRef.{OutputRef}
use Rattle.ledger_kept.specs.Roles.declared.published.Published.{Published}
use Rattle.ledger_kept.specs.Ledger.declared.ask.Ask.{Ask}
use Rattle.ledger_kept.specs.Ledger.declared.call.Call.TheVariants as on
use Rattle.ledger_kept.specs.Ledger.declared.call.Entry.{Entry}
use Rattle.ledger_kept.specs.Ledger.declared.look.ThreadOutput.{ThreadOutput}
use Rattle.ledger_kept.specs.LedgerLaws.Past.{Past, unspent_at}
use Rattle.ledger_kept.specs.LedgerSpec.Legal.{with_entry, entry_of}
use Rattle.ledger_kept.specs.LedgerSpec.Replay.{Replay, World, Course, published, published_at, past_of, world}
use Rattle.ledger_kept.specs.LedgerSpec.Views.{end_of, made_datum, thread_output_in, thread_output_at, thread_shown}
use Rattle.ledger_kept.proofs.FromLedgerSpec.PublishingLaws.{published_two}
use Rattle.ledger_kept.proofs.FromLedgerSpec.ReplayLaws.{replay_after}
use Rattle.chain_holdings.specs.After.{output_shown, shown_at}
use Rattle.chain_holdings.specs.StillSupport.{IsStill}

-- behind a look
pub look_still : (c : Course) (seat : ℕ) (ask : Ask) → IsStill c (with_entry c (entry_of c seat (on.Look ask)))
look_still c seat ask =
    let e : Entry = entry_of c seat (on.Look ask) in
    let start : Replay = record { tick = c.first_tick; accepted = []; pending = [] } in
    (published_two [] c.entries (e ∷ []), ap (λ (s : Replay). let p : Past = record { genesis = c.genesis; accepted = s.accepted } in p) (replay_after start c.entries e))

pub still_itself : (c : Course) → IsStill c c
still_itself c = (refl, refl)

pub still_on : (c d e : Course) → IsStill c d → IsStill d e → IsStill c e
still_on c d e h k = (k.0 ∙ h.0, k.1 ∙ h.1)

same_output : (w v : World) (end : Option OutputRef) → v.published ≡ w.published → past_of v ≡ past_of w → thread_output_at v end ≡ thread_output_at w end
same_output w v None ps past = refl
same_output w v (Some q) ps past = ap₂ (λ (l : List Published) (p : Past). thread_output_in l q (unspent_at p q) (made_datum p q)) ps past

-- what is shown of a thread
pub shown_still : (c d : Course) (start : OutputRef) → IsStill c d → shown_at (world d) start ≡ shown_at (world c) start
shown_still c d start h =
    let w = world c in
    let v = world d in
    let ends : end_of (published_at v.published) (past_of v) start ≡ end_of (published_at w.published) (past_of w) start = ap₂ (λ (l : List Published) (p : Past). end_of (published_at l) p start) h.0 h.1 in
    ap output_shown (same_output w v (end_of (published_at v.published) (past_of v) start) h.0 h.1 ∙ ap (thread_output_at w) ends)

-- one more
pub shown_next : (w : World) (starts : List OutputRef) (i : ℕ) (d : OutputRef) (old new : List (Option OutputRef)) (end : Option OutputRef) → i < length starts → old ≡ map (shown_at w) (take i starts) → new ≡ old ++ end ∷ [] → end ≡ shown_at w (get_or starts i d) →
    new ≡ map (shown_at w) (take (i + 1) starts)
shown_next w starts i d old new end here so put at =
    put ∙ ap₂ (λ (l : List (Option OutputRef)) (e : Option OutputRef). l ++ e ∷ []) so at
    ∙ sym (map_more (take i starts) (get_or starts i d))
    ∙ ap (map (shown_at w)) (sym (take_more starts i d here))
  where
    map_more : (xs : List OutputRef) (x : OutputRef) → map (shown_at w) (xs ++ x ∷ []) ≡ map (shown_at w) xs ++ shown_at w x ∷ []
    map_more [] x = refl
    map_more (y ∷ ys) x = ap (λ (l : List (Option OutputRef)). shown_at w y ∷ l) (map_more ys x)
