-- What a chain accepted is sound.
use Rattle.std.proofs.Common.{◌≡◌, ℕ, List, [], ◌∷◌, ◌++◌, refl, sym, ap, subst, Option, Some, None, take}
use Rattle.ledger_views.specs.EutxoTypes.declared.output.Output.{Output}
use Rattle.ledger_views.specs.EutxoTypes.declared.tx.Tx.{Tx}
use Rattle.ledger_views.specs.EutxoTypes.declared.fault.TxFault.{TxFault}
use Rattle.ledger_views.specs.Roles.declared.published.Published.{Published}
use Rattle.ledger_views.specs.Roles.Steps.{marlowe}
use Rattle.ledger_views.specs.LedgerLaws.Laws.{AfterIsSound, LaterIsSound}
use Rattle.ledger_views.specs.LedgerLaws.Sound.{IsSound}
use Rattle.ledger_views.proofs.FromLedgerLaws.PlainLaws.{no_more}
use Rattle.ledger_views.specs.Ledger.declared.call.Call.{Call}
use Rattle.ledger_views.specs.Ledger.declared.call.Call.TheVariants as on
use Rattle.ledger_views.specs.Ledger.declared.call.Reply.{Reply}
use Rattle.ledger_views.specs.LedgerSpec.Replay.{Pending, Replay, World, Course, world, past_of, published_at, published, publication, with_object, after_call, accepted_among, replay}
use Rattle.ledger_views.specs.LedgerSpec.Calls.{submit_reply, with_accepted, with_accepted_unless, fault_on, round_verdicts, reply_to, published_with}
use Rattle.ledger_views.specs.LedgerSpec.Legal.{with_entry, entry_of}
use Rattle.ledger_views.proofs.FromLedgerSpec.ReplayLaws.{replay_after}
use Rattle.ledger_views.proofs.FromLedgerSpec.CallsLaws.{after_advance, after_enqueue, only_first, one_kept}
use Rattle.ledger_views.proofs.FromLedgerSpec.PublishingLaws.{with_stays}

abbrev SoundWith : List Published → List Output → List Tx → Type 0
SoundWith ps genesis txs = IsSound marlowe (published_at ps) (record { genesis = genesis; accepted = txs })

abbrev SoundIn : World → Type 0
SoundIn w = SoundWith w.published w.genesis w.replay.accepted

-- ---- what is accepted

accepted_so : AfterIsSound marlowe → (w : World) → SoundIn w → (tx : Tx) → fault_on w tx ≡ None → SoundIn (with_accepted w tx)
accepted_so law w sound tx h = law (published_at w.published) (past_of w) w.replay.tick tx sound h

if_accepted_so : AfterIsSound marlowe → (w : World) → SoundIn w → (tx : Tx) (f : Option TxFault) → fault_on w tx ≡ f → SoundIn (with_accepted_unless w tx f)
if_accepted_so law w sound tx None h = accepted_so law w sound tx h
if_accepted_so law w sound tx (Some f) h = sound

-- ---- rounds

same_published : (w : World) (tx : Tx) (f : Option TxFault) → ((with_accepted_unless w tx f).published ≡ w.published) × ((with_accepted_unless w tx f).genesis ≡ w.genesis)
same_published w tx None = (refl, refl)
same_published w tx (Some f) = (refl, refl)

round_so : AfterIsSound marlowe → (w : World) → SoundIn w → (ps : List Pending) → SoundWith w.published w.genesis (w.replay.accepted ++ accepted_among ps (round_verdicts w ps))
round_so law w sound [] = subst (λ (l : List Tx). SoundWith w.published w.genesis l) (sym (no_more w.replay.accepted)) sound
round_so law w sound (p ∷ ps) =
    let f = fault_on w p.1 in
    let next = with_accepted_unless w p.1 f in
    let same = same_published w p.1 f in
    let rest = round_so law next (if_accepted_so law w sound p.1 f refl) ps in
    subst (λ (l : List Tx). SoundWith w.published w.genesis l) (one_kept w p (accepted_among ps (round_verdicts next ps)) f)
    (subst (λ (g : List Output). SoundWith w.published g (next.replay.accepted ++ accepted_among ps (round_verdicts next ps))) same.1
    (subst (λ (vs : List Published). SoundWith vs next.genesis (next.replay.accepted ++ accepted_among ps (round_verdicts next ps))) same.0 rest))

-- ---- one call

submit_so : AfterIsSound marlowe → (w : World) → SoundIn w → (tx : Tx) (f : Option TxFault) → fault_on w tx ≡ f →
    SoundWith w.published w.genesis (let r : Reply = submit_reply tx f in (after_call w.replay (on.Submit tx) r).accepted)
submit_so law w sound tx None h = accepted_so law w sound tx h
submit_so law w sound tx (Some f) h = sound

call_so : AfterIsSound marlowe → LaterIsSound marlowe → (w : World) → SoundIn w → (call : Call) → SoundWith (published_with w.published call) w.genesis (after_call w.replay call (reply_to w call)).accepted
call_so law later w sound (on.Publish contract currency) =
    later (published_at w.published) (published_at (with_object w.published (publication contract currency))) (past_of w) (with_stays w.published (publication contract currency)) sound
call_so law later w sound (on.Advance t) = subst (λ (l : List Tx). SoundWith w.published w.genesis l) (after_advance w.replay t) sound
call_so law later w sound (on.Look ask) = sound
call_so law later w sound (on.Submit tx) = submit_so law w sound tx (fault_on w tx) refl
call_so law later w sound (on.Enqueue tx) = subst (λ (l : List Tx). SoundWith w.published w.genesis l) (after_enqueue w tx) sound
call_so law later w sound (on.Round k) =
    subst (λ (l : List Tx). SoundWith w.published w.genesis (w.replay.accepted ++ l)) (sym (only_first w k w.replay.pending))
    (round_so law w sound (take k w.replay.pending))

-- a course stays sound
pub course_so : AfterIsSound marlowe → LaterIsSound marlowe → (c : Course) (ps : List Published) → SoundIn (world c) → (seat : ℕ) (call : Call) → ps ≡ published_with (published c.entries) call →
    SoundWith ps c.genesis (replay c.first_tick (with_entry c (entry_of c seat call)).entries).accepted
course_so law later c ps sound seat call h =
    subst (λ (l : List Tx). SoundWith ps c.genesis l) (ap (λ (s : Replay). s.accepted) (sym (replay_after (record { tick = c.first_tick; accepted = []; pending = [] }) c.entries (entry_of c seat call))))
    (subst (λ (l : List Published). SoundWith l c.genesis (after_call (replay c.first_tick c.entries) call (reply_to (world c) call)).accepted) (sym h) (call_so law later (world c) sound call))
