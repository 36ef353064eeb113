use Rattle.std.proofs.Common.{rules, ◌≡◌, ℕ, ◌<◌, List, [], ◌∷◌, ◌++◌, length, take, get_or, sym, subst}
use Rattle.std.proofs.lemmas.List.{take_more}
use Rattle.parties.specs.EutxoTypes.declared.output_ref.OutputRef.{OutputRef}
use Rattle.parties.specs.Plans.declared.scenario.NamedThread.{NamedThread}
use Rattle.play_setup.specs.SetUpSupport.{WereStarted}
use Rattle.play_setup.proofs.SetUpLemmas.{none_started, one_more_started}
use Rattle.play_setup.proofs.starts.start_all.Goals as goal

pub loop-thread-init : goal.loop-thread-init
loop-thread-init g c =
    let objects = c.args.contracts.now in
    let s = c.args.seat.now in
    subst (λ (os : List OutputRef). WereStarted objects [] s s os) (sym c.new-starts.ensures.items) (none_started objects s)

-- one thread more
pub loop-thread-preserved : goal.loop-thread-preserved
loop-thread-preserved g c =
    let objects = c.args.contracts.now in
    let all : List NamedThread = c.args.threads.now in
    let i : ℕ = c.loop-thread.thread-index in
    let t : NamedThread = c.thread-item.result in
    let here : i < length all = c.loop-thread-test.true in
    let item : get_or all i t ≡ t = search rules in
    let a = c.args.seat.now in
    let b = c.loop-thread.seat in
    let d = c.start_one.new.seat in
    let more = one_more_started objects (take i all) t a b d c.loop-thread.starts.items c.in_ok-start_one.field-0 c.loop-thread.invariant c.in_ok-start_one.ensures in
    rw (take_more all i t here, item) (subst (λ (os : List OutputRef). WereStarted objects (take i all ++ t ∷ []) a d os) (sym c.in_ok-push.ensures.items) more)
