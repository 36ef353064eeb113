use Rattle.std.proofs.Common.{rules, ◌≡◌, ℕ, ◌<◌, ◌≤◌, List, length, take, get_or, refl, subst, ◌∙◌}
use Rattle.std.proofs.lemmas.List.{take_more, take_all}
use Rattle.std.specs.List.{Contains}
use Rattle.hub.specs.Ledger.declared.ask.Ask.{Ask}
use Rattle.hub.specs.Ledger.declared.call.Call.TheVariants as on
use Rattle.parties.specs.Plays.{asks_of}
use Rattle.parties.specs.PlaysSupport.{Went, AtMostNoted, WasNoted, WasShown}
use Rattle.parties.proofs.PlaysLemmas.{went_same, went_more, shown_none, shown_more, shown_at_most, no_fewer, on_err_always}
use Rattle.parties.proofs.turns.look_at_all.Goals as goal

pub returns-in_err-asks-clause-err : goal.returns-in_err-asks-clause-err
returns-in_err-asks-clause-err g c =
    let plan = c.args.means.now.plan.now in
    on_err_always _ (Went plan c.args.seat.now c.args.seat.now) (went_same plan c.args.seat.now c.args.seat.now refl)

pub loop-ask-init : goal.loop-ask-init
loop-ask-init g c = shown_none c.args.means.now.plan.now c.args.seat.now c.args.receipts.now.items

pub returns-in_err-asked-clause-err : goal.returns-in_err-asked-clause-err
returns-in_err-asked-clause-err g c = on_err_always _ (Went c.args.means.now.plan.now c.args.seat.now c.loop-ask.seat) c.loop-ask.invariant.gone.went

pub returns-in_err-made-clause-err : goal.returns-in_err-made-clause-err
returns-in_err-made-clause-err g c =
    let plan = c.args.means.now.plan.now in
    on_err_always _ (Went plan c.args.seat.now c.noted.new.seat) (went_more plan c.args.seat.now c.loop-ask.seat c.noted.new.seat c.loop-ask.invariant.gone.went (went_same plan c.loop-ask.seat c.noted.new.seat c.in_err-made.ensures.err))

pub returns-then-not-made-clause-ok : goal.returns-then-not-made-clause-ok
returns-then-not-made-clause-ok g c =
    let plan = c.args.means.now.plan.now in
    let intent = c.args.intent.now in
    let all : List Ask = c.deref-ask-items.result.now in
    let i : ℕ = c.loop-ask.ask-index in
    let ask : Ask = c.ask-item.result in
    let here : i < length all = search rules in
    let item : get_or all i ask ≡ ask = search rules in
    let whole : all ≡ asks_of plan intent = c.deref-ask-items.ensures.value ∙ c.in_ok-asks.ensures in
    let asked : Contains (asks_of plan intent) ask = subst (λ (l : List Ask). Contains l ask) whole (i, here, item) in
    let one = subst (λ (x : Ask). AtMostNoted plan (on.Look x) c.loop-ask.seat c.noted.new.seat c.loop-ask.receipts.items c.noted.new.receipts.items) c.in_ok-asked.ensures c.in_ok-made.ensures.ok in
    shown_at_most plan intent (take i all) ask c.args.seat.now c.loop-ask.seat c.noted.new.seat c.args.receipts.now.items c.loop-ask.receipts.items c.noted.new.receipts.items c.requires asked c.loop-ask.invariant one

pub returns-then-not-made-clause-more : goal.returns-then-not-made-clause-more
returns-then-not-made-clause-more g c =
    let plan = c.args.means.now.plan.now in
    let intent = c.args.intent.now in
    let all : List Ask = c.deref-ask-items.result.now in
    let i : ℕ = c.loop-ask.ask-index in
    let ask : Ask = c.ask-item.result in
    let here : i < length all = search rules in
    let item : get_or all i ask ≡ ask = search rules in
    let whole : all ≡ asks_of plan intent = c.deref-ask-items.ensures.value ∙ c.in_ok-asks.ensures in
    let asked : Contains (asks_of plan intent) ask = subst (λ (l : List Ask). Contains l ask) whole (i, here, item) in
    let one = subst (λ (x : Ask). AtMostNoted plan (on.Look x) c.loop-ask.seat c.noted.new.seat c.loop-ask.receipts.items c.noted.new.receipts.items) c.in_ok-asked.ensures c.in_ok-made.ensures.ok in
    no_fewer plan c.args.seat.now c.noted.new.seat c.args.receipts.now.items c.noted.new.receipts.items
    (shown_at_most plan intent (take i all) ask c.args.seat.now c.loop-ask.seat c.noted.new.seat c.args.receipts.now.items c.loop-ask.receipts.items c.noted.new.receipts.items c.requires asked c.loop-ask.invariant one)

pub loop-ask-preserved : goal.loop-ask-preserved
loop-ask-preserved g c =
    let plan = c.args.means.now.plan.now in
    let intent = c.args.intent.now in
    let all : List Ask = c.deref-ask-items.result.now in
    let i : ℕ = c.loop-ask.ask-index in
    let ask : Ask = c.ask-item.result in
    let here : i < length all = search rules in
    let item : get_or all i ask ≡ ask = search rules in
    let whole : all ≡ asks_of plan intent = c.deref-ask-items.ensures.value ∙ c.in_ok-asks.ensures in
    let asked : Contains (asks_of plan intent) ask = subst (λ (l : List Ask). Contains l ask) whole (i, here, item) in
    let one = subst (λ (x : Ask). WasNoted plan (on.Look x) c.loop-ask.seat c.noted.new.seat c.loop-ask.receipts.items c.noted.new.receipts.items) c.in_ok-asked.ensures (c.in_ok-made.ensures.made c.if-not-made.false) in
    let more = shown_more plan intent (take i all) ask c.args.seat.now c.loop-ask.seat c.noted.new.seat c.args.receipts.now.items c.loop-ask.receipts.items c.noted.new.receipts.items c.requires asked c.loop-ask.invariant one in
    rw (take_more all i ask here, item) more

pub returns-clause-ok : goal.returns-clause-ok
returns-clause-ok g c = c.loop-ask.invariant.gone

pub returns-clause-more : goal.returns-clause-more
returns-clause-more g c = no_fewer c.args.means.now.plan.now c.args.seat.now c.loop-ask.seat c.args.receipts.now.items c.loop-ask.receipts.items c.loop-ask.invariant.gone

pub returns-clause-all : goal.returns-clause-all
returns-clause-all g c =
    let plan = c.args.means.now.plan.now in
    let all : List Ask = c.deref-ask-items.result.now in
    let i : ℕ = c.loop-ask.ask-index in
    let past : length all ≤ i = search rules in
    let whole : all ≡ asks_of plan c.args.intent.now = c.deref-ask-items.ensures.value ∙ c.in_ok-asks.ensures in
    λ done. subst (λ (l : List Ask). WasShown plan l c.args.seat.now c.loop-ask.seat c.args.receipts.now.items c.loop-ask.receipts.items) (take_all i all past ∙ whole) c.loop-ask.invariant
