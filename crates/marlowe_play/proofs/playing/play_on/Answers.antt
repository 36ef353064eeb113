use Rattle.std.proofs.Common.{◌≡◌, ◌∙◌, ℕ, ◌<◌, List, length, map, sym, ap, subst}
use Rattle.std.proofs.lemmas.List.{length-map}
use Rattle.std.specs.Prelude.{Vec}
use Rattle.std.specs.Global.{Global}
use Rattle.std.specs.List.{All}
use Rattle.play_endings.specs.EutxoTypes.declared.output_ref.OutputRef.{OutputRef}
use Rattle.play_endings.specs.Roles.declared.published.Published.{Published}
use Rattle.play_endings.specs.Plans.declared.scenario.NamedThread.{NamedThread}
use Rattle.play_endings.specs.Plans.declared.scenario.Scenario.{Scenario}
use Rattle.parties.specs.declared.left_out.LeftOut.{LeftOut}
use Rattle.parties.specs.Hub.Session.{Opened}
use Rattle.play_setup.specs.LedgerSpec.Replay.{Course}
use Rattle.play_setup.specs.SetUp.{object_of}
use Rattle.marlowe_play.specs.Played.{IsTold, wanted, well_by}
use Rattle.marlowe_play.specs.PlayedSupport.{AreLines}
use Rattle.marlowe_play.proofs.PlayingLemmas.{how_many, told_of}
use Rattle.marlowe_play.proofs.playing.play_on.Goals as goal

-- all seats are back
pub close-closed-requires-clause-all : goal.close-closed-requires-clause-all
close-closed-requires-clause-all g c =
    how_many c.args.scenario.now c.in_ok-stage.stage.starts.items c.in_ok-stage.seats.items (map (λ l. l.items) c.in_ok-stage.left.items) c.in_ok-stage.ensures.seats ∙ (sym c.requires.seats ∙ ap (λ (o : Opened). o.seats) c.requires.session)

-- each thread names a contract that was published
pub played_text-requires-clause-contracts : goal.played_text-requires-clause-contracts
played_text-requires-clause-contracts g c =
    let s : Scenario = c.args.scenario.now in
    let objects : List Published = c.in_ok-stage.stage.contracts.items in
    let long : length objects ≡ length s.contracts = ap (λ (l : List Published). length l) c.in_ok-stage.ensures.contracts ∙ length-map s.contracts object_of in
    subst (λ (n : ℕ). All (λ (t : NamedThread). t.contract < n) s.threads) (sym long) c.requires.names.threads

-- the chain began with the scenario's outputs
pub played_text-requires-clause-genesis : goal.played_text-requires-clause-genesis
played_text-requires-clause-genesis g c = ap (λ (k : Course). k.genesis) c.chain.ensures ∙ c.close-closed.ensures.start.0 ∙ (ap (λ (o : Opened). o.genesis) (sym c.requires.session) ∙ c.requires.genesis)

-- at its tick
pub played_text-requires-clause-tick : goal.played_text-requires-clause-tick
played_text-requires-clause-tick g c = ap (λ (k : Course). k.first_tick) c.chain.ensures ∙ c.close-closed.ensures.start.1 ∙ (ap (λ (o : Opened). o.first_tick) (sym c.requires.session) ∙ c.requires.tick)

-- the closed hub's history, as it is printed
pub returns-clause-played : goal.returns-clause-played
returns-clause-played g c =
    let s : Scenario = c.args.scenario.now in
    let closed : Course = c.close-closed.result in
    let objects : List Published = c.in_ok-stage.stage.contracts.items in
    let outputs : List OutputRef = c.in_ok-stage.stage.starts.items in
    let seats = c.in_ok-stage.seats.items in
    let start = c.close-closed.ensures.start in
    let first = start.0 ∙ (ap (λ (o : Opened). o.genesis) (sym c.requires.session) ∙ c.requires.genesis) in
    let at = start.1 ∙ (ap (λ (o : Opened). o.first_tick) (sym c.requires.session) ∙ c.requires.tick) in
    let told = c.in_ok-played.ensures in
    let w = wanted c.args.asked.face c.args.asked.strict (map (λ s. s.now) c.args.asked.kept_open.now) in
    let left = map (λ l. l.items) c.in_ok-stage.left.items in
    let p = c.in_ok-played.played in
    let of_left = subst (λ (ls : List (Vec LeftOut Global)). IsTold c.args.asked.face s c.chain.result.now outputs (map (λ l. l.items) ls) told.0 p.text.items) c.deref.ensures.value told.1 in
    let well_left = subst (λ (ls : List (Vec LeftOut Global)). p.well ≡ well_by w s (map (λ l. l.items) ls) c.chain.result.now.entries told.0) c.deref.ensures.value told.2 in
    let is = subst (λ (k : Course). IsTold c.args.asked.face s k outputs left told.0 p.text.items) c.chain.ensures of_left in
    let well = subst (λ (k : Course). p.well ≡ well_by w s left k.entries told.0) c.chain.ensures well_left in
    let threads = subst (λ (k : Course). AreLines k objects s.threads outputs told.0) c.chain.ensures told.3 in
    told_of s w closed objects outputs seats left told.0 p.text.items p.well c.in_ok-stage.ensures.contracts first at c.close-closed.ensures.legal c.close-closed.ensures.heard c.close-closed.ensures.count c.in_ok-stage.ensures.seats threads is well
