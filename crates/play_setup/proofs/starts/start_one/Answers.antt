use Rattle.std.proofs.Common.{◌≡◌, ◌∙◌, [], ◌∷◌, List, length, refl, sym, subst}
use Rattle.std.proofs.lemmas.Option.{slice_get_read}
use Rattle.std.specs.Prelude.{slice_get, Some}
use Rattle.parties.specs.Ledger.declared.call.Call.TheVariants as on
use Rattle.parties.specs.Ledger.declared.call.Reply.{Reply}
use Rattle.parties.specs.Ledger.declared.look.Look.{Look}
use Rattle.parties.specs.Plans.declared.scenario.NamedThread.{NamedThread}
use Rattle.parties.specs.LedgerSpec.Roles.declared.published.Published.{Published}
use Rattle.play_setup.specs.SetUp.{key_ask}
use Rattle.play_setup.specs.SetUpSupport.{WentOn}
use Rattle.play_setup.proofs.SetUpLemmas.{ok_more, was_started}
use Rattle.play_setup.proofs.starts.start_one.Goals as goal

-- the start was made of the look that was shown
pub returns-in-Ok : goal.returns-in-Ok
returns-in-Ok g c =
    let objects : List Published = c.args.contracts.now in
    let t : NamedThread = c.args.thread.now in
    let object : Published = c.index-contracts-thread.result in
    let look : Look = c.look_of.result.now in
    let a = c.args.seat.now in
    let b = c.look_at.new.seat in
    let d = c.submitted.new.seat in
    let has : slice_get objects t.contract ≡ Some object = slice_get_read objects (length objects) t.contract object refl c.requires c.index-contracts-thread.is in
    let shown = c.in_ok-shown.ensures in
    let looked = subst (λ (r : Reply). WentOn a b ((on.Look (key_ask t.by), r) ∷ [])) (sym shown.1 ∙ c.look_of.ensures) shown.2 in
    ok_more _ _ c.submitted.result (λ start h. was_started objects t object look c.in-Ok.tx start a b d has c.in-Ok.ensures h.0 looked h.1) c.submitted.ensures
