use Rattle.std.proofs.Common.{◌≡◌, ◌∙◌, ℕ, ◌+◌, ◌<◌, List, [], ◌∷◌, ◌++◌, length, take, get_or, refl, sym, ap, subst}
use Rattle.std.proofs.lemmas.List.{take_more}
use Rattle.std.proofs.lemmas.Option.{slice_get_read}
use Rattle.std.specs.Prelude.{slice_get, Some}
use Rattle.play_endings.specs.EutxoTypes.declared.output_ref.OutputRef.{OutputRef}
use Rattle.play_endings.specs.EutxoTypes.declared.output_ref.OutputRef.TheVariants.{Genesis}
use Rattle.play_endings.specs.Roles.declared.published.Published.{Published}
use Rattle.play_endings.specs.Plans.declared.scenario.NamedThread.{NamedThread}
use Rattle.play_setup.specs.PlayLines.PlayLines.{ThreadLine}
use Rattle.marlowe_play.specs.PlayedSupport.{AreLines}
use Rattle.marlowe_play.proofs.PlayingLemmas.{one_more_line}
use Rattle.marlowe_play.proofs.lines.lines_of.Goals as goal

-- one line more
pub loop-place-preserved : goal.loop-place-preserved
loop-place-preserved c =
    let chain = c.args.chain.now in
    let objects : List Published = c.args.contracts.now in
    let all : List NamedThread = c.args.threads.now in
    let outputs : List OutputRef = c.args.starts.now in
    let i : ℕ = c.loop-place.place in
    let t : NamedThread = c.index-threads-place.result in
    let o : OutputRef = get_or outputs i (Genesis 0) in
    let object : Published = c.index-contracts-thread.result in
    let lines : List ThreadLine = c.loop-place.lines.items in
    let line : ThreadLine = c.in_ok-line_of.field-0 in
    let here : i < length all = c.loop-place-test.true in
    let item : get_or all i t ≡ t = sym c.index-threads-place.is in
    let there : i < length outputs = subst (λ (n : ℕ). i < n) (sym c.requires.starts) here in
    let within : t.contract < length objects = subst (λ (x : NamedThread). x.contract < length objects) item (c.requires.contracts i t here) in
    let has : slice_get objects t.contract ≡ Some object = slice_get_read objects (length objects) t.contract object refl within c.index-contracts-thread.is in
    let threads : take (i + 1) all ≡ take i all ++ t ∷ [] = take_more all i t here ∙ ap (λ (x : NamedThread). take i all ++ x ∷ []) item in
    let starts : take (i + 1) outputs ≡ take i outputs ++ o ∷ [] = take_more outputs i (Genesis 0) there in
    let more = one_more_line chain objects (take i all) (take i outputs) lines t o line object c.loop-place.invariant has c.in_ok-line_of.ensures in
    let of_lines = subst (λ (ls : List ThreadLine). AreLines chain objects (take i all ++ t ∷ []) (take i outputs ++ o ∷ []) ls) (sym c.in_ok-push.ensures.items) more in
    let of_starts = subst (λ (os : List OutputRef). AreLines chain objects (take i all ++ t ∷ []) os c.push.new.self.items) (sym starts) of_lines in
    subst (λ (ts : List NamedThread). AreLines chain objects ts (take (i + 1) outputs) c.push.new.self.items) (sym threads) of_starts
