-- Whether each intent is done, plan by plan.
use Rattle.std.proofs.Common.{◌≡◌, ◌∙◌, ℕ, ◌+◌, ◌<◌, Bool, true, false, ◌&&◌, List, length, get_or, drop, map, ap}
use Rattle.std.specs.Prelude.{slice_get}
use Rattle.play_endings.specs.Ledger.declared.call.Entry.{Entry}
use Rattle.play_endings.specs.Plans.declared.scenario.Scenario.{Scenario}
use Rattle.parties.specs.declared.left_out.LeftOut.{LeftOut}
use Rattle.play_endings.specs.declared.taken.Taken.{Taken}
use Rattle.marlowe_play.specs.Strict.{plan_done, plans_done}
use Rattle.marlowe_play.proofs.NotesLemmas.{list_next}

done_next : {V : Type 0} (f : V → List LeftOut) (s : Scenario) (es : List Entry) (taken : List Taken) (vs : List V) (i : ℕ) (v : V) → i < length vs → v ≡ get_or vs i v →
    (plan_done es taken i (slice_get s.plans i) (f v) && plans_done s es taken (i + 1) (drop (i + 1) (map f vs))) ≡ plans_done s es taken i (drop i (map f vs))
done_next f s es taken vs i v there is = list_next f (λ l. plans_done s es taken i l) vs i v there is

-- where it is done, the others decide
pub goes_on : {V : Type 0} (f : V → List LeftOut) (s : Scenario) (es : List Entry) (taken : List Taken) (vs : List V) (i : ℕ) (v : V) (all : Bool) → i < length vs → v ≡ get_or vs i v →
    true ≡ plan_done es taken i (slice_get s.plans i) (f v) → plans_done s es taken i (drop i (map f vs)) ≡ all → plans_done s es taken (i + 1) (drop (i + 1) (map f vs)) ≡ all
goes_on f s es taken vs i v all there is done whole =
    ap (λ (b : Bool). b && plans_done s es taken (i + 1) (drop (i + 1) (map f vs))) done ∙ done_next f s es taken vs i v there is ∙ whole

-- where it isn't, not all are
pub stops : {V : Type 0} (f : V → List LeftOut) (s : Scenario) (es : List Entry) (taken : List Taken) (vs : List V) (i : ℕ) (v : V) (all : Bool) → i < length vs → v ≡ get_or vs i v →
    false ≡ plan_done es taken i (slice_get s.plans i) (f v) → plans_done s es taken i (drop i (map f vs)) ≡ all → false ≡ all
stops f s es taken vs i v all there is done whole =
    ap (λ (b : Bool). b && plans_done s es taken (i + 1) (drop (i + 1) (map f vs))) done ∙ done_next f s es taken vs i v there is ∙ whole
