-- What is printed of a contract and a state.
use Rattle.std.proofs.Common.{◌≡◌, ◌≢◌, ℕ, ℤ, suc, arith, Option, Some, None, option_map, IfSome, Result, Ok, Err, IfOk, Bool, true, false, not, List, [], ◌∷◌, length, map, refl, sym, ap, ◌∙◌, subst}
use Rattle.std.specs.Prelude.{All, Contains, ◌||◌, ◌↔◌, ◌==◌, IsTrue}
use Rattle.std.specs.List.{AllByRecursion}
use Rattle.std.proofs.lemmas.List.Elements.{All-from_recursion, recursion_from_All, All-contains, All-contains_itself, All-weaker}
use Rattle.std.proofs.lemmas.Bool.Decides.{Decides-eqb}
use Rattle.contract.specs.Names.declared.party.Party.{Party}
use Rattle.contract.specs.Tree.{ContractTree}
use Rattle.contract.specs.States.States.{StateMaps}
use Rattle.analysis_spec.specs.declared.kind.AlarmKind.{AlarmKind}
use Rattle.analysis_spec.specs.declared.kind.AlarmKind.TheVariants.{Leaves128}
use Rattle.analysis_spec.specs.declared.alarm.Alarm.{Alarm}
use Rattle.analysis_spec.specs.Analysed.{IsSilent, NamesWhatComes, NamesWhereItComes, StaysUnlessTold, NamesWhereItLeaves, AreNeverReached}
use Rattle.analysis_spec.specs.declared.path.PathStep.{PathStep}
use Rattle.losses.specs.declared.loss.Loss.{Loss}
use Rattle.bound_runs.specs.declared.shown.ShownRange.{ShownRange}
use Rattle.bound_runs.specs.declared.shown.ShownLoss.{ShownLoss}
use Rattle.bound_runs.specs.Told.{AreReached, AreLost, ranges_of, losses_of}
use Rattle.places.specs.declared.key.Key.{Key}
use Rattle.places.specs.Places.{path_keys}
use Rattle.marlowe_analyse.specs.declared.analysed.Telling.{Telling}
use Rattle.analysis_lines.specs.declared.told.ToldAlarm.{ToldAlarm}
use Rattle.alike_alarms.specs.Alike.{AreHeads}
use Rattle.marlowe_analyse.specs.Told.{Alarms, seen_alarm, without_runs, LeastsCanCome, IsOut, AreLosses, NeverAlarms}
use Rattle.analysis_lines.specs.ToldLines.{Line, line_at, line_of, with_heads, LineFits}
use Rattle.marlowe_analyse.specs.OnceSupport.{seen_told}
use Rattle.marlowe_analyse.specs.Printed.{printed, AreHeadsIf, TellsOfTree}
use Rattle.marlowe_analyse.specs.Keeping.{IsSureFor, TellsFor}
use Rattle.marlowe_analyse.specs.declared.analysed.Analysed.{Analysed}
use Rattle.keeping_up.specs.declared.kept.Kept.{Kept}
use Rattle.analysis_lines.specs.Kept.{with_kept}
use Rattle.std.specs.declared.alloc.AllocError.{AllocError}
use Rattle.marlowe_analyse.specs.OnceSupport.{ToldOnce, HaveHeads}
use Rattle.marlowe_analyse.specs.RunsSupport.{HoldRanges, TellsAll, TellPlaces}
use Rattle.marlowe_analyse.proofs.UnreachedLemmas.{never_among}

-- what is so of each alarm of these is so of each of fewer
fewer : (P : Alarm → Type 0) (all alarms : List Alarm) → ((a : Alarm) → Contains alarms a → Contains all a) → AllByRecursion P all → AllByRecursion P alarms
fewer P all alarms h z =
    let whole = All-from_recursion P all z in
    recursion_from_All P alarms (All-weaker (Contains alarms) P (λ a p. All-contains P all a whole (h a p)) alarms (All-contains_itself alarms))

pub not_zero : (n : ℕ) (b : Bool) → b ≡ (suc n == 0) → b ≡ true → ⊥
not_zero n b e h = let q : suc n ≡ 0 = (Decides-eqb (suc n) 0).0 (sym e ∙ h) in absurd (omega arith)

pub empty_is : {X : Type 0} (xs : List X) (b : Bool) → b ≡ (length xs == 0) → (b ≡ true ↔ xs ≡ [])
empty_is [] b e = (λ h. refl, λ h. e)
empty_is (x ∷ xs) b e = (λ h. absurd (not_zero (length xs) b e h), λ h. absurd (cc))

same_empty : {X Y Z : Type 0} (f : X → Z) (g : Y → Z) (xs : List X) (ys : List Y) → map f xs ≡ map g ys → xs ≡ [] → ys ≡ []
same_empty f g [] [] e h = refl
same_empty f g [] (y ∷ ys) e h = absurd (cc)
same_empty f g (x ∷ xs) ys e h = absurd (cc)

none_mapped : {X Y : Type 0} (f : X → Y) (xs : List X) → map f xs ≡ [] → xs ≡ []
none_mapped f [] e = refl
none_mapped f (x ∷ xs) e = absurd (cc)

-- .. and where it is said that there is one
pub not_empty_is : {X : Type 0} (xs : List X) (none : Bool) → (IsTrue none ↔ xs ≡ []) → (not none ≡ false ↔ xs ≡ [])
not_empty_is xs true h = (λ e. h.0 refl, λ e. refl)
not_empty_is xs false h = (λ e. absurd (cc), λ e. absurd (let q : false ≡ true = h.1 e in cc))

-- from when on all can be taken out, where more alarms are told
still_out : (s : StateMaps) (c : ContractTree) (all alarms : List Alarm) (time : Option (Option ℤ)) → (IsSilent all Leaves128 → IsSilent alarms Leaves128) → IsOut s c alarms time → IsOut s c all time
still_out s c all alarms None f h = λ z. h (f z)
still_out s c all alarms (Some t) f h = h

-- and what parties can lose
still_lost : (s : StateMaps) (c : ContractTree) (all alarms : List Alarm) (losses : Option (List Loss)) → (IsSilent all Leaves128 → IsSilent alarms Leaves128) → AreLosses s c alarms losses → AreLosses s c all losses
still_lost s c all alarms None f h = λ z. h (f z)
still_lost s c all alarms (Some ls) f h = h

-- alarms that are told once
no_heads : (ls : List Line) → with_heads ls [] ≡ ls
no_heads [] = refl
no_heads (l ∷ ls) = refl

pub fits_once : (once : Bool) (c : ContractTree) (alarms told : List ToldAlarm) → ToldOnce once c alarms told → All LineFits alarms → All LineFits told
fits_once true c alarms told h z = h.fit
fits_once false c alarms told h z = subst (All LineFits) (sym h) z

-- the heads of all alarms, and their lines
pub record Heads (once : Bool) (c : ContractTree) (all : Alarms) (told : List ToldAlarm) : Type 0 where
  pub found : List (Option ℕ)
  pub heads : AreHeadsIf once c all found
  pub lines : map line_of told ≡ with_heads (map (line_at c) all) found

module _ (c : ContractTree) (all : Alarms) (alarms told : List ToldAlarm) (seen : map seen_told alarms ≡ map seen_alarm all) (lines : map line_of alarms ≡ map (line_at c) all) where
  pub heads_once : (once : Bool) → ToldOnce once c alarms told → Heads once c all told
  heads_once true h = record {
    found = h.found;
    heads = subst (λ zs. AreHeads c zs h.found) seen h.heads;
    lines = h.lines ∙ ap (λ ls. with_heads ls h.found) lines;
  }
  heads_once false h = record { found = []; heads = refl; lines = ap (map line_of) h ∙ lines ∙ sym (no_heads (map (line_at c) all)) }

pub tells_of_tree : (telling : Telling) (given : Bool) (s : StateMaps) (c : ContractTree) (alarms : List Alarm) (places : List (List PathStep)) (ranges : List ShownRange) (time : Option (Option ℤ)) (losses : Option (List ShownLoss)) (told once : List ToldAlarm) (ways : List (List Key)) (clear unreached stays : Bool) (out : List ℕ)
    → NamesWhereItComes alarms s c → NamesWhereItLeaves alarms s c → NamesWhatComes alarms s c → StaysUnlessTold alarms s c → AreNeverReached places s c → HoldRanges s c (ranges_of ranges) → LeastsCanCome (ranges_of ranges) s c → AreReached s c ranges → IsOut s c alarms time → AreLosses s c alarms (option_map losses_of losses) → IfSome losses (AreLost s c) → TellsAll s c alarms told → ToldOnce (not (telling.tools || telling.all)) c told once → TellPlaces places ways
    → (clear ≡ true ↔ told ≡ []) → (unreached ≡ false ↔ ways ≡ []) → (stays ≡ false → IsSilent alarms Leaves128 → ⊥) → out ≡ printed telling given s c (map line_of once) ways ranges time losses → TellsOfTree telling given s c clear unreached stays out
tells_of_tree telling given s c alarms places ranges time losses told once ways clear unreached stays out comes leaves names numbers never hold leasts reach z y lost t o w k l some e =
    let all = t.all in
    let x = heads_once c all told once t.so.seen t.so.lines (not (telling.tools || telling.all)) o in (
      all,
      x.found,
      w.all,
      ranges,
      time,
      losses,
      record {
        comes = λ kind place z. comes kind place (fewer (λ (a : Alarm). a.kind ≡ kind → a.place ≢ place) (without_runs all) alarms t.has z);
        leaves = λ place z. leaves place (fewer (λ (a : Alarm). a.kind ≡ Leaves128 → a.place ≢ place) (without_runs all) alarms t.has z);
        warnings = λ kind z. names kind (fewer (λ (a : Alarm). a.kind ≢ kind) (without_runs all) alarms t.has z);
        numbers = λ z. numbers (fewer (λ (a : Alarm). a.kind ≢ Leaves128) (without_runs all) alarms t.has z);
        ordered = t.ordered;
        runs = t.so.ends;
        unreached = never_among s c places w.all never w.among;
        apart = w.apart;
        paid = hold.paid;
        unpaid = hold.unpaid;
        leasts = leasts;
        out = still_out s c (without_runs all) alarms time (fewer (λ (a : Alarm). a.kind ≢ Leaves128) (without_runs all) alarms t.has) z;
        down = still_lost s c (without_runs all) alarms (option_map losses_of losses) (fewer (λ (a : Alarm). a.kind ≢ Leaves128) (without_runs all) alarms t.has) y;
      },
      reach,
      lost,
      x.heads,
      e ∙ (ap (λ (ls : List Line). printed telling given s c ls ways ranges time losses) x.lines ∙ ap (λ (ks : List (List Key)). printed telling given s c (with_heads (map (line_at c) all) x.found) ks ranges time losses) w.keys),
      (λ h. same_empty line_of (line_at c) told all t.so.lines (k.0 h), λ h. k.1 (same_empty (line_at c) line_of all told (sym t.so.lines) h)),
      (λ h. none_mapped path_keys w.all (sym w.keys ∙ l.0 h), λ h. l.1 (w.keys ∙ ap (map path_keys) h)),
      λ h z. some h (fewer (λ (a : Alarm). a.kind ≢ Leaves128) (without_runs all) alarms t.has z),
    )

no_alarms : (telling : Telling) (given : Bool) (s : StateMaps) (c : ContractTree) (clear unreached stays : Bool) (out : List ℕ) → TellsOfTree telling given s c clear unreached stays out → clear ≡ true → NeverAlarms s c
no_alarms telling given s c clear unreached stays out h e =
    let none : (kind : AlarmKind) → IsSilent (without_runs h.0) kind = λ kind. subst (λ (found : Alarms). IsSilent (without_runs found) kind) (sym (h.11.0 e)) tt in
    (λ kind. h.6.warnings kind (none kind), h.6.numbers (none Leaves128))

pub never_alarms : (telling : Telling) (party : Option Party) (given : Bool) (s : StateMaps) (c : ContractTree) (clear unreached : Bool) (out : List ℕ) → TellsFor telling party given s c clear unreached out → clear ≡ true → NeverAlarms s c
never_alarms telling None given s c clear unreached out h e = no_alarms telling given s c clear unreached h.0 out h.1 e
never_alarms telling (Some party) given s c clear unreached out h e = no_alarms telling given s c clear unreached h.stays h.text h.tells e

-- what doesn't stay leaves
pub leaves_so : (alarms : List Alarm) (leaves : Bool) → (leaves ≡ true → IsSilent alarms Leaves128 → ⊥) → not leaves ≡ false → IsSilent alarms Leaves128 → ⊥
leaves_so alarms false some e = absurd (cc)
leaves_so alarms true some e = some refl

-- what is printed for a party
pub tells_of_party : (telling : Telling) (given : Bool) (asked : Option Party) (party : Party) (s : StateMaps) (c : ContractTree) (told : Analysed) (kept : Option (List Kept)) (r : Result Analysed AllocError)
    → asked ≡ Some party → TellsOfTree telling given s c told.is_clear told.has_unreached told.stays told.text.items → IsSureFor asked s c told.stays kept
    → IfOk r (λ w. (w.text.items ≡ with_kept telling.tools given party kept told.text.items) × (w.is_clear ≡ told.is_clear) × (w.has_unreached ≡ told.has_unreached))
    → IfOk r (λ w. TellsFor telling asked given s c w.is_clear w.has_unreached w.text.items)
tells_of_party telling given asked party s c told kept (Err e) is tells sure h = tt
tells_of_party telling given asked party s c told kept (Ok w) is tells sure (text, clear, unreached) =
    let so : TellsFor telling (Some party) given s c w.is_clear w.has_unreached w.text.items = record {
      text = told.text.items;
      stays = told.stays;
      tells = subst (λ (b : Bool). TellsOfTree telling given s c b w.has_unreached told.stays told.text.items) (sym clear) (subst (λ (b : Bool). TellsOfTree telling given s c told.is_clear b told.stays told.text.items) (sym unreached) tells);
      kept = kept;
      sure = subst (λ (p : Option Party). IsSureFor p s c told.stays kept) is sure;
      is = text;
    } in
    subst (λ (p : Option Party). TellsFor telling p given s c w.is_clear w.has_unreached w.text.items) (sym is) so

pub tells_of_none : (telling : Telling) (given : Bool) (asked : Option Party) (s : StateMaps) (c : ContractTree) (told : Analysed) → asked ≡ None → TellsOfTree telling given s c told.is_clear told.has_unreached told.stays told.text.items
    → TellsFor telling asked given s c told.is_clear told.has_unreached told.text.items
tells_of_none telling given asked s c told is tells = subst (λ (p : Option Party). TellsFor telling p given s c told.is_clear told.has_unreached told.text.items) (sym is) (told.stays, tells)
