-- The records of a thread tell what it carries.
use Rattle.std.proofs.Common.{◌≡◌, ℕ, suc, true, List, [], ◌∷◌, refl, sym, ◌∙◌, ap, subst, Option, Some, None, map, length, Result, Ok, Err}
use Rattle.std.specs.Prelude.{IfOk, ◌↔◌}
use Rattle.std.specs.List.{All}
use Rattle.std.proofs.lemmas.List.{length-map}
use Rattle.ledger_kept.specs.EutxoTypes.declared.output_ref.OutputRef.{OutputRef}
use Rattle.ledger_kept.specs.EutxoTypes.Parts.{Instance}
use Rattle.ledger_kept.specs.Roles.declared.published.Published.{Published}
use Rattle.ledger_kept.specs.Roles.Terms.{Terms, terms_of}
use Rattle.ledger_kept.specs.LedgerLaws.Past.{Past}
use Rattle.ledger_kept.specs.LedgerLaws.Sound.{IsSound}
use Rattle.ledger_kept.specs.Roles.Steps.{marlowe}
use Rattle.ledger_kept.specs.LedgerLaws.Laws.{AreTables, IsOneRun, ThreadsAreRuns}
use Rattle.ledger_kept.specs.LedgerLaws.Threads.{IsStart, Link, Member, Run, Carries, next_of, ends_by, thread}
use Rattle.ledger_kept.proofs.FromLedgerLaws.PlainLaws.{same_some}
use Rattle.ledger_kept.specs.LedgerSpec.declared.step_record.StepRecord.{StepRecord}
use Rattle.ledger_kept.specs.LedgerSpec.Views.{end_of}
use Rattle.ledger_kept.specs.LedgerSpec.Records.{member_of, LeftClose, TellTheRun, HoldNumbers}
use Rattle.ledger_kept.proofs.FromLedgerSpec.StartsLaws.{starts_told}
use Rattle.ledger_views.specs.RecordsSupport.{Leads}
use Rattle.ledger_views.proofs.LinkLemmas.{spine_leads}

-- the pairs are as many as the links, and as many as the members
carried_count : (named : List ℕ → Option Published) (past : Past) (t : Terms) (script : List ℕ) (ls : List Link) (xs : List Member) → Carries named past t script ls xs → length xs ≡ length ls
carried_count named past t script [] [] h = refl
carried_count named past t script [] (x ∷ xs) h = absurd h
carried_count named past t script (l ∷ ls) [] h = absurd h
carried_count named past t script (l ∷ ls) (x ∷ xs) h = ap suc (carried_count named past t script ls xs h.1)

-- where the thread from an output ends nowhere, the last of its members left Close
over_so : (named : List ℕ → Option Published) (past : Past) (t : Terms) (script : List ℕ) (r : OutputRef) (ls : List Link) (xs : List StepRecord) → Carries named past t script ls (map (member_of t) xs) →
    (ends_by (next_of marlowe named past) (Some r) ls ≡ None) ↔ LeftClose t xs
over_so named past t script r [] [] h = (λ e. cc, λ e. absurd e)
over_so named past t script r [] (x ∷ xs) h = absurd h
over_so named past t script r (l ∷ ls) [] h = absurd h
over_so named past t script r (l ∷ []) (x ∷ []) h = ((h.0).ended, (h.0).gone)
over_so named past t script r (l ∷ []) (x ∷ y ∷ xs) h = absurd h.1
over_so named past t script r (l ∷ m ∷ ls) (x ∷ []) h = absurd h.1
over_so named past t script r (l ∷ m ∷ ls) (x ∷ y ∷ xs) h = over_so named past t script r (m ∷ ls) (y ∷ xs) h.1

module _ (law : ThreadsAreRuns) (named : List ℕ → Option Published) (past : Past) (tables : AreTables named) (sound : IsSound marlowe named past) where
  module _ (r : OutputRef) (c : Instance) (start : IsStart past r c) where
    -- something is published under the script of a start
    pub is_named : named c.script ≡ None → ⊥
    is_named h =
        let a = law named past tables sound r c start in
        let f : (let q : Option Published = None in q) ≡ Some a.0 = sym h ∙ a.1 in
        cc

    one_run : (p : Published) → named c.script ≡ Some p → IsOneRun named past r c p ((terms_of p).tree p.root)
    one_run p h =
        let a = law named past tables sound r c start in
        subst (λ (q : Published). IsOneRun named past r c q ((terms_of q).tree q.root)) (same_some a.0 p (sym a.1 ∙ h)) a.2

    -- the thread carries one list of members
    pub carried_there : (p : Published) → named c.script ≡ Some p → (run : List Member) × Carries named past (terms_of p) c.script (thread marlowe named past r) run
    carried_there p h = let a = one_run p h in (a.carried.0, a.carried.1)

    pub tells : (p : Published) → named c.script ≡ Some p → (xs : List StepRecord) → Carries named past (terms_of p) c.script (thread marlowe named past r) (map (member_of (terms_of p)) xs) →
        All (λ x. (terms_of p).has x.number ≡ true) xs → HoldNumbers named past (thread marlowe named past r) xs → TellTheRun named past r c xs
    tells p h xs carried numbers held =
        let a = one_run p h in
        let same : map (member_of (terms_of p)) xs ≡ a.carried.0 = a.carried.2 (map (member_of (terms_of p)) xs) carried in
        record {
          object = p;
          named = h;
          count = sym (length-map xs (member_of (terms_of p))) ∙ carried_count named past (terms_of p) c.script (thread marlowe named past r) (map (member_of (terms_of p)) xs) carried;
          carried = carried;
          numbers = numbers;
          held = held;
          over = over_so named past (terms_of p) c.script r (thread marlowe named past r) xs carried;
          run = λ brings. subst (λ (m : List Member). Run ((terms_of p).tree p.root) c.datum.state m) (sym same) (a.run brings);
        }

-- so it leads to where it ends, which a look follows it to
pub leads_there : (named : List ℕ → Option Published) (past : Past) (r : OutputRef) (c : Instance) → IsStart past r c → (end : Option OutputRef) → end ≡ end_of named past r → Leads (next_of marlowe named past) (thread marlowe named past r) end
leads_there named past r c start end h =
    subst (Leads (next_of marlowe named past) (thread marlowe named past r)) (sym (h ∙ (starts_told named past r).0 (c, start))) (spine_leads (next_of marlowe named past) (Some r) past.accepted)

pub all_ok : {A E : Type 0} (r : Result A E) (F G H K : A → Type 0) → ((a : A) → F a → G a → H a → K a) → IfOk r F → IfOk r G → IfOk r H → IfOk r K
all_ok (Ok a) F G H K f x y z = f a x y z
all_ok (Err e) F G H K f x y z = tt
