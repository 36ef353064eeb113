-- A look shows where a thread ends, at the state in which its last transaction left it.
use Rattle.std.proofs.Common.{◌≡◌, ℕ, List, refl, sym, ◌∙◌, ap, subst, Option, Some, None, ◌⊎◌, inl, inr}
use Rattle.std.specs.Option.{option_map}
use Rattle.ledger_views.specs.EutxoTypes.declared.output.Output.{Output}
use Rattle.ledger_views.specs.EutxoTypes.declared.output_ref.OutputRef.{OutputRef}
use Rattle.ledger_views.specs.EutxoTypes.Parts.{script_in, ContractLock, contract_in, Instance, lock_of}
use Rattle.ledger_views.specs.Eutxo.Laws.{FoundIsEnough}
use Rattle.ledger_views.specs.Roles.declared.published.Published.{Published}
use Rattle.ledger_views.specs.Roles.Steps.{marlowe}
use Rattle.ledger_views.specs.Ledger.declared.ask.Ask.{Ask}
use Rattle.ledger_views.specs.LedgerLaws.Laws.{ThreadsAreRuns, ThreadsEndWithRuns, ContractsAreOfTables, EndsAreUnspent}
use Rattle.ledger_views.specs.LedgerLaws.Past.{Past, unspent_at}
use Rattle.ledger_views.specs.LedgerLaws.Threads.{thread, thread_end, IsMade, IsStart, StartsThread, Member, Carries, contract_after, state_after}
use Rattle.ledger_views.proofs.FromLedgerLaws.PartLaws.{script_so}
use Rattle.ledger_views.proofs.FromLedgerLaws.PlainLaws.{same_some}
use Rattle.ledger_views.specs.BuilderSpec.Steps.{Thread, thread_terms, thread_of, look_thread}
use Rattle.builder_laws.specs.ShownThreads.{ShownThreadsAreCurrent}
use Rattle.ledger_views.specs.LedgerSpec.ThreadsShown.{ShowsWhereThreadsStand, ShowsWhatIsNotOver}
use Rattle.ledger_views.specs.LedgerSpec.Replay.{Course, World, world, past_of, published, published_at}
use Rattle.ledger_views.specs.LedgerSpec.Views.{EachStartIsTold, end_of, made_datum, object_under, thread_output_at, thread_shown, look}
use Rattle.ledger_views.proofs.FromLedgerSpec.InstanceLaws.{made_instance}
use Rattle.ledger_views.proofs.FromLedgerSpec.PublishingLaws.{found_under}
use Rattle.chain.proofs.HeadlineLemmas.{IsSoundCourse}
use Rattle.chain.proofs.ShownLemmas.{shown_thread}

-- the end of a thread: unspent, made with a contract, under whose script something is published
record EndStands (known : List ℕ → Option Published) (past : Past) (q : OutputRef) : Type 0 where
  pub output : Output
  pub unspent : unspent_at past q ≡ Some output
  pub instance : Instance
  pub made : IsMade past q instance
  pub contract : contract_in output.lock ≡ Some (lock_of instance)
  pub object : Published
  pub named : known instance.script ≡ Some object

-- the end as a look shows it
abbrev thread_at : (known : List ℕ → Option Published) (past : Past) (q : OutputRef) → EndStands known past q → Thread
thread_at known past q s = record { shown = record { reference = q; output = s.output; datum = s.instance.datum; published = s.object }; datum = s.instance.datum }

-- a thread that is shown stands where its last transaction left it
abbrev Stands : World → OutputRef → Instance → Thread → Type 0
Stands w r i e =
    (published_at w.published i.script ≡ Some e.shown.published) × ((m : Instance) × IsMade (past_of w) e.shown.reference m × (m.datum ≡ e.datum))
    × ((run : List Member) → Carries (published_at w.published) (past_of w) (thread_terms e) i.script (thread marlowe (published_at w.published) (past_of w) r) run →
    ((thread_terms e).tree e.datum.cont ≡ contract_after ((thread_terms e).tree e.shown.published.root) run) × (e.datum.state ≡ state_after i.datum.state run))

module _ (run_law : ThreadsAreRuns) (end_law : ThreadsEndWithRuns) (table_law : ContractsAreOfTables) (unspent_law : EndsAreUnspent marlowe) (enough : FoundIsEnough marlowe) (told : EachStartIsTold) (current : ShownThreadsAreCurrent) (c : Course) (kept : IsSoundCourse c) where
  abbrev known : List ℕ → Option Published
  known = published_at (published c.entries)

  abbrev past : Past
  past = past_of (world c)

  end_stands : (r q : OutputRef) → StartsThread past r → thread_end marlowe known past r ≡ Some q → EndStands known past q
  end_stands r q start h =
      let u = unspent_law known past kept.sound r q start h in
      let m = table_law known past kept.tables kept.sound q u.0 u.1 u.2 in
      record { output = u.0; unspent = u.1; instance = m.0; made = m.1; contract = m.2; object = m.3.0; named = m.3.1 }

  -- a look that asks for the thread shows its end
  shown_end : (ask : Ask) (r q : OutputRef) → ask.thread ≡ Some r → end_of known past r ≡ Some q → (s : EndStands known past q) → look_thread (look (world c) ask) ≡ Some (thread_at known past q s)
  shown_end ask r q a h s =
      let lock : ContractLock = lock_of s.instance in
      let under : object_under (published c.entries) (script_in s.output.lock) ≡ Some s.object = ap (object_under (published c.entries)) (script_so s.output.lock lock s.contract) ∙ s.named in
      let datum : made_datum past q ≡ Some s.instance.datum = ap (option_map (λ (i : Instance). i.datum)) (made_instance marlowe enough known past kept.sound q s.instance s.made) in
      current known past (look (world c) ask) (thread_at known past q s).shown kept.tables (found_under (published c.entries)) kept.sound
      (shown_thread (world c) ask.thread r q s.output s.instance.datum s.object a h s.unspent datum under)
      (record { lock = lock; instance = s.instance; unspent = s.unspent; contract = s.contract; made = s.made; datum = refl; named = s.named })

  pub shows_what_is_not_over : ShowsWhatIsNotOver c
  shows_what_is_not_over ask r a start = by (thread_end marlowe known past r) refl
    where
      by : (z : Option OutputRef) → thread_end marlowe known past r ≡ z → (z ≡ None) ⊎ ((e : Thread) × (look_thread (look (world c) ask) ≡ Some e))
      by None h = inl refl
      by (Some q) h = let s = end_stands r q start h in inr (thread_at known past q s, shown_end ask r q a ((told known past r).0 start ∙ h) s)

  end_left : (r : OutputRef) (i : Instance) → IsStart past r i → (q : OutputRef) → thread_end marlowe known past r ≡ Some q → (s : EndStands known past q) → Stands (world c) r i (thread_at known past q s)
  end_left r i start q h s =
      let a = run_law known past kept.tables kept.sound r i start in
      let end = end_law known past kept.tables kept.sound r i start in
      let script : s.instance.script ≡ i.script = (end a.0 a.1 (a.2).carried.0 (a.2).carried.1 q s.instance h s.made).0 in
      let named : known i.script ≡ Some s.object = ap known (sym script) ∙ s.named in
      (named, (s.instance, s.made, refl), λ run k. let z = end s.object named run k q s.instance h s.made in (z.1, z.2))

  pub shows_where_threads_stand : ShowsWhereThreadsStand c
  shows_where_threads_stand ask r i e a start shown = by (thread_end marlowe known past r) refl
    where
      by : (z : Option OutputRef) → thread_end marlowe known past r ≡ z → Stands (world c) r i e
      by None h =
          let over : end_of known past r ≡ None = (told known past r).0 (i, start) ∙ h in
          let none : look_thread (look (world c) ask) ≡ None =
          ap (λ (z : Option OutputRef). thread_of (thread_shown (world c) z)) a ∙ ap (λ (z : Option OutputRef). thread_of (thread_output_at (world c) z)) over in
          let no : (let z : Option Thread = Some e in z) ≡ None = sym shown ∙ none in
          cc
      by (Some q) h =
          let s = end_stands r q (i, start) h in
          let same : thread_at known past q s ≡ e = same_some (thread_at known past q s) e (sym (shown_end ask r q a ((told known past r).0 (i, start) ∙ h) s) ∙ shown) in
          subst (λ (x : Thread). Stands (world c) r i x) same (end_left r i start q h s)
