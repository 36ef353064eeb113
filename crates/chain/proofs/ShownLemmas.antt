-- What looks show of what was made before them.
use Rattle.std.proofs.Common.{◌≡◌, ℕ, zero, suc, ◌+◌, ◌<◌, Bool, true, false, ◌||◌, cond, List, [], ◌∷◌, ◌++◌, refl, sym, ◌∙◌, ap, subst, arith, append_assoc, append-nil, take-append-drop, ◌≤◌, Option, Some, None, map, take, drop, length}
use Rattle.std.specs.Prelude.{if◌then◌else◌, filter}
use Rattle.std.specs.List.{slice_get, list_any, Contains, slice_index_or}
use Rattle.std.specs.Map.{lookup}
use Rattle.std.specs.Option.{option_map}
use Rattle.std.proofs.lemmas.List.Folds.{list_any-append}
use Rattle.ledger_views.specs.EutxoTypes.declared.lock.Lock.{Lock}
use Rattle.ledger_views.specs.EutxoTypes.declared.lock.Lock.TheVariants.{Key, Payout, Contract}
use Rattle.ledger_views.specs.Machine.declared.datum.Datum.{Datum}
use Rattle.ledger_views.specs.EutxoTypes.declared.output.Output.{Output}
use Rattle.ledger_views.specs.EutxoTypes.declared.output_ref.OutputRef.{OutputRef}
use Rattle.ledger_views.specs.EutxoTypes.declared.output_ref.OutputRef.TheVariants.{Made}
use Rattle.ledger_views.specs.EutxoTypes.declared.tx.Tx.{Tx}
use Rattle.ledger_views.specs.EutxoTypes.Ids.{id_of}
use Rattle.ledger_views.specs.Eutxo.Laws.{FoundIsEnough}
use Rattle.ledger_views.specs.EutxoTypes.Parts.{same_ref, is_contract, script_in, Instance}
use Rattle.ledger_views.specs.Roles.declared.published.Published.{Published}
use Rattle.ledger_views.specs.Ledger.declared.ask.Ask.{Ask}
use Rattle.ledger_views.specs.Ledger.declared.call.Call.{Call}
use Rattle.ledger_views.specs.Ledger.declared.call.Call.TheVariants as on
use Rattle.ledger_views.specs.Ledger.declared.call.Entry.{Entry}
use Rattle.ledger_views.specs.Ledger.declared.call.Reply.{Reply}
use Rattle.ledger_views.specs.Ledger.declared.call.Reply.TheVariants as answer
use Rattle.ledger_views.specs.Ledger.declared.look.Look.{Look}
use Rattle.ledger_views.specs.Ledger.declared.look.ThreadOutput.{ThreadOutput}
use Rattle.ledger_views.specs.Ledger.declared.look.Unspent.{Unspent}
use Rattle.ledger_views.specs.LedgerLaws.Past.{Past, unspent, unspent_at, is_input_of, is_spent}
use Rattle.ledger_views.specs.LedgerLaws.Sound.{AreKeys, IsAdmitted, IsSound, IsMore}
use Rattle.ledger_views.specs.Roles.Steps.{marlowe}
use Rattle.ledger_views.specs.LedgerLaws.Laws.{StartIsSound, AfterIsSound, LaterIsSound, EndsAreUnspent, ThreadsStay}
use Rattle.ledger_views.specs.LedgerLaws.Threads.{next_of, IsMade}
use Rattle.ledger_views.proofs.FromLedgerLaws.AcceptedLaws.{made_there, still_there, made_published}
use Rattle.ledger_views.proofs.FromLedgerLaws.MadeLaws.{each_tells}
use Rattle.ledger_views.proofs.FromLedgerLaws.PartLaws.{contract_of_lock}
use Rattle.ledger_views.proofs.FromLedgerLaws.PlainLaws.{both_false, same_some, cut_at, take_some, take_twice}
use Rattle.ledger_views.proofs.FromLedgerLaws.ReferenceLaws.{same_ref_so, unspent_is}
use Rattle.ledger_views.proofs.FromLedgerLaws.SpineLaws.{reached, reached_append, ends_reached, stays}
use Rattle.ledger_views.specs.LedgerSpec.Legal.{IsLegal, before_entry}
use Rattle.ledger_views.specs.LedgerSpec.Calls.{reply_to}
use Rattle.ledger_views.specs.LedgerSpec.Replay.{Replay, World, Course, after_call, replay_from, world, past_of, published, published_from, published_at}
use Rattle.ledger_views.specs.LedgerSpec.Shown.{ShowsOutput, ShowsWhatWasMade}
use Rattle.ledger_views.specs.LedgerSpec.Views.{is_key_of, is_payout_of, unspent_of, under_locks, starts_in, end_of, made_datum, thread_output, thread_output_at, thread_output_in, object_under, thread_shown, look}
use Rattle.ledger_views.proofs.FromLedgerSpec.CallsLaws.{GoesOn, accepted_on}
use Rattle.ledger_views.proofs.FromLedgerSpec.InstanceLaws.{made_instance}
use Rattle.ledger_views.proofs.FromLedgerSpec.PublishingLaws.{published_two}
use Rattle.ledger_views.proofs.FromLedgerSpec.PublishingLaws as publishing
use Rattle.ledger_views.proofs.FromLedgerSpec.ReplayLaws.{replay_two}
use Rattle.ledger_views.proofs.FromLedgerSpec.StartsLaws.{end_told, end_starts}
use Rattle.chain.proofs.LegalLemmas.{sound_at}

-- ---- what was accepted

abbrev begun : Course → Replay
begun c = record { tick = c.first_tick; accepted = []; pending = [] }

abbrev accepted_at_entry : Course → ℕ → List Tx
accepted_at_entry c n = (world (before_entry c n)).replay.accepted

plus_one : (n : ℕ) → n + 1 ≡ suc n
plus_one n = omega arith

take_next : {A : Type 0} (n : ℕ) (xs : List A) (x : A) → slice_get xs n ≡ Some x → take (n + 1) xs ≡ take n xs ++ x ∷ []
take_next n xs x h = ap (λ k. take k xs) (plus_one n) ∙ take_some n xs x h

-- a Submit that is accepted adds its transaction
submitted : (c : Course) (n : ℕ) (e : Entry) (tx : Tx) → slice_get c.entries n ≡ Some e → e.call ≡ on.Submit tx → e.reply ≡ answer.Accepted (id_of tx) → accepted_at_entry c (n + 1) ≡ accepted_at_entry c n ++ tx ∷ []
submitted c n e tx at call reply =
    let s = replay_from (begun c) (take n c.entries) in
    ap (λ (l : List Entry). (replay_from (begun c) l).accepted) (take_next n c.entries e at)
    ∙ ap (λ (r : Replay). r.accepted) (replay_two (begun c) (take n c.entries) (e ∷ []))
    ∙ ap (λ (k : Call). (after_call s k e.reply).accepted) call
    ∙ ap (λ (r : Reply). (after_call s (on.Submit tx) r).accepted) reply

-- what is published stays so
pub published_between : (c : Course) (n m : ℕ) → n ≤ m → IsMore (published_at (published (before_entry c n).entries)) (published_at (published (before_entry c m).entries))
published_between c n m le script v h =
    let es = take m c.entries in
    let front : take n es ≡ take n c.entries = take_twice n m c.entries le in
    let all : published es ≡ published_from (published (take n c.entries)) (drop n es) =
    ap published (sym (take-append-drop n es)) ∙ published_two [] (take n es) (drop n es) ∙ ap (λ (xs : List Entry). published_from (published xs) (drop n es)) front in
    ap (λ (ps : List Published). published_at ps script) all ∙ publishing.stays (published (take n c.entries)) (drop n es) script v h

-- ---- elements of lists

-- where an element stands
abbrev Among : {A : Type 0} → List A → A → Type 0
Among xs x = (k : ℕ) × (slice_get xs k ≡ Some x)

contains : {A : Type 0} (xs : List A) (x : A) → Among xs x → Contains xs x
contains xs x p = (p.0, low xs p.0 p.1, is xs p.0 p.1)
  where
    low : (ys : List _) (k : ℕ) → slice_get ys k ≡ Some x → k < length ys
    low [] k h = cc
    low (y ∷ ys) zero h = omega arith
    low (y ∷ ys) (suc k) h = let l = low ys k h in omega (arith, l)

    is : (ys : List _) (k : ℕ) → slice_get ys k ≡ Some x → slice_index_or ys k x ≡ x
    is [] k h = cc
    is (y ∷ ys) zero h = same_some y x h
    is (y ∷ ys) (suc k) h = is ys k h

looked_up : (es : List (OutputRef × Output)) (r : OutputRef) (o : Output) → lookup (same_ref r) es ≡ Some o → (let e : OutputRef × Output = (r, o) in Among es e)
looked_up [] r o h = cc
looked_up (e ∷ es) r o h = by (same_ref r e.0) refl h (looked_up es r o)
  where
    by : (b : Bool) → same_ref r e.0 ≡ b → cond b (Some e.1) (lookup (same_ref r) es) ≡ Some o → (lookup (same_ref r) es ≡ Some o → (let x : OutputRef × Output = (r, o) in Among es x)) → (let x : OutputRef × Output = (r, o) in Among (e ∷ es) x)
    by true s k go =
        let a : r ≡ e.0 = same_ref_so r e.0 s in
        let b : e.1 ≡ o = same_some e.1 o k in
        let is : (let x : OutputRef × Output = (r, o) in e ≡ x) = λ i. (sym a i, b i) in (0, ap Some is)
    by false s k go = let q = go k in (suc q.0, q.1)

filtered : {A : Type 0} (test : A → Bool) (xs : List A) (x : A) → test x ≡ true → Among xs x → Among (filter test xs) x
filtered test xs x yes_x p = go xs p.0 p.1
  where
    go : (ys : List _) (k : ℕ) → slice_get ys k ≡ Some x → Among (filter test ys) x
    go [] k h = cc
    go (y ∷ ys) zero h =
        let is : test y ≡ true = ap test (same_some y x h) ∙ yes_x in
        rw is (0, h)
    go (y ∷ ys) (suc k) h = by (test y) (go ys k h)
      where
        by : (b : Bool) → Among (filter test ys) x → Among (if b then y ∷ filter test ys else filter test ys) x
        by true q = (suc q.0, q.1)
        by false q = q

mapped : {A B : Type 0} (f : A → B) (xs : List A) (x : A) → Among xs x → Among (map f xs) (f x)
mapped f xs x p = (p.0, go xs p.0 p.1)
  where
    go : (ys : List _) (k : ℕ) → slice_get ys k ≡ Some x → slice_get (map f ys) k ≡ Some (f x)
    go [] k h = cc
    go (y ∷ ys) zero h = ap (λ z. Some (f z)) (same_some y x h)
    go (y ∷ ys) (suc k) h = go ys k h

-- what is unspent under an asked lock is shown
under : (asked : Lock → Bool) (past : Past) (r : OutputRef) (o : Output) → unspent_at past r ≡ Some o → asked o.lock ≡ true → (let u : Unspent = record { reference = r; output = o } in Contains (under_locks asked past) u)
under asked past r o there is =
    let e : OutputRef × Output = (r, o) in
    contains (under_locks asked past) (unspent_of e) (mapped unspent_of (filter (λ x. asked x.1.lock) (unspent past)) e (filtered (λ x. asked x.1.lock) (unspent past) e is (looked_up (unspent past) r o there)))

-- ---- threads

list_some : {A : Type 0} (test : A → Bool) (xs ys : List A) → list_any test xs ≡ true → list_any test (xs ++ ys) ≡ true
list_some test xs ys h = list_any-append test xs ys ∙ by (list_any test xs) h
  where
    by : (b : Bool) → b ≡ true → (b || list_any test ys) ≡ true
    by true e = refl
    by false e = cc

get_front : {A : Type 0} (xs ys : List A) (n : ℕ) (x : A) → slice_get xs n ≡ Some x → slice_get (xs ++ ys) n ≡ Some x
get_front [] ys n x h = cc
get_front (z ∷ xs) ys zero x h = h
get_front (z ∷ xs) ys (suc n) x h = get_front xs ys n x h

take_front : {A : Type 0} (xs ys : List A) (n : ℕ) (x : A) → slice_get xs n ≡ Some x → take n (xs ++ ys) ≡ take n xs
take_front [] ys n x h = cc
take_front (z ∷ xs) ys zero x h = refl
take_front (z ∷ xs) ys (suc n) x h = ap (λ (zs : List _). z ∷ zs) (take_front xs ys n x h)

abbrev these : List Output → List Tx → Past
these genesis txs = record { genesis = genesis; accepted = txs }

-- what was accepted first is sound by itself
front_sound : (known : List ℕ → Option Published) (genesis : List Output) (txs more : List Tx) → IsSound marlowe known (these genesis (txs ++ more)) → IsSound marlowe known (these genesis txs)
front_sound known genesis txs more sound = record {
  keys = sound.keys;
  admitted = λ n tx at. subst (λ (l : List Tx). IsAdmitted marlowe known (these genesis l) tx) (take_front txs more n tx at) (sound.admitted n tx (get_front txs more n tx at));
}

reached_alike : (f g : OutputRef → Tx → Option OutputRef) (s : Option OutputRef) (txs : List Tx) → ((n : ℕ) (tx : Tx) → slice_get txs n ≡ Some tx → (r : OutputRef) → f r tx ≡ g r tx) → reached f s txs ≡ reached g s txs
reached_alike f g None txs h = refl
reached_alike f g (Some r) [] h = refl
reached_alike f g (Some r) (x ∷ xs) h = by (is_input_of r x) (reached_alike f g (f r x) xs later ∙ ap (λ (s : Option OutputRef). reached g s xs) (h 0 x refl r)) (reached_alike f g (Some r) xs later)
  where
    later : (n : ℕ) (tx : Tx) → slice_get xs n ≡ Some tx → (q : OutputRef) → f q tx ≡ g q tx
    later n tx at q = h (suc n) tx at q

    by : (b : Bool) → reached f (f r x) xs ≡ reached g (g r x) xs → reached f (Some r) xs ≡ reached g (Some r) xs → (if b then reached f (f r x) xs else reached f (Some r) xs) ≡ (if b then reached g (g r x) xs else reached g (Some r) xs)
    by true k l = k
    by false k l = l

module _ (stay : ThreadsStay marlowe) where
  -- where a thread goes on stays where more is accepted
  next_stays : (known : List ℕ → Option Published) (genesis : List Output) (txs more : List Tx) → IsSound marlowe known (these genesis (txs ++ more)) → (n : ℕ) (tx : Tx) → slice_get txs n ≡ Some tx → (r : OutputRef) →
      next_of marlowe known (these genesis (txs ++ more)) r tx ≡ next_of marlowe known (these genesis txs) r tx
  next_stays known genesis txs [] sound n tx at r = ap (λ (l : List Tx). next_of marlowe known (these genesis l) r tx) (append-nil txs)
  next_stays known genesis txs (s ∷ more) sound n tx at r =
      let here : txs ++ (s ∷ more) ≡ (txs ++ (s ∷ [])) ++ more = sym (append_assoc txs (s ∷ []) more) in
      let all = subst (λ (l : List Tx). IsSound marlowe known (these genesis l)) here sound in
      let further = next_stays known genesis (txs ++ (s ∷ [])) more all n tx (get_front txs (s ∷ []) n tx at) r in
      ap (λ (l : List Tx). next_of marlowe known (these genesis l) r tx) here ∙ further
      ∙ (stay known known (these genesis txs) (λ script v h. h) (front_sound known genesis txs (s ∷ more) sound) n tx at).accepted s r

  -- a thread that ended at an output ends there while nobody spends it, whatever else is published and accepted
  end_stays : (known later : List ℕ → Option Published) (genesis : List Output) (txs more : List Tx) (r q : OutputRef) → IsMore known later → IsSound marlowe known (these genesis txs) → IsSound marlowe later (these genesis (txs ++ more)) →
      end_of known (these genesis txs) r ≡ Some q → is_spent more q ≡ false → end_of later (these genesis (txs ++ more)) r ≡ Some q
  end_stays known later genesis txs more r q is_more sound grown h free =
      let first = next_of marlowe known (these genesis txs) in
      let next = next_of marlowe later (these genesis (txs ++ more)) in
      let p = end_told known (these genesis txs) r q h in
      let alike : reached next (Some r) txs ≡ reached first (Some r) txs =
      reached_alike next first (Some r) txs (λ n tx at s. next_stays later genesis txs more grown n tx at s ∙ (stay known later (these genesis txs) is_more sound n tx at).more s) in
      let at : reached next (Some r) txs ≡ Some q = alike ∙ sym (ends_reached first (Some r) txs) ∙ p.1 in
      let on : reached next (Some r) (txs ++ more) ≡ Some q = reached_append next (Some r) txs more ∙ ap (λ (s : Option OutputRef). reached next s more) at ∙ stays next q more free in
      rw (list_some (starts_in r) txs more p.0) (ends_reached next (Some r) (txs ++ more) ∙ on)

-- what is published under the script of an output
published_so : (ps : List Published) (lock : Lock) → ((script : List ℕ) → script_in lock ≡ Some script → (p : Published) × (published_at ps script ≡ Some p)) → is_contract lock ≡ true → (p : Published) × (object_under ps (script_in lock) ≡ Some p)
published_so ps (Key a) known h = cc
published_so ps (Payout currency role) known h = cc
published_so ps (Contract script d) known h = known script refl

list_none : {A : Type 0} (test : A → Bool) (xs ys : List A) → list_any test xs ≡ false → list_any test ys ≡ false → list_any test (xs ++ ys) ≡ false
list_none test xs ys h k = list_any-append test xs ys ∙ both_false (list_any test xs) (list_any test ys) h k

get_middle : {A : Type 0} (xs : List A) (x : A) (ys : List A) → slice_get (xs ++ x ∷ ys) (length xs) ≡ Some x
get_middle [] x ys = refl
get_middle (z ∷ xs) x ys = get_middle xs x ys

drop_front : {A : Type 0} (xs ys : List A) → drop (length xs) (xs ++ ys) ≡ ys
drop_front [] ys = refl
drop_front (x ∷ xs) ys = drop_front xs ys

drop_middle : {A : Type 0} (xs : List A) (x : A) (ys : List A) → drop (suc (length xs)) (xs ++ x ∷ ys) ≡ ys
drop_middle [] x ys = refl
drop_middle (z ∷ xs) x ys = drop_middle xs x ys

-- the look that a reply is of
abbrev look_in : Reply → Option Look
look_in (answer.Look l) = Some l
look_in r = None

look_of : (a b : Look) → answer.Look a ≡ answer.Look b → a ≡ b
look_of a b h = same_some a b (ap look_in h)

-- the unspent end of a thread is shown with the datum that its maker brought and what is published under its script
pub shown_thread : (w : World) (asked : Option OutputRef) (s r : OutputRef) (o : Output) (d : Datum) (p : Published) → asked ≡ Some s → end_of (published_at w.published) (past_of w) s ≡ Some r → unspent_at (past_of w) r ≡ Some o →
    made_datum (past_of w) r ≡ Some d → object_under w.published (script_in o.lock) ≡ Some p → (let t : ThreadOutput = record { reference = r; output = o; datum = d; published = p } in thread_shown w asked ≡ Some t)
shown_thread w asked s r o d p a e u m k =
    ap (λ (z : Option OutputRef). thread_shown w z) a ∙ ap (λ (z : Option OutputRef). thread_output_at w z) e ∙ ap (λ (z : Option Output). thread_output_in w.published r z (made_datum (past_of w) r)) u
    ∙ ap (λ (z : Option Datum). thread_output_in w.published r (Some o) z) m ∙ ap (λ (z : Option Published). thread_output r o d z) k

-- ---- the law

module _ (enough : FoundIsEnough marlowe) (start : StartIsSound marlowe) (after : AfterIsSound marlowe) (later : LaterIsSound marlowe) (ends_unspent : EndsAreUnspent marlowe) (stay : ThreadsStay marlowe) where
  -- after a sound course, what a look shows of an output that is unspent
  shown_now : (c : Course) (k i : ℕ) (tx : Tx) (o : Output) (ask : Ask) → IsSound marlowe (published_at (published c.entries)) (past_of (world c)) → slice_get (world c).replay.accepted k ≡ Some tx → slice_get tx.outputs i ≡ Some o →
      is_spent (drop (suc k) (world c).replay.accepted) (Made (id_of tx) i) ≡ false → (known : List ℕ → Option Published) (earlier : Past) (n : ℕ) → slice_get earlier.accepted n ≡ Some tx →
      ((r : OutputRef) → end_of known earlier r ≡ Some (Made (id_of tx) i) → end_of (published_at (published c.entries)) (past_of (world c)) r ≡ Some (Made (id_of tx) i)) → ShowsOutput known earlier ask (look (world c) ask) (record { reference = Made (id_of tx) i; output = o })
  shown_now c k i tx o ask sound at made free known earlier n made_then same =
      record {
        key = under (is_key_of ask.keys) past r o there;
        payout = under (is_payout_of ask.payouts) past r o there;
        thread = as_thread;
      }
    where
      past : Past
      past = past_of (world c)

      r : OutputRef
      r = Made (id_of tx) i

      txs : List Tx
      txs = (world c).replay.accepted

      named : List ℕ → Option Published
      named = published_at (published c.entries)

      unspent_r : is_spent txs r ≡ false
      unspent_r = ap (λ (l : List Tx). is_spent l r) (cut_at k txs tx at ∙ sym (append_assoc (take k txs) (tx ∷ []) (drop (suc k) txs))) ∙ list_none (is_input_of r) (take k txs ++ tx ∷ []) (drop (suc k) txs) (still_there marlowe enough named past sound k tx at i) free

      there : unspent_at past r ≡ Some o
      there = unspent_is past r ∙ rw unspent_r (made_there marlowe enough named past sound k tx at i o made)

      as_thread : (s : OutputRef) → ask.thread ≡ Some s → end_of known earlier s ≡ Some r →
          (z : Instance) × IsMade earlier r z × (p : Published) × (let t : ThreadOutput = record { reference = r; output = o; datum = z.datum; published = p } in (look (world c) ask).thread ≡ Some t)
      as_thread s asked ended =
          let e : end_of named past s ≡ Some r = same s ended in
          let q = end_starts named past s r e in
          let z = ends_unspent named past sound s r q.0 q.1 in
          let is : is_contract o.lock ≡ true = subst (λ (x : Output). is_contract x.lock ≡ true) (same_some z.0 o (sym z.1 ∙ there)) z.2 in
          let p = published_so (published c.entries) o.lock (λ script l. made_published marlowe enough named past sound k tx at i o script made l) is in
          let l = contract_of_lock o.lock is in
          let m = (each_tells marlowe enough named past sound k tx at).made i o l.0 made l.1 in
          let now : IsMade past r m.0 = record { number = k; tx = tx; accepted = at; index = i; name = refl; contract = m.1 } in
          let d : made_datum past r ≡ Some (m.0).datum = ap (option_map (λ (z : Instance). z.datum)) (made_instance marlowe enough named past sound r m.0 now) in
          (m.0, record { number = n; tx = tx; accepted = made_then; index = i; name = refl; contract = m.1 }, p.0, shown_thread (world c) ask.thread s r o (m.0).datum p.0 asked e there d p.1)

  pub shows : (c : Course) → AreKeys c.genesis → IsLegal c → ShowsWhatWasMade c
  shows c keys legal n m i e f tx ask l o before at_n call_n reply_n at_m call_m reply_m made free =
      subst (λ (x : Look). ShowsOutput known (past_of (world (before_entry c (n + 1)))) ask x u) is (shown_now d k i tx o ask sound at made free' known (past_of (world (before_entry c (n + 1)))) k made_then same)
    where
      d : Course
      d = before_entry c m

      u : Unspent
      u = record { reference = Made (id_of tx) i; output = o }

      k : ℕ
      k = length (accepted_at_entry c n)

      sound : IsSound marlowe (published_at (published d.entries)) (past_of (world d))
      sound = sound_at start after later c keys legal m

      made_here : accepted_at_entry c (n + 1) ≡ accepted_at_entry c n ++ tx ∷ []
      made_here = submitted c n e tx at_n call_n reply_n

      made_then : slice_get (accepted_at_entry c (n + 1)) k ≡ Some tx
      made_then = ap (λ (xs : List Tx). slice_get xs k) made_here ∙ get_middle (accepted_at_entry c n) tx []

      on : GoesOn (accepted_at_entry c (n + 1)) (accepted_at_entry c m)
      on = accepted_on c (n + 1) m (omega (arith, before))

      all : accepted_at_entry c m ≡ accepted_at_entry c n ++ tx ∷ on.0
      all = on.1 ∙ ap (λ (xs : List Tx). xs ++ on.0) made_here ∙ append_assoc (accepted_at_entry c n) (tx ∷ []) on.0

      at : slice_get (accepted_at_entry c m) k ≡ Some tx
      at = ap (λ (xs : List Tx). slice_get xs k) all ∙ get_middle (accepted_at_entry c n) tx on.0

      rest : drop (length (accepted_at_entry c (n + 1))) (accepted_at_entry c m) ≡ on.0
      rest = ap (λ (xs : List Tx). drop (length (accepted_at_entry c (n + 1))) xs) on.1 ∙ drop_front (accepted_at_entry c (n + 1)) on.0

      free_on : is_spent on.0 (Made (id_of tx) i) ≡ false
      free_on = ap (λ (xs : List Tx). is_spent xs (Made (id_of tx) i)) (sym rest) ∙ free

      free' : is_spent (drop (suc k) (accepted_at_entry c m)) (Made (id_of tx) i) ≡ false
      free' = ap (λ (xs : List Tx). is_spent (drop (suc k) xs) (Made (id_of tx) i)) all ∙ ap (λ (xs : List Tx). is_spent xs (Made (id_of tx) i)) (drop_middle (accepted_at_entry c n) tx on.0) ∙ free_on

      known : List ℕ → Option Published
      known = published_at (published (before_entry c (n + 1)).entries)

      later_known : List ℕ → Option Published
      later_known = published_at (published d.entries)

      published_more : IsMore known later_known
      published_more = published_between c (n + 1) m (omega (arith, before))

      then_sound : IsSound marlowe known (these c.genesis (accepted_at_entry c (n + 1)))
      then_sound = sound_at start after later c keys legal (n + 1)

      same : (r : OutputRef) → end_of known (past_of (world (before_entry c (n + 1)))) r ≡ Some (Made (id_of tx) i) → end_of later_known (past_of (world d)) r ≡ Some (Made (id_of tx) i)
      same r h =
          subst (λ (xs : List Tx). end_of later_known (these c.genesis xs) r ≡ Some (Made (id_of tx) i)) (sym on.1)
          (end_stays stay known later_known c.genesis (accepted_at_entry c (n + 1)) on.0 r (Made (id_of tx) i) published_more then_sound
          (subst (λ (xs : List Tx). IsSound marlowe later_known (these c.genesis xs)) on.1 sound) h free_on)

      is : look (world d) ask ≡ l
      is = look_of (look (world d) ask) l (ap (λ (x : Call). reply_to (world d) x) (sym call_m) ∙ sym (legal m f at_m).reply ∙ reply_m)
