-- What is published after a legal history is what its Publish entries published.
use Rattle.std.proofs.Common.{◌≡◌, ℕ, zero, suc, Bool, true, false, List, [], ◌∷◌, ◌++◌, refl, sym, ◌∙◌, ap, subst, Option, Some, None, Result, Ok, Err, take, drop, length, inl, inr}
use Rattle.std.specs.Prelude.{if◌then◌else◌, is_some}
use Rattle.std.specs.List.{slice_get}
use Rattle.contract.proofs.FromCollections.SameLaws.{same_by_decides}
use Rattle.contract.specs.declared.tree.Contract.{Contract}
use Rattle.contract.specs.Tree.{contract_tree}
use Rattle.builder_spec.specs.Compiler.declared.fault.CompileFault.{CompileFault}
use Rattle.builder_spec.specs.Compiler.Limits.{compile_fault}
use Rattle.builder_spec.specs.Roles.contracts.published.Published as publications
use Rattle.builder_spec.specs.Roles.declared.published.Published.{Published}
use Rattle.builder_spec.specs.Roles.Publications.{published_of, PublishedAreTables, PublishedTellApart}
use Rattle.builder_spec.specs.Roles.Terms.{IsTable, terms_of}
use Rattle.ledger_laws.proofs.PlainLaws.{same_some, not_both, take_none, take_some, take_whole, cut_at}
use Rattle.builder_spec.specs.Ledger.declared.call.Call.{Call}
use Rattle.builder_spec.specs.Ledger.declared.call.Call.TheVariants as on
use Rattle.builder_spec.specs.Ledger.declared.call.Entry.{Entry}
use Rattle.builder_spec.specs.Ledger.declared.call.Reply.{Reply}
use Rattle.builder_spec.specs.Ledger.declared.call.Reply.TheVariants as answer
use Rattle.builder_spec.specs.Ledger.Replies.{is_published}
use Rattle.ledger_spec.specs.Replay.{Course, World, world, published_at, if_compiled, publication, with_object, published_after, published}
use Rattle.ledger_spec.specs.Calls.{same_publication, publish_reply_beside, publish_reply, reply_to}
use Rattle.ledger_spec.specs.Legal.{IsLegal, before_entry}
use Rattle.ledger_spec.specs.Publishing.{Publishes, PublicationsAreEntries, EntriesArePublished, LegalIdsTellContracts, LegalIdsInUse}
use Rattle.ledger_spec.proofs.LegalLaws.{legal_before}
use Rattle.ledger_spec.proofs.PublishingLaws.{found_under, one_more, found_last, stays, published_two}

-- ---- what is published came by an entry

-- a contract that is published is compiled, and the object is that of it and its currency
publication_so : (c : Contract) (x : List ℕ) (p : Published) → publication c x ≡ Ok p → (compile_fault (contract_tree c) ≡ None) × (published_of (contract_tree c) x ≡ p)
publication_so c x p h = by (compile_fault (contract_tree c)) refl h
  where
    by : (o : Option CompileFault) → compile_fault (contract_tree c) ≡ o → if_compiled (contract_tree c) x o ≡ Ok p → (compile_fault (contract_tree c) ≡ None) × (published_of (contract_tree c) x ≡ p)
    by None e k = let same : published_of (contract_tree c) x ≡ p = cc in (e, same)
    by (Some f) e k = cc

-- an object is what an entry published under its id
abbrev Came : List Entry → Published → Type 0
Came es p = (c : Contract) × Publishes es p.id c p.currency × (publication c p.currency ≡ Ok p)

abbrev AllCame : List Entry → List Published → Type 0
AllCame es ps = (id : List ℕ) (p : Published) → published_at ps id ≡ Some p → Came es p

-- so after a Publish entry that is answered by the table
came_by_publish : (es : List Entry) (w : World) → AllCame es w.published → (n : ℕ) (e : Entry) → slice_get es n ≡ Some e → (c : Contract) (x : List ℕ) → e.call ≡ on.Publish c x →
    (r : Result Published CompileFault) → publication c x ≡ r → e.reply ≡ publish_reply w r → AllCame es (if is_published e.reply then with_object w.published r else w.published)
came_by_publish es w all n e at c x call (Err f) made told =
    subst (λ (r : Reply). AllCame es (if is_published r then w.published else w.published)) (sym told) all
came_by_publish es w all n e at c x call (Ok p) made told =
    subst
    (λ (r : Reply). AllCame es (if is_published r then with_object w.published (Ok p) else w.published))
    (sym told)
    (by (published_at w.published p.id) told)
  where
    currency : x ≡ p.currency
    currency = ap (λ (q : Published). q.currency) (publication_so c x p made).1

    came : e.reply ≡ answer.Published p.id → Came es p
    came k = (
      c,
      record { number = n; entry = e; there = at; call = call ∙ ap (λ (y : List ℕ). on.Publish c y) currency; reply = k },
      ap (λ (y : List ℕ). publication c y) (sym currency) ∙ made,
    )

    by : (o : Option Published) → e.reply ≡ publish_reply_beside p o → AllCame es (if is_published (publish_reply_beside p o) then (if is_some o then w.published else w.published ++ p ∷ []) else w.published)
    by None k = λ id q h.
        elim (one_more w.published p id q h) [
          | inl there ↦ all id q there
          | inr same ↦ subst (λ (z : Published). Came es z) same (came k)
        ]
    by (Some q) k = known (same_publication q p)
      where
        known : (b : Bool) → (let r : Reply = if b then answer.Published p.id else answer.IdInUse in AllCame es (if is_published r then w.published else w.published))
        known true = all
        known false = all

-- and after any entry
came_by_call : (c : Course) (n : ℕ) → AllCame c.entries (published (take n c.entries)) → (e : Entry) → slice_get c.entries n ≡ Some e → (call : Call) → e.call ≡ call → e.reply ≡ reply_to (world (before_entry c n)) call →
    AllCame c.entries (published_after (published (take n c.entries)) call e.reply)
came_by_call c n all e at (on.Publish d x) is told = came_by_publish c.entries (world (before_entry c n)) all n e at d x is (publication d x) refl told
came_by_call c n all e at (on.Advance t) is told = all
came_by_call c n all e at (on.Look ask) is told = all
came_by_call c n all e at (on.Submit tx) is told = all
came_by_call c n all e at (on.Enqueue tx) is told = all
came_by_call c n all e at (on.Round k) is told = all

came_next : (c : Course) → IsLegal c → (n : ℕ) → AllCame c.entries (published (take n c.entries)) → (o : Option Entry) → slice_get c.entries n ≡ o → AllCame c.entries (published (take (suc n) c.entries))
came_next c legal n all None at = subst (λ (l : List Entry). AllCame c.entries (published l)) (sym (take_none n c.entries at)) all
came_next c legal n all (Some e) at =
    subst
    (λ (ps : List Published). AllCame c.entries ps)
    (sym (ap (λ (l : List Entry). published l) (take_some n c.entries e at) ∙ published_two [] (take n c.entries) (e ∷ [])))
    (came_by_call c n all e at e.call refl (legal n e at).reply)

came_before : (c : Course) → IsLegal c → (n : ℕ) → AllCame c.entries (published (take n c.entries))
came_before c legal zero = λ id p h. cc
came_before c legal (suc n) = came_next c legal n (came_before c legal n) (slice_get c.entries n) refl

came_at_last : (c : Course) → IsLegal c → AllCame c.entries (published c.entries)
came_at_last c legal = subst (λ (l : List Entry). AllCame c.entries (published l)) (take_whole c.entries) (came_before c legal (length c.entries))

pub are_entries : PublishedAreTables → PublicationsAreEntries
are_entries law c legal id p h =
    let came = came_at_last c legal id p h in
    let under = found_under (published c.entries) id p h in
    let so = publication_so came.0 p.currency p came.2 in
    let table = law (contract_tree came.0) p.currency so.0 in
    record {
      contract = came.0;
      published = subst (λ (i : List ℕ). Publishes c.entries i came.0 p.currency) under came.1;
      named = under;
      table = subst (λ (q : Published). IsTable (terms_of q)) so.1 table.table;
      tree = subst (λ (q : Published). (terms_of q).tree q.root ≡ contract_tree came.0) so.1 table.tree;
    }

-- ---- what an entry published is found under its id

-- the id that a reply is of
abbrev id_in : Reply → List ℕ
id_in (answer.Published id) = id
id_in r = []

same_id : (a b : List ℕ) → answer.Published a ≡ answer.Published b → a ≡ b
same_id a b h = ap id_in h

-- after the entry
found_after : (w : World) (r : Result Published CompileFault) (id : List ℕ) → publish_reply w r ≡ answer.Published id → (p : Published) × (r ≡ Ok p) × (published_at (with_object w.published r) id ≡ Some p)
found_after w (Err f) id h = cc
found_after w (Ok p) id h = (p, refl, by (published_at w.published p.id) refl h)
  where
    by : (o : Option Published) → published_at w.published p.id ≡ o → publish_reply_beside p o ≡ answer.Published id → published_at (if is_some o then w.published else w.published ++ p ∷ []) id ≡ Some p
    by None e k = subst (λ (i : List ℕ). published_at (w.published ++ p ∷ []) i ≡ Some p) (same_id p.id id k) (found_last w.published p e)
    by (Some q) e k = known (same_publication q p) refl k
      where
        known : (b : Bool) → same_publication q p ≡ b → (let r : Reply = if b then answer.Published p.id else answer.IdInUse in r ≡ answer.Published id) → published_at w.published id ≡ Some p
        known true same k =
            let is : q ≡ p = (same_by_decides publications.the_row.coded q p).0 same in
            subst (λ (i : List ℕ). published_at w.published i ≡ Some p) (same_id p.id id k) (e ∙ ap Some is)
        known false same k = cc

-- what the table answers to an entry that publishes
told_by_table : (c : Course) → IsLegal c → (n : ℕ) (e : Entry) (d : Contract) (x : List ℕ) → slice_get c.entries n ≡ Some e → e.call ≡ on.Publish d x → e.reply ≡ publish_reply (world (before_entry c n)) (publication d x)
told_by_table c legal n e d x at call = (legal n e at).reply ∙ ap (λ (k : Call). reply_to (world (before_entry c n)) k) call

-- what is found after an entry is found after the history
found_on : (c : Course) (n : ℕ) (e : Entry) → slice_get c.entries n ≡ Some e → (id : List ℕ) (q : Published) →
    published_at (published_after (published (take n c.entries)) e.call e.reply) id ≡ Some q → published_at (published c.entries) id ≡ Some q
found_on c n e at id q h =
    let rest = drop (suc n) c.entries in
    let whole = ap (λ (l : List Entry). published l) (cut_at n c.entries e at) ∙ published_two [] (take n c.entries) (e ∷ rest) in
    let found = stays (published_after (published (take n c.entries)) e.call e.reply) rest id q h in
    subst (λ (ps : List Published). published_at ps id ≡ Some q) (sym whole) found

pub found_at_last : EntriesArePublished
found_at_last c legal id d x it =
    let w = world (before_entry c it.number) in
    let told = told_by_table c legal it.number it.entry d x it.there it.call in
    let found = found_after w (publication d x) id (sym told ∙ it.reply) in
    let after : published_after w.published it.entry.call it.entry.reply ≡ with_object w.published (publication d x) =
    ap (λ (k : Call). published_after w.published k it.entry.reply) it.call
    ∙ ap (λ (r : Reply). published_after w.published (on.Publish d x) r) it.reply in
    let first = subst (λ (ps : List Published). published_at ps id ≡ Some found.0) (sym after) found.2 in
    (found.0, found.1, found_on c it.number it.entry it.there id found.0 first)

pub tell_contracts : PublishedTellApart → LegalIdsTellContracts
tell_contracts law c legal id d f x y first second =
    let p = found_at_last c legal id d x first in
    let q = found_at_last c legal id f y second in
    let a = publication_so d x p.0 p.1 in
    let b = publication_so f y q.0 q.1 in
    law (contract_tree d) (contract_tree f) x y a.0 b.0 (a.1 ∙ same_some p.0 q.0 (sym p.2 ∙ q.2) ∙ sym b.1)

-- ---- an id that is in use

-- under it another object is found
another : (w : World) (r : Result Published CompileFault) → publish_reply w r ≡ answer.IdInUse → (p : Published) × (r ≡ Ok p) × (q : Published) × (published_at w.published p.id ≡ Some q) × (same_publication q p ≡ false)
another w (Err f) h = cc
another w (Ok p) h = by (published_at w.published p.id) refl h
  where
    by : (o : Option Published) → published_at w.published p.id ≡ o → publish_reply_beside p o ≡ answer.IdInUse →
        (z : Published) × (let r : Result Published CompileFault = Ok p in r ≡ Ok z) × (q : Published) × (published_at w.published z.id ≡ Some q) × (same_publication q z ≡ false)
    by None e k = cc
    by (Some q) e k = (p, refl, q, e, known (same_publication q p) k)
      where
        known : (b : Bool) → (let r : Reply = if b then answer.Published p.id else answer.IdInUse in r ≡ answer.IdInUse) → b ≡ false
        known true k = cc
        known false k = refl

pub in_use : LegalIdsInUse
in_use c legal n e d x at call told =
    let w = world (before_entry c n) in
    let a = another w (publication d x) (sym (told_by_table c legal n e d x at call) ∙ told) in
    let p = a.0 in
    let q = a.2 in
    let came = came_at_last (before_entry c n) (legal_before c legal n) p.id q a.3 in
    let of_p = publication_so d x p a.1 in
    let of_q = publication_so came.0 q.currency q came.2 in (
      p,
      a.1,
      came.0,
      q.currency,
      subst (λ (i : List ℕ). Publishes (take n c.entries) i came.0 q.currency) (found_under w.published p.id q a.3) came.1,
      λ same.
          let is : q ≡ p = sym of_q.1 ∙ (λ i. published_of (sym same.0 i) (sym same.1 i)) ∙ of_p.1 in
          not_both ((same_by_decides publications.the_row.coded q p).1 is) a.4,
    )
