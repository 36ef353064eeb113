-- What is published, and that it stays published.
use Rattle.std.proofs.Common.{◌≡◌, ℕ, Bool, true, false, cond, List, [], ◌∷◌, ◌++◌, refl, sym, ◌∙◌, ap, Option, Some, None, Result, Ok, Err, ◌⊎◌, inl, inr}
use Rattle.std.specs.Prelude.{if◌then◌else◌, is_some}
use Rattle.std.specs.Option.{option_or}
use Rattle.std.specs.Cmp.Lexicographic.{bytes_decides}
use Rattle.std.proofs.lemmas.List.Folds.{find-append}
use Rattle.builder_spec.specs.Compiler.declared.fault.CompileFault.{CompileFault}
use Rattle.builder_spec.specs.EutxoTypes.Parts.{same_bytes}
use Rattle.builder_spec.specs.Roles.declared.published.Published.{Published}
use Rattle.ledger_laws.proofs.PlainLaws.{same_some}
use Rattle.builder_spec.specs.Ledger.declared.call.Call.{Call}
use Rattle.builder_spec.specs.Ledger.declared.call.Call.TheVariants as on
use Rattle.builder_spec.specs.Ledger.declared.call.Entry.{Entry}
use Rattle.builder_spec.specs.Ledger.declared.call.Reply.{Reply}
use Rattle.builder_spec.specs.Ledger.Replies.{is_published}
use Rattle.ledger_spec.specs.Replay.{published_at, publication, with_object, published_after, published_from}

-- ---- what is found under an id

-- has that id
pub found_under : (ps : List Published) (id : List ℕ) (p : Published) → published_at ps id ≡ Some p → p.id ≡ id
found_under [] id p h = cc
found_under (q ∷ ps) id p h = by (same_bytes q.id id) refl h (found_under ps id p)
  where
    by : (b : Bool) → same_bytes q.id id ≡ b → cond b (Some q) (published_at ps id) ≡ Some p → (published_at ps id ≡ Some p → p.id ≡ id) → p.id ≡ id
    by true e k go = ap (λ (x : Published). x.id) (sym (same_some q p k)) ∙ (bytes_decides q.id id).0 e
    by false e k go = go k

-- with one object more it is the same, or that object
pub one_more : (ps : List Published) (p : Published) (id : List ℕ) (q : Published) → published_at (ps ++ p ∷ []) id ≡ Some q → (published_at ps id ≡ Some q) ⊎ (p ≡ q)
one_more ps p id q h = by (published_at ps id) (same_bytes p.id id) (sym (find-append (λ r. same_bytes r.id id) ps (p ∷ [])) ∙ h)
  where
    by : (o : Option Published) (b : Bool) → option_or o (cond b (Some p) None) ≡ Some q → (o ≡ Some q) ⊎ (p ≡ q)
    by (Some r) b e = inl e
    by None true e = inr (same_some p q e)
    by None false e = cc

-- which is found where nothing was
pub found_last : (ps : List Published) (p : Published) → published_at ps p.id ≡ None → published_at (ps ++ p ∷ []) p.id ≡ Some p
found_last ps p h =
    find-append (λ r. same_bytes r.id p.id) ps (p ∷ [])
    ∙ ap (λ (o : Option Published). option_or o (published_at (p ∷ []) p.id)) h
    ∙ ap (λ (b : Bool). cond b (Some p) None) ((bytes_decides p.id p.id).1 refl)

-- ---- what is published stays published

pub with_stays : (ps : List Published) (r : Result Published CompileFault) (id : List ℕ) (q : Published) → published_at ps id ≡ Some q → published_at (with_object ps r) id ≡ Some q
with_stays ps (Err f) id q h = h
with_stays ps (Ok p) id q h = by (is_some (published_at ps p.id))
  where
    by : (b : Bool) → published_at (if b then ps else ps ++ p ∷ []) id ≡ Some q
    by true = h
    by false = find-append (λ r. same_bytes r.id id) ps (p ∷ []) ∙ ap (λ (o : Option Published). option_or o (published_at (p ∷ []) id)) h

call_stays : (ps : List Published) (call : Call) (r : Reply) (id : List ℕ) (q : Published) → published_at ps id ≡ Some q → published_at (published_after ps call r) id ≡ Some q
call_stays ps (on.Publish c x) r id q h = by (is_published r)
  where
    by : (b : Bool) → published_at (if b then with_object ps (publication c x) else ps) id ≡ Some q
    by true = with_stays ps (publication c x) id q h
    by false = h
call_stays ps (on.Advance t) r id q h = h
call_stays ps (on.Look ask) r id q h = h
call_stays ps (on.Submit tx) r id q h = h
call_stays ps (on.Enqueue tx) r id q h = h
call_stays ps (on.Round k) r id q h = h

pub stays : (ps : List Published) (es : List Entry) (id : List ℕ) (q : Published) → published_at ps id ≡ Some q → published_at (published_from ps es) id ≡ Some q
stays ps [] id q h = h
stays ps (e ∷ es) id q h = stays (published_after ps e.call e.reply) es id q (call_stays ps e.call e.reply id q h)

-- what is published after some entries and then others
pub published_two : (ps : List Published) (es fs : List Entry) → published_from ps (es ++ fs) ≡ published_from (published_from ps es) fs
published_two ps [] fs = refl
published_two ps (e ∷ es) fs = published_two (published_after ps e.call e.reply) es fs
