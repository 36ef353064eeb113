-- What a look follows of an output: its thread, where it starts one.
use Rattle.std.proofs.Common.{◌≡◌, ℕ, Bool, true, false, not, ◌&&◌, List, refl, ◌∙◌, ap, Option, Some, None}
use Rattle.std.specs.Prelude.{if◌then◌else◌, is_some}
use Rattle.std.specs.List.{slice_get, list_any}
use Rattle.std.specs.Cmp.Lexicographic.{bytes_decides}
use Rattle.builder_spec.specs.Machine.declared.datum.Datum.{Datum}
use Rattle.builder_spec.specs.EutxoTypes.declared.output.Output.{Output}
use Rattle.builder_spec.specs.EutxoTypes.declared.output_ref.OutputRef.{OutputRef}
use Rattle.builder_spec.specs.EutxoTypes.declared.output_ref.OutputRef.TheVariants.{Genesis, Made}
use Rattle.builder_spec.specs.EutxoTypes.declared.tx.Tx.{Tx}
use Rattle.builder_spec.specs.EutxoTypes.Ids.{id_of}
use Rattle.builder_spec.specs.EutxoTypes.Parts.{contract_at, script_in, steps}
use Rattle.builder_spec.specs.Roles.declared.published.Published.{Published}
use Rattle.builder_spec.specs.Ledger.declared.look.ThreadOutput.{ThreadOutput}
use Rattle.ledger_laws.specs.Past.{Past, unspent_at, has_id}
use Rattle.builder_spec.specs.Roles.Steps.{marlowe}
use Rattle.ledger_laws.specs.Threads.{IsMade, StartsThread, thread_end}
use Rattle.ledger_laws.proofs.PlainLaws.{and_true, both, is_there, any_there, any_at}
use Rattle.ledger_laws.proofs.ReferenceLaws.{itself}
use Rattle.ledger_spec.specs.Replay.{World, published_at, past_of}
use Rattle.ledger_spec.specs.Views.{starts_in, StartsAreTold, end_of, made_datum, object_under, thread_output, thread_output_in, thread_output_at, thread_shown}

not_true : (b : Bool) → not b ≡ true → b ≡ false
not_true true h = cc
not_true false h = refl

-- an output that a transaction starts is a start output
starts_so : (past : Past) (r : OutputRef) (n : ℕ) (tx : Tx) → slice_get past.accepted n ≡ Some tx → starts_in r tx ≡ true → StartsThread past r
starts_so past (Genesis i) n tx g k = cc
starts_so past (Made id i) n tx g k =
    let a = and_true (has_id id tx) (not (steps tx) && is_some (contract_at tx i)) k in
    let b = and_true (not (steps tx)) (is_some (contract_at tx i)) a.1 in
    let c = is_there (contract_at tx i) b.1 in
    let name : Made id i ≡ Made (id_of tx) i = ap (λ (x : List ℕ). Made x i) ((bytes_decides id (id_of tx)).0 a.0) in (
      c.0,
      record {
        made = record { number = n; tx = tx; accepted = g; index = i; name = name; contract = c.1 };
        bare = not_true (steps tx) b.0;
      },
    )

-- and a start output is one that some transaction starts
pub told_start : (past : Past) (r : OutputRef) → StartsThread past r → list_any (starts_in r) past.accepted ≡ true
told_start past r s = any_at (starts_in r) past.accepted m.number m.tx m.accepted (ap (λ (q : OutputRef). starts_in q m.tx) m.name ∙ here)
  where
    m : IsMade past r s.0
    m = s.1.made

    bare : (not (steps m.tx) && is_some (contract_at m.tx m.index)) ≡ true
    bare = both (not (steps m.tx)) (is_some (contract_at m.tx m.index)) (ap not s.1.bare) (ap is_some m.contract)

    here : starts_in (Made (id_of m.tx) m.index) m.tx ≡ true
    here = both (has_id (id_of m.tx) m.tx) (not (steps m.tx) && is_some (contract_at m.tx m.index)) (itself (id_of m.tx)) bare

-- where some transaction starts it, it is a start output
pub start_told : (past : Past) (r : OutputRef) → list_any (starts_in r) past.accepted ≡ true → StartsThread past r
start_told past r h = let f = any_there (starts_in r) past.accepted h in starts_so past r f.0 f.1 f.2 f.3

pub starts_told : (named : List ℕ → Option Published) (past : Past) → StartsAreTold named past
starts_told named past r = (
  λ s. let h = told_start past r s in rw h refl,
  λ never. by (list_any (starts_in r) past.accepted) refl never,
)
  where
    by : (b : Bool) → list_any (starts_in r) past.accepted ≡ b → (StartsThread past r → ⊥) → (if b then thread_end marlowe named past r else None) ≡ None
    by true h never = absurd (never (start_told past r h))
    by false h never = refl

-- ---- what a look shows of a thread

if_some : {A : Type 0} (b : Bool) (o : Option A) (x : A) → (if b then o else None) ≡ Some x → (b ≡ true) × (o ≡ Some x)
if_some true o x h = (refl, h)
if_some false o x h = cc

-- where it follows a thread to its end, that is a start's
pub end_told : (named : List ℕ → Option Published) (past : Past) (r q : OutputRef) → end_of named past r ≡ Some q → (list_any (starts_in r) past.accepted ≡ true) × (thread_end marlowe named past r ≡ Some q)
end_told named past r q h = if_some (list_any (starts_in r) past.accepted) (thread_end marlowe named past r) q h

pub end_starts : (named : List ℕ → Option Published) (past : Past) (r q : OutputRef) → end_of named past r ≡ Some q → StartsThread past r × (thread_end marlowe named past r ≡ Some q)
end_starts named past r q h = let p = end_told named past r q h in (start_told past r p.0, p.1)

named_by : (q : OutputRef) (o : Output) (d : Datum) (p : Option Published) (t : ThreadOutput) → thread_output q o d p ≡ Some t → q ≡ t.reference
named_by q o d None t h = cc
named_by q o d (Some p) t h = let same : (let z : ThreadOutput = record { reference = q; output = o; datum = d; published = p } in z) ≡ t = cc in ap (λ (z : ThreadOutput). z.reference) same

named_in : (ps : List Published) (q : OutputRef) (o : Option Output) (d : Option Datum) (t : ThreadOutput) → thread_output_in ps q o d ≡ Some t → q ≡ t.reference
named_in ps q None d t h = cc
named_in ps q (Some o) None t h = cc
named_in ps q (Some o) (Some d) t h = named_by q o d (object_under ps (script_in o.lock)) t h

-- so a thread that is shown is a start's, and is shown where it ends
pub shown_starts : (w : World) (asked : Option OutputRef) (t : ThreadOutput) → thread_shown w asked ≡ Some t →
    (r : OutputRef) × (asked ≡ Some r) × StartsThread (past_of w) r × (thread_end marlowe (published_at w.published) (past_of w) r ≡ Some t.reference)
shown_starts w None t h = cc
shown_starts w (Some r) t h = by (end_of (published_at w.published) (past_of w) r) refl h
  where
    by : (o : Option OutputRef) → end_of (published_at w.published) (past_of w) r ≡ o → thread_output_at w o ≡ Some t →
        (s : OutputRef) × (Some r ≡ Some s) × StartsThread (past_of w) s × (thread_end marlowe (published_at w.published) (past_of w) s ≡ Some t.reference)
    by None e k = cc
    by (Some q) e k =
        let s = end_starts (published_at w.published) (past_of w) r q e in
        (r, refl, s.0, s.1 ∙ ap Some (named_in w.published q (unspent_at (past_of w) q) (made_datum (past_of w) q) t k))
