-- The threads of parts, and that they stand.
use Rattle.std.proofs.Common.{◌≡◌, ℕ, ◌+◌, ◌<◌, Bool, true, false, if◌then◌else◌, List, [], ◌∷◌, ◌++◌, length, drop, get_or, Option, Some, None, refl, sym, ◌∙◌, ap, subst, append_assoc}
use Rattle.std.specs.Option.{option_map}
use Rattle.contract.proofs.FromCollections.SameLaws.{same_by_decides}
use Rattle.builder_spec.specs.Bundle.contracts.bundle.Bundle as bundles
use Rattle.contract.specs.declared.input.Input.{Input}
use Rattle.builder_spec.specs.EutxoTypes.Digests.{datum_hash}
use Rattle.builder_spec.specs.EutxoTypes.Parts.{same_bytes, contract_in, ContractLock}
use Rattle.builder_spec.specs.Roles.Sums.{sums_of}
use Rattle.builder_spec.specs.Roles.Steps.{same_amounts}
use Rattle.builder_spec.specs.Roles.Terms.{terms_of}
use Rattle.builder_spec.specs.Ledger.declared.look.ThreadOutput.{ThreadOutput}
use Rattle.builder_spec.specs.Requests.{Part}
use Rattle.builder_spec.specs.Steps.{Thread, Stepped, is_current, thread_in, thread_of, look_thread}
use Rattle.builder_spec.specs.Parts.{and_stepped, stepped_in, has_clash, agreeing, threads_of}
use Rattle.builder_spec.proofs.SufficesLaws.{and_so}
use Rattle.coin_selection.proofs.ListLaws.{here}
use Rattle.builder.specs.PartsSupport.{stepped_at, IsStanding, AreStanding}

-- ---- the threads of parts, one after another

abbrev joined : Option Stepped → Option (List Stepped) → Option (List Stepped)
joined None rest = None
joined (Some s) rest = option_map (λ ss. s ∷ ss) rest

stepped_by : (o : Option Thread) (xs : List Input) (rest : Option (List Stepped)) → and_stepped o xs rest ≡ joined (option_map (λ e. record { thread = e; inputs = xs }) o) rest
stepped_by None xs rest = refl
stepped_by (Some e) xs rest = refl

stepped_here : (ps : List Part) (i : ℕ) (p : Part) → i < length ps → p ≡ get_or ps i p → stepped_in (drop i ps) ≡ joined (stepped_at p) (stepped_in (drop (i + 1) ps))
stepped_here ps i p l is = ap stepped_in (here ps i p l is) ∙ stepped_by (look_thread p.look) p.inputs (stepped_in (drop (i + 1) ps))

-- these, and the rest, where each has one
abbrev pub behind : List Stepped → Option (List Stepped) → Option (List Stepped)
behind ss o = option_map (λ rest. ss ++ rest) o

moved : (ss : List Stepped) (s : Stepped) (o : Option (List Stepped)) → behind ss (joined (Some s) o) ≡ behind (ss ++ s ∷ []) o
moved ss s None = refl
moved ss s (Some rest) = ap (λ ts. Some ts) (sym (append_assoc ss (s ∷ []) rest))

pub stepped_more : (ps : List Part) (i : ℕ) (p : Part) (ss : List Stepped) (s : Stepped) → i < length ps → p ≡ get_or ps i p → stepped_at p ≡ Some s → behind ss (stepped_in (drop i ps)) ≡ behind (ss ++ s ∷ []) (stepped_in (drop (i + 1) ps))
stepped_more ps i p ss s l is h =
    ap (behind ss) (stepped_here ps i p l is ∙ ap (λ o. joined o (stepped_in (drop (i + 1) ps))) h) ∙ moved ss s (stepped_in (drop (i + 1) ps))

-- ---- threads that stand

abbrev thread_or : Thread → Option Thread → Thread
thread_or d None = d
thread_or d (Some e) = e

told : (xs : List Input) (e : Thread) (t : ThreadOutput) (o : Option ContractLock) → thread_in t o ≡ Some e → IsStanding (record { thread = e; inputs = xs })
told xs e t None h = absurd (cc)
told xs e t (Some c) h = by (is_current t c) refl h
  where
    by : (b : Bool) → is_current t c ≡ b → if◌then◌else◌ {A = Option Thread} b (Some (record { shown = t; datum = t.datum })) None ≡ Some e → IsStanding (record { thread = e; inputs = xs })
    by false p k = absurd (cc)
    by true p k =
        let both = and_so (same_bytes c.script t.published.id) _ p in
        let digest = and_so (same_bytes (datum_hash t.datum) c.digest) _ both.1 in
        let last = and_so ((terms_of t.published).has t.datum.cont) (same_amounts t.output.amount (sums_of t.datum.state)) digest.1 in
        subst (λ (x : Thread). IsStanding (record { thread = x; inputs = xs })) (ap (thread_or e) k) (record {
          has = last.0;
          held = (same_by_decides bundles.the_row.coded t.output.amount (sums_of t.datum.state)).0 last.1;
        })

stands : (xs : List Input) (e : Thread) (o : Option ThreadOutput) → thread_of o ≡ Some e → IsStanding (record { thread = e; inputs = xs })
stands xs e None h = absurd (cc)
stands xs e (Some t) h = told xs e t (contract_in t.output.lock) h

abbrev steps_or : List Stepped → Option (List Stepped) → List Stepped
steps_or d None = d
steps_or d (Some ss) = ss

all_stand : (ps : List Part) (ss : List Stepped) → stepped_in ps ≡ Some ss → AreStanding ss
all_stand [] ss h = subst AreStanding (ap (steps_or ss) h) tt
all_stand (p ∷ ps) ss h = by (look_thread p.look) refl (stepped_in ps) (all_stand ps) h
  where
    by : (o : Option Thread) → look_thread p.look ≡ o → (rest : Option (List Stepped)) → ((qs : List Stepped) → rest ≡ Some qs → AreStanding qs) → and_stepped o p.inputs rest ≡ Some ss → AreStanding ss
    by None e rest f k = absurd (cc)
    by (Some e) q None f k = absurd (cc)
    by (Some e) q (Some qs) f k = subst AreStanding (ap (steps_or ss) k) (stands p.inputs e p.look.thread q, f qs refl)

-- the threads of parts stand
pub threads_stand : (ps : List Part) (ss : List Stepped) → threads_of ps ≡ Some ss → AreStanding ss
threads_stand ps ss h = by (stepped_in ps) (all_stand ps) h
  where
    alike : (qs : List Stepped) (b : Bool) → (if b then None else Some qs) ≡ Some ss → qs ≡ ss
    alike qs true k = absurd (cc)
    alike qs false k = ap (steps_or ss) k

    by : (o : Option (List Stepped)) → ((qs : List Stepped) → o ≡ Some qs → AreStanding qs) → agreeing o ≡ Some ss → AreStanding ss
    by None f k = absurd (cc)
    by (Some []) f k = absurd (cc)
    by (Some (s ∷ qs)) f k = subst AreStanding (alike (s ∷ qs) (has_clash (s ∷ qs)) k) (f (s ∷ qs) refl)
