-- Parts of a transaction that keep limits.
use Rattle.std.proofs.Common.{◌≡◌, Bool, true, false, cond, ◌&&◌, List, [], ◌∷◌, ◌++◌, append_assoc, refl, sym, ap, ◌∙◌, subst, Result, Ok, Err, is_ok}
use Rattle.std.specs.Prelude.{slice_get}
use Rattle.std.specs.List.{AllByRecursion}
use Rattle.std.specs.Option.{is_none}
use Rattle.contract.specs.declared.fault.SemFault.{SemFault}
use Rattle.contract.specs.declared.fault.SemFault.TheVariants.{Useless}
use Rattle.contract.specs.declared.payment.Payment.{Payment}
use Rattle.semantics.specs.Walk.{Turn, Standing, Walk, then_from, then_walk}
use Rattle.semantics.specs.Reduction.{Reduction}
use Rattle.semantics.specs.Settling.{reduction_then}
use Rattle.semantics.specs.Transaction.{finished}
use Rattle.analysis_spec.specs.declared.path.PathStep.{PathStep}
use Rattle.analysis_spec.specs.Marks.{step_of, led, Mark, mark, behind}
use Rattle.analysis_walk.specs.Limits.{Limits}
use Rattle.analysis_walk.specs.Covered.{Keeps}

-- marks keep limits, each as far as runs are spoken of behind those before it
abbrev pub Marked : Limits → List Mark → Type 0
Marked L [] = Unit {0}
Marked L (m ∷ ms) = Keeps L m.place m.numbers m.warnings × (L.Passes m.numbers → Marked L ms)

-- runs are spoken of behind all of them
abbrev pub Passed : Limits → List Mark → Type 0
Passed L = AllByRecursion (λ (m : Mark). L.Passes m.numbers)

-- what holds where a contract stands at a place, after payments
abbrev pub Where : Type 1
Where = List PathStep → Standing → List Payment → Type 0

-- a part that begins at a place keeps limits, and P holds of where it ends well and of what it paid
pub record Fine (L : Limits) (P : Where) (here : List PathStep) (ms : List Mark) (w : Walk) : Type 0 where
  pub marked : Marked L ms
  pub rests : Passed L ms → (b : Standing) → w.end ≡ Ok b → P (led here w.turns) b w.payments

pub ok_same : (a b : Standing) → ◌≡◌ {A = Result Standing SemFault} (Ok a) (Ok b) → a ≡ b
ok_same a b e = cc

-- turns after others lead on
pub led_on : (here : List PathStep) (ts us : List Turn) → led here (ts ++ us) ≡ led (led here ts) us
led_on here [] us = refl
led_on here (t ∷ ts) us = led_on (here ++ step_of t) ts us

module _ (L : Limits) where
  marked_append : (ms ns : List Mark) → Marked L ms → (Passed L ms → Marked L ns) → Marked L (ms ++ ns)
  marked_append [] ns h k = k tt
  marked_append (m ∷ ms) ns h k = (h.0, λ a. marked_append ms ns (h.1 a) (λ p. k (a, p)))

  passed_left : (ms ns : List Mark) → Passed L (ms ++ ns) → Passed L ms
  passed_left [] ns h = tt
  passed_left (m ∷ ms) ns h = (h.0, passed_left ms ns h.1)

  passed_right : (ms ns : List Mark) → Passed L (ms ++ ns) → Passed L ns
  passed_right [] ns h = h
  passed_right (m ∷ ms) ns h = passed_right ms ns h.1

  pub fine_ok : (P : Where) (here : List PathStep) (ms : List Mark) (w : Walk) (a : Standing) → Marked L ms → w.end ≡ Ok a → (Passed L ms → P (led here w.turns) a w.payments) → Fine L P here ms w
  fine_ok P here ms w a n q k = record { marked = n; rests = λ p b e. subst (λ c. P (led here w.turns) c w.payments) (ok_same a b (sym q ∙ e)) (k p) }

  pub fine_fault : (P : Where) (here : List PathStep) (ms : List Mark) (w : Walk) (f : SemFault) → Marked L ms → w.end ≡ Err f → Fine L P here ms w
  fine_fault P here ms w f n q = record { marked = n; rests = λ p b e. absurd (let k : ◌≡◌ {A = Result Standing SemFault} (Err f) (Ok b) = sym q ∙ e in cc) }

  -- a reduction that leads to a place, and what comes after it
  pub fine_after : (P : Where) (ps : List Payment) (here there : List PathStep) (r : Reduction) (ms : List Mark) (w : Walk) → here ++ step_of r.turn ≡ there → Keeps L here r.numbers r.warnings
      → (L.Passes r.numbers → Fine L (λ at b qs. P at b ((ps ++ r.payments) ++ qs)) there ms w) → Fine L (λ at b qs. P at b (ps ++ qs)) here (mark here r.numbers r.warnings ∷ ms) (reduction_then r w)
  fine_after P ps here there r ms w e n k = record {
    marked = (n, λ a. (k a).marked);
    rests = λ p b q.
        subst (λ at. P at b (ps ++ (r.payments ++ w.payments))) (ap (λ at. led at w.turns) (sym e))
        (subst (P (led there w.turns) b) (append_assoc ps r.payments w.payments) ((k p.0).rests p.1 b q));
  }

  -- .. one without a mark, that pays nothing
  pub fine_unmarked : (P : Where) (here : List PathStep) (r : Reduction) (ms : List Mark) (w : Walk) → r.payments ≡ [] → Fine L P (here ++ step_of r.turn) ms w → Fine L P here ms (reduction_then r w)
  fine_unmarked P here r ms w e h = record {
    marked = h.marked;
    rests = λ p b q. subst (λ qs. P (led (here ++ step_of r.turn) w.turns) b (qs ++ w.payments)) (sym e) (h.rests p b q);
  }

  fine_from : (P Q : Where) (ps : List Payment) (here : List PathStep) (ms : List Mark) (w : Walk) (end : Result Standing SemFault) (f : Standing → List Mark) (g : Standing → Walk) → w.end ≡ end
      → Fine L (λ at b qs. P at b (ps ++ qs)) here ms w
      → ((a : Standing) (rs : List Payment) → P (led here w.turns) a rs → Fine L (λ at b qs. Q at b (rs ++ qs)) (led here w.turns) (f a) (g a))
      → Fine L (λ at b qs. Q at b (ps ++ qs)) here (ms ++ behind end f) (then_from w end g)
  fine_from P Q ps here ms w (Ok a) f g q h k =
      let n : Passed L ms → Fine L (λ at b qs. Q at b ((ps ++ w.payments) ++ qs)) (led here w.turns) (f a) (g a) = λ p. k a (ps ++ w.payments) (h.rests p a q) in
      record {
        marked = marked_append ms (f a) h.marked (λ p. (n p).marked);
        rests = λ p b e.
            subst (λ at. Q at b (ps ++ (w.payments ++ (g a).payments))) (sym (led_on here w.turns (g a).turns))
            (subst (Q (led (led here w.turns) (g a).turns) b) (append_assoc ps w.payments (g a).payments) ((n (passed_left ms (f a) p)).rests (passed_right ms (f a) p) b e));
      }
  fine_from P Q ps here ms w (Err e) f g q h k = record {
    marked = marked_append ms [] h.marked (λ p. tt);
    rests = λ p b g. absurd (let k : ◌≡◌ {A = Result Standing SemFault} (Err e) (Ok b) = sym q ∙ g in cc);
  }

  -- one part, and then the next
  pub fine_then : (P Q : Where) (ps : List Payment) (here : List PathStep) (ms : List Mark) (w : Walk) (f : Standing → List Mark) (g : Standing → Walk) → Fine L (λ at b qs. P at b (ps ++ qs)) here ms w
      → ((a : Standing) (rs : List Payment) → P (led here w.turns) a rs → Fine L (λ at b qs. Q at b (rs ++ qs)) (led here w.turns) (f a) (g a))
      → Fine L (λ at b qs. Q at b (ps ++ qs)) here (ms ++ behind w.end f) (then_walk w g)
  fine_then P Q ps here ms w f g h k = fine_from P Q ps here ms w w.end f g refl h k

  pub fine_finished : (P : Where) (here : List PathStep) (ms : List Mark) (w : Walk) → Fine L P here ms w → Fine L P here ms (finished w)
  fine_finished P here ms w h = by_turns (is_ok w.end && is_none (slice_get w.turns 0))
    where
      by_turns : (b : Bool) → Fine L P here ms (record w { end = cond b (Err Useless) w.end })
      by_turns true = fine_fault P here ms (record w { end = Err Useless }) Useless h.marked refl
      by_turns false = h
