use Rattle.std.proofs.Common.{List, [], ap, sym, subst, ◌∙◌}
use Rattle.contract.specs.declared.fault.SemFault.TheVariants.{Useless}
use Rattle.semantics.specs.Evaluation.Path.{Turn}
use Rattle.semantics.specs.Walk.{Walk, standing, answer_of}
use Rattle.semantics.specs.Computed.{computed}
use Rattle.next_inputs.proofs.OneInput.{opened_ok, opened_idle}
use Rattle.next_inputs.proofs.Openings.{same_warnings, same_payments, same_turns, is_accepted, is_refused, useless_so, refused_so}
use Rattle.next_inputs.proofs.reduction.opening.Goals as goal

pub returns-in-Ok : goal.returns-in-Ok
returns-in-Ok g c =
    let S = g.S.Parts in
    let i = c.args.interval in
    let s = c.args.state.now in
    let t = S.tree c.args.parts.now c.args.place in
    let h = c.in-Ok.ensures in
    let a = standing c.in-Ok.outcome.state (S.tree c.args.parts.now c.in-Ok.outcome.place) in
    record {
      answer = opened_ok i s t a h.answer;
      warnings = h.warnings ∙ same_warnings i s t;
      payments = h.payments ∙ same_payments i s t;
      place = subst (λ (ts : List Turn). S.leads c.args.parts.now c.args.place ts c.in-Ok.outcome.place) (same_turns i s t) h.place;
      can_reduce = is_accepted (answer_of (computed i s t [])) a h.answer;
    }

pub returns-in-Ok-untouched : goal.returns-in-Ok-untouched
returns-in-Ok-untouched g c =
    let S = g.S.Parts in
    let o = c.args.parts.now in
    let p = c.args.place in
    let i = c.args.interval in
    let s = c.args.state.now in
    let t = S.tree o p in
    let e = useless_so i s t c.in-Err.fault c.in-Ok-untouched.ensures.useless c.in-Err.ensures.answer in
    let idle = opened_idle i s t e in
    rw c.in-Ok-untouched.ensures.done (record {
      answer = ap answer_of idle;
      warnings = sym (ap (λ (w : Walk). w.warnings) idle);
      payments = sym (ap (λ (w : Walk). w.payments) idle);
      place = subst (λ (ts : List Turn). S.leads o p ts p) (sym (ap (λ (w : Walk). w.turns) idle)) (g.met.S.Parts.stays o p);
      can_reduce = is_refused (answer_of (computed i s t [])) Useless e;
    })

pub returns-in-Err-untouched : goal.returns-in-Err-untouched
returns-in-Err-untouched g c =
    let t = g.S.Parts.tree c.args.parts.now c.args.place in
    record { answer = refused_so c.args.interval c.args.state.now t c.in-Err.fault c.in-Err-untouched.fault c.in-Err.ensures.answer c.in-Err-untouched.ensures.refused; warnings = tt; payments = tt; place = tt; can_reduce = tt }
