-- What is offered where the contract stands when the inputs come.
use Rattle.std.proofs.Common.{◌≡◌, ◌≢◌, ℕ, Bool, true, false, List, [], refl, sym, ap, ◌∙◌, subst, Result, Ok, Err, Option, Some, is_ok}
use Rattle.std.specs.Prelude.{◌↔◌, IsOk, IsTrue}
use Rattle.contract.specs.declared.fault.SemFault.{SemFault}
use Rattle.contract.specs.declared.fault.SemFault.TheVariants.{Useless, Memory}
use Rattle.contract.specs.declared.input.Input.{Input}
use Rattle.contract.specs.declared.interval.Interval.{Interval}
use Rattle.contract.specs.declared.payment.Payment.{Payment}
use Rattle.contract.specs.declared.warning.Warning.{Warning}
use Rattle.contract.specs.States.States.{StateMaps}
use Rattle.contract.specs.Tree.{ContractTree}
use Rattle.semantics.specs.Evaluation.Path.{waits_for, Turn}
use Rattle.semantics.specs.Walk.{Standing, standing, Walk, ended, answer_of}
use Rattle.semantics.specs.Transaction.{trimmed, begun}
use Rattle.semantics.specs.Computed.{computed}
use Rattle.next_inputs.specs.declared.offer.Offer.{Offer}
use Rattle.next_inputs.specs.Taking.{taken_case}
use Rattle.next_inputs.specs.Offers.{offered, AreOffers}
use Rattle.next_inputs.specs.Opening.{opening, case_from, next_case}
use Rattle.next_inputs.proofs.OneInput.{as_opening, opened_fault, opened_idle}

-- what the cases there offer is what is taken next
pub exact_next : (i : Interval) (s : StateMaps) (c : ContractTree) (a : Standing) (fs : List Offer) → answer_of (opening i s c) ≡ Ok a → AreOffers (trimmed i s) a.state (waits_for a.contract) fs
    → (x : Input) (n : ℕ) → (offered (waits_for a.contract) fs n x ≡ true) ↔ (next_case i s c x ≡ Some n)
exact_next i s c a fs o h x n =
    let e : next_case i s c x ≡ taken_case (trimmed i s) a.state x (waits_for a.contract) = ap (case_from (trimmed i s) x) o in
    (λ k. e ∙ (h.exact x n).0 k, λ k. (h.exact x n).1 (sym e ∙ k))

-- a transaction without inputs warns, pays and turns as the opening
pub same_warnings : (i : Interval) (s : StateMaps) (c : ContractTree) → (computed i s c []).warnings ≡ (opening i s c).warnings
same_warnings i s c = ap (λ (w : Walk). w.warnings) (as_opening i s c)

pub same_payments : (i : Interval) (s : StateMaps) (c : ContractTree) → (computed i s c []).payments ≡ (opening i s c).payments
same_payments i s c = ap (λ (w : Walk). w.payments) (as_opening i s c)

pub same_turns : (i : Interval) (s : StateMaps) (c : ContractTree) → (computed i s c []).turns ≡ (opening i s c).turns
same_turns i s c = ap (λ (w : Walk). w.turns) (as_opening i s c)

pub is_accepted : (r : Result Standing SemFault) (a : Standing) → r ≡ Ok a → IsTrue true ↔ IsOk r
is_accepted (Ok b) a h = (λ _. refl, λ _. refl)
is_accepted (Err f) a h = absurd (cc)

pub is_refused : (r : Result Standing SemFault) (f : SemFault) → r ≡ Err f → IsTrue false ↔ IsOk r
is_refused (Ok b) f h = absurd (cc)
is_refused (Err g) f h = (λ h. h, λ h. h)

-- where it is useless, nothing is done
pub useless_so : (i : Interval) (s : StateMaps) (c : ContractTree) (f : SemFault) → f ≡ Useless → (f ≢ Memory → answer_of (computed i s c []) ≡ Err f) → answer_of (computed i s c []) ≡ Err Useless
useless_so i s c f e h =
    h (λ m. let k : Useless ≡ Memory = sym e ∙ m in absurd (cc)) ∙ ap (λ (g : SemFault). let r : Result Standing SemFault = Err g in r) e

pub refused_so : (i : Interval) (s : StateMaps) (c : ContractTree) (f g : SemFault) → (f ≢ Memory → answer_of (computed i s c []) ≡ Err f) → (g ≢ Memory → (g ≡ f) × (f ≢ Useless)) → g ≢ Memory → answer_of (opening i s c) ≡ Err g
refused_so i s c f g h k n =
    let q = k n in
    opened_fault i s c f (h (λ m. n (q.0 ∙ m))) q.1 ∙ ap (λ (x : SemFault). let r : Result Standing SemFault = Err x in r) (sym q.0)
