-- Where a contract waits, it has settled already.
use Rattle.std.proofs.Common.{◌≡◌, ℕ, ℤ, pos, ◌+ℤ◌, ◌≤ℤ◌, int_lt, Bool, true, false, cond, List, [], ◌∷◌, refl, sym, ap, ◌∙◌, inl, inr, Err}
use Rattle.std.specs.Int.{int_min, int_max}
use Rattle.contract.specs.Names.declared.party.Party.{Party}
use Rattle.contract.specs.Names.declared.payee.Payee.{Payee}
use Rattle.contract.specs.Names.declared.payee.Payee.TheVariants.{Account as ToAccount, Party as ToParty}
use Rattle.contract.specs.Names.declared.token.Token.{Token}
use Rattle.contract.specs.declared.fault.SemFault.TheVariants.{InvalidInterval, IntervalInPast}
use Rattle.contract.specs.declared.input.Input.{Input}
use Rattle.contract.specs.declared.input.Input.TheVariants.{Deposit, Choice, Notify}
use Rattle.contract.specs.declared.interval.Interval.{Interval}
use Rattle.contract.specs.Tree.{ContractTree, close, pay, if_obs, when, let_be, assert}
use Rattle.contract.specs.States.States.{StateMaps, with_money}
use Rattle.semantics.specs.Evaluation.Evaluation.{eval}
use Rattle.semantics.specs.Walk.{Standing, standing, Walk, ended}
use Rattle.semantics.specs.Reduction.{Reduction, Reduces, Quiet, balance, account_of, debited, credited}
use Rattle.semantics.specs.Applying.{taken}
use Rattle.semantics.specs.Transaction.{trimmed, begun}
use Rattle.semantics.specs.Computed.{settled}
use Rattle.semantics.proofs.Integers.{lt_false}
use Rattle.semantics.proofs.Relations.{rests_when_quiet}
use Rattle.next_inputs.specs.Opening.{opening}
use Rattle.explain_transactions.specs.Moves.{Move, reduces, takes, Moves}
use Rattle.explain_transactions.specs.Laws.{WaitingIsSettled}
use Rattle.explain_transactions.proofs.AfterLemmas.{fixed_order}

-- ---- the minimum time stays

credited_time : (s : StateMaps) (y : Payee) (t : Token) (n : ℤ) → (credited s y t n).min_time ≡ s.min_time
credited_time s (ToAccount p) t n = refl
credited_time s (ToParty p) t n = refl

reduced_time : (i : Interval) (s : StateMaps) (c : ContractTree) (r : Reduction) → Reduces i s c r → r.state.min_time ≡ s.min_time
reduced_time i s close r h = ap (λ (q : Reduction). q.state.min_time) h.2
reduced_time i s (pay p y t v c) r (inl h) = ap (λ (q : Reduction). q.state.min_time) h.1
reduced_time i s (pay p y t v c) r (inr h) =
    ap (λ (q : Reduction). q.state.min_time) h.1 ∙ credited_time (debited s p t (int_min (balance s p t) (eval i s v))) y t (int_min (balance s p t) (eval i s v))
reduced_time i s (if_obs o c d) r h = ap (λ (q : Reduction). q.state.min_time) h
reduced_time i s (let_be x v c) r h = ap (λ (q : Reduction). q.state.min_time) h
reduced_time i s (assert o c) r h = ap (λ (q : Reduction). q.state.min_time) h
reduced_time i s (when ks t c) r h = ap (λ (q : Reduction). q.state.min_time) h.1

taken_time : (s : StateMaps) (x : Input) → (taken s x).min_time ≡ s.min_time
taken_time s (Deposit a p t n) = by (int_lt (pos 0) n)
  where
    by : (b : Bool) → (cond b (with_money s (account_of a t) (balance s a t +ℤ n)) s).min_time ≡ s.min_time
    by true = refl
    by false = refl
taken_time s (Choice id n) = refl
taken_time s Notify = refl

moves_time : (j : Interval) (a : Standing) (ms : List Move) (b : Standing) → Moves j a ms b → b.state.min_time ≡ a.state.min_time
moves_time j a [] b h = ap (λ (x : Standing). x.state.min_time) h
moves_time j a (reduces r ∷ ms) b h = moves_time j (standing r.state r.contract) ms b h.1 ∙ reduced_time j a.state a.contract r h.0.reduces
moves_time j a (takes x n k ∷ ms) b h = moves_time j (standing (taken a.state x) k.1) ms b h.1 ∙ taken_time a.state x

-- ---- so the interval is fixed already

itself : (n : ℤ) → int_max n n ≡ n
itself n = by (int_lt n n)
  where
    by : (t : Bool) → cond t n n ≡ n
    by true = refl
    by false = refl

abbrev by_tests : Bool → Bool → Walk → Walk
by_tests b d w = cond b (ended (Err InvalidInterval)) (cond d (ended (Err IntervalInPast)) w)

fixed_already : (j : Interval) (s : StateMaps) (c : ContractTree) → s.min_time ≡ j.from → int_lt j.to j.from ≡ false → opening j s c ≡ settled j s c
fixed_already j s c e h =
    ap (λ b. by_tests b (int_lt j.to s.min_time) (settled (trimmed j s) (begun j s) c)) h
    ∙ (ap (λ b. by_tests false b (settled (trimmed j s) (begun j s) c)) (ap (int_lt j.to) e ∙ h)
    ∙ (ap (λ n. let k : Interval = record { from = n; to = j.to } in settled k (begun j s) c) start ∙ ap (λ n. let t : StateMaps = record s { min_time = n } in settled j t c) (start ∙ sym e)))
  where
    start : int_max j.from s.min_time ≡ j.from
    start = ap (int_max j.from) e ∙ itself j.from

pub waiting_is_settled : WaitingIsSettled
waiting_is_settled i s c xs front rest place there r q =
    let j = trimmed i s in
    let time : there.state.min_time ≡ j.from = moves_time j (standing (begun i s) c) r.comes.moves there r.comes.runs in
    fixed_already j there.state there.contract time (lt_false j.to j.from (fixed_order i s r.starts r.ends)) ∙ rests_when_quiet j there.state there.contract q
