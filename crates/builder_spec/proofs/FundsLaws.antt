-- What the front holds funds what is made.
use Rattle.std.proofs.Common.{◌≡◌, ℕ, ℤ, pos, ◌+ℤ◌, ◌-ℤ◌, ◌≤ℤ◌, ◌<ℤ◌, int_lt, Bool, true, false, cond, not, List, [], ◌∷◌, map, is_none, refl, sym, ◌∙◌, ap, subst, Option, Some, Result, Ok, Err, inl, inr, ◌⊎◌, arith}
use Rattle.std.proofs.lemmas.Int.{ints}
use Rattle.std.specs.List.{list_all}
use Rattle.std.specs.Option.{unwrap_or}
use Rattle.std.specs.Ordering.{eq_by_cmp, is_eq}
use Rattle.std.specs.declared.cmp.Ordering.TheVariants.{Less, Equal, Greater}
use Rattle.std.specs.FinMap.{entries, empty, insert, get, get-insert}
use Rattle.contract.specs.Collections.Total.{total}
use Rattle.contract.specs.Names.declared.account.Account.{Account}
use Rattle.contract.specs.Names.declared.party.Party.{Party}
use Rattle.contract.specs.Names.declared.payee.Payee.{Payee}
use Rattle.contract.specs.Names.declared.payee.Payee.TheVariants as to
use Rattle.contract.specs.Names.declared.token.Token.{Token}
use Rattle.contract.specs.Names.Orders.{token_cmp}
use Rattle.contract.specs.Names.Totals.{token_total}
use Rattle.contract.proofs.FromNames.Exact.{token_exact}
use Rattle.contract.specs.declared.fault.SemFault.{SemFault}
use Rattle.contract.specs.declared.fault.SemFault.TheVariants.{Leaves128}
use Rattle.contract.specs.declared.input.Input.{Input}
use Rattle.contract.specs.declared.input.Input.TheVariants.{Deposit, Choice, Notify}
use Rattle.contract.specs.declared.payment.Payment.{Payment}
use Rattle.contract.specs.Tree.{ContractTree, CaseTrees, close, when}
use Rattle.contract.specs.States.States.{StateMaps, AllPositive, counted, in_token}
use Rattle.contract.specs.States.States as states
use Rattle.ledger.specs.Evaluation.Numbers.{all_fit}
use Rattle.ledger.specs.Semantics.Walk.{Standing, Walk, answer_of}
use Rattle.ledger.specs.Semantics.Laws.{EndsQuiet}
use Rattle.ledger.specs.Semantics.Money.{brought, deposited, taken_out, paid_out, MoneyIsKept}
use Rattle.ledger.specs.Semantics.Naturals.{AreNatural, PaymentsAreNatural}
use Rattle.ledger.specs.Bundle.Bundles.{Amounts, amount_of}
use Rattle.ledger.specs.Bundle.Totals.{total_of}
use Rattle.ledger.proofs.FromBundle.AmountLaws.{amount_of-with_amount, rests_are_of_each_token}
use Rattle.ledger.specs.Machine.declared.datum.Datum.{Datum}
use Rattle.ledger.specs.EutxoTypes.declared.output.Output.{Output}
use Rattle.ledger.specs.Table.Flat.{is_close}
use Rattle.ledger.specs.Roles.Steps.{only, due_above, and_owed_output, due_outputs, continuation, next_datum}
use Rattle.ledger.specs.Roles.Sums.{sums_in, sums_of}
use Rattle.ledger.specs.declared.look.Unspent.{Unspent}
use Rattle.builder_spec.specs.Requests.{StepRequest}
use Rattle.builder_spec.specs.Holding.{sums, amount_in, wanted, lacks, least_lacking, AreBundles}
use Rattle.builder_spec.specs.Laying.{rest}
use Rattle.builder_spec.specs.Steps.{Thread, thread_terms, step_walk, deposits, own_output, continuing_outputs, step_outputs_of}
use Rattle.builder_spec.specs.Starts.{accounts_of}
use Rattle.builder_spec.proofs.HoldingLaws.{amount_of-empty, amount_of-sums, total_of-append, total_of-natural}
use Rattle.builder_spec.proofs.SufficesLaws.{and_so, none_least}

no_first : (n : ℤ) → pos 0 +ℤ n ≡ n
no_first n = omega (arith, ints)

abbrev pub amount : Output → Amounts
amount o = o.amount

-- ---- payments

counted_none : (u t : Token) → counted u t (pos 0) ≡ pos 0
counted_none u t = elim (eq_by_cmp token_cmp u t) as (λ b. cond b (pos 0) (pos 0) ≡ pos 0) [ true ↦ refl | false ↦ refl ]

held_after : (b : Bool) (v : ℤ) (o : Option ℤ) → unwrap_or (cond b (Some v) o) (pos 0) ≡ cond b v (unwrap_or o (pos 0))
held_after true v o = refl
held_after false v o = refl

-- just an amount holds that amount
pub amount_of-only : (u t : Token) (n : ℤ) → amount_of (only t n) u ≡ counted u t n
amount_of-only u t n =
    ap (λ o. unwrap_or o (pos 0)) (get-insert token_total empty t n u)
    ∙ held_after (eq_by_cmp token_cmp u t) n (get empty u)
    ∙ ap (λ m. cond (eq_by_cmp token_cmp u t) n m) (amount_of-empty u)

zero_counted : (u t : Token) (n : ℤ) → pos 0 ≤ℤ n → int_lt (pos 0) n ≡ false → counted u t n ≡ pos 0
zero_counted u t n h k = ap (counted u t) (zero n h k) ∙ counted_none u t
  where
    zero : (n : ℤ) → pos 0 ≤ℤ n → int_lt (pos 0) n ≡ false → n ≡ pos 0
    zero n h k = grind (arith, ints)

pay_one : (u : Token) (currency : List ℕ) (y : Payee) (p : Payment) (b : Bool) (more : ℤ) (later : List Output) → int_lt (pos 0) p.amount ≡ b → pos 0 ≤ℤ p.amount → total_of amount u later ≡ more →
    total_of amount u (and_owed_output currency p (due_above y p.amount) later) ≡ taken_out y (counted u p.token p.amount) +ℤ more
pay_one u currency (to.Account q) p b more later k n h = h ∙ sym (no_first more)
pay_one u currency (to.Party q) p true more later k n h =
    rw k (ap (λ x. x +ℤ total_of amount u later) (amount_of-only u p.token p.amount) ∙ ap (λ x. counted u p.token p.amount +ℤ x) h)
pay_one u currency (to.Party q) p false more later k n h = rw k (h ∙ sym (no_first more) ∙ ap (λ x. x +ℤ more) (sym (zero_counted u p.token p.amount n k)))

-- the payments that are due are what is paid out
pub due_sum : (u : Token) (currency : List ℕ) (ps : List Payment) → AreNatural ps → total_of amount u (due_outputs currency ps) ≡ paid_out u ps
due_sum u currency [] h = refl
due_sum u currency (p ∷ ps) h = pay_one u currency p.to p (int_lt (pos 0) p.amount) (paid_out u ps) (due_outputs currency ps) refl h.0 (due_sum u currency ps h.1)

-- ---- what is wanted

not_lacking : (a b : ℤ) → not (int_lt a b) ≡ true → b ≤ℤ a
not_lacking a b h = grind (arith, ints)

-- of a token nothing is wanted, or what is wanted is there
wanted_or : (u : Token) (ns all : List (Token × ℤ)) (us : List Unspent) → list_all (λ t. not (lacks all us t)) (map (λ (n : Token × ℤ). n.0) ns) ≡ true → (wanted ns u ≡ pos 0) ⊎ (wanted all u ≤ℤ total_of amount_in u us)
wanted_or u [] all us h = inl refl
wanted_or u (n ∷ ns) all us h =
    let k = and_so (not (lacks all us n.0)) (list_all (λ t. not (lacks all us t)) (map (λ (n : Token × ℤ). n.0) ns)) h in
    by (token_cmp u n.0) refl (not_lacking (total_of amount_in n.0 us) (wanted all n.0) k.0) (wanted_or u ns all us k.1)
  where
    by : (r : _) → token_cmp u n.0 ≡ r → wanted all n.0 ≤ℤ total_of amount_in n.0 us → (wanted ns u ≡ pos 0) ⊎ (wanted all u ≤ℤ total_of amount_in u us) → (cond (is_eq r) n.1 (pos 0) +ℤ wanted ns u ≡ pos 0) ⊎ (wanted all u ≤ℤ total_of amount_in u us)
    by Less e h (inl k) = inl (no_first (wanted ns u) ∙ k)
    by Less e h (inr k) = inr k
    by Equal e h k = inr (subst (λ t. wanted all t ≤ℤ total_of amount_in t us) (sym (token_exact u n.0 e)) h)
    by Greater e h (inl k) = inl (no_first (wanted ns u) ∙ k)
    by Greater e h (inr k) = inr k

-- where no token is lacking, of each there is as much as is wanted
pub all_covered : (u : Token) (ns : List (Token × ℤ)) (us : List Unspent) → AreBundles amount_in us → is_none (least_lacking ns us) ≡ true → wanted ns u ≤ℤ total_of amount_in u us
all_covered u ns us b h = by (wanted_or u ns ns us (none_least (lacks ns us) (map (λ (n : Token × ℤ). n.0) ns) h))
  where
    by : (wanted ns u ≡ pos 0) ⊎ (wanted ns u ≤ℤ total_of amount_in u us) → wanted ns u ≤ℤ total_of amount_in u us
    by (inl e) = subst (λ n. n ≤ℤ total_of amount_in u us) (sym e) (total_of-natural amount_in u us b)
    by (inr k) = k

deposit_one : (u : Token) (p q : Party) (t : Token) (n : ℤ) (b : Bool) (xs : List Input) → int_lt (pos 0) n ≡ b → wanted (deposits xs) u ≡ deposited u xs → wanted (deposits (Deposit p q t n ∷ xs)) u ≡ brought u (Deposit p q t n) +ℤ deposited u xs
deposit_one u p q t n true xs e h = rw e (ap (λ m. counted u t n +ℤ m) h)
deposit_one u p q t n false xs e h = rw e (h ∙ sym (no_first (deposited u xs)))

-- what is wanted of deposits is what is deposited
pub wanted-deposits : (u : Token) (xs : List Input) → wanted (deposits xs) u ≡ deposited u xs
wanted-deposits u [] = refl
wanted-deposits u (Deposit p q t n ∷ xs) = deposit_one u p q t n (int_lt (pos 0) n) xs refl (wanted-deposits u xs)
wanted-deposits u (Choice id n ∷ xs) = wanted-deposits u xs ∙ sym (no_first (deposited u xs))
wanted-deposits u (Notify ∷ xs) = wanted-deposits u xs ∙ sym (no_first (deposited u xs))

wanted-entries : (u : Token) (es : List (Account × ℤ)) → wanted (map (λ (e : Account × ℤ). (e.0.token, e.1)) es) u ≡ total (in_token u) es
wanted-entries u [] = refl
wanted-entries u (e ∷ es) = ap (λ n. in_token u e +ℤ n) (wanted-entries u es)

-- what is wanted of accounts is what they hold
pub wanted-accounts : (u : Token) (s : StateMaps) → wanted (accounts_of s) u ≡ states.total_of u s
wanted-accounts u s = wanted-entries u (entries s.accounts)

-- ---- what the accounts hold

swap : (a b : ℤ) → a +ℤ b ≡ b +ℤ a
swap a b = omega (arith, ints)

none_more : (a : ℤ) → a ≡ pos 0 +ℤ a
none_more a = omega (arith, ints)

-- the sums are, token by token, what the accounts hold
pub amount_of-sums_in : (es : List (Account × ℤ)) (t : Token) → amount_of (sums_in es) t ≡ total (in_token t) es
amount_of-sums_in [] t = amount_of-empty t
amount_of-sums_in (e ∷ es) t =
    amount_of-with_amount (sums_in es) e.0.token (amount_of (sums_in es) e.0.token +ℤ e.1) t
    ∙ elim (token_cmp t e.0.token) as (λ r. token_cmp t e.0.token ≡ r → cond (is_eq r) (amount_of (sums_in es) e.0.token +ℤ e.1) (amount_of (sums_in es) t) ≡ cond (is_eq r) e.1 (pos 0) +ℤ total (in_token t) es) [
      | Less ↦ λ p. amount_of-sums_in es t ∙ none_more (total (in_token t) es)
      | Equal ↦ λ p. ap (λ u. amount_of (sums_in es) u +ℤ e.1) (sym (token_exact t e.0.token p)) ∙ ap (λ n. n +ℤ e.1) (amount_of-sums_in es t) ∙ swap (total (in_token t) es) e.1
      | Greater ↦ λ p. amount_of-sums_in es t ∙ none_more (total (in_token t) es)
    ] refl

-- ---- what a step makes

pub quiet_total : (u : Token) (a : Standing) (to : ℤ) → ((a.contract ≡ close) × (entries a.state.accounts ≡ [])) ⊎ ((ks : CaseTrees) × (timeout : ℤ) × (then : ContractTree) × (a.contract ≡ when ks timeout then) × (to <ℤ timeout)) → is_close a.contract ≡ true → states.total_of u a.state ≡ pos 0
quiet_total u a to (inl h) e = ap (total (in_token u)) h.1
quiet_total u a to (inr h) e = absurd (let k : is_close a.contract ≡ false = ap is_close h.3 in cc)

last_of : (n : ℤ) → n +ℤ pos 0 ≡ n
last_of n = omega (arith, ints)

goes_on_by : (u : Token) (script : List ℕ) (d : Datum) (b : Bool) → (b ≡ true → states.total_of u d.state ≡ pos 0) → total_of amount u (map (continuation script) (cond b [] (d ∷ []))) ≡ states.total_of u d.state
goes_on_by u script d true h = sym (h refl)
goes_on_by u script d false h = last_of (amount_of (sums_of d.state) u) ∙ amount_of-sums_in (entries d.state.accounts) u

-- what is made is what the accounts hold afterwards and what is paid out
pub made_sum : (u : Token) (e : Thread) (w : Walk) (a : Standing) → (is_close a.contract ≡ true → states.total_of u a.state ≡ pos 0) → AreNatural w.payments →
    total_of amount u (step_outputs_of e w (Ok a)) ≡ states.total_of u a.state +ℤ paid_out u w.payments
made_sum u e w a h n =
    total_of-append amount u (continuing_outputs e w a) (due_outputs e.shown.published.currency w.payments)
    ∙ ap (λ x. x +ℤ total_of amount u (due_outputs e.shown.published.currency w.payments)) (goes_on_by u e.shown.published.id (next_datum (thread_terms e) e.datum w a.state) (is_close a.contract) h)
    ∙ ap (λ x. states.total_of u a.state +ℤ x) (due_sum u e.shown.published.currency w.payments n)

pub ended_well : (b : Bool) (end : Result Standing SemFault) (a : Standing) → cond b end (Err Leaves128) ≡ Ok a → end ≡ Ok a
ended_well true end a h = h
ended_well false end a h = absurd (cc)

rest_is : (s d t p f all m r : ℤ) → s +ℤ d ≡ t +ℤ p → all ≡ s +ℤ f → m ≡ t +ℤ p → r ≡ all -ℤ m → r ≡ f -ℤ d
rest_is s d t p f all m r h k e l = omega (arith, ints)

enough_is : (s d t p f all m : ℤ) → s +ℤ d ≡ t +ℤ p → all ≡ s +ℤ f → m ≡ t +ℤ p → d ≤ℤ f → m ≤ℤ all
enough_is s d t p f all m h k e l = omega (arith, ints)

-- what is made is there, and the rest is what the front holds above the deposits
pub record Funded (r : StepRequest) (e : Thread) (a : Standing) (us : List Unspent) (u : Token) : Type 0 where
  pub rest : amount_of (rest (own_output e ∷ us) (step_outputs_of e (step_walk r e) (Ok a))) u ≡ total_of amount_in u us -ℤ deposited u r.inputs
  pub there : total_of amount u (step_outputs_of e (step_walk r e) (Ok a)) ≤ℤ total_of amount_in u (own_output e ∷ us)
  pub covered : deposited u r.inputs ≤ℤ total_of amount_in u us

pub funded : MoneyIsKept → EndsQuiet → PaymentsAreNatural → (r : StepRequest) (e : Thread) (a : Standing) (us : List Unspent) → e.shown.output.amount ≡ sums_of e.datum.state → answer_of (step_walk r e) ≡ Ok a →
    AllPositive (entries e.datum.state.accounts) → is_none (least_lacking (deposits r.inputs) us) ≡ true → AreBundles amount_in us → (u : Token) → Funded r e a us u
funded money quiet natural r e a us sums_held ok above covered bundles u =
    let w = step_walk r e in
    let c = (thread_terms e).tree e.datum.cont in
    let well : w.end ≡ Ok a = ended_well (all_fit w.numbers) w.end a ok in
    let kept = money u r.interval e.datum.state c r.inputs a well in
    let all : total_of amount_in u (own_output e ∷ us) ≡ states.total_of u e.datum.state +ℤ total_of amount_in u us = ap (λ n. n +ℤ total_of amount_in u us) (ap (λ m. amount_of m u) sums_held ∙ amount_of-sums_in (entries e.datum.state.accounts) u) in
    let out = made_sum u e w a (quiet_total u a r.interval.to (quiet r.interval e.datum.state c r.inputs a well)) (natural r.interval e.datum.state c r.inputs above) in
    let less = subst (λ n. n ≤ℤ total_of amount_in u us) (wanted-deposits u r.inputs) (all_covered u (deposits r.inputs) us bundles covered) in
    let m : ℤ = total_of amount u (step_outputs_of e w (Ok a)) in
    record {
      rest = rest_is (states.total_of u e.datum.state) (deposited u r.inputs) (states.total_of u a.state) (paid_out u w.payments) (total_of amount_in u us) (total_of amount_in u (own_output e ∷ us)) m (amount_of (rest (own_output e ∷ us) (step_outputs_of e w (Ok a))) u) kept all out
          (rests_are_of_each_token (sums amount_in (own_output e ∷ us)) (sums amount (step_outputs_of e w (Ok a))) u
          ∙ ap (λ n. n -ℤ amount_of (sums amount (step_outputs_of e w (Ok a))) u) (amount_of-sums amount_in (own_output e ∷ us) u)
          ∙ ap (λ n. total_of amount_in u (own_output e ∷ us) -ℤ n) (amount_of-sums amount (step_outputs_of e w (Ok a)) u));
      there = enough_is (states.total_of u e.datum.state) (deposited u r.inputs) (states.total_of u a.state) (paid_out u w.payments) (total_of amount_in u us) (total_of amount_in u (own_output e ∷ us)) m kept all out less;
      covered = less;
    }
