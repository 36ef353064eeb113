-- A Pay goes on with what follows it, and its sums come after the numbers of its amount.
use Rattle.std.proofs.Common.{◌≡◌, ℤ, pos, Bool, true, false, cond, ◌&&◌, List, [], refl, sym, int_lt, Ok, Err, Some}
use Rattle.std.specs.Int.{int_min}
use Rattle.contract.specs.Names.declared.party.Party.{Party}
use Rattle.contract.specs.Names.declared.payee.Payee.{Payee}
use Rattle.contract.specs.Names.declared.token.Token.{Token}
use Rattle.contract.specs.declared.fault.SemFault.{SemFault}
use Rattle.contract.specs.declared.fault.SemFault.TheVariants.{Leaves128, Memory}
use Rattle.contract.specs.States.States.{StateMaps}
use Rattle.contract.specs.Tree.{ContractTree, close}
use Rattle.evaluation.specs.Numbers.{all_fit, within}
use Rattle.contract.specs.Collections.Answers.{Aside}
use Rattle.semantics.specs.Reduction.{Reduction, balance, debited, account_sums, paying, not_paying}
use Rattle.semantics.specs.Computed.{pay_step}
use Rattle.semantics.specs.Reduced.{goes, reply}
use Rattle.evaluation.proofs.Numbers.{all_fit_append, within_ok}

and_true : (b : Bool) → b && true ≡ b
and_true true = refl
and_true false = refl

same_part : (b : Bool) (r q : Reduction) (c : ContractTree) → r.contract ≡ c → q.contract ≡ c → (cond b r q).contract ≡ c
same_part true r q c h k = h
same_part false r q c h k = k

-- what follows a Pay
pub pays_contract : (s : StateMaps) (p : Party) (y : Payee) (t : Token) (due : ℤ) (ns : List ℤ) (c : ContractTree) → (pay_step s p y t due ns c).contract ≡ c
pays_contract s p y t due ns c = same_part (int_lt (pos 0) due) (paying s p y t due (int_min (balance s p t) due) ns c) (not_paying s p y t due ns c) c refl refl

pick : (b : Bool) (ns : List ℤ) (r q r' q' : Reduction) → all_fit r.numbers ≡ all_fit ns && all_fit r'.numbers → all_fit q.numbers ≡ all_fit ns && all_fit q'.numbers →
    all_fit (cond b r q).numbers ≡ all_fit ns && all_fit (cond b r' q').numbers
pick true ns r q r' q' h k = h
pick false ns r q r' q' h k = k

-- the numbers of its amount, and then its sums
pub pay_numbers : (s : StateMaps) (p : Party) (y : Payee) (t : Token) (due : ℤ) (ns : List ℤ) (c : ContractTree) →
    all_fit (pay_step s p y t due ns c).numbers ≡ all_fit ns && all_fit (pay_step s p y t due [] close).numbers
pay_numbers s p y t due ns c =
    let paid = int_min (balance s p t) due in
    pick (int_lt (pos 0) due) ns (paying s p y t due paid ns c) (not_paying s p y t due ns c) (paying s p y t due paid [] close) (not_paying s p y t due [] close)
    (all_fit_append ns (account_sums (debited s p t paid) y t paid)) (sym (and_true (all_fit ns)))

fault_through : {A B : Type 0} (b d : Bool) (x : A) (z : B) (f : SemFault) → d ≡ b → Aside Memory (Err f) (cond b (Ok x) (Err Leaves128)) → Aside Memory (Err f) (cond d (Ok z) (Err Leaves128))
fault_through true d x z f q h = λ m. let k = h m in absurd (cc)
fault_through false d x z f q h = λ m. let k = h m in rw q cc

-- where a sum doesn't fit, once the amount does
pub pay_fault : (s : StateMaps) (p : Party) (y : Payee) (t : Token) (due n : ℤ) (ns : List ℤ) (c : ContractTree) (f : SemFault) →
    Ok n ≡ within ns due → Aside Memory (Err f) (within (pay_step s p y t n [] close).numbers (tt {0})) →
    Aside Memory (Err f) (reply (goes (pay_step s p y t due ns c)))
pay_fault s p y t due n ns c f h k =
    let w = within_ok ns due n h in
    let l = rw w.1 at k in
    fault_through _ _ (tt {0}) (Some (pay_step s p y t due ns c).contract) f (rw (pay_numbers s p y t due ns c, w.0)) l

through : {A B : Type 0} (b d : Bool) (f : SemFault) (x : A) (z : B) → Err f ≡ cond b (Ok x) (Err Leaves128) → Err f ≡ cond (b && d) (Ok z) (Err Leaves128)
through true d f x z h = absurd (cc)
through false d f x z h = cc

-- where the amount doesn't fit
pub due_fault : (s : StateMaps) (p : Party) (y : Payee) (t : Token) (due : ℤ) (ns : List ℤ) (c : ContractTree) (f : SemFault) →
    Err f ≡ within ns due → Aside Memory (Err f) (reply (goes (pay_step s p y t due ns c)))
due_fault s p y t due ns c f h = λ _. sym (rw (pay_numbers s p y t due ns c) (through (all_fit ns) _ f due (Some (pay_step s p y t due ns c).contract) h))

-- where both fit
pub pay_ok : (s : StateMaps) (p : Party) (y : Payee) (t : Token) (due n : ℤ) (ns : List ℤ) (c : ContractTree) →
    Ok n ≡ within ns due → within (pay_step s p y t n [] close).numbers (tt {0}) ≡ Ok (tt {0}) →
    reply (goes (pay_step s p y t due ns c)) ≡ Ok (Some c)
pay_ok s p y t due n ns c h k =
    let w = within_ok ns due n h in
    let l = rw w.1 at k in
    let m = within_ok (pay_step s p y t due [] close).numbers (tt {0}) (tt {0}) (sym l) in
    rw (pay_numbers s p y t due ns c, w.0, m.0, pays_contract s p y t due ns c) refl
