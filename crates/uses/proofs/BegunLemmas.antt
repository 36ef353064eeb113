-- A contract is published and started, and then stepped to its end.
use Rattle.std.proofs.Common.{◌≡◌, ℕ, List, sym, ap, ◌∙◌, subst, Option, Some, None, Ok}
use Rattle.contract.specs.Tree.{contract_tree}
use Rattle.contract.specs.declared.input.Input.{Input}
use Rattle.contract.specs.declared.interval.Interval.{Interval}
use Rattle.chain.specs.LedgerSpec.EutxoTypes.declared.fault.TxFault.{TxFault}
use Rattle.chain.specs.LedgerSpec.EutxoTypes.declared.output_ref.OutputRef.{OutputRef}
use Rattle.chain.specs.LedgerSpec.EutxoTypes.declared.output_ref.OutputRef.TheVariants.{Made}
use Rattle.chain.specs.LedgerSpec.EutxoTypes.declared.tx.Tx.{Tx}
use Rattle.chain.specs.LedgerSpec.EutxoTypes.Ids.{id_of}
use Rattle.chain.specs.LedgerSpec.Roles.declared.published.Published.{Published}
use Rattle.chain.specs.LedgerSpec.Roles.Publications.{published_of}
use Rattle.chain.specs.LedgerSpec.Ledger.declared.call.Call.TheVariants as on
use Rattle.chain.specs.LedgerSpec.Ledger.declared.call.Reply.{Reply}
use Rattle.chain.specs.LedgerSpec.Ledger.declared.call.Reply.TheVariants as answer
use Rattle.chain.specs.LedgerSpec.Ledger.declared.look.Unspent.{Unspent}
use Rattle.chain.specs.LedgerSpec.Replay.{Course, world}
use Rattle.chain.specs.LedgerSpec.Calls.{fault_on, submit_reply, reply_to}
use Rattle.chain.specs.LedgerSpec.BuilderSpec.Built.{build_answer}
use Rattle.chain.specs.LedgerSpec.BuilderSpec.Requests.{StartRequest, start_request}
use Rattle.chain.specs.LedgerSpec.BuilderSpec.Starts.{hinders_start, layout_start}
use Rattle.uses.specs.Uses.{called, at_tick, step_asked, IsStepped, after_step, Deal, after_publish, start_asked, after_start, IsBegun, IsEnded}
use Rattle.uses.proofs.SteppedLemmas.{built}

accepted_so : (tx : Tx) (o : Option TxFault) (id : List ℕ) → submit_reply tx o ≡ answer.Accepted id → id ≡ id_of tx
accepted_so tx None id h = let same : id_of tx ≡ id = cc in sym same
accepted_so tx (Some f) id h = cc

-- the request of a start is that of its clauses
as_asked : (c mid : Course) (seat : ℕ) (d : Deal) (currency : List ℕ) (p : Published) (now : Interval) (signers : List (List ℕ)) (offered : List Unspent) (change : List ℕ) →
    mid ≡ after_publish c seat d → currency ≡ d.currency → p ≡ published_of (contract_tree d.contract) currency → now ≡ at_tick mid →
    start_request p d.state now signers offered change ≡ start_asked c seat d signers offered change
as_asked c mid seat d currency p now signers offered change m k q n =
    ap (λ (x : Published). start_request x d.state now signers offered change) (q ∙ ap (λ (y : List ℕ). published_of (contract_tree d.contract) y) k)
    ∙ ap (λ (i : Interval). start_request (published_of (contract_tree d.contract) d.currency) d.state i signers offered change) (n ∙ ap at_tick m)

clear_start : (r s : StartRequest) (tx : Tx) → r ≡ s → build_answer (hinders_start r) (layout_start r) ≡ Ok tx → (hinders_start s ≡ None) × (tx ≡ layout_start s)
clear_start r s tx e b = built (hinders_start s) (layout_start s) tx (subst (λ (x : StartRequest). build_answer (hinders_start x) (layout_start x) ≡ Ok tx) e b)

pub begun : (c mid : Course) (seat : ℕ) (d : Deal) (currency : List ℕ) (p : Published) (now : Interval) (signers : List (List ℕ)) (offered : List Unspent) (change : List ℕ) (tx : Tx) (reply : Reply) (id : List ℕ) →
    mid ≡ after_publish c seat d → currency ≡ d.currency → p ≡ published_of (contract_tree d.contract) currency → now ≡ at_tick mid →
    build_answer (hinders_start (start_request p d.state now signers offered change)) (layout_start (start_request p d.state now signers offered change)) ≡ Ok tx →
    reply ≡ reply_to (world mid) (on.Submit tx) → reply ≡ answer.Accepted id → IsBegun c seat d signers offered change (Made id 0)
begun c mid seat d currency p now signers offered change tx reply id m k q n b h a =
    let r = start_asked c seat d signers offered change in
    let w = world (after_publish c seat d) in
    let clear = clear_start (start_request p d.state now signers offered change) r tx (as_asked c mid seat d currency p now signers offered change m k q n) b in
    let replied : reply ≡ reply_to w (on.Submit (layout_start r)) = h ∙ ap (λ (x : Course). reply_to (world x) (on.Submit tx)) m ∙ ap (λ (x : Tx). reply_to w (on.Submit x)) clear.1 in
    let same = accepted_so (layout_start r) (fault_on w (layout_start r)) id (sym replied ∙ a) in
    record {
      clear = clear.0;
      accepted = sym replied ∙ a ∙ ap (λ (x : List ℕ). answer.Accepted x) same;
      output = ap (λ (x : List ℕ). Made x 0) same;
    }

pub after_begun : (c mid new : Course) (seat : ℕ) (d : Deal) (currency : List ℕ) (p : Published) (now : Interval) (signers : List (List ℕ)) (offered : List Unspent) (change : List ℕ) (tx : Tx) →
    mid ≡ after_publish c seat d → currency ≡ d.currency → p ≡ published_of (contract_tree d.contract) currency → now ≡ at_tick mid →
    build_answer (hinders_start (start_request p d.state now signers offered change)) (layout_start (start_request p d.state now signers offered change)) ≡ Ok tx →
    new ≡ called mid seat (on.Submit tx) → new ≡ after_start c seat d signers offered change
after_begun c mid new seat d currency p now signers offered change tx m k q n b h =
    let clear = clear_start (start_request p d.state now signers offered change) (start_asked c seat d signers offered change) tx (as_asked c mid seat d currency p now signers offered change m k q n) b in
    h ∙ ap (λ (x : Course). called x seat (on.Submit tx)) m ∙ ap (λ (x : Tx). called (after_publish c seat d) seat (on.Submit x)) clear.1

pub ended : (c mid new : Course) (seat : ℕ) (d : Deal) (inputs : List Input) (signers : List (List ℕ)) (offered : List Unspent) (change : List ℕ) (start : OutputRef) (reply : Reply) →
    mid ≡ after_start c seat d signers offered change → IsBegun c seat d signers offered change start → IsStepped mid start (step_asked mid inputs signers change) reply →
    new ≡ after_step mid seat start (step_asked mid inputs signers change) → IsEnded c new seat d inputs signers offered change reply
ended c mid new seat d inputs signers offered change start reply m b s a =
    record {
      start = start;
      begun = b;
      stepped = subst (λ (x : Course). IsStepped x start (step_asked x inputs signers change) reply) m s;
      after = subst (λ (x : Course). new ≡ after_step x seat start (step_asked x inputs signers change)) m a;
    }
