-- How a setup adds up, call by call.
use Rattle.std.proofs.Common.{◌≡◌, inl, inr, ◌⊎◌, ℕ, ◌<◌, List, [], ◌∷◌, ◌++◌, length, map, Option, Some, None, refl, sym, ap, ◌∙◌, subst, append_assoc}
use Rattle.std.proofs.lemmas.List.{append-nil, map-append}
use Rattle.std.proofs.lemmas.List.Elements.{All-nil, All-cons, All-append}
use Rattle.std.proofs.lemmas.Grind.{flat_map-append}
use Rattle.std.proofs.lemmas.List.{length-map, get_or_default}
use Rattle.std.proofs.Math.ListN.{get_or-map}
use Rattle.std.specs.Prelude.{Bool, true, false, if◌then◌else◌, get_or, slice_get, Result, Ok, Err, IfOk, MatchOption}
use Rattle.std.specs.Result.{IsOkUnless}
use Rattle.std.specs.List.{All, flat_map}
use Rattle.parties.specs.LedgerSpec.Compiler.declared.fault.CompileFault.{CompileFault}
use Rattle.parties.specs.LedgerSpec.Compiler.declared.fault.CompileFault.TheVariants as faults
use Rattle.parties.specs.LedgerSpec.Compiler.Limits.{compile_fault}
use Rattle.contract.specs.Tree.{contract_tree}
use Rattle.parties.specs.EutxoTypes.declared.fault.TxFault.{TxFault}
use Rattle.parties.specs.EutxoTypes.declared.output_ref.OutputRef.{OutputRef}
use Rattle.parties.specs.EutxoTypes.declared.output_ref.OutputRef.TheVariants.{Made}
use Rattle.parties.specs.EutxoTypes.declared.tx.Tx.{Tx}
use Rattle.parties.specs.EutxoTypes.Ids.{id_of}
use Rattle.parties.specs.LedgerSpec.Roles.declared.published.Published.{Published}
use Rattle.parties.specs.Ledger.declared.call.Call.{Call}
use Rattle.parties.specs.Ledger.declared.call.Call.TheVariants as on
use Rattle.parties.specs.Ledger.declared.call.Reply.{Reply}
use Rattle.parties.specs.Ledger.declared.call.Reply.TheVariants as replies
use Rattle.parties.specs.Ledger.declared.look.Look.{Look}
use Rattle.parties.specs.LedgerSpec.Calls.{same_publication, publish_reply, publish_reply_beside, submit_reply, fault_on}
use Rattle.parties.specs.LedgerSpec.Replay.{World, world, if_compiled, published_at}
use Rattle.parties.specs.Plans.declared.scenario.NamedContract.{NamedContract}
use Rattle.parties.specs.Plans.declared.scenario.NamedThread.{NamedThread}
use Rattle.parties.specs.Plans.declared.scenario.Scenario.{Scenario}
use Rattle.parties.specs.Answer.{Answer}
use Rattle.parties.specs.Seats.{SeatRecord, ReceiptRecord, seat_record, answer_of, IsReply, WasTold}
use Rattle.parties.specs.Session.{Opened}
use Rattle.play_setup.specs.SetUp.{Told, told, object_of, publishes, Begun, Begins, IsSetUp, key_ask, start_made, starts, start_output, currencies, currency_at}
use Rattle.play_setup.specs.SetUpSupport.{WentOn, WasStarted, WereStarted}

-- ---- a seat goes on

pub went_on_same : (s : SeatRecord) → WentOn s s []
went_on_same s = record { more = []; list = ap (seat_record s.number) (sym (append-nil s.answers)); told_is = refl }

pub went_on_more : (a b c : SeatRecord) (xs ys : List Told) → WentOn a b xs → WentOn b c ys → WentOn a c (xs ++ ys)
went_on_more a b c xs ys x y = record {
  more = x.more ++ y.more;
  list = y.list ∙ (ap (λ (s : SeatRecord). seat_record s.number (s.answers ++ y.more)) x.list ∙ ap (seat_record a.number) (append_assoc a.answers x.more y.more));
  told_is = map-append told x.more y.more ∙ (ap (λ (l : List Told). l ++ map told y.more) x.told_is ∙ ap (λ (l : List Told). xs ++ l) y.told_is);
}

-- by one call
pub went_on_told : (session : Opened) (old new : SeatRecord) (call : Call) (r : ReceiptRecord) (reply : Reply) → WasTold session old call r new → r.reply ≡ reply → WentOn old new ((call, reply) ∷ [])
went_on_told session old new call r reply t is = record { more = answer_of call r ∷ []; list = t.answer; told_is = ap (λ (x : Reply). (call, x) ∷ []) is }

-- .. by one after another of a list
pub went_on_next : {X : Type 0} (f : X → Told) (xs : List X) (x : X) (a b c : SeatRecord) → WentOn a b (map f xs) → WentOn b c (f x ∷ []) → WentOn a c (map f (xs ++ x ∷ []))
went_on_next f xs x a b c all one = subst (λ (l : List Told). WentOn a c l) (sym (map-append f xs (x ∷ []))) (went_on_more a b c (map f xs) (f x ∷ []) all one)

-- a list with one more
pub one_more : {X Y : Type 0} (f : X → Y) (xs : List X) (x : X) (ys zs : List Y) (y : Y) → ys ≡ map f xs → zs ≡ ys ++ y ∷ [] → y ≡ f x → zs ≡ map f (xs ++ x ∷ [])
one_more f xs x ys zs y before more is = more ∙ (ap (λ l. l ++ y ∷ []) before ∙ (ap (λ z. map f xs ++ z ∷ []) is ∙ sym (map-append f xs (x ∷ []))))

-- ---- what a call is told

beside : (p : Published) (known : Option Published) → (publish_reply_beside p known ≡ replies.Published p.id) ⊎ (publish_reply_beside p known ≡ replies.IdInUse)
beside p None = inl refl
beside p (Some known) = same (same_publication known p) refl
  where
    same : (b : Bool) → same_publication known p ≡ b → (publish_reply_beside p (Some known) ≡ replies.Published p.id) ⊎ (publish_reply_beside p (Some known) ≡ replies.IdInUse)
    same true is = inl (ap (λ (b : Bool). if b then replies.Published p.id else replies.IdInUse) is)
    same false is = inr (ap (λ (b : Bool). if b then replies.Published p.id else replies.IdInUse) is)

-- what is compiled is published, or its id is in use
pub publish_told : (session : Opened) (c : NamedContract) (reply : Reply) → compile_fault (contract_tree c.contract) ≡ None → IsReply session (on.Publish c.contract c.currency) reply → (reply ≡ replies.Published (object_of c).id) ⊎ (reply ≡ replies.IdInUse)
publish_told session c reply compiled is =
    let w : World = world is.past in
    let told : reply ≡ publish_reply_beside (object_of c) (published_at w.published (object_of c).id) =
    is.told ∙ ap (λ (f : Option CompileFault). publish_reply w (if_compiled (contract_tree c.contract) c.currency f)) compiled
    in
    elim (beside (object_of c) (published_at w.published (object_of c).id)) [ inl new ↦ inl (told ∙ new) | inr used ↦ inr (told ∙ used) ]

judged : (tx : Tx) (f : Option TxFault) → (submit_reply tx f ≡ replies.Accepted (id_of tx)) ⊎ ((fault : TxFault) × (submit_reply tx f ≡ replies.Refused fault))
judged tx None = inl refl
judged tx (Some fault) = inr (fault, refl)

-- what is submitted is accepted, or a rule refuses it
pub submit_told : (session : Opened) (tx : Tx) (reply : Reply) → IsReply session (on.Submit tx) reply → (reply ≡ replies.Accepted (id_of tx)) ⊎ ((fault : TxFault) × (reply ≡ replies.Refused fault))
submit_told session tx reply is =
    elim (judged tx (fault_on (world is.past) tx)) [ inl done ↦ inl (is.told ∙ done) | inr not ↦ inr (not.0, is.told ∙ not.1) ]

same_id : (a b : List ℕ) → replies.Accepted a ≡ replies.Accepted b → a ≡ b
same_id a b e = cc

-- .. so the id that is told is the transaction's
pub accepted_is : (session : Opened) (tx : Tx) (reply : Reply) (id : List ℕ) → IsReply session (on.Submit tx) reply → reply ≡ replies.Accepted id → (id ≡ id_of tx) × (reply ≡ replies.Accepted (id_of tx))
accepted_is session tx reply id is told =
    elim (submit_told session tx reply is) [
      | inl done ↦ (same_id id (id_of tx) (sym told ∙ done), done)
      | inr not ↦ let clash : replies.Accepted id ≡ replies.Refused not.0 = sym told ∙ not.1 in absurd (cc)
    ]

-- and no other reply is told
pub is_judged : (session : Opened) (tx : Tx) (reply : Reply) → IsReply session (on.Submit tx) reply → ((x : List ℕ) → reply ≡ replies.Accepted x → ⊥) → ((x : TxFault) → reply ≡ replies.Refused x → ⊥) → ⊥
is_judged session tx reply is not_accepted not_refused =
    elim (submit_told session tx reply is) [ inl done ↦ not_accepted (id_of tx) done | inr not ↦ not_refused not.0 not.1 ]

-- a contract that was published is compiled
pub is_compiled : (f : Option CompileFault) (p : Published) (r : Result Published CompileFault) → r ≡ Ok p → MatchOption f (IsOkUnless r faults.Memory) (λ fault. r ≡ Err fault) → f ≡ None
is_compiled None p r is h = refl
is_compiled (Some fault) p r is h = absurd (cc)

-- ---- threads

pub was_started : (objects : List Published) (t : NamedThread) (object : Published) (shown : Look) (tx : Tx) (output : OutputRef) (a b c : SeatRecord) → slice_get objects t.contract ≡ Some object → start_made t object shown ≡ Ok tx → output ≡ Made (id_of tx) 0 → WentOn a b ((on.Look (key_ask t.by), replies.Look shown) ∷ []) → WentOn b c ((on.Submit tx, replies.Accepted (id_of tx)) ∷ []) → WasStarted objects t a c output
unfolding went_on_more
was_started objects t object shown tx output a b c has made is looked done = record {
  begun = record { thread = t; object = object; look = shown; tx = tx };
  of = refl;
  begins = record { object = has; made = made };
  output_is = is;
  seat = went_on_more a b c _ _ looked done;
}

pub none_started : (objects : List Published) (s : SeatRecord) → WereStarted objects [] s s []
unfolding went_on_same
none_started objects s = record { begun = []; of = refl; begin = All-nil (Begins objects); outputs_are = refl; seat = went_on_same s }

pub one_more_started : (objects : List Published) (ts : List NamedThread) (t : NamedThread) (a b c : SeatRecord) (os : List OutputRef) (o : OutputRef) → WereStarted objects ts a b os → WasStarted objects t b c o → WereStarted objects (ts ++ t ∷ []) a c (os ++ o ∷ [])
unfolding went_on_more
one_more_started objects ts t a b c os o w one = record {
  begun = w.begun ++ one.begun ∷ [];
  of = map-append (λ (x : Begun). x.thread) w.begun (one.begun ∷ []) ∙ (ap (λ (l : List NamedThread). l ++ one.begun.thread ∷ []) w.of ∙ ap (λ (x : NamedThread). ts ++ x ∷ []) one.of);
  begin = All-append (Begins objects) w.begun (one.begun ∷ []) w.begin (All-cons (Begins objects) one.begun [] one.begins (All-nil (Begins objects)));
  outputs_are = ap (λ (l : List OutputRef). l ++ o ∷ []) w.outputs_are ∙ (ap (λ (x : OutputRef). map start_output w.begun ++ x ∷ []) one.output_is ∙ sym (map-append start_output w.begun (one.begun ∷ [])));
  seat = subst (λ (l : List Told). WentOn a c l) (sym (flat_map-append starts w.begun (one.begun ∷ []) ∙ ap (λ (l : List Told). flat_map starts w.begun ++ l) (append-nil (starts one.begun)))) (went_on_more a b c (flat_map starts w.begun) (starts one.begun) w.seat one.seat);
}

-- ---- the whole setup

pub set_up_is : (s : Scenario) (objects : List Published) (outputs : List OutputRef) (a b c : SeatRecord) → a.answers ≡ [] → objects ≡ map object_of s.contracts → WentOn a b (map publishes s.contracts) → WereStarted objects s.threads b c outputs → (begun : List Begun) × IsSetUp s begun c.answers × (outputs ≡ map start_output begun) × (c.number ≡ a.number)
unfolding went_on_more
set_up_is s objects outputs a b c none are published w =
    let all = went_on_more a b c (map publishes s.contracts) (flat_map starts w.begun) published w.seat in
    let answers : c.answers ≡ all.more = ap (λ (x : SeatRecord). x.answers) all.list ∙ ap (λ (l : List Answer). l ++ all.more) none in (
      w.begun,
      record {
        threads = w.of;
        begin = subst (λ (ps : List Published). All (Begins ps) w.begun) are w.begin;
        calls = ap (map told) answers ∙ all.told_is;
      },
      w.outputs_are,
      ap (λ (x : SeatRecord). x.number) all.list,
    )

-- ---- names

-- the currency at a place is the one of the contract there
pub currency_is : (contracts : List NamedContract) (i : ℕ) (c : NamedContract) → i < length contracts → get_or contracts i c ≡ c → currency_at (currencies contracts) i ≡ c.currency
currency_is contracts i c here is =
    let of = λ (x : NamedContract). x.currency in
    let long : length (map of contracts) ≡ length contracts = length-map contracts of in
    get_or_default (map of contracts) i [] c.currency (subst (λ (n : ℕ). i < n) (sym long) here) ∙ (get_or-map of contracts i c ∙ ap of is)

-- ---- answers

-- what holds of an answer implies more
pub ok_more : {X F : Type 0} (P Q : X → Type 0) (r : Result X F) → ((x : X) → P x → Q x) → IfOk r P → IfOk r Q
ok_more P Q (Ok x) more h = more x h
ok_more P Q (Err fault) more h = tt
