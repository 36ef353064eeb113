-- How what a party does adds up.
use Rattle.std.proofs.Common.{◌≡◌, inl, inr, ℕ, zero, suc, ◌+◌, ◌-◌, ◌<◌, ◌≤◌, List, [], ◌∷◌, ◌++◌, length, map, take, drop, get_or, Option, Some, None, refl, sym, ap, ◌∙◌, subst, arith, append_assoc, length-drop}
use Rattle.std.proofs.lemmas.List.{append-nil, length-append, map-append, drop_more, drop_all, take_all}
use Rattle.std.proofs.lemmas.Option.{get_or_from_slice_get, slice_get-get_or, slice_get_within}
use Rattle.std.proofs.Math.Seq.{drop-append_seam}
use Rattle.std.proofs.lemmas.List.Elements.{All-nil, All-cons, All-append}
use Rattle.std.specs.Prelude.{◌≢◌, ℤ, Result, Ok, Err, OnErr, IfSome, if◌then◌else◌, slice_get, option_to_list}
use Rattle.std.specs.List.{All, Contains}
use Rattle.contract.specs.Collections.Answers.{Aside}
use Rattle.contract.specs.declared.input.Input.{Input}
use Rattle.hub.specs.EutxoTypes.declared.output_ref.OutputRef.{OutputRef}
use Rattle.hub.specs.EutxoTypes.declared.tx.Tx.{Tx}
use Rattle.hub.specs.Ledger.declared.ask.Ask.{Ask}
use Rattle.hub.specs.Ledger.declared.call.Call.{Call}
use Rattle.hub.specs.Ledger.declared.call.Call.TheVariants as on
use Rattle.hub.specs.Ledger.declared.call.Reply.{Reply}
use Rattle.hub.specs.Ledger.declared.call.Reply.TheVariants as replies
use Rattle.hub.specs.Ledger.declared.look.Look.{Look}
use Rattle.hub.specs.LedgerSpec.BuilderSpec.declared.fault.BuildFault.{BuildFault}
use Rattle.hub.specs.LedgerSpec.BuilderSpec.declared.fault.BuildFault.TheVariants as causes
use Rattle.plans.specs.declared.intent.Intent.TheVariants.{Step, Steps, Claim, Round, Advance}
use Rattle.hub.specs.declared.answer.Answer.{Answer}
use Rattle.hub.specs.Seats.{SeatRecord, ReceiptRecord, seat_record, answer_of, IsReply, WasTold}
use Rattle.hub.specs.Session.{Opened}
use Rattle.hub.specs.LedgerSpec.Replay.{world}
use Rattle.hub.specs.LedgerSpec.Views.{look}
use Rattle.parties.specs.Plays.{PlayedIntent, PlayedPlan, step_ask, claim_ask, step_made, steps_made, claim_made, offered_by, parts_of}
use Rattle.parties.specs.Plays.{AreLooks, WereShown, LooksOrHandsIn, IsOf, IsOfPlan, AreOf, AreOfPlan, IsWithin, added, receipt_of}
use Rattle.parties.specs.Plays.{asks_of, by_first, IsLeftOut}
use Rattle.parties.specs.declared.left_out.LeftOut.{LeftOut}
use Rattle.parties.specs.PlaysSupport.{LeavesOut, replies_of, AreShown, ShowsALook, HandsIn, HasRoom, WasNoted, AtMostNoted, Went, WentNoted, WasShown}

-- ---- whose call it is

-- what was shown just before is so after more that was before
shown_later : (asks : List Ask) (looks : List Look) (earlier before : List Answer) → WereShown asks looks before → WereShown asks looks (earlier ++ before)
shown_later asks looks earlier before h = (earlier ++ h.0, h.1, ap (λ (l : List Answer). earlier ++ l) h.2 ∙ sym (append_assoc earlier h.0 h.1), h.3)

-- what is of an intent is of it after more that was before
of_later : (plan : PlayedPlan) (earlier before : List Answer) (call : Call) (intent : PlayedIntent) → IsOf plan before call intent → IsOf plan (earlier ++ before) call intent
of_later plan earlier before call (Step thread inputs interval pooled) h =
    elim h [ inl looks ↦ inl looks | inr hands ↦ inr (hands.0, hands.1, shown_later (step_ask plan thread ∷ []) (hands.0 ∷ []) earlier before hands.2, hands.3, hands.4) ]
of_later plan earlier before call (Steps steps interval pooled) h =
    elim h [ inl looks ↦ inl looks | inr hands ↦ inr (hands.0, hands.1, shown_later (map (λ (s : OutputRef × List Input). step_ask plan s.0) steps) hands.0 earlier before hands.2, hands.3, hands.4) ]
of_later plan earlier before call (Claim currency role interval) h =
    elim h [ inl looks ↦ inl looks | inr hands ↦ inr (hands.0, hands.1, shown_later (claim_ask plan currency role ∷ []) (hands.0 ∷ []) earlier before hands.2, hands.3, hands.4) ]
of_later plan earlier before call (Round count workers) h = h
of_later plan earlier before call (Advance tick) h = h

are_later : (plan : PlayedPlan) (earlier before xs : List Answer) → AreOf plan before xs → AreOf plan (earlier ++ before) xs
are_later plan earlier before [] h = tt
are_later plan earlier before (a ∷ rest) h =
    let of = h.0 in
    ((of.0, of.1, of.2, of.3, of_later plan earlier before a.call of.1 of.4), subst (λ (l : List Answer). AreOf plan l rest) (sym (append_assoc earlier before (a ∷ []))) (are_later plan earlier (before ++ a ∷ []) rest h.1))

-- what is played after what is played
are_append : (plan : PlayedPlan) (before xs ys : List Answer) → AreOf plan before xs → AreOf plan [] ys → AreOf plan before (xs ++ ys)
are_append plan before [] ys h k = subst (λ (l : List Answer). AreOf plan l ys) (append-nil before) (are_later plan before [] ys k)
are_append plan before (a ∷ rest) ys h k = (h.0, are_append plan (before ++ a ∷ []) rest ys h.1 k)

-- one call more, by all that was before
are_one_more : (plan : PlayedPlan) (before xs : List Answer) (a : Answer) → AreOf plan before xs → IsOfPlan plan (before ++ xs) a.call → AreOf plan before (xs ++ a ∷ [])
are_one_more plan before [] a h of = (subst (λ (l : List Answer). IsOfPlan plan l a.call) (append-nil before) of, tt)
are_one_more plan before (x ∷ rest) a h of = (h.0, are_one_more plan (before ++ x ∷ []) rest a h.1 (subst (λ (l : List Answer). IsOfPlan plan l a.call) (sym (append_assoc before (x ∷ []) rest)) of))

-- an intent of the plan
of_plan : (plan : PlayedPlan) (before : List Answer) (call : Call) (intent : PlayedIntent) → Contains plan.intents intent → IsOf plan before call intent → IsOfPlan plan before call
of_plan plan before call intent has of = (has.0, intent, has.1, has.2, of)

pub round_of_plan : (plan : PlayedPlan) (intent : PlayedIntent) (count workers : ℕ) → Contains plan.intents intent → intent ≡ Round count workers → IsOfPlan plan [] (on.Round count)
round_of_plan plan intent count workers has is = of_plan plan [] (on.Round count) intent has (subst (λ (i : PlayedIntent). IsOf plan [] (on.Round count) i) (sym is) refl)

pub advance_of_plan : (plan : PlayedPlan) (intent : PlayedIntent) (tick : ℤ) → Contains plan.intents intent → intent ≡ Advance tick → IsOfPlan plan [] (on.Advance tick)
advance_of_plan plan intent tick has is = of_plan plan [] (on.Advance tick) intent has (subst (λ (i : PlayedIntent). IsOf plan [] (on.Advance tick) i) (sym is) refl)

-- ---- a look

the_only : (x y : Ask) → Contains (x ∷ []) y → y ≡ x
the_only x y has =
    let one : has.0 < 1 = has.1 in
    let first : has.0 ≡ 0 = omega (arith, one) in sym has.2 ∙ ap (λ (k : ℕ). get_or (x ∷ []) k y) first

-- a look that an intent asks for is of it
look_is_of : (plan : PlayedPlan) (intent : PlayedIntent) (ask : Ask) → Contains (asks_of plan intent) ask → IsOf plan [] (on.Look ask) intent
look_is_of plan (Step thread inputs interval pooled) ask has = inl (ap on.Look (the_only (step_ask plan thread) ask has))
look_is_of plan (Steps steps interval pooled) ask has = inl (has.0, ask, has.1, has.2, refl)
look_is_of plan (Claim currency role interval) ask has = inl (ap on.Look (the_only (claim_ask plan currency role) ask has))
look_is_of plan (Round count workers) ask has =
    let none : has.0 < 0 = has.1 in absurd (omega (arith, none))
look_is_of plan (Advance tick) ask has =
    let none : has.0 < 0 = has.1 in absurd (omega (arith, none))

look_of_plan : (plan : PlayedPlan) (intent : PlayedIntent) (ask : Ask) → Contains plan.intents intent → Contains (asks_of plan intent) ask → IsOfPlan plan [] (on.Look ask)
look_of_plan plan intent ask has asked = of_plan plan [] (on.Look ask) intent has (look_is_of plan intent ask asked)

-- ---- what is handed in

-- these calls, answered by these looks
are_looks : (asks : List Ask) (looks : List Look) (answers : List Answer) → map (λ (a : Answer). a.call) answers ≡ map on.Look asks → map (λ (a : Answer). a.reply) answers ≡ map replies.Look looks → AreLooks asks looks answers
are_looks [] [] [] calls told = tt
are_looks [] [] (a ∷ answers) calls told = absurd (cc)
are_looks [] (look ∷ looks) [] calls told = absurd (cc)
are_looks [] (look ∷ looks) (a ∷ answers) calls told = absurd (cc)
are_looks (ask ∷ asks) [] [] calls told = absurd (cc)
are_looks (ask ∷ asks) [] (a ∷ answers) calls told = absurd (cc)
are_looks (ask ∷ asks) (look ∷ looks) [] calls told = absurd (cc)
are_looks (ask ∷ asks) (look ∷ looks) (a ∷ answers) calls told =
    let call : a.call ≡ on.Look ask = ap (λ (l : List Call). get_or l 0 a.call) calls in
    let reply : a.reply ≡ replies.Look look = ap (λ (l : List Reply). get_or l 0 a.reply) told in
    (call, reply, are_looks asks looks answers (ap (λ (l : List Call). drop 1 l) calls) (ap (λ (l : List Reply). drop 1 l) told))

-- made of one look
made_of_one : (ask : Ask) (hand_in : Tx → Call) (made : Look → Result Tx BuildFault) (looks : List Look) (answers : List Answer) (tx : Tx) (call : Call) → AreLooks (ask ∷ []) looks answers → by_first made looks ≡ Some (Ok tx) → call ≡ hand_in tx → LooksOrHandsIn ask hand_in made answers call
made_of_one ask hand_in made [] answers tx call are is called = absurd (cc)
made_of_one ask hand_in made (look ∷ looks) [] tx call are is called = absurd are
made_of_one ask hand_in made (look ∷ []) (a ∷ []) tx call are is called =
    let whole : made look ≡ Ok tx = cc in inr (look, tx, ([], a ∷ [], refl, are), whole, called)
made_of_one ask hand_in made (look ∷ []) (a ∷ b ∷ answers) tx call are is called = absurd are.2
made_of_one ask hand_in made (look ∷ more ∷ looks) (a ∷ []) tx call are is called = absurd are.2
made_of_one ask hand_in made (look ∷ more ∷ looks) (a ∷ b ∷ answers) tx call are is called = absurd are.2

-- what is made of the looks of an intent is of it, just behind them
hands : (plan : PlayedPlan) (intent : PlayedIntent) (answers : List Answer) (shown : List ReceiptRecord) (call : Call) → map (λ (a : Answer). a.call) answers ≡ map on.Look (asks_of plan intent) → map (λ (a : Answer). a.reply) answers ≡ replies_of shown → HandsIn plan intent shown call → IsOf plan answers call intent
hands plan (Step thread inputs interval pooled) answers shown call calls told h =
    made_of_one (step_ask plan thread) (λ (tx : Tx). if pooled then on.Enqueue tx else on.Submit tx) (step_made plan inputs interval) h.looks answers h.tx call (are_looks (step_ask plan thread ∷ []) h.looks answers calls (told ∙ h.told)) h.made h.call_is
hands plan (Steps steps interval pooled) answers shown call calls told h =
    let asks : List Ask = map (λ (s : OutputRef × List Input). step_ask plan s.0) steps in
    let made = h.made in
    let whole : steps_made plan steps interval h.looks ≡ Ok h.tx = cc in
    inr (h.looks, h.tx, ([], answers, refl, are_looks asks h.looks answers calls (told ∙ h.told)), whole, h.call_is)
hands plan (Claim currency role interval) answers shown call calls told h =
    made_of_one (claim_ask plan currency role) on.Submit (claim_made plan interval) h.looks answers h.tx call (are_looks (claim_ask plan currency role ∷ []) h.looks answers calls (told ∙ h.told)) h.made h.call_is
hands plan (Round count workers) answers shown call calls told h =
    let made = h.made in absurd (cc)
hands plan (Advance tick) answers shown call calls told h =
    let made = h.made in absurd (cc)

-- ---- where a party stops

within_same : (limit : Option ℕ) (s : SeatRecord) → IsWithin limit s s
within_same None s = tt
within_same (Some n) s = inr refl

within_more : (limit : Option ℕ) (a b c : SeatRecord) → IsWithin limit a b → IsWithin limit b c → IsWithin limit a c
within_more None a b c h k = tt
within_more (Some n) a b c h k =
    elim k [ inl few ↦ inl few | inr same ↦ subst (λ (s : SeatRecord). IsWithin (Some n) a s) (sym same) h ]

within_one : (limit : Option ℕ) (old new : SeatRecord) (a : Answer) → HasRoom limit old → new ≡ seat_record old.number (old.answers ++ a ∷ []) → IsWithin limit old new
within_one None old new a room is = tt
within_one (Some n) old new a room is =
    let long : length new.answers ≡ length old.answers + 1 = ap (λ (s : SeatRecord). length s.answers) is ∙ length-append old.answers (a ∷ []) in inl (omega arith)

-- ---- what was added

-- a Look is answered by a look
shows : (session : Opened) (call : Call) (reply : Reply) → IsReply session call reply → ShowsALook call reply
shows session (on.Publish contract currency) reply is = tt
shows session (on.Advance tick) reply is = tt
shows session (on.Look ask) reply is = (look (world is.past) ask, is.told)
shows session (on.Submit tx) reply is = tt
shows session (on.Enqueue tx) reply is = tt
shows session (on.Round count) reply is = tt

-- a call that was told, with its receipt
pub noted : (session : Opened) (plan : PlayedPlan) (call : Call) (old new : SeatRecord) (r : ReceiptRecord) (before mid now : List ReceiptRecord) → WasTold session old call r new → HasRoom plan.stop_after old → mid ≡ before → now ≡ mid ++ r ∷ [] → WasNoted plan call old new before now
noted session plan call old new r before mid now told room same more = record {
  answer = answer_of call r;
  call_is = refl;
  list = told.answer;
  receipts = more ∙ (ap (λ (l : List ReceiptRecord). l ++ r ∷ []) same ∙ ap (λ (n : ℕ). before ++ (record { entry = r.entry; seat = n; number = r.number; reply = r.reply } ∷ [])) told.seat);
  within = within_one plan.stop_after old new (answer_of call r) room told.answer;
  shows = shows session call r.reply told.reply;
}

pub went_same : (plan : PlayedPlan) (old new : SeatRecord) → new ≡ old → Went plan old new
went_same plan old new same = record {
  more = [];
  list = same ∙ ap (seat_record old.number) (sym (append-nil old.answers));
  played = tt;
  within = subst (λ (s : SeatRecord). IsWithin plan.stop_after old s) (sym same) (within_same plan.stop_after old);
}

pub went_more : (plan : PlayedPlan) (a b c : SeatRecord) → Went plan a b → Went plan b c → Went plan a c
went_more plan a b c x y = record {
  more = x.more ++ y.more;
  list = y.list ∙ (ap (λ (s : SeatRecord). seat_record s.number (s.answers ++ y.more)) x.list ∙ ap (seat_record a.number) (append_assoc a.answers x.more y.more));
  played = are_append plan [] x.more y.more x.played y.played;
  within = within_more plan.stop_after a b c x.within y.within;
}

-- one call, of the plan
pub went_one : (plan : PlayedPlan) (call : Call) (old new : SeatRecord) (before now : List ReceiptRecord) → WasNoted plan call old new before now → IsOfPlan plan [] call → Went plan old new
went_one plan call old new before now n of = record {
  more = n.answer ∷ [];
  list = n.list;
  played = (subst (IsOfPlan plan []) (sym n.call_is) of, tt);
  within = n.within;
}

-- ---- .. with receipts

pub noted_same : (plan : PlayedPlan) (old new : SeatRecord) (before now : List ReceiptRecord) → new ≡ old → now ≡ before → WentNoted plan old new before now
unfolding went_same
noted_same plan old new before now same kept = record {
  went = went_same plan old new same;
  receipts = kept ∙ sym (append-nil before);
}

pub noted_more : (plan : PlayedPlan) (a b c : SeatRecord) (rs ss ts : List ReceiptRecord) → WentNoted plan a b rs ss → WentNoted plan b c ss ts → WentNoted plan a c rs ts
unfolding went_more
noted_more plan a b c rs ss ts x y =
    let number : b.number ≡ a.number = ap (λ (s : SeatRecord). s.number) x.went.list in
    let second : ts ≡ ss ++ map (receipt_of a.number) y.went.more = y.receipts ∙ ap (λ (n : ℕ). ss ++ map (receipt_of n) y.went.more) number in
    let both : ss ++ map (receipt_of a.number) y.went.more ≡ (rs ++ map (receipt_of a.number) x.went.more) ++ map (receipt_of a.number) y.went.more = ap (λ l. l ++ map (receipt_of a.number) y.went.more) x.receipts in
    record {
      went = went_more plan a b c x.went y.went;
      receipts = second ∙ (both ∙ (append_assoc rs (map (receipt_of a.number) x.went.more) (map (receipt_of a.number) y.went.more) ∙ ap (λ l. rs ++ l) (sym (map-append (receipt_of a.number) x.went.more y.went.more))));
    }

pub noted_one : (plan : PlayedPlan) (call : Call) (old new : SeatRecord) (before now : List ReceiptRecord) → WasNoted plan call old new before now → IsOfPlan plan [] call → WentNoted plan old new before now
unfolding went_one
noted_one plan call old new before now n of = record {
  went = went_one plan call old new before now n of;
  receipts = n.receipts;
}

-- one call at most, of the plan
pub noted_at_most : (plan : PlayedPlan) (call : Call) (old new : SeatRecord) (before now : List ReceiptRecord) → AtMostNoted plan call old new before now → IsOfPlan plan [] call → WentNoted plan old new before now
noted_at_most plan call old new before now n of =
    elim n [ inl none ↦ noted_same plan old new before now none.0 none.1 | inr one ↦ noted_one plan call old new before now one of ]

-- ---- the looks of one turn

-- a receipt keeps the reply
replies_kept : (seat : ℕ) (answers : List Answer) → map (λ (a : Answer). a.reply) answers ≡ replies_of (map (receipt_of seat) answers)
replies_kept seat [] = refl
replies_kept seat (a ∷ answers) = ap (λ (l : List Reply). a.reply ∷ l) (replies_kept seat answers)

pub shown_none : (plan : PlayedPlan) (seat : SeatRecord) (receipts : List ReceiptRecord) → WasShown plan [] seat seat receipts receipts
unfolding noted_same went_same
shown_none plan seat receipts = record {
  gone = noted_same plan seat seat receipts receipts refl refl;
  calls = refl;
  looks = [];
  told = refl;
}

-- one look more
pub shown_more : (plan : PlayedPlan) (intent : PlayedIntent) (asks : List Ask) (ask : Ask) (a b c : SeatRecord) (rs ss ts : List ReceiptRecord) → Contains plan.intents intent → Contains (asks_of plan intent) ask → WasShown plan asks a b rs ss → WasNoted plan (on.Look ask) b c ss ts → WasShown plan (asks ++ ask ∷ []) a c rs ts
unfolding noted_more went_more noted_one went_one
shown_more plan intent asks ask a b c rs ss ts has asked w one =
    let more = w.gone.went.more in
    let calls : map (λ (x : Answer). x.call) (more ++ one.answer ∷ []) ≡ map on.Look (asks ++ ask ∷ []) =
    map-append (λ (x : Answer). x.call) more (one.answer ∷ [])
    ∙ (ap (λ (l : List Call). l ++ one.answer.call ∷ []) w.calls
    ∙ (ap (λ (k : Call). map on.Look asks ++ k ∷ []) one.call_is
    ∙ sym (map-append on.Look asks (ask ∷ []))))
    in
    let shown : (l : Look) × (one.answer.reply ≡ replies.Look l) = one.shows in
    let told : map (λ (x : Answer). x.reply) (more ++ one.answer ∷ []) ≡ map replies.Look (w.looks ++ shown.0 ∷ []) =
    map-append (λ (x : Answer). x.reply) more (one.answer ∷ [])
    ∙ (ap (λ (l : List Reply). l ++ one.answer.reply ∷ []) w.told
    ∙ (ap (λ (r : Reply). map replies.Look w.looks ++ r ∷ []) shown.1
    ∙ sym (map-append replies.Look w.looks (shown.0 ∷ []))))
    in
    record {
      gone = noted_more plan a b c rs ss ts w.gone (noted_one plan (on.Look ask) b c ss ts one (look_of_plan plan intent ask has asked));
      calls = calls;
      looks = w.looks ++ shown.0 ∷ [];
      told = told;
    }

-- .. or none, since the party had stopped
pub shown_at_most : (plan : PlayedPlan) (intent : PlayedIntent) (asks : List Ask) (ask : Ask) (a b c : SeatRecord) (rs ss ts : List ReceiptRecord) → Contains plan.intents intent → Contains (asks_of plan intent) ask → WasShown plan asks a b rs ss → AtMostNoted plan (on.Look ask) b c ss ts → WentNoted plan a c rs ts
shown_at_most plan intent asks ask a b c rs ss ts has asked w n = noted_more plan a b c rs ss ts w.gone (noted_at_most plan (on.Look ask) b c ss ts n (look_of_plan plan intent ask has asked))

pub no_fewer : (plan : PlayedPlan) (a b : SeatRecord) (rs ss : List ReceiptRecord) → WentNoted plan a b rs ss → length rs ≤ length ss
no_fewer plan a b rs ss w =
    let long : length ss ≡ length rs + length (map (receipt_of a.number) w.went.more) = ap (λ (l : List ReceiptRecord). length l) w.receipts ∙ length-append rs (map (receipt_of a.number) w.went.more) in
    omega (arith, long)

-- those from a place on, as they are lent
pub lent_rest : (lent all : List ReceiptRecord) (at n : ℕ) → lent ≡ all → at ≡ n → take (length lent - at) (drop at lent) ≡ drop n all
lent_rest lent all at n same here =
    take_all (length lent - at) (drop at lent) (omega (arith, length-drop at lent))
    ∙ (ap (λ (k : ℕ). drop k lent) here ∙ ap (λ (l : List ReceiptRecord). drop n l) same)

-- what was asked to be shown is
pub are_shown : (plan : PlayedPlan) (asks : List Ask) (a b : SeatRecord) (rs ss : List ReceiptRecord) → WasShown plan asks a b rs ss → AreShown (drop (length rs) ss)
are_shown plan asks a b rs ss w =
    let shown : drop (length rs) ss ≡ map (receipt_of a.number) w.gone.went.more = ap (λ (l : List ReceiptRecord). drop (length rs) l) w.gone.receipts ∙ drop-append_seam rs (map (receipt_of a.number) w.gone.went.more) in
    (w.looks, ap replies_of shown ∙ (sym (replies_kept a.number w.gone.went.more) ∙ w.told))

-- .. and what is handed in after them
handed_one : (plan : PlayedPlan) (intent : PlayedIntent) (call : Call) (a b c : SeatRecord) (rs ss ts : List ReceiptRecord) → Contains plan.intents intent → WasShown plan (asks_of plan intent) a b rs ss → HandsIn plan intent (drop (length rs) ss) call → WasNoted plan call b c ss ts → WentNoted plan a c rs ts
handed_one plan intent call a b c rs ss ts has w next one =
    let shown : drop (length rs) ss ≡ map (receipt_of a.number) w.gone.went.more = ap (λ (l : List ReceiptRecord). drop (length rs) l) w.gone.receipts ∙ drop-append_seam rs (map (receipt_of a.number) w.gone.went.more) in
    let told : map (λ (x : Answer). x.reply) w.gone.went.more ≡ replies_of (drop (length rs) ss) = replies_kept a.number w.gone.went.more ∙ ap replies_of (sym shown) in
    let of : IsOf plan w.gone.went.more call intent = hands plan intent w.gone.went.more (drop (length rs) ss) call w.calls told next in
    let second : IsOfPlan plan w.gone.went.more one.answer.call = of_plan plan w.gone.went.more one.answer.call intent has (subst (λ (k : Call). IsOf plan w.gone.went.more k intent) (sym one.call_is) of) in
    let number : b.number ≡ a.number = ap (λ (s : SeatRecord). s.number) w.gone.went.list in
    let list : c ≡ seat_record a.number (a.answers ++ (w.gone.went.more ++ one.answer ∷ [])) =
    one.list
    ∙ (ap (λ (s : SeatRecord). seat_record s.number (s.answers ++ one.answer ∷ [])) w.gone.went.list
    ∙ ap (seat_record a.number) (append_assoc a.answers w.gone.went.more (one.answer ∷ [])))
    in
    let receipts : ts ≡ rs ++ map (receipt_of a.number) (w.gone.went.more ++ one.answer ∷ []) =
    one.receipts
    ∙ (ap (λ (n : ℕ). ss ++ receipt_of n one.answer ∷ []) number
    ∙ (ap (λ (l : List ReceiptRecord). l ++ receipt_of a.number one.answer ∷ []) w.gone.receipts
    ∙ (append_assoc rs (map (receipt_of a.number) w.gone.went.more) (receipt_of a.number one.answer ∷ [])
    ∙ ap (λ (l : List ReceiptRecord). rs ++ l) (sym (map-append (receipt_of a.number) w.gone.went.more (one.answer ∷ []))))))
    in
    record {
      went = record {
        more = w.gone.went.more ++ one.answer ∷ [];
        list = list;
        played = are_one_more plan [] w.gone.went.more one.answer w.gone.went.played second;
        within = within_more plan.stop_after a b c w.gone.went.within one.within;
      };
      receipts = receipts;
    }

pub handed : (plan : PlayedPlan) (intent : PlayedIntent) (call : Call) (a b c : SeatRecord) (rs ss ts : List ReceiptRecord) → Contains plan.intents intent → WasShown plan (asks_of plan intent) a b rs ss → HandsIn plan intent (drop (length rs) ss) call → AtMostNoted plan call b c ss ts → WentNoted plan a c rs ts
handed plan intent call a b c rs ss ts has w next n =
    elim n [ inl none ↦ noted_more plan a b c rs ss ts w.gone (noted_same plan b c ss ts none.0 none.1) | inr one ↦ handed_one plan intent call a b c rs ss ts has w next one ]

-- ---- looks and parts

-- each of the receipts shows a look
pub is_a_look : (rs : List ReceiptRecord) (looks : List Look) (i : ℕ) (r : ReceiptRecord) → replies_of rs ≡ map replies.Look looks → i < length rs → get_or rs i r ≡ r → (look : Look) × (r.reply ≡ replies.Look look)
is_a_look [] looks i r told here is = absurd (omega (arith, here))
is_a_look (x ∷ rs) [] i r told here is = absurd (cc)
is_a_look (x ∷ rs) (l ∷ looks) zero r told here is = (l, ap (λ (y : ReceiptRecord). y.reply) (sym is) ∙ ap (λ (ls : List Reply). get_or ls 0 x.reply) told)
is_a_look (x ∷ rs) (l ∷ looks) (suc i) r told here is = is_a_look rs looks i r (ap (λ (ls : List Reply). drop 1 ls) told) (omega (arith, here)) is

-- a list that has a first has it in front
first_look : (looks : List Look) (look : Look) (made : Look → Result Tx BuildFault) → slice_get looks 0 ≡ Some look → by_first made looks ≡ Some (made look)
first_look [] look made first =
    let none : 0 < 0 = slice_get_within [] 0 look first in absurd (omega (arith, none))
first_look (x ∷ looks) look made first = ap (λ (l : Look). Some (made l)) (get_or_from_slice_get (x ∷ looks) 0 look x first)

pub made_first : (looks : List Look) (look : Look) (made : Look → Result Tx BuildFault) (tx : Tx) → slice_get looks 0 ≡ Some look → made look ≡ Ok tx → by_first made looks ≡ Some (Ok tx)
made_first looks look made tx first is = first_look looks look made first ∙ ap Some is

pub offered_first : (looks : List Look) (look : Look) → slice_get looks 0 ≡ Some look → look.keys ≡ offered_by looks
offered_first [] look first =
    let none : 0 < 0 = slice_get_within [] 0 look first in absurd (omega (arith, none))
offered_first (x ∷ looks) look first = ap (λ (l : Look). l.keys) (sym (get_or_from_slice_get (x ∷ looks) 0 look x first))

zero_less : (n : ℕ) → 0 < suc n
zero_less n = omega arith

pub offered_none : (looks : List Look) → slice_get looks 0 ≡ None → offered_by looks ≡ []
offered_none [] none = refl
offered_none (x ∷ looks) none =
    let clash : ◌≡◌ {A = Option Look} None (Some (get_or (x ∷ looks) 0 x)) = sym none ∙ slice_get-get_or (x ∷ looks) 0 x (zero_less (length looks)) in absurd (cc)

-- one part more
pub parts_more : (steps : List (OutputRef × List Input)) (looks : List Look) (i : ℕ) (s : OutputRef × List Input) (look : Look) → i < length steps → get_or steps i s ≡ s → slice_get looks i ≡ Some look → parts_of (drop i steps) (drop i looks) ≡ record { look = look; inputs = s.1 } ∷ parts_of (drop (i + 1) steps) (drop (i + 1) looks)
parts_more steps looks i s look here is shown =
    let step : drop i steps ≡ s ∷ drop (i + 1) steps = drop_more steps i s here ∙ ap (λ (x : OutputRef × List Input). x ∷ drop (i + 1) steps) is in
    let within = slice_get_within looks i look shown in
    let seen : drop i looks ≡ look ∷ drop (i + 1) looks = drop_more looks i look within ∙ ap (λ (x : Look). x ∷ drop (i + 1) looks) (get_or_from_slice_get looks i look look shown) in
    ap (λ (l : List (OutputRef × List Input)). parts_of l (drop i looks)) step ∙ ap (λ (l : List Look). parts_of (s ∷ drop (i + 1) steps) l) seen

-- no part of what isn't shown
no_parts : (steps : List (OutputRef × List Input)) → parts_of steps [] ≡ []
no_parts [] = refl
no_parts (s ∷ steps) = refl

pub parts_end : (steps : List (OutputRef × List Input)) (looks : List Look) (i : ℕ) → length looks ≤ i → parts_of (drop i steps) (drop i looks) ≡ []
parts_end steps looks i past = ap (λ (l : List Look). parts_of (drop i steps) l) (drop_all i looks past) ∙ no_parts (drop i steps)

-- ---- what a seat shows of it

pub added_is : (plan : PlayedPlan) (old new : SeatRecord) (w : Went plan old new) → added old new ≡ w.more
added_is plan old new w = ap (λ (s : SeatRecord). drop (length old.answers) s.answers) w.list ∙ drop-append_seam old.answers w.more

pub kept : (plan : PlayedPlan) (old new : SeatRecord) → Went plan old new → new ≡ seat_record old.number (old.answers ++ added old new)
kept plan old new w = w.list ∙ ap (λ (l : List Answer). seat_record old.number (old.answers ++ l)) (sym (added_is plan old new w))

pub played : (plan : PlayedPlan) (old new : SeatRecord) → Went plan old new → AreOfPlan plan (added old new)
played plan old new w = subst (λ (l : List Answer). AreOf plan [] l) (sym (added_is plan old new w)) w.played

pub receipts : (plan : PlayedPlan) (old new : SeatRecord) (now : List ReceiptRecord) → WentNoted plan old new [] now → now ≡ map (receipt_of old.number) (added old new)
receipts plan old new now w = w.receipts ∙ ap (λ (l : List Answer). map (receipt_of old.number) l) (sym (added_is plan old new w.went))

-- ---- what is left out

-- a receipt keeps the place
places_kept : (seat : ℕ) (answers : List Answer) → map (λ (r : ReceiptRecord). r.entry) (map (receipt_of seat) answers) ≡ map (λ (a : Answer). a.place) answers
places_kept seat [] = refl
places_kept seat (a ∷ answers) = ap (λ (l : List ℕ). a.place ∷ l) (places_kept seat answers)

-- an intent that is left out by all that was shown
pub left_by_looks : (plan : PlayedPlan) (place : ℕ) (intent : PlayedIntent) (fault : BuildFault) (l : LeftOut) (a b : SeatRecord) (rs ss shown : List ReceiptRecord) → slice_get plan.intents place ≡ Some intent → WasShown plan (asks_of plan intent) a b rs ss → shown ≡ drop (length rs) ss → LeavesOut plan intent shown fault → l.intent ≡ place → l.looks.items ≡ map (λ (r : ReceiptRecord). r.entry) shown → l.fault ≡ fault → IsLeftOut plan (added a b) l
left_by_looks plan place intent fault l a b rs ss shown at w are out here places is =
    let more = w.gone.went.more in
    let kept : shown ≡ map (receipt_of a.number) more = are ∙ (ap (λ (l : List ReceiptRecord). drop (length rs) l) w.gone.receipts ∙ drop-append_seam rs (map (receipt_of a.number) more)) in
    record {
      intent = intent;
      at = ap (λ (n : ℕ). slice_get plan.intents n) here ∙ at;
      earlier = [];
      shown = more;
      later = [];
      among = added_is plan a b w.gone.went ∙ sym (append-nil more);
      looks = out.looks;
      are = are_looks (asks_of plan intent) out.looks more w.calls (replies_kept a.number more ∙ (ap replies_of (sym kept) ∙ out.told));
      places = places ∙ (ap (map (λ (r : ReceiptRecord). r.entry)) kept ∙ places_kept a.number more);
      refused = out.made ∙ ap (λ (f : BuildFault). Some (Err f)) (sym is);
    }

-- it is left out as well where more was answered before
pub left_later : (plan : PlayedPlan) (before answers all : List Answer) (l : LeftOut) → all ≡ before ++ answers → IsLeftOut plan answers l → IsLeftOut plan all l
left_later plan before answers all l is h = record {
  intent = h.intent;
  at = h.at;
  earlier = before ++ h.earlier;
  shown = h.shown;
  later = h.later;
  among = is ∙ (ap (λ (l : List Answer). before ++ l) h.among ∙ sym (append_assoc before h.earlier (h.shown ++ h.later)));
  looks = h.looks;
  are = h.are;
  places = h.places;
  refused = h.refused;
}

-- .. and where more is answered then
pub left_still : (plan : PlayedPlan) (answers more all : List Answer) (l : LeftOut) → all ≡ answers ++ more → IsLeftOut plan answers l → IsLeftOut plan all l
left_still plan answers more all l is h = record {
  intent = h.intent;
  at = h.at;
  earlier = h.earlier;
  shown = h.shown;
  later = h.later ++ more;
  among = is ∙ (ap (λ (l : List Answer). l ++ more) h.among ∙ (append_assoc h.earlier (h.shown ++ h.later) more ∙ ap (λ (l : List Answer). h.earlier ++ l) (append_assoc h.shown h.later more)));
  looks = h.looks;
  are = h.are;
  places = h.places;
  refused = h.refused;
}

-- what is added by one after another
pub added_more : (plan : PlayedPlan) (a b c : SeatRecord) → Went plan a b → Went plan b c → added a c ≡ added a b ++ added b c
unfolding went_more
added_more plan a b c x y =
    let both : added a c ≡ x.more ++ y.more = added_is plan a c (went_more plan a b c x y) in
    both ∙ (ap (λ (l : List Answer). l ++ y.more) (sym (added_is plan a b x)) ∙ ap (λ (l : List Answer). added a b ++ l) (sym (added_is plan b c y)))

-- all that was left out, and what is left out of the next
pub all_left : (plan : PlayedPlan) (a b c : SeatRecord) (ls : List LeftOut) (told : Option LeftOut) → Went plan a b → Went plan b c → All (IsLeftOut plan (added a b)) ls → IfSome told (IsLeftOut plan (added b c)) → All (IsLeftOut plan (added a c)) (ls ++ option_to_list told)
all_left plan a b c ls told x y all one =
    let both = added_more plan a b c x y in
    All-append (IsLeftOut plan (added a c)) ls (option_to_list told) (λ k d here. left_still plan (added a b) (added b c) (added a c) _ both (all k d here)) (of told one)
  where
    of : (told : Option LeftOut) → IfSome told (IsLeftOut plan (added b c)) → All (IsLeftOut plan (added a c)) (option_to_list told)
    of None h = All-nil (IsLeftOut plan (added a c))
    of (Some l) h = All-cons (IsLeftOut plan (added a c)) l [] (left_later plan (added a b) (added b c) (added a c) l (added_more plan a b c x y) h) (All-nil (IsLeftOut plan (added a c)))

-- ---- answers

-- what holds of something that is there implies more
pub some_more : {X : Type 0} (P Q : X → Type 0) (o : Option X) → ((x : X) → P x → Q x) → IfSome o P → IfSome o Q
some_more P Q (Some x) more h = more x h
some_more P Q None more h = tt

-- an answer that isn't refused memory is the one that is said
pub aside_is : (built answer : Result Tx BuildFault) → Aside causes.Memory built answer → built ≢ Err causes.Memory → answer ≡ built
aside_is (Ok tx) answer h whole = h
aside_is (Err fault) answer h whole = h (λ is. whole (ap Err is))

-- what holds anyway holds where there is an error
pub on_err_always : {T E : Type 0} (r : Result T E) (P : Type 0) → P → OnErr r P
on_err_always (Ok x) P p = tt
on_err_always (Err e) P p = p
