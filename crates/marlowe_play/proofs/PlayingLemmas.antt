-- What is printed of a scenario that was read, and who played it.
use Rattle.std.proofs.Common.{◌≡◌, ℕ, ℤ, Bool, suc, ◌+◌, ◌<◌, List, [], ◌∷◌, ◌++◌, length, map, drop, get_or, refl, sym, ◌∙◌, ap, ap₂, subst, arith, Result, Ok, Err}
use Rattle.std.proofs.lemmas.Slice.Zip.{AllZip-long}
use Rattle.std.proofs.lemmas.List.{length-map}
use Rattle.std.proofs.lemmas.Option.{get_or_from_slice_get}
use Rattle.std.specs.Prelude.{slice_get, Some, IfOk, Vec}
use Rattle.std.specs.Global.{Global}
use Rattle.std.specs.List.{All, AllZip}
use Rattle.json_read_names.specs.Parts.{Reading}
use Rattle.play_endings.specs.Plans.declared.plan.Plan.{Plan}
use Rattle.play_endings.specs.Plans.declared.scenario.NamedThread.{NamedThread}
use Rattle.play_endings.specs.Plans.declared.scenario.Scenario.{Scenario}
use Rattle.play_endings.specs.Roles.declared.published.Published.{Published}
use Rattle.play_endings.specs.EutxoTypes.declared.output.Output.{Output}
use Rattle.play_endings.specs.EutxoTypes.declared.output_ref.OutputRef.{OutputRef}
use Rattle.play_setup.specs.LedgerSpec.Legal.{IsLegal}
use Rattle.play_setup.specs.LedgerSpec.Replay.{Course}
use Rattle.parties.specs.Hub.declared.answer.Answer.{Answer}
use Rattle.parties.specs.Hub.Seats.{SeatRecord, AreHeard, AreNumbered, answered}
use Rattle.parties.specs.declared.left_out.LeftOut.{LeftOut}
use Rattle.parties.specs.Plays.{PlayedPlan, AreOfPlan, IsLeftOut, added}
use Rattle.play_setup.specs.PlayLines.PlayLines.{ThreadLine}
use Rattle.play_setup.specs.SetUp.{Begun, Begins, IsSetUp, object_of, course, currencies, key_output, plan_on, start_output}
use Rattle.marlowe_play.specs.Played.{AreLeftOut, IsThreadLine, IsTold, PlaysPlan, TellsAPlay, IsAnswered, Wanted, well_by}
use Rattle.marlowe_play.specs.PlayedSupport.{AreLines, HasPlayed, HasEnded, WerePlayed}

-- ---- answers

-- what holds of an answer implies more
pub ok_more : {X F : Type 0} (P Q : X → Type 0) (r : Result X F) → ((x : X) → P x → Q x) → IfOk r P → IfOk r Q
ok_more P Q (Ok x) more h = more x h
ok_more P Q (Err fault) more h = tt

pub ok_both : {X F : Type 0} (P Q S : X → Type 0) (r : Result X F) → ((x : X) → P x → Q x → S x) → IfOk r P → IfOk r Q → IfOk r S
ok_both P Q S (Ok x) more h k = more x h k
ok_both P Q S (Err fault) more h k = tt

-- ---- place by place

first_place : (n : ℕ) → 0 < suc n
first_place n = omega arith

next_place : (i n : ℕ) → i < n → suc i < suc n
next_place i n h = omega (arith, h)

pub zip_from : {A B : Type 0} (P : A → B → Type 0) (xs : List A) (ys : List B) → length ys ≡ length xs → ((i : ℕ) (d : A) (e : B) → i < length xs → P (get_or xs i d) (get_or ys i e)) → AllZip P xs ys
zip_from P [] [] long h = tt
zip_from P [] (y ∷ ys) long h = absurd (omega (arith, long))
zip_from P (x ∷ xs) [] long h = absurd (omega (arith, long))
zip_from P (x ∷ xs) (y ∷ ys) long h = (h 0 x y (first_place (length xs)), zip_from P xs ys (omega (arith, long)) (λ i d e here. h (suc i) d e (next_place i (length xs) here)))

pub zip_push : {A B : Type 0} (P : A → B → Type 0) (xs : List A) (ys : List B) (x : A) (y : B) → AllZip P xs ys → P x y → AllZip P (xs ++ x ∷ []) (ys ++ y ∷ [])
zip_push P [] [] x y h p = (p, tt)
zip_push P [] (b ∷ ys) x y h p = absurd h
zip_push P (a ∷ xs) [] x y h p = absurd h
zip_push P (a ∷ xs) (b ∷ ys) x y h p = (h.0, zip_push P xs ys x y h.1 p)

-- ---- who played

none_of : {X : Type 0} (xs : List X) (n : ℕ) → length xs + n ≡ 0 → xs ≡ []
none_of [] n h = refl
none_of (x ∷ xs) n h = absurd (omega (arith, h))

rest_none : (m n : ℕ) → m + n ≡ 0 → n ≡ 0
rest_none m n h = omega (arith, h)

-- a seat that had no answers has those of the plan now
of_plan : (plan : PlayedPlan) (old new : SeatRecord) → old.answers ≡ [] → HasPlayed plan old new → AreOfPlan plan new.answers
of_plan plan old new none h =
    let now : new.answers ≡ added old new = ap (λ (s : SeatRecord). s.answers) h.0 ∙ ap (λ (l : List Answer). l ++ added old new) none in
    subst (AreOfPlan plan) (sym now) h.1

-- seats without answers, which played plans: they keep their numbers, and the answers of each are of its plan
played_zip : {T E : Type 0} (plan : T → PlayedPlan) (seat : T → SeatRecord) (now : E → SeatRecord) (s : Scenario) (begun : List Begun) (k : ℕ) (ts : List T) (es : List E) (ps : List (Plan ℕ ℕ)) →
    map plan ts ≡ map (plan_on (currencies s.contracts) (map start_output begun)) ps → AreNumbered k (map seat ts) → answered (map seat ts) ≡ 0 →
    AllZip (λ (t : T) (e : E). HasPlayed (plan t) (seat t) (now e)) ts es → AreNumbered k (map now es) × AllZip (PlaysPlan s begun) ps (map now es)
played_zip plan seat now s begun k [] [] [] plans numbers none zip = (tt, tt)
played_zip plan seat now s begun k [] [] (p ∷ ps) plans numbers none zip = absurd (cc)
played_zip plan seat now s begun k [] (e ∷ es) ps plans numbers none zip = absurd zip
played_zip plan seat now s begun k (t ∷ ts) [] ps plans numbers none zip = absurd zip
played_zip plan seat now s begun k (t ∷ ts) (e ∷ es) [] plans numbers none zip = absurd (cc)
played_zip plan seat now s begun k (t ∷ ts) (e ∷ es) (p ∷ ps) plans numbers none zip =
    let named = plan_on (currencies s.contracts) (map start_output begun) in
    let first : plan t ≡ named p = ap (λ (l : List PlayedPlan). get_or l 0 (plan t)) plans in
    let others = played_zip plan seat now s begun (k + 1) ts es ps (ap (λ (l : List PlayedPlan). drop 1 l) plans) numbers.1 (rest_none (length (seat t).answers) (answered (map seat ts)) none) zip.1 in
    let of : AreOfPlan (plan t) (now e).answers = of_plan (plan t) (seat t) (now e) (none_of (seat t).answers (answered (map seat ts)) none) zip.0 in
    ((ap (λ (r : SeatRecord). r.number) zip.0.0 ∙ numbers.0, others.0), (subst (λ (q : PlayedPlan). AreOfPlan q (now e).answers) first of, others.1))

-- the first of seats that were told nothing
pub first_is_new : (all rest : List SeatRecord) (first : SeatRecord) → all ≡ first ∷ rest → answered all ≡ 0 → first.answers ≡ []
first_is_new all rest first are none = none_of first.answers (answered rest) (sym (ap answered are) ∙ none)

less_one : (m n k : ℕ) → k ≡ suc m → k ≡ n + 1 → m ≡ n
less_one m n k is long = omega (arith, is, long)

-- .. and how many are behind it
pub rest_length : (all rest : List SeatRecord) (first : SeatRecord) (n : ℕ) → all ≡ first ∷ rest → length all ≡ n + 1 → length rest ≡ n
rest_length all rest first n are long = less_one (length rest) n (length all) (ap (λ (l : List SeatRecord). length l) are) long

zip_weaker : {A B : Type 0} (P Q : A → B → Type 0) (xs : List A) (ys : List B) → ((x : A) (y : B) → P x y → Q x y) → AllZip P xs ys → AllZip Q xs ys
zip_weaker P Q [] [] more h = tt
zip_weaker P Q [] (y ∷ ys) more h = absurd h
zip_weaker P Q (x ∷ xs) [] more h = absurd h
zip_weaker P Q (x ∷ xs) (y ∷ ys) more h = (more x y h.0, zip_weaker P Q xs ys more h.1)

-- what was left out, of each plan by its seat
were_left : {T E F : Type 0} (plan : T → PlayedPlan) (seat : T → SeatRecord) (now : E → SeatRecord) (done : E → Result (Vec LeftOut Global) F) (named : Plan ℕ ℕ → PlayedPlan) (ts : List T) (es : List E) (ps : List (Plan ℕ ℕ)) (vs : List (Vec LeftOut Global)) →
    map plan ts ≡ map named ps → answered (map seat ts) ≡ 0 → AllZip (λ (t : T) (e : E). HasEnded (plan t) (seat t) (now e) (done e)) ts es →
    map (λ (v : Vec LeftOut Global). let r : Result (Vec LeftOut Global) F = Ok v in r) vs ≡ map done es → AreLeftOut named ps (map now es) (map (λ (v : Vec LeftOut Global). v.items) vs)
were_left plan seat now done named [] [] [] [] plans none zip left = tt
were_left plan seat now done named [] [] [] (v ∷ vs) plans none zip left = absurd (cc)
were_left plan seat now done named [] [] (p ∷ ps) vs plans none zip left = absurd (cc)
were_left plan seat now done named [] (e ∷ es) ps vs plans none zip left = absurd zip
were_left plan seat now done named (t ∷ ts) [] ps vs plans none zip left = absurd zip
were_left plan seat now done named (t ∷ ts) (e ∷ es) [] vs plans none zip left = absurd (cc)
were_left plan seat now done named (t ∷ ts) (e ∷ es) (p ∷ ps) [] plans none zip left = absurd (cc)
were_left {T} {E} {F} plan seat now done named (t ∷ ts) (e ∷ es) (p ∷ ps) (v ∷ vs) plans none zip left =
    let first : plan t ≡ named p = ap (λ (l : List PlayedPlan). get_or l 0 (plan t)) plans in
    let told : Result (Vec LeftOut Global) F = Ok v in
    let is : told ≡ done e = ap (λ (l : List (Result (Vec LeftOut Global) F)). get_or l 0 (done e)) left in
    let nothing : (seat t).answers ≡ [] = none_of (seat t).answers (answered (map seat ts)) none in
    let whole : added (seat t) (now e) ≡ (now e).answers = ap (λ (l : List Answer). drop (length l) (now e).answers) nothing in
    let here = subst (λ (r : Result (Vec LeftOut Global) F). IfOk r (λ (w : Vec LeftOut Global). All (IsLeftOut (plan t) (added (seat t) (now e))) w.items)) (sym is) zip.0.1 in
    let of_seat = subst (λ (l : List Answer). All (IsLeftOut (plan t) l) v.items) whole here in (
      subst (λ (q : PlayedPlan). All (IsLeftOut q (now e).answers) v.items) first of_seat,
      were_left plan seat now done named ts es ps vs (ap (λ (l : List PlayedPlan). drop 1 l) plans) (rest_none (length (seat t).answers) (answered (map seat ts)) none) zip.1 (ap (λ (l : List (Result (Vec LeftOut Global) F)). drop 1 l) left),
    )

-- all seats: the first set the scenario up, and the others played its plans
pub were_played : {T E F : Type 0} (plan : T → PlayedPlan) (seat : T → SeatRecord) (now : E → SeatRecord) (done : E → Result (Vec LeftOut Global) F) (s : Scenario) (all rest : List SeatRecord) (before first : SeatRecord) (outputs : List OutputRef) (ts : List T) (es : List E) (seats : List SeatRecord) (vs : List (Vec LeftOut Global)) →
    all ≡ before ∷ rest → AreNumbered 0 all → answered all ≡ 0 →
    (begun : List Begun) × IsSetUp s begun first.answers × (outputs ≡ map start_output begun) × (first.number ≡ before.number) →
    map plan ts ≡ map (plan_on (currencies s.contracts) outputs) s.plans → map seat ts ≡ rest →
    AllZip (λ (t : T) (e : E). HasEnded (plan t) (seat t) (now e) (done e)) ts es → seats ≡ first ∷ map now es →
    map (λ (v : Vec LeftOut Global). let r : Result (Vec LeftOut Global) F = Ok v in r) vs ≡ map done es → WerePlayed s outputs seats (map (λ (v : Vec LeftOut Global). v.items) vs)
were_played {T} {E} plan seat now done s all rest before first outputs ts es seats vs are numbers none up plans sat zip is left =
    let numbered : AreNumbered 0 (before ∷ map seat ts) = subst (AreNumbered 0) (are ∙ ap (λ (l : List SeatRecord). before ∷ l) (sym sat)) numbers in
    let nothing : answered (before ∷ map seat ts) ≡ 0 = sym (ap answered (are ∙ ap (λ (l : List SeatRecord). before ∷ l) (sym sat))) ∙ none in
    let names : map plan ts ≡ map (plan_on (currencies s.contracts) (map start_output up.0)) s.plans = plans ∙ ap (λ (os : List OutputRef). map (plan_on (currencies s.contracts) os) s.plans) up.2 in
    let new = rest_none (length before.answers) (answered (map seat ts)) nothing in
    let went = zip_weaker (λ (t : T) (e : E). HasEnded (plan t) (seat t) (now e) (done e)) (λ (t : T) (e : E). HasPlayed (plan t) (seat t) (now e)) ts es (λ t e h. h.0) zip in
    let both = played_zip plan seat now s up.0 (0 + 1) ts es s.plans names numbered.1 new went in
    record {
      first = first;
      parties = map now es;
      seats_are = is;
      numbered = subst (AreNumbered 0) (sym is) (up.3 ∙ numbered.0, both.0);
      begun = up.0;
      outputs_are = up.2;
      set_up = up.1;
      played = both.1;
      left_out = were_left plan seat now done (plan_on (currencies s.contracts) (map start_output up.0)) ts es s.plans vs names new zip left;
    }

one_more : (m n k : ℕ) → k ≡ m → n ≡ suc k → n ≡ m + 1
one_more m n k same is = omega (arith, same, is)

-- there is a seat for each plan, and the first
pub how_many : (s : Scenario) (outputs : List OutputRef) (seats : List SeatRecord) (left : List (List LeftOut)) → WerePlayed s outputs seats left → length seats ≡ length s.plans + 1
how_many s outputs seats left w = one_more (length s.plans) (length seats) (length w.parties) (AllZip-long (PlaysPlan s w.begun) s.plans w.parties w.played) (ap (λ (l : List SeatRecord). length l) w.seats_are)

-- ---- lines of threads

pub one_more_line : (c : Course) (objects : List Published) (ts : List NamedThread) (os : List OutputRef) (ls : List ThreadLine) (t : NamedThread) (o : OutputRef) (l : ThreadLine) (object : Published) → AreLines c objects ts os ls → slice_get objects t.contract ≡ Some object → IsThreadLine c t.name object o l → AreLines c objects (ts ++ t ∷ []) (os ++ o ∷ []) (ls ++ l ∷ [])
one_more_line c objects [] [] [] t o l object h has is = ((object, has, is), tt)
one_more_line c objects [] [] (y ∷ ls) t o l object h has is = absurd h
one_more_line c objects [] (x ∷ os) ls t o l object h has is = absurd h
one_more_line c objects (a ∷ ts) [] ls t o l object h has is = absurd h
one_more_line c objects (a ∷ ts) (x ∷ os) [] t o l object h has is = absurd h
one_more_line c objects (a ∷ ts) (x ∷ os) (y ∷ ls) t o l object h has is = (h.0, one_more_line c objects ts os ls t o l object h.1 has is)

-- the object at a place
same_object : (objects : List Published) (n : ℕ) (p q : Published) → slice_get objects n ≡ Some p → slice_get objects n ≡ Some q → p ≡ q
same_object objects n p q h k = sym (get_or_from_slice_get objects n p p h) ∙ get_or_from_slice_get objects n q p k

-- of the threads that were started
pub lines_begun : (c : Course) (objects : List Published) (bs : List Begun) (ls : List ThreadLine) → All (Begins objects) bs → AreLines c objects (map (λ (b : Begun). b.thread) bs) (map start_output bs) ls → AllZip (λ (b : Begun) (l : ThreadLine). IsThreadLine c b.thread.name b.object (start_output b) l) bs ls
lines_begun c objects [] [] begin h = tt
lines_begun c objects [] (l ∷ ls) begin h = absurd h
lines_begun c objects (b ∷ bs) [] begin h = absurd h
lines_begun c objects (b ∷ bs) (l ∷ ls) begin h =
    let one = begin 0 b (first_place (length bs)) in (
      subst (λ (p : Published). IsThreadLine c b.thread.name p (start_output b) l) (same_object objects b.thread.contract h.0.0 b.object h.0.1 one.object) h.0.2,
      lines_begun c objects bs ls (λ k d here. begin (suc k) d (next_place k (length bs) here)) h.1,
    )

-- of a scenario that was played
pub lines_played : (s : Scenario) (c : Course) (objects : List Published) (outputs : List OutputRef) (seats : List SeatRecord) (left : List (List LeftOut)) (ls : List ThreadLine) (w : WerePlayed s outputs seats left) → objects ≡ map object_of s.contracts → AreLines c objects s.threads outputs ls → AllZip (λ (b : Begun) (l : ThreadLine). IsThreadLine c b.thread.name b.object (start_output b) l) w.begun ls
lines_played s c objects outputs seats left ls w are h =
    let threads = subst (λ (ts : List NamedThread). AreLines c objects ts outputs ls) (sym w.set_up.threads) h in
    let starts = subst (λ (os : List OutputRef). AreLines c objects (map (λ (b : Begun). b.thread) w.begun) os ls) w.outputs_are threads in
    lines_begun c objects w.begun ls (subst (λ (ps : List Published). All (Begins ps) w.begun) (sym are) w.set_up.begin) starts

-- there is a start output for each thread
pub starts_length : (s : Scenario) (begun : List Begun) (outputs : List OutputRef) (answers : List Answer) → IsSetUp s begun answers → outputs ≡ map start_output begun → length outputs ≡ length s.threads
starts_length s begun outputs answers up are =
    ap (λ (l : List OutputRef). length l) are ∙ (length-map begun start_output ∙ (sym (length-map begun (λ (b : Begun). b.thread)) ∙ ap (λ (l : List NamedThread). length l) up.threads))

pub how_many_starts : (s : Scenario) (outputs : List OutputRef) (seats : List SeatRecord) (left : List (List LeftOut)) → WerePlayed s outputs seats left → length outputs ≡ length s.threads
how_many_starts s outputs seats left w = starts_length s w.begun outputs w.first.answers w.set_up w.outputs_are

-- ---- what is printed

-- the lines of what all seats were told
pub told_of : (s : Scenario) (a : Wanted) (c : Course) (objects : List Published) (outputs : List OutputRef) (seats : List SeatRecord) (left : List (List LeftOut)) (threads : List ThreadLine) (text : List ℕ) (well : Bool) → objects ≡ map object_of s.contracts → c.genesis ≡ map key_output s.genesis → c.first_tick ≡ s.tick → IsLegal c → AreHeard c.entries seats → length c.entries ≡ answered seats → WerePlayed s outputs seats left → AreLines c objects s.threads outputs threads → IsTold a.face s c outputs left threads text → well ≡ well_by a s left c.entries threads → TellsAPlay s a text well
told_of s a c objects outputs seats left threads text well are first at legal heard whole w lines is so =
    let same : c ≡ course (map key_output s.genesis) s.tick c.entries = ap₂ (λ (os : List Output) (t : ℤ). course os t c.entries) first at in
    record {
      entries = c.entries;
      legal = subst IsLegal same legal;
      first = w.first;
      parties = w.parties;
      heard = subst (AreHeard c.entries) w.seats_are heard;
      whole = whole ∙ ap answered w.seats_are;
      begun = w.begun;
      set_up = w.set_up;
      played = w.played;
      left = left;
      left_out = w.left_out;
      threads = threads;
      each = subst (λ (k : Course). AllZip (λ (b : Begun) (l : ThreadLine). IsThreadLine k b.thread.name b.object (start_output b) l) w.begun threads) same (lines_played s c objects outputs seats left threads w are lines);
      lines = subst (λ (k : Course). IsTold a.face s k (map start_output w.begun) left threads text) same (subst (λ (os : List OutputRef). IsTold a.face s c os left threads text) w.outputs_are is);
      well_is = so;
    }

-- of a text that is a scenario
pub was_told : (reading : Reading Scenario) (s : Scenario) (a : Wanted) (text : List ℕ) (well : Bool) → reading ≡ Ok s → TellsAPlay s a text well → IsAnswered reading a text well
was_told reading s a text well is told = subst (λ (r : Reading Scenario). IsAnswered r a text well) (sym is) told
