-- One more of the data beside the digest that is held at its place, and one more of the outputs beside its datum.
use Rattle.std.proofs.Common.{◌≡◌, ℕ, ◌+◌, ◌<◌, ◌≤◌, Bool, true, false, List, [], ◌∷◌, sym, ◌∙◌, ap, Option, Some, None, drop, take, length, get_or}
use Rattle.std.specs.Prelude.{if◌then◌else◌}
use Rattle.std.specs.List.{slice_get}
use Rattle.std.proofs.lemmas.List.{at_drop_more, at_drop_all}
use Rattle.std.proofs.lemmas.Option.{slice_get-get_or}
use Rattle.eutxo_types.specs.Machine.declared.datum.Datum.{Datum}
use Rattle.eutxo_types.specs.declared.output.Output.{Output}
use Rattle.eutxo_types.specs.declared.tx.Tx.{Tx}
use Rattle.eutxo_types.specs.Digests.{datum_hash}
use Rattle.eutxo_types.specs.Parts.{same_bytes, contract_in, contract_of, contract_count, made_datums, with_datum, contract_at}
use Rattle.eutxo.specs.Rules.{first_unlike}

-- whether they are alike decides which place it is
beside : (hs : List (List ℕ)) (ds : List Datum) (i : ℕ) (h : List ℕ) (d : Datum) → i < length hs → h ≡ get_or hs i h → i < length ds → d ≡ get_or ds i d →
    first_unlike i (drop i hs) (drop i ds) ≡ (if same_bytes (datum_hash d) h then first_unlike (i + 1) (drop (i + 1) hs) (drop (i + 1) ds) else Some i)
beside hs ds i h d l e m f =
    at_drop_more (λ (xs : List (List ℕ)). first_unlike i xs (drop i ds)) hs i h l
    ∙ ap (λ (x : List ℕ). first_unlike i (x ∷ drop (i + 1) hs) (drop i ds)) (sym e)
    ∙ at_drop_more (λ (xs : List Datum). first_unlike i (h ∷ drop (i + 1) hs) xs) ds i d m
    ∙ ap (λ (x : Datum). first_unlike i (h ∷ drop (i + 1) hs) (x ∷ drop (i + 1) ds)) (sym f)

pub next_like : (hs : List (List ℕ)) (ds : List Datum) (i : ℕ) (h : List ℕ) (d : Datum) → i < length hs → h ≡ get_or hs i h → i < length ds → d ≡ get_or ds i d → same_bytes (datum_hash d) h ≡ true →
    first_unlike i (drop i hs) (drop i ds) ≡ first_unlike (i + 1) (drop (i + 1) hs) (drop (i + 1) ds)
next_like hs ds i h d l e m f t = beside hs ds i h d l e m f ∙ ap (λ (b : Bool). if b then first_unlike (i + 1) (drop (i + 1) hs) (drop (i + 1) ds) else Some i) t

pub found_unlike : (hs : List (List ℕ)) (ds : List Datum) (i : ℕ) (h : List ℕ) (d : Datum) → i < length hs → h ≡ get_or hs i h → i < length ds → d ≡ get_or ds i d → same_bytes (datum_hash d) h ≡ false →
    first_unlike i (drop i hs) (drop i ds) ≡ Some i
found_unlike hs ds i h d l e m f t = beside hs ds i h d l e m f ∙ ap (λ (b : Bool). if b then first_unlike (i + 1) (drop (i + 1) hs) (drop (i + 1) ds) else Some i) t

-- a datum more than digests
pub data_more : (hs : List (List ℕ)) (ds : List Datum) (i : ℕ) (d : Datum) → length hs ≤ i → i < length ds → first_unlike i (drop i hs) (drop i ds) ≡ Some i
data_more hs ds i d l m =
    at_drop_all (λ (xs : List (List ℕ)). first_unlike i xs (drop i ds)) hs i l ∙ at_drop_more (λ (xs : List Datum). first_unlike i [] xs) ds i d m

-- a digest more than data
pub digests_more : (hs : List (List ℕ)) (ds : List Datum) (i : ℕ) (h : List ℕ) → i < length hs → length ds ≤ i → first_unlike i (drop i hs) (drop i ds) ≡ Some i
digests_more hs ds i h l m =
    at_drop_all (λ (xs : List Datum). first_unlike i (drop i hs) xs) ds i m ∙ at_drop_more (λ (xs : List (List ℕ)). first_unlike i xs []) hs i h l

-- as many
pub as_many : (hs : List (List ℕ)) (ds : List Datum) (i : ℕ) → length hs ≤ i → length ds ≤ i → first_unlike i (drop i hs) (drop i ds) ≡ None
as_many hs ds i l m = at_drop_all (λ (xs : List (List ℕ)). first_unlike i xs (drop i ds)) hs i l ∙ at_drop_all (λ (xs : List Datum). first_unlike i [] xs) ds i m

-- the contract in the output at a place
pub made_here : (tx : Tx) (i : ℕ) (o : Output) → i < length tx.outputs → o ≡ get_or tx.outputs i o →
    with_datum (contract_in o.lock) (slice_get (made_datums tx) (contract_count (take i tx.outputs))) ≡ contract_at tx i
made_here tx i o l e =
    ap (λ (x : Option Output). with_datum (contract_of x) (slice_get (made_datums tx) (contract_count (take i tx.outputs))))
    (ap (λ (x : Output). Some x) e ∙ sym (slice_get-get_or tx.outputs i o l))
