-- Holdings that were sorted.
use Rattle.std.proofs.Common.{◌≡◌, ℕ, suc, ◌<◌, ◌≤◌, false, List, [], ◌∷◌, length, get_or, arith}
use Rattle.std.specs.List.Sorted.{IsSortedBy}
use Rattle.std.specs.Ordering.{is_lt}
use Rattle.std.proofs.lemmas.List.Sorted.{ranks_by, sorted_far}
use Rattle.play_holdings.specs.declared.holding.Holding.{Holding}
use Rattle.play_holdings.specs.Holders.{holding_cmp}
use Rattle.play_holdings.specs.SumsSupport.{NoneBefore, NeverFall}
use Rattle.play_holdings.proofs.HolderLemmas.{holding_total}

none_before : (x : Holding) (hs : List Holding) → ((j : ℕ) (d : Holding) → j < length hs → is_lt (holding_cmp (get_or hs j d) x) ≡ false) → NoneBefore x hs
none_before x [] h = tt
none_before x (y ∷ ys) h = (h 0 y (omega arith), none_before x ys (λ j d l. h (suc j) d (omega arith)))

rising : (hs : List Holding) → ((i j : ℕ) (d : Holding) → i ≤ j → j < length hs → is_lt (holding_cmp (get_or hs j d) (get_or hs i d)) ≡ false) → NeverFall hs
rising [] h = tt
rising (x ∷ xs) h = (none_before x xs (λ j d l. h 0 (suc j) d (omega arith) (omega arith)), rising xs (λ i j d l m. h (suc i) (suc j) d (omega arith) (omega arith)))

pub never_fall : (hs : List Holding) → IsSortedBy (λ x y. is_lt (holding_cmp x y)) hs → NeverFall hs
never_fall hs s = rising hs (λ i j d l m. sorted_far (λ (x y : Holding). is_lt (holding_cmp x y)) (ranks_by holding_total (λ (h : Holding). h)) hs s i j d l m)
