-- No reader needs this file: what a seat knows before the hub is closed, the invariant behind the clauses.
use Rattle.std.specs.Prelude.{◌≡◌, ◌⊎◌, List, [], ◌∷◌}
use Rattle.ledger.specs.declared.call.Entry.{Entry}
use Rattle.hub.specs.Seats.{SeatRecord, entries_told, by_seat, Stand, Rise}

-- the second list has some of the first, in order
abbrev pub SomeOf : List Entry → List Entry → Type 0
SomeOf [] [] = Unit {0}
SomeOf [] (x ∷ xs) = ⊥
SomeOf (y ∷ ys) [] = Unit {0}
SomeOf (y ∷ ys) (x ∷ xs) = ((x ≡ y) × SomeOf ys xs) ⊎ SomeOf ys (x ∷ xs)

-- the seat's answers are some of its entries, in order, and stand at their places, which rise
abbrev pub Fits : List Entry → SeatRecord → Type 0
Fits entries s = SomeOf (by_seat s.number entries) (entries_told s) × Stand entries s.number s.answers × Rise 0 s.answers

abbrev pub AllFit : List Entry → List SeatRecord → Type 0
AllFit entries [] = Unit {0}
AllFit entries (s ∷ ss) = Fits entries s × AllFit entries ss
