-- How `Boxed` keeps its value, so that a type may hold a `Boxed` of itself. No reader needs this file: the prover asks for it.
use mathlib.Core.Path.{◌≡◌, refl, ap}
use mathlib.Core.List.{List}
use mathlib.Core.Former.{Former, this, const, pair, via}
use Prim.Native.Nat.{ℕ}
use mir.Syntax.{Ty}
use mir.Val.{Val}
use base.Stored.{gnil}
use base.Fml.{Fml, Lft}
use denote.RattleType.{RattleType}
use denote.RawPtr.{Ptr}
use denote.Memory.{part_of}
use denote.HoleLaws.{Alike}
use denote.HolePlaces.{Recodes, struct_places, laid, one_value}
use denote.Hole.Fix.{over}
use denote.Model.Placed.{view_places}
use denote.Param.Weighed.{Weighed}
use Rattle.std.specs.declared.alloc.Global.{Global}
use Rattle.std.specs.declared.boxed.Box.{Box}
use Rattle.std.specs.contracts.alloc.Global as global
use Rattle.std.specs.contracts.boxed.Box as std_box
use Rattle.std.specs.contracts.impls.GlobalAllocator.TheImpl.{ghosts}
use Rattle.collections.specs.declared.boxed.Boxed.TheInside.{Inside}
use Rattle.collections.specs.declared.boxed.Boxed.TheView.{view, invariant}
use Rattle.collections.specs.contracts.boxed.Boxed as seen
use Rattle.collections.specs.contracts.boxed.Boxed.TheInside as kept

-- what clauses see: the value
abbrev pub the_former : Former {0} → Former {0}
the_former value = value

-- what is seen weighs what the value weighs
abbrev pub the_weighed : {value : Former {0}} → Weighed value → Weighed (the_former value)
the_weighed weighed = weighed

-- what the fields are: a box, which is an address, its allocator and the value
abbrev at_home : {X Y : Type 0} → Box X Global → Y → Box Y Global
at_home home y = record { ptr = home.ptr; alloc = home.alloc; value = y }

-- the same box with its value changed
abbrev moved_in : {X Y : Type 0} → (X → Y) → Box X Global → Box Y Global
moved_in f home = at_home home (f home.value)

-- a box as a former over its value
abbrev box : Former {0}
box = via (pair (const (Ptr × Global)) this) Inside
    (λ X own. ((own.home.ptr, own.home.alloc), own.home.value))
    (λ X v. record { home = record { ptr = v.0.0; alloc = v.0.1; value = v.1 } })
    (λ X own. refl) (λ X v. refl)

-- all that a box's memory depends on: the layout of its value, and what that value owns and lends
abbrev Content : Type 1
Content = List Ty × ((List Val → Fml) × (ℕ → ℕ → Lft → Fml))

-- a box of values of a type
abbrev box_row : RattleType → RattleType
box_row R = std_box.the_row R global.the_row ghosts

module _ (A B : RattleType) (f : A.Denot → B.Denot) where
  -- a box of one value with this content
  abbrev row_of : Content → RattleType
  row_of c = box_row (one_value A c.0 c.1.0 c.1.1 gnil)

  module _ (same : Alike A B f) where
    -- a change of the value that keeps its layout and what it owns keeps the content
    content : (x : A.Denot) → ◌≡◌ {A = Content} (B.mir, (B.own_val (f x), B.shr_at (f x))) (A.mir, (A.own_val x, A.shr_at x))
    content x = λ i. (same.mir_same i, (same.own_same x i, same.shr_same x i))

    -- so it keeps what the box owns and lends
    box_alike : Alike (box_row A) (box_row B) (moved_in f)
    unfolding part_of
    box_alike = record {
      mir_same = refl;
      own_same = λ home. ap (λ c. (row_of c).own_val (at_home home tt)) (content home.value);
      shr_same = λ home. ap (λ c. (row_of c).shr_at (at_home home tt)) (content home.value);
    }

    -- and what the fields own and lend
    fields_alike : Alike (kept.the_row A) (kept.the_row B) (box.map A.Denot B.Denot f)
    fields_alike = struct_places (kept.the_type A) (kept.the_type B) (moved_in f, tt) _ (λ own. refl) refl (laid _ _ _ box_alike, tt)

    -- and what the struct owns and lends, seen as the value
    pub the_places : Alike (seen.the_row A) (seen.the_row B) ((the_former this).map A.Denot B.Denot f)
    the_places = view_places box this view (λ X Y g own. refl) (λ X own. refl)
        A.Denot B.Denot f (seen.the_row A).coded (seen.the_row B).coded
        (invariant A.Denot) (invariant B.Denot) (λ own p q. refl) (λ own p q. refl) (λ own p. tt) (λ own p. tt)
        (over (kept.the_row A)) (over (kept.the_row B)) fields_alike

  -- codes go along, since the value's code is the struct's
  pub the_codes_placed : Recodes A B f → Recodes (seen.the_row A) (seen.the_row B) ((the_former this).map A.Denot B.Denot f)
  the_codes_placed same = same
