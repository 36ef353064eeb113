-- What is shown in each of several cases.
use Rattle.std.proofs.Common.{◌≡◌, ℕ, ◌<◌, ℤ, pos, negsuc, ◌+ℤ◌, ◌-ℤ◌, ◌*ℤ◌, ◌≤ℤ◌, List, [], ◌∷◌, ◌++◌, ◌⊎◌, inl, inr, length, get_or, Option, Some, None, sym, ap, ◌∙◌, subst, arith}
use Rattle.std.proofs.lemmas.Int.{ints}
use Rattle.std.specs.Option.{IfSome}
use Rattle.linear.specs.declared.bounds.Bounds.{Bounds}
use Rattle.symbols.specs.declared.branched.Branched.{Branched}
use Rattle.linear.specs.Linear.{Linear, Valuation, symbol, number, number_at}
use Rattle.linear.specs.Combined.{StandsFor, AreBelow, combined_at}
use Rattle.linear.specs.Bounded.{IsShown}
use Rattle.symbols.specs.Symbols.{Symbols, Operation, Branch, AreBranches}
use Rattle.symbols.specs.Held.{symbols_of, branch_of, branches_of}
use Rattle.symbols.specs.Branches.{IsTaken}
use Rattle.symbols.specs.Cases.{IsNatural, IsNaturalWhere, IsSame, IsReplaced, AreOpposite, KnowsFact}
use Rattle.linear.proofs.LinearLaws.{symbol_at, natural_both}
use Rattle.symbols.proofs.BranchLemmas.{branch_holds}

no_more : (a b c d : ℤ) → b ≡ c → (pos 1 *ℤ a) +ℤ (d *ℤ (b -ℤ c)) ≡ a
no_more a b c d h = ap (λ z. (pos 1 *ℤ a) +ℤ (d *ℤ z)) (none b c h) ∙ times_none a d
  where
    none : (b c : ℤ) → b ≡ c → b -ℤ c ≡ pos 0
    none b c h = omega (arith, ints)

    times_none : (a d : ℤ) → (pos 1 *ℤ a) +ℤ (d *ℤ pos 0) ≡ a
    times_none a d = omega (arith, ints)

pub replaced_by : (l n s d e : Linear) (x : ℕ) (c : ℤ) → s ≡ symbol x → StandsFor (λ r. number_at r n -ℤ number_at r s) (AreBelow n s) d → StandsFor (combined_at (pos 1) l c d) (AreBelow l d) e → IsReplaced l x n e
replaced_by l n s d e x c is less more r h =
    let q : number_at r s ≡ r x = ap (number_at r) is ∙ symbol_at r x in
    more.number r ∙ ap (λ z. (pos 1 *ℤ number_at r l) +ℤ (c *ℤ z)) (less.number r) ∙ no_more (number_at r l) (number_at r n) (number_at r s) c (sym (q ∙ h))

pub same_itself : (k : Symbols) (l e : Linear) → e ≡ l → IsSame k l e
same_itself k l e is r v = ap (number_at r) is

pub same_then : (k : Symbols) (l e d : Linear) → IsSame k l e → IsSame k e d → IsSame k l d
same_then k l e d h g r v = g r v ∙ h r v

pub settled_by : (k : Symbols) (bs : List Branched) (i : ℕ) (b : Branched) (l e : Linear) → branches_of bs ≡ k.branches → i < length bs → b ≡ get_or bs i b → IsTaken (branch_of b) k b.number → IsReplaced l b.symbol b.number e → IsSame k l e
settled_by k bs i b l e is at here taken replaced r v =
    let holds : AreBranches r (branch_of (get_or bs i b) ∷ []) = branch_holds bs i b r at (subst (AreBranches r) (sym is) v.branches) in
    let own : AreBranches r (branch_of b ∷ []) = subst (λ (x : Branched). AreBranches r (branch_of x ∷ [])) (sym here) holds in
    replaced r (own.0 (taken.facts r v) (taken.apart r v))

pub natural_by : (k : Symbols) (l e : Linear) → IsSame k l e → IsShown k.ranges k.facts e → IsNatural k l
natural_by k l e h s r v = subst (λ z. pos 0 ≤ℤ z) (h r v) (s r v.ranges v.facts)

natural_or_below : (a b : ℤ) → b ≡ negsuc 0 -ℤ a → (pos 0 ≤ℤ a) ⊎ (pos 0 ≤ℤ b)
natural_or_below (pos n) b h = inl (omega (arith, ints))
natural_or_below (negsuc n) b h = inr (omega (arith, ints))

pub opposite_by : (fact one e : Linear) → one ≡ number (negsuc 0) → StandsFor (λ r. number_at r one -ℤ number_at r fact) (AreBelow one fact) e → AreOpposite fact e
opposite_by fact one e is s r = s.number r ∙ ap (λ (o : Linear). number_at r o -ℤ number_at r fact) is ∙ less (number_at r fact)
  where
    less : (a : ℤ) → (negsuc 0 +ℤ pos 0) -ℤ a ≡ negsuc 0 -ℤ a
    less a = omega (arith, ints)

pub opposite_if : (fact one : Linear) (o : Option Linear) → one ≡ number (negsuc 0) → IfSome o (StandsFor (λ r. number_at r one -ℤ number_at r fact) (AreBelow one fact)) → IfSome o (AreOpposite fact)
opposite_if fact one None is h = tt
opposite_if fact one (Some e) is h = opposite_by fact one e is h

pub natural_either : (k : Symbols) (fact opposite l : Linear) → AreOpposite fact opposite → IsNaturalWhere k fact l → IsNaturalWhere k opposite l → IsNatural k l
natural_either k fact opposite l h first second r v = by_side (natural_or_below (number_at r fact) (number_at r opposite) (h r))
  where
    by_side : (pos 0 ≤ℤ number_at r fact) ⊎ (pos 0 ≤ℤ number_at r opposite) → pos 0 ≤ℤ number_at r l
    by_side (inl g) = first r v g
    by_side (inr g) = second r v g

pub natural_there : (k m : Symbols) (fact l : Linear) → KnowsFact k fact m → IsNatural m l → IsNaturalWhere k fact l
natural_there k m fact l h g r v f = g r (h r v f)

pub fact_held : (bs : List Bounds) (fs ds : List Linear) (os : List Operation) (cs : List Branch) (f : Linear) → KnowsFact (symbols_of bs fs ds os cs) f (symbols_of bs (fs ++ f ∷ []) ds os cs)
fact_held bs fs ds os cs f r v h = record { ranges = v.ranges; facts = natural_both r fs (f ∷ []) v.facts (h, tt); apart = v.apart; operations = v.operations; branches = v.branches }
