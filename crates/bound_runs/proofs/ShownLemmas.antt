-- One range or loss more.
use Rattle.std.proofs.Common.{◌≡◌, List, [], ◌∷◌, ◌++◌, map, sym, ap, ◌∙◌, subst}
use Rattle.std.specs.Prelude.{All}
use Rattle.std.specs.List.{AllByRecursion}
use Rattle.std.proofs.lemmas.List.{map-append}
use Rattle.std.proofs.lemmas.List.Elements.{All-push}
use Rattle.contract.specs.Tree.{ContractTree}
use Rattle.contract.specs.States.States.{StateMaps}
use Rattle.analysis_spec.specs.declared.paid.PaidRange.{PaidRange}
use Rattle.losses.specs.declared.loss.Loss.{Loss}
use Rattle.bound_runs.specs.declared.shown.ShownRange.{ShownRange}
use Rattle.bound_runs.specs.declared.shown.ShownLoss.{ShownLoss}
use Rattle.bound_runs.specs.Told.{IsReached, IsLost, AreReached, AreLost, RangeHasNumbers, LossHasNumbers, ranges_of, losses_of}

all_more : {X : Type 0} (P : X → Type 0) (xs : List X) (x : X) → AllByRecursion P xs → P x → AllByRecursion P (xs ++ x ∷ [])
all_more P [] x h k = (k, tt)
all_more P (y ∷ ys) x h k = (h.0, all_more P ys x h.1 k)

mapped_more : {X Y : Type 0} (f : X → Y) (xs : List X) (x : X) (ys : List Y) (y : Y) → map f xs ≡ ys → f x ≡ y → map f (xs ++ x ∷ []) ≡ ys ++ y ∷ []
mapped_more f xs x ys y e h = map-append f xs (x ∷ []) ∙ ap (λ zs. zs ++ f x ∷ []) e ∙ ap (λ z. ys ++ z ∷ []) h

pub record RangesSo (s : StateMaps) (c : ContractTree) (now : List ShownRange) (rs : List PaidRange) : Type 0 where
  pub ranges : ranges_of now ≡ rs
  pub reached : AreReached s c now
  pub numbers : All RangeHasNumbers now

pub range_step : (s : StateMaps) (c : ContractTree) (before now : List ShownRange) (one : ShownRange) (rs : List PaidRange) (r : PaidRange) → now ≡ before ++ one ∷ []
    → ranges_of before ≡ rs → AreReached s c before → All RangeHasNumbers before → one.range ≡ r → IsReached s c one → RangeHasNumbers one → RangesSo s c now (rs ++ r ∷ [])
range_step s c before now one rs r e a b n h k m =
    subst (λ xs. RangesSo s c xs (rs ++ r ∷ [])) (sym e) (record {
      ranges = mapped_more (λ (x : ShownRange). x.range) before one rs r a h;
      reached = all_more (IsReached s c) before one b k;
      numbers = All-push RangeHasNumbers before one n m;
    })

pub record LossesSo (s : StateMaps) (c : ContractTree) (now : List ShownLoss) (ls : List Loss) : Type 0 where
  pub losses : losses_of now ≡ ls
  pub lost : AreLost s c now
  pub numbers : All LossHasNumbers now

pub loss_step : (s : StateMaps) (c : ContractTree) (before now : List ShownLoss) (one : ShownLoss) (ls : List Loss) (l : Loss) → now ≡ before ++ one ∷ []
    → losses_of before ≡ ls → AreLost s c before → All LossHasNumbers before → one.loss ≡ l → IsLost s c one → LossHasNumbers one → LossesSo s c now (ls ++ l ∷ [])
loss_step s c before now one ls l e a b n h k m =
    subst (λ xs. LossesSo s c xs (ls ++ l ∷ [])) (sym e) (record {
      losses = mapped_more (λ (x : ShownLoss). x.loss) before one ls l a h;
      lost = all_more (IsLost s c) before one b k;
      numbers = All-push LossHasNumbers before one n m;
    })
