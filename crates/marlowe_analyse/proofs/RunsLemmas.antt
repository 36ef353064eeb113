-- What is told of all alarms.
use Rattle.std.proofs.Common.{◌≡◌, ℕ, zero, suc, ◌+◌, ◌<◌, ◌≤◌, List, [], ◌∷◌, ◌++◌, map, length, false, refl, sym, ap, ◌∙◌, subst, Option, IfSome, ◌⊎◌, inl, inr, arith}
use Rattle.std.specs.Prelude.{All, Contains, is_some}
use Rattle.std.specs.List.{AllByRecursion}
use Rattle.std.specs.List.Sorted.{IsSortedByKey}
use Rattle.std.specs.declared.cmp.Ordering.TheVariants.{Less}
use Rattle.std.specs.Ordering.{is_lt}
use Rattle.std.proofs.Math.ListN.{get_or}
use Rattle.std.proofs.lemmas.List.{get_or_default, map-append}
use Rattle.std.proofs.lemmas.List.Elements.{All-nil, All-push, All-get_or, Contains-push, Contains-append_left}
use Rattle.contract.specs.Tree.{ContractTree}
use Rattle.contract.specs.declared.transaction.Transaction.{Transaction}
use Rattle.contract.specs.States.States.{StateMaps}
use Rattle.analysis_spec.specs.declared.alarm.Alarm.{Alarm}
use Rattle.analysis_walk.proofs.ListLaws.{all_append}
use Rattle.analysis_spec.specs.PlacedRuns.{EndsAt}
use Rattle.marlowe_analyse.specs.declared.order.Standing.{Standing}
use Rattle.analysis_lines.specs.declared.told.ToldAlarm.{ToldAlarm}
use Rattle.marlowe_analyse.specs.Order.{alarm_key, key_cmp, IsBefore, AreInOrder}
use Rattle.marlowe_analyse.specs.OrderSupport.{HasKey, StandForAll, IsNewAt, IsOldAt, IsUpTo}
use Rattle.marlowe_analyse.specs.Told.{Alarms, seen_alarm, without_runs}
use Rattle.analysis_lines.specs.ToldLines.{line_at, line_of, LineFits}
use Rattle.marlowe_analyse.specs.OnceSupport.{seen_told}
use Rattle.marlowe_analyse.specs.RunsSupport.{TellsOf, TellsAll}
use Rattle.marlowe_analyse.proofs.KeyLemmas.{same_alarm_by_key}
use Rattle.marlowe_analyse.proofs.OrderLemmas.{before, ordered_more, up_to_more, ties}

-- ---- one alarm more

-- the item at an index that there is
pub some_at : {X : Type 0} (xs : List X) (n : ℕ) → n < length xs → (x : X) × (x ≡ get_or xs n x)
some_at [] n l = absurd (omega (arith, l))
some_at (y ∷ ys) n l = let x = get_or (y ∷ ys) n y in (x, get_or_default (y ∷ ys) n y x l)

below : (i n : ℕ) → i < n + 1 → (i < n) ⊎ (n ≡ i)
below i n l = grind arith

same_index : (i n : ℕ) → i + 1 ≡ n + 1 → n ≡ i
same_index i n e = omega (arith, e)

module _ (s : StateMaps) (c : ContractTree) (ss : List Standing) where
  pub none_told : TellsOf s c ss 0 []
  none_told = record {
    all = [];
    so = record { lines = refl; seen = refl; ends = tt; fit = All-nil LineFits };
    has = λ i t l e. absurd (omega (arith, l));
    ordered = tt;
    up_to = λ i t e f. absurd (omega (arith, e));
    none = λ e. refl;
  }

  -- the one at an index is one
  one_there : (n i : ℕ) (t u : Standing) → n < length ss → t ≡ get_or ss n t → n ≡ i → u ≡ get_or ss i u → t ≡ u
  one_there n i t u l e q f = e ∙ (get_or_default ss n t u l ∙ (ap (λ j. get_or ss j u) q ∙ sym f))

  module _ (n : ℕ) (told : List ToldAlarm) (t : Standing) (few : n < length ss) (is : t ≡ get_or ss n t) (keys : All HasKey ss) (h : TellsOf s c ss n told) where
    key_there : HasKey t
    key_there = subst HasKey (sym is) (All-get_or HasKey ss n t few keys)

    -- the one before it
    abbrev earlier : (i : ℕ) → i + 1 ≡ n → (p : Standing) × (p ≡ get_or ss i p)
    earlier i e = let p = get_or ss i t in (p, get_or_default ss i t p (omega (arith, few, e)))

    pub told_one_more : (x : ToldAlarm) → IsNewAt ss n → line_of x ≡ line_at c (t.alarm.now, x.run) → x.alarm ≡ t.alarm.now → IfSome x.run (EndsAt t.alarm.now.kind t.alarm.now.place s c) → LineFits x → TellsOf s c ss (n + 1) (told ++ x ∷ [])
    told_one_more x new line own ends fits =
        let b = t.alarm.now in
        let one : Alarm × Option (List Transaction) = (b, x.run) in
        let more : Alarms = h.all ++ one ∷ [] in
        let gone : without_runs more ≡ without_runs h.all ++ b ∷ [] = map-append (λ (a : Alarm × Option (List Transaction)). a.0) h.all (one ∷ []) in
        record {
          all = more;
          so = record {
            lines = map-append line_of told (x ∷ []) ∙ (ap (λ ls. ls ++ line_of x ∷ []) h.so.lines ∙ (ap (λ z. map (line_at c) h.all ++ z ∷ []) line ∙ sym (map-append (line_at c) h.all (one ∷ []))));
            seen = map-append seen_told told (x ∷ []) ∙ (ap (λ zs. zs ++ seen_told x ∷ []) h.so.seen ∙ (ap (λ (a : Alarm). map seen_alarm h.all ++ (a, is_some x.run) ∷ []) own ∙ sym (map-append seen_alarm h.all (one ∷ []))));
            ends = all_append (λ (a : Alarm × Option (List Transaction)). IfSome a.1 (EndsAt a.0.kind a.0.place s c)) h.all (one ∷ []) h.so.ends (ends, tt);
            fit = All-push LineFits told x h.so.fit fits;
          };
          has = λ i u l e. subst (λ (found : List Alarm). Contains found u.alarm.now) (sym gone) (by_index i u (below i n l) e);
          ordered = subst AreInOrder (sym gone) (ordered_more (without_runs h.all) b h.ordered (all_before n refl));
          up_to = λ i u e f.
              subst (λ (v : Standing). AllByRecursion (IsUpTo v.key.items) (without_runs more)) (one_there n i t u few is (same_index i n e) f)
              (subst (λ k. AllByRecursion (IsUpTo k) (without_runs more)) (sym key_there)
              (subst (AllByRecursion (IsUpTo (alarm_key b))) (sym gone) (up_to_more (without_runs h.all) b (all_before n refl))));
          none = λ e. absurd (omega (arith, e));
        }
      where
        by_index : (i : ℕ) (u : Standing) → (i < n) ⊎ (n ≡ i) → u ≡ get_or ss i u → Contains (without_runs h.all ++ t.alarm.now ∷ []) u.alarm.now
        by_index i u (inl l) e = Contains-append_left (without_runs h.all) (t.alarm.now ∷ []) u.alarm.now (h.has i u l e)
        by_index i u (inr q) e = subst (λ (v : Standing). Contains (without_runs h.all ++ t.alarm.now ∷ []) v.alarm.now) (one_there n i t u few is q e) (Contains-push (without_runs h.all) t.alarm.now)

        all_before : (m : ℕ) → m ≡ n → AllByRecursion (λ a. IsBefore a t.alarm.now) (without_runs h.all)
        all_before zero e = subst (λ (rest : Alarms). AllByRecursion (λ a. IsBefore a t.alarm.now) (without_runs rest)) (sym (h.none (sym e))) tt
        all_before (suc i) e =
            let f : i + 1 ≡ n = omega (arith, e) in
            let p = earlier i f in
            before p.0.key.items t.alarm.now (without_runs h.all) (subst (λ k. key_cmp p.0.key.items k ≡ Less) key_there (new i p.0 t f p.1 is)) (h.up_to i p.0 f p.1)

    pub told_again : IsSortedByKey (λ (z : Standing). z.key.items) key_cmp ss → IsOldAt ss n → TellsOf s c ss (n + 1) told
    told_again sorted old = by n refl old.0
      where
        by : (m : ℕ) → m ≡ n → 0 < n → TellsOf s c ss (n + 1) told
        by zero e l = absurd (omega (arith, e, l))
        by (suc i) e l =
            let f : i + 1 ≡ n = omega (arith, e) in
            let p = earlier i f in
            let q = p.0 in
            let rises = sorted i t (omega arith) (omega (arith, few, f)) in
            let there : get_or ss (i + 1) t ≡ t = ap (λ j. get_or ss j t) f ∙ sym is in
            let here : get_or ss i t ≡ q = refl in
            let same : q.key.items ≡ t.key.items =
            ties q.key.items t.key.items (subst (λ (z : Standing). is_lt (key_cmp z.key.items q.key.items) ≡ false) there rises) (old.1 i q t f p.1 is) in
            let key_here : HasKey q = subst HasKey (sym p.1) (All-get_or HasKey ss i q (omega (arith, few, f)) keys) in
            let alarm : q.alarm.now ≡ t.alarm.now = same_alarm_by_key q.alarm.now t.alarm.now (sym key_here ∙ (same ∙ key_there)) in
            record {
              all = h.all;
              so = h.so;
              has = λ j u k g. by_index j u q i alarm f p.1 (below j n k) g;
              ordered = h.ordered;
              up_to = λ j u g k. subst (λ (v : Standing). AllByRecursion (IsUpTo v.key.items) (without_runs h.all)) (one_there n j t u few is (same_index j n g) k)
                  (subst (λ y. AllByRecursion (IsUpTo y) (without_runs h.all)) same (h.up_to i q f p.1));
              none = λ g. absurd (omega (arith, g));
            }
          where
            by_index : (j : ℕ) (u q : Standing) (i : ℕ) → q.alarm.now ≡ t.alarm.now → i + 1 ≡ n → q ≡ get_or ss i q → (j < n) ⊎ (n ≡ j) → u ≡ get_or ss j u → Contains (without_runs h.all) u.alarm.now
            by_index j u q i a f r (inl k) g = h.has j u k g
            by_index j u q i a f r (inr k) g =
                subst (λ (v : Standing). Contains (without_runs h.all) v.alarm.now) (one_there n j t u few is k g)
                (subst (Contains (without_runs h.all)) a (h.has i q (omega (arith, f)) r))

  pub all_told : (alarms : List Alarm) (told : List ToldAlarm) (n : ℕ) → length ss ≤ n → StandForAll alarms ss → TellsOf s c ss n told → TellsAll s c alarms told
  all_told alarms told n l stand h = record {
    all = h.all;
    so = h.so;
    has = λ a p. let t = stand a p in subst (Contains (without_runs h.all)) t.1 (h.has t.2.0 t.0 (omega (arith, l, t.2.1)) (sym t.2.2));
    ordered = h.ordered;
  }
