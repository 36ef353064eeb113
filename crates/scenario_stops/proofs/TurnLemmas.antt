-- Lists whose items are read one by one, each beside those before it.
use Rattle.std.proofs.Common.{◌≡◌, ℕ, List, [], ◌∷◌, ◌++◌, Option, Some, None, Ok, Err, refl, sym, ap, ◌∙◌}
use Rattle.serde_json.specs.Data.{Data, Items, no_items, item}
use Rattle.serde_json.specs.Find.{as_array}
use Rattle.contract.specs.Collections.Answers.{◌>>=◌}
use Rattle.plans.specs.declared.plan.Plan.{Plan}
use Rattle.plans.specs.declared.scenario.NamedContract.{NamedContract}
use Rattle.plans.specs.declared.scenario.NamedThread.{NamedThread}
use Rattle.json_read_names.specs.Parts.{Reading, needed}
use Rattle.json_read_scenarios.specs.Names.{one_by_one, list_in_turn}
use Rattle.json_read_scenarios.specs.ReadsPlan.{plan}
use Rattle.json_read_scenarios.specs.ReadsScenario.{contract, new_thread}
use Rattle.json_forms.specs.declared.sort.NamedSort.{NamedSort}
use Rattle.json_forms.specs.declared.sort.NamedSort.TheVariants as named
use Rattle.json_forms.specs.declared.sort.Sort.{Sort}
use Rattle.json_forms.specs.Lacking.{first_or}
use Rattle.json_stops.specs.Stops.{fault_of}
use Rattle.scenario_stops.specs.There.{There, with_contracts, with_threads, with_plans, one_more, all_in_turn, in_turn, or_same, after}
use Rattle.scenario_stops.specs.Faults.{fault_in}
use Rattle.scenario_stops.specs.StopsSupport.{items_fault, list_fault, after_items}

module _ (kind : NamedSort) (inner : Sort) (same : (t : There) (d : Data) → fault_of (one_more kind t d) ≡ fault_in inner t d) (goes : (t : There) (d : Data) → or_same t (one_more kind t d) ≡ after inner t d) where
  next_fault : (t : There) (r : Reading There) (ds : Items) → ((u : There) → fault_of (all_in_turn kind u ds) ≡ items_fault u inner ds) → fault_of (r >>= λ u. all_in_turn kind u ds) ≡ first_or (fault_of r) (items_fault (or_same t r) inner ds)
  next_fault t (Ok u) ds rest = rest u
  next_fault t (Err f) ds rest = refl

  turn_items : (t : There) (ds : Items) → fault_of (all_in_turn kind t ds) ≡ items_fault t inner ds
  turn_items t no_items = refl
  turn_items t (item d ds) =
      next_fault t (one_more kind t d) ds (λ u. turn_items u ds)
      ∙ ap (λ x. first_or x (items_fault (or_same t (one_more kind t d)) inner ds)) (same t d)
      ∙ ap (λ u. first_or (fault_in inner t d) (items_fault u inner ds)) (goes t d)

  -- the fault of such a list
  pub turn_list : (t : There) (o : Option Items) → fault_of (needed o >>= all_in_turn kind t) ≡ list_fault t inner o
  turn_list t None = refl
  turn_list t (Some ds) = turn_items t ds

  next_end : (t u : There) (r : Reading There) (ds : Items) → ((w : There) → all_in_turn kind w ds ≡ Ok u → after_items w inner ds ≡ u) → (r >>= λ w. all_in_turn kind w ds) ≡ Ok u → after_items (or_same t r) inner ds ≡ u
  next_end t u (Ok w) ds rest e = rest w e
  next_end t u (Err f) ds rest e = absurd (cc)

  turn_end : (t u : There) (ds : Items) → all_in_turn kind t ds ≡ Ok u → after_items t inner ds ≡ u
  turn_end t u no_items e = cc
  turn_end t u (item d ds) e = ap (λ w. after_items w inner ds) (sym (goes t d)) ∙ next_end t u (one_more kind t d) ds (λ w. turn_end w u ds) e

  ends_by : (t : There) (ds : Items) (r : Reading There) → all_in_turn kind t ds ≡ r → fault_of r ≡ None → after_items t inner ds ≡ or_same t r
  ends_by t ds (Ok u) e fine = turn_end t u ds e
  ends_by t ds (Err f) e fine = absurd (cc)

  -- what is there behind one that is read
  pub turn_ends : (t : There) (ds : Items) → fault_of (all_in_turn kind t ds) ≡ None → after_items t inner ds ≡ or_same t (all_in_turn kind t ds)
  turn_ends t ds fine = ends_by t ds (all_in_turn kind t ds) refl fine

-- ---- beside what is there, as beside those before it alone

after_contract : (t : There) (r : Reading NamedContract) (ds : Items)
    → ((u : There) → all_in_turn named.Contract u ds ≡ (one_by_one contract u.contracts ds >>= λ xs. Ok (with_contracts u xs)))
    → (r >>= (λ c. Ok (with_contracts t (t.contracts ++ c ∷ []))) >>= λ u. all_in_turn named.Contract u ds) ≡ (r >>= (λ c. one_by_one contract (t.contracts ++ c ∷ []) ds) >>= λ xs. Ok (with_contracts t xs))
after_contract t (Ok c) ds rest = rest (with_contracts t (t.contracts ++ c ∷ []))
after_contract t (Err f) ds rest = refl

contracts_are : (t : There) (ds : Items) → all_in_turn named.Contract t ds ≡ (one_by_one contract t.contracts ds >>= λ xs. Ok (with_contracts t xs))
contracts_are t no_items = refl
contracts_are t (item d ds) = after_contract t (contract t.contracts d) ds (λ u. contracts_are u ds)

after_thread : (t : There) (r : Reading NamedThread) (ds : Items)
    → ((u : There) → all_in_turn named.Thread u ds ≡ (one_by_one (new_thread u.contracts) u.threads ds >>= λ xs. Ok (with_threads u xs)))
    → (r >>= (λ n. Ok (with_threads t (t.threads ++ n ∷ []))) >>= λ u. all_in_turn named.Thread u ds) ≡ (r >>= (λ n. one_by_one (new_thread t.contracts) (t.threads ++ n ∷ []) ds) >>= λ xs. Ok (with_threads t xs))
after_thread t (Ok n) ds rest = rest (with_threads t (t.threads ++ n ∷ []))
after_thread t (Err f) ds rest = refl

threads_are : (t : There) (ds : Items) → all_in_turn named.Thread t ds ≡ (one_by_one (new_thread t.contracts) t.threads ds >>= λ xs. Ok (with_threads t xs))
threads_are t no_items = refl
threads_are t (item d ds) = after_thread t (new_thread t.contracts t.threads d) ds (λ u. threads_are u ds)

after_plan : (t : There) (r : Reading (Plan ℕ ℕ)) (ds : Items)
    → ((u : There) → all_in_turn named.Plan u ds ≡ (one_by_one (plan u.contracts u.threads) u.plans ds >>= λ xs. Ok (with_plans u xs)))
    → (r >>= (λ p. Ok (with_plans t (t.plans ++ p ∷ []))) >>= λ u. all_in_turn named.Plan u ds) ≡ (r >>= (λ p. one_by_one (plan t.contracts t.threads) (t.plans ++ p ∷ []) ds) >>= λ xs. Ok (with_plans t xs))
after_plan t (Ok p) ds rest = rest (with_plans t (t.plans ++ p ∷ []))
after_plan t (Err f) ds rest = refl

plans_are : (t : There) (ds : Items) → all_in_turn named.Plan t ds ≡ (one_by_one (plan t.contracts t.threads) t.plans ds >>= λ xs. Ok (with_plans t xs))
plans_are t no_items = refl
plans_are t (item d ds) = after_plan t (plan t.contracts t.threads t.plans d) ds (λ u. plans_are u ds)

-- of the lists themselves, where none is there yet
pub contracts_in_turn : (t : There) → t.contracts ≡ [] → (o : Option Items) → (needed o >>= all_in_turn named.Contract t) ≡ (needed o >>= one_by_one contract [] >>= λ xs. Ok (with_contracts t xs))
contracts_in_turn t none None = refl
contracts_in_turn t none (Some ds) = contracts_are t ds ∙ ap (λ before. one_by_one contract before ds >>= λ xs. Ok (with_contracts t xs)) none

pub threads_in_turn : (t : There) → t.threads ≡ [] → (o : Option Items) → (needed o >>= all_in_turn named.Thread t) ≡ (needed o >>= one_by_one (new_thread t.contracts) [] >>= λ xs. Ok (with_threads t xs))
threads_in_turn t none None = refl
threads_in_turn t none (Some ds) = threads_are t ds ∙ ap (λ before. one_by_one (new_thread t.contracts) before ds >>= λ xs. Ok (with_threads t xs)) none

pub plans_in_turn : (t : There) → t.plans ≡ [] → (o : Option Items) → (needed o >>= all_in_turn named.Plan t) ≡ (needed o >>= one_by_one (plan t.contracts t.threads) [] >>= λ xs. Ok (with_plans t xs))
plans_in_turn t none None = refl
plans_in_turn t none (Some ds) = plans_are t ds ∙ ap (λ before. one_by_one (plan t.contracts t.threads) before ds >>= λ xs. Ok (with_plans t xs)) none
