-- Entries: their keys, and their numbers.
use Rattle.std.specs.Prelude.{◌≡◌, ℤ, true, not, is_some, List, [], ◌∷◌, map, filter}
use Rattle.std.specs.List.{AllByRecursion}
use Rattle.std.specs.FinMap.{entries}
use Rattle.std.specs.FinMap.Entries.{find}
use Rattle.contract.specs.Names.declared.account.Account.{Account}
use Rattle.contract.specs.Names.Orders.{account_cmp}
use Rattle.contract.specs.States.States.{StateMaps}
use Rattle.semantics.specs.Evaluation.Numbers.{fits}
use Rattle.linear.specs.Linear.{Linear, number}
use Rattle.symbols.specs.Symbols.{Symbols}
use Rattle.analysis_values.specs.Known.{Known}

abbrev pub keys_of : {K : Type 0} → List (K × Linear) → List K
keys_of {K} es = let key : K × Linear → K = λ e. e.0 in map key es

-- the accounts of entries, but for those that have one of these others
abbrev pub other_keys : List (Account × Linear) → List (Account × Linear) → List Account
other_keys others es = filter (λ a. not (is_some (find account_cmp a others))) (keys_of es)

-- each number as an expression
abbrev pub in_numbers : {K : Type 0} → List (K × ℤ) → List (K × Linear)
in_numbers [] = []
in_numbers (e ∷ es) = (e.0, number e.1) ∷ in_numbers es

-- each number fits 128 bits
abbrev pub EntriesFit : {K : Type 0} → List (K × ℤ) → Type 0
EntriesFit = AllByRecursion (λ e. fits e.1 ≡ true)

-- the entries of a state, which nobody was paid of yet, in an interval of two expressions; no symbol is known to be a time
abbrev pub known_of_state : StateMaps → Symbols → Linear → Linear → Known
known_of_state s k start end = record {
  symbols = k;
  view = record {
    accounts = in_numbers (entries s.accounts);
    choices = in_numbers (entries s.choices);
    bound = in_numbers (entries s.bound_values);
    paid = [];
    start = start;
    end = end;
    times = [];
  };
}
