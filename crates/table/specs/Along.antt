-- Where turns lead among the numbers of a table.
use Rattle.std.specs.Prelude.{◌≡◌, Bool, true, nat_lt, length, List, [], ◌∷◌, Option, Some, None, slice_get, option_map}
use Rattle.std.specs.Option.{option_and_then, unwrap_or}
use Rattle.contract.specs.Tree.{ContractTree}
use Rattle.nodes.specs.declared.cont.Cont.{Cont}
use Rattle.nodes.specs.declared.cont_node.ContNode.{ContNode}
use Rattle.nodes.specs.declared.cont_node.ContNode.TheVariants.{Close, Pay, If, When, Let, Assert}
use Rattle.table.specs.Flat.{Flat, cont_entry, case_entry, follows, cont_tree}
use Rattle.evaluation.specs.Path.{Turn, refund, next, then_branch, else_branch, timed_out, in_case, along}

-- the number that a turn goes on with, where the node has it; a refund stays
abbrev pub node_turn : Flat → Cont → ContNode → Turn → Option Cont
node_turn f here Close refund = Some here
node_turn f here (Pay p y t v k) next = Some k
node_turn f here (Let x v k) next = Some k
node_turn f here (Assert o k) next = Some k
node_turn f here (If o k l) then_branch = Some k
node_turn f here (If o k l) else_branch = Some l
node_turn f here (When cs n k) timed_out = Some k
node_turn f here (When cs n k) (in_case m) = option_map (λ j. follows (case_entry f j).node) (slice_get cs m)
node_turn f here _ _ = None

abbrev pub next_cont : Flat → Cont → Turn → Option Cont
next_cont f k t = node_turn f k (cont_entry f k.0).node t

-- the number that a list of turns leads to, where the nodes have these
abbrev pub cont_along : Flat → Cont → List Turn → Option Cont
cont_along f k [] = Some k
cont_along f k (t ∷ ts) = option_and_then (λ l. cont_along f l ts) (next_cont f k t)

-- the same as a function to numbers: the number itself, where the nodes don't have the turns
abbrev pub cont_at : Flat → Cont → List Turn → Cont
cont_at f k ts = unwrap_or (cont_along f k ts) k

-- whether a number is that of a continuation
abbrev pub has_cont : Flat → Cont → Bool
has_cont f k = nat_lt k.0 (length f.conts)

-- turns that a continuation's tree has lead to a continuation, which stands for the part that they lead to
abbrev pub TurnsLead : Flat → Type 0
TurnsLead f = (k : Cont) (ts : List Turn) (c : ContractTree) → has_cont f k ≡ true → along (cont_tree f k.0) ts ≡ Some c →
    (has_cont f (cont_at f k ts) ≡ true) × (cont_tree f (cont_at f k ts).0 ≡ c)
