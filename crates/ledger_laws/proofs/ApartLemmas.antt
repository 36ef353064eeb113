-- The blocks of a transaction stand one behind the other.
use Rattle.std.proofs.Common.{◌≡◌, ℕ, zero, suc, ◌+◌, ◌<◌, ◌≤◌, List, [], ◌∷◌, ap, arith, subst, Option, Some, None}
use Rattle.std.specs.Prelude.{map}
use Rattle.std.specs.List.{slice_get}
use Rattle.roles.specs.EutxoTypes.declared.output.Output.{Output}
use Rattle.roles.specs.EutxoTypes.declared.spend.Spend.{Spend}
use Rattle.roles.specs.EutxoTypes.declared.tx.Tx.{Tx}
use Rattle.roles.specs.Eutxo.Asked.{Judges}
use Rattle.roles.specs.Eutxo.Blocks.{Block, size, blocks, blocks_on}
use Rattle.roles.specs.Eutxo.Found.{with_outputs}
use Rattle.roles.specs.Eutxo.Rules.{Step, steps_of}
use Rattle.ledger_laws.specs.Past.{created_at}
use Rattle.ledger_laws.specs.Laws.{OutputsServeOneContract}
use Rattle.ledger_laws.proofs.FindingLemmas.{answer}
use Rattle.ledger_laws.proofs.PlainLaws.{same_some}

module _ {V : Type 0} (j : Judges V) (named : List ℕ → Option V) (tx : Tx) (spent : List (Spend × Output)) where
  abbrev end : ℕ → Step → ℕ
  end i s = i + size (answer j named tx spent i s)

  -- none stands before the place where they begin
  behind : (ss : List Step) (i m : ℕ) (b : Block) → slice_get (blocks j named tx spent ss i) m ≡ Some b → i ≤ b.«from»
  behind [] i m b h = cc
  behind (s ∷ ss) i zero b h =
      let e : i ≡ b.«from» = ap (λ (x : Block). x.«from») (same_some _ b h) in
      omega (arith, e)
  behind (s ∷ ss) i (suc m) b h =
      let l = behind ss (end i s) m b h in
      omega (arith, l)

  -- and the later behind the earlier
  apart : (ss : List Step) (i n m : ℕ) (a b : Block) → slice_get (blocks j named tx spent ss i) n ≡ Some a → slice_get (blocks j named tx spent ss i) m ≡ Some b → n < m → a.«from» + size a.answer ≤ b.«from»
  apart [] i n m a b h k l = cc
  apart (s ∷ ss) i n zero a b h k l = absurd (omega (arith, l))
  apart (s ∷ ss) i zero (suc m) a b h k l =
      subst (λ (x : Block). x.«from» + size x.answer ≤ b.«from») (same_some _ a h) (behind ss (end i s) m b k)
  apart (s ∷ ss) i (suc n) (suc m) a b h k l = apart ss (end i s) n m a b h k (omega (arith, l))

pub outputs_serve_one : {V : Type 0} (j : Judges V) → OutputsServeOneContract j
outputs_serve_one j named past tx n m a b = by (with_outputs tx.inputs (map (λ x. created_at past x.reference) tx.inputs))
  where
    by : (z : Option (List (Spend × Output))) → slice_get (blocks_on j named tx z) n ≡ Some a → slice_get (blocks_on j named tx z) m ≡ Some b → n < m → a.«from» + size a.answer ≤ b.«from»
    by None h k l = cc
    by (Some spent) h k l = apart j named tx spent (steps_of spent tx.datums) 0 n m a b h k l
