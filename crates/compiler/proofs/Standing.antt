-- What is made of a contract without a fault stands for it.
use Rattle.std.proofs.Common.{◌≡◌, sym, subst, ◌≤◌, true, false, Bool}
use Rattle.std.specs.Prelude.{nat_le, ◌&&◌, Option, Some, None, if◌then◌else◌}
use Rattle.std.proofs.lemmas.Bool.{leb-true}
use Rattle.contract.specs.Tree.{ContractTree}
use Rattle.table.specs.Nodes.declared.cont.Cont.{Cont}
use Rattle.table.specs.Heights.{contract_height}
use Rattle.table.specs.Flat.{Flat, Has, a_cont, cont_tree}
use Rattle.lowering.specs.Code.{code}
use Rattle.lowering.specs.Laws.{CodesStand}
use Rattle.compiler.specs.declared.fault.CompileFault.{CompileFault}
use Rattle.compiler.specs.declared.fault.CompileFault.TheVariants.{TooDeep}
use Rattle.compiler.specs.Limits.{compile_fault}

not-deep : (b : Bool) (o : Option CompileFault) → (if b then o else Some TooDeep) ≡ None → b ≡ true
not-deep true o e = cc
not-deep false o e = cc

pub low : (c : ContractTree) → compile_fault c ≡ None → contract_height c ≤ 999
unfolding compile_fault
low c e = leb-true (contract_height c) 999 (not-deep _ _ e)

pub standing : (f : Flat) (k : Cont) (c : ContractTree) → CodesStand → compile_fault c ≡ None → (let made : Flat × Cont = (f, k) in made ≡ code c) → Has f (a_cont k.0) × (cont_tree f k.0 ≡ c)
standing f k c law e h = subst (λ (x : Flat × Cont). Has x.0 (a_cont x.1.0) × (cont_tree x.0 x.1.0 ≡ c)) (sym h) (law c (low c e))
