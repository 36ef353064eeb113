-- What is published is a table.
use Rattle.std.proofs.Common.{◌≡◌, ℕ, ◌≤◌, Bool, true, false, List, None, Some, Option, Result, Ok, Err, if◌then◌else◌, refl, sym, ◌∙◌, ap, subst, arith}
use Rattle.std.specs.Prelude.{nat_le, MatchOption}
use Rattle.std.specs.Result.{IsOkUnless}
use Rattle.std.proofs.lemmas.Bool.Decides.{nat_tests}
use Rattle.contract.specs.Tree.{ContractTree}
use Rattle.compiler.specs.Nodes.declared.cont.Cont.{Cont}
use Rattle.compiler.specs.Table.Flat.{Flat, cont_tree}
use Rattle.compiler.specs.Table.Heights.{contract_height}
use Rattle.compiler.specs.Table.AlongLaws.{has_is, turns_lead}
use Rattle.compiler.specs.declared.fault.CompileFault.{CompileFault}
use Rattle.compiler.specs.declared.fault.CompileFault.TheVariants.{TooDeep, Memory}
use Rattle.compiler.specs.Lowering.Code.{code}
use Rattle.compiler.specs.Limits.{compile_fault}
use Rattle.compiler.specs.Lowering.Laws.{CodesStand}
use Rattle.roles.specs.declared.published.Published.{Published}
use Rattle.roles.specs.Publications.{PublishedAreTables, PublishedTellApart}
use Rattle.roles.specs.Terms.{IsTable, terms_of}

passes : (b : Bool) (o : Option CompileFault) → (if b then o else Some TooDeep) ≡ None → b ≡ true
passes true o h = refl
passes false o h = absurd (cc)

within : (m n : ℕ) → nat_le m n ≡ true → m ≤ n
within m n h = grind (arith, nat_tests)

-- what is compiled isn't too deep
low : (c : ContractTree) → compile_fault c ≡ None → contract_height c ≤ 999
unfolding compile_fault
low c h = within (contract_height c) 999 (passes (nat_le (contract_height c) 999) _ h)

pub published_are_tables : CodesStand → PublishedAreTables
published_are_tables stand c currency h =
    let it = stand c (low c h) in
    let f = (code c).0 in
    record {
      table = record { root = (has_is f (code c).1 it.0.flat).1 it.0; led = turns_lead f it.0.flat };
      tree = it.1;
    }

pub published_tell_apart : CodesStand → PublishedTellApart
published_tell_apart stand c d x y h k e =
    let first = published_are_tables stand c x h in
    let second = published_are_tables stand d y k in
    (sym first.tree ∙ ap (λ p. cont_tree p.table p.root.0) e ∙ second.tree, ap (λ p. p.currency) e)

-- what compiles has no fault
no_fault : {A : Type 0} (o : Option CompileFault) (r : Result A CompileFault) (x : A) → r ≡ Ok x → MatchOption o (IsOkUnless r Memory) (λ f. r ≡ Err f) → o ≡ None
no_fault None r x e h = refl
no_fault (Some f) r x e h = cc

-- so what is made of it is a table, under whatever id
pub is_table_of : PublishedAreTables → (r : Result (Flat × Cont) CompileFault) (c : ContractTree) (currency id : List ℕ) (f : Flat) (k : Cont) →
    MatchOption (compile_fault c) (IsOkUnless r Memory) (λ g. r ≡ Err g) → r ≡ Ok (f, k) → (let made : Flat × Cont = (f, k) in made ≡ code c) →
    (let p : Published = record { id = id; table = f; root = k; currency = currency } in IsTable (terms_of p) × ((terms_of p).tree p.root ≡ c))
is_table_of law r c currency id f k fault e h =
    let it = law c currency (no_fault (compile_fault c) r (f, k) e fault) in
    subst (λ (x : Flat × Cont). let p : Published = record { id = id; table = x.0; root = x.1; currency = currency } in IsTable (terms_of p) × ((terms_of p).tree p.root ≡ c)) (sym h) (it.table, it.tree)
