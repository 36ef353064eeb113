-- What is read, and what is told of it.
use Rattle.std.proofs.Common.{◌≡◌, ◌≢◌, ℕ, Bool, true, List, refl, sym, ap, ◌∙◌, subst, Option, Some, None, Result, Ok, Err}
use Rattle.std.specs.Prelude.{IfOk, is_some, option_map}
use Rattle.contract.specs.Collections.Answers.{◌>>=◌, AsideBy}
use Rattle.contract.specs.declared.tree.Contract.{Contract}
use Rattle.contract.specs.Names.declared.party.Party.{Party}
use Rattle.contract.specs.Tree.{ContractTree, contract_tree}
use Rattle.contract.specs.States.States.{StateMaps}
use Rattle.marlowe_run.specs.JsonReadNames.declared.fault.JsonFault.{JsonFault}
use Rattle.marlowe_run.specs.JsonReadNames.declared.fault.JsonFault.TheVariants as json
use Rattle.marlowe_run.specs.MarloweRefusals.declared.fault.RunFault.{RunFault}
use Rattle.marlowe_run.specs.MarloweRefusals.declared.fault.RunFault.TheVariants as run
use Rattle.marlowe_run.specs.MarloweRefusals.Faults.{read_as, contract_fault, state_fault}
use Rattle.marlowe_run.specs.JsonReadNames.ReadsText.{of_text_within}
use Rattle.marlowe_run.specs.JsonReadContracts.ReadsContract.{contract}
use Rattle.marlowe_analyse.specs.declared.analysed.Analysed.{Analysed}
use Rattle.marlowe_analyse.specs.declared.analysed.Telling.{Telling}
use Rattle.marlowe_run.specs.declared.readable.Readable.{Readable}
use Rattle.marlowe_run.specs.Start.{start_of}
use Rattle.marlowe_analyse.specs.Printed.{is_read, IsClear}
use Rattle.marlowe_analyse.specs.Keeping.{TellsFor, TellsSo}
use Rattle.marlowe_analyse.specs.RunsSupport.{TellsFrom, is_started}
use Rattle.marlowe_analyse.proofs.AnalysedLemmas.{never_alarms}

-- a contract and a state are read
abbrev read_both : Result Contract JsonFault → Result StateMaps JsonFault → Result (StateMaps × ContractTree) RunFault
read_both o r = read_as contract_fault o >>= λ given. read_as state_fault r >>= λ s. Ok (s, contract_tree given)

abbrev are_read : Result Contract JsonFault → Result StateMaps JsonFault → Result (Unit {0}) RunFault
are_read o r = read_both o r >>= λ _. Ok tt

the_parts : (o : Result Contract JsonFault) (r : Result StateMaps JsonFault) (given : Contract) (s : StateMaps) (c : ContractTree) → o ≡ Ok given → read_both o r ≡ Ok (s, c) → (r ≡ Ok s) × (contract_tree given ≡ c)
the_parts (Err f) r given s c e h = absurd (cc)
the_parts (Ok g) (Err f) given s c e h = absurd (cc)
the_parts (Ok g) (Ok z) given s c e h =
    let same : g ≡ given = cc in
    let p : ◌≡◌ {A = StateMaps × ContractTree} (z, contract_tree g) (s, c) = cc in
    (ap (λ (q : StateMaps × ContractTree). let y : Result StateMaps JsonFault = Ok q.0 in y) p, ap contract_tree (sym same) ∙ ap (λ (q : StateMaps × ContractTree). q.1) p)

module _ (telling : Telling) (party : Option Party) (readable : Readable) (text : List ℕ) (start : Option (List ℕ)) (given : Contract) (is : of_text_within readable.depth contract text ≡ Ok given) where
  tells : (clear unreached : Bool) (out : List ℕ) → TellsFrom telling party (is_some start) (contract_tree given) (start_of readable.text_numbers start) clear unreached out → TellsSo telling party readable text start clear unreached out
  tells clear unreached out h s c e =
      let p = the_parts (of_text_within readable.depth contract text) (start_of readable.text_numbers start) given s c is e in
      subst (λ (t : ContractTree). TellsFor telling party (is_some start) s t clear unreached out) p.1 (h s p.0)

  pub all_told_so : (r : Result Analysed RunFault) → IfOk r (λ t. TellsFrom telling party (is_some start) (contract_tree given) (start_of readable.text_numbers start) t.is_clear t.has_unreached t.text.items) → IfOk r (λ t. TellsSo telling party readable text start t.is_clear t.has_unreached t.text.items)
  all_told_so (Ok t) h = tells t.is_clear t.has_unreached t.text.items h
  all_told_so (Err f) h = tt

  pub is_clear_so : (r : Result Analysed RunFault) → IfOk r (λ t. TellsFrom telling party (is_some start) (contract_tree given) (start_of readable.text_numbers start) t.is_clear t.has_unreached t.text.items) → IfOk r (λ t. t.is_clear ≡ true → IsClear readable text start)
  is_clear_so (Ok t) h = λ e s c q. never_alarms telling party (is_some start) s c t.is_clear t.has_unreached t.text.items (tells t.is_clear t.has_unreached t.text.items h s c q) e
  is_clear_so (Err f) h = tt

-- why nothing is read
same_read : (o : Result Contract JsonFault) (r : Result StateMaps JsonFault) (given : Contract) → o ≡ Ok given → is_started r ≡ are_read o r
same_read (Err f) r given e = absurd (cc)
same_read (Ok g) (Err f) given e = refl
same_read (Ok g) (Ok z) given e = refl

pub read_as_started : (readable : Readable) (text : List ℕ) (start : Option (List ℕ)) (given : Contract) (r : Result Analysed RunFault) → of_text_within readable.depth contract text ≡ Ok given → AsideBy run.Memory (λ _. tt) r (is_started (start_of readable.text_numbers start)) → AsideBy run.Memory (λ _. tt) r (is_read readable text start)
read_as_started readable text start given r e h = subst (λ (a : Result (Unit {0}) RunFault). AsideBy run.Memory (λ _. tt) r a) (same_read (of_text_within readable.depth contract text) (start_of readable.text_numbers start) given e) h

fault_of : (o : Result Contract JsonFault) (r : Result StateMaps JsonFault) (f : JsonFault) (g : RunFault) → (f ≢ json.Memory → o ≡ Err f) → g ≡ contract_fault f → g ≢ run.Memory → are_read o r ≡ Err g
fault_of o r f g h e n = ap (λ (z : Result Contract JsonFault). are_read z r) (h (λ m. n (e ∙ ap contract_fault m))) ∙ ap (λ (x : RunFault). let y : Result (Unit {0}) RunFault = Err x in y) (sym e)

pub not_read : (readable : Readable) (text : List ℕ) (start : Option (List ℕ)) (f : JsonFault) (g : RunFault) → (f ≢ json.Memory → of_text_within readable.depth contract text ≡ Err f) → g ≡ contract_fault f → g ≢ run.Memory → is_read readable text start ≡ Err g
not_read readable text start f g h e n = fault_of (of_text_within readable.depth contract text) (start_of readable.text_numbers start) f g h e n

-- where the state is read
pub tells_from : (telling : Telling) (party : Option Party) (given : Bool) (c : ContractTree) (start : Result StateMaps JsonFault) (s : StateMaps) (clear unreached : Bool) (out : List ℕ) → start ≡ Ok s → TellsFor telling party given s c clear unreached out → TellsFrom telling party given c start clear unreached out
tells_from telling party given c start s clear unreached out e h z f = let same : s ≡ z = cc in subst (λ (x : StateMaps). TellsFor telling party given x c clear unreached out) same h

pub started : (start : Result StateMaps JsonFault) (s : StateMaps) → start ≡ Ok s → is_started start ≡ Ok tt
started (Ok z) s e = refl
started (Err f) s e = absurd (cc)

pub not_started : (start : Result StateMaps JsonFault) (f : JsonFault) (g : RunFault) → (f ≢ json.Memory → start ≡ Err f) → g ≡ state_fault f → g ≢ run.Memory → is_started start ≡ Err g
not_started start f g h e n = ap is_started (h (λ m. n (e ∙ ap state_fault m))) ∙ ap (λ (x : RunFault). let y : Result (Unit {0}) RunFault = Err x in y) (sym e)

-- whether there is one, as it is seen
pub some_seen : {A B : Type 0} (f : A → B) (o : Option A) → is_some o ≡ is_some (option_map f o)
some_seen f None = refl
some_seen f (Some x) = refl
