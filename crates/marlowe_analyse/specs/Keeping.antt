-- What is printed where it is asked what a party is sure of while it keeps up.
use Rattle.std.specs.Prelude.{◌≡◌, ℕ, Bool, true, false, List, is_some, Option, Some, None}
use Rattle.contract.specs.Names.declared.party.Party.{Party}
use Rattle.contract.specs.Tree.{ContractTree}
use Rattle.contract.specs.States.States.{StateMaps}
use Rattle.keeping_up.specs.declared.kept.Kept.{Kept}
use Rattle.keeping_up.specs.Told.{KeepsWithin, OthersAreKept}
use Rattle.analysis_lines.specs.Kept.{with_kept}
use Rattle.marlowe_run.specs.declared.readable.Readable.{Readable}
use Rattle.marlowe_analyse.specs.declared.analysed.Telling.{Telling}
use Rattle.marlowe_analyse.specs.Printed.{IsReadAs, TellsOfTree}

-- what the party is sure of of each token, and of those that aren't named; it is told where no number may leave 128 bits, and not elsewhere
abbrev pub IsSure : Party → StateMaps → ContractTree → Bool → Option (List Kept) → Type 0
IsSure party s c true kept = (all : List Kept) × (kept ≡ Some all) × KeepsWithin party all s c × OthersAreKept party all s c
IsSure party s c false kept = kept ≡ None

-- .. if one is asked about
abbrev pub IsSureFor : Option Party → StateMaps → ContractTree → Bool → Option (List Kept) → Type 0
IsSureFor None s c stays kept = Unit {0}
IsSureFor (Some party) s c stays kept = IsSure party s c stays kept

-- what is printed without it, and with it
pub record TellsOfParty (telling : Telling) (party : Party) (given : Bool) (s : StateMaps) (c : ContractTree) (clear unreached : Bool) (out : List ℕ) : Type 0 where
  pub text : List ℕ
  pub stays : Bool
  pub tells : TellsOfTree telling given s c clear unreached stays text
  pub kept : Option (List Kept)
  pub sure : IsSure party s c stays kept
  pub is : out ≡ with_kept telling.tools given party kept text

-- .. where a party is asked about
abbrev pub TellsFor : Telling → Option Party → Bool → StateMaps → ContractTree → Bool → Bool → List ℕ → Type 0
TellsFor telling None given s c clear unreached out = (stays : Bool) × TellsOfTree telling given s c clear unreached stays out
TellsFor telling (Some party) given s c clear unreached out = TellsOfParty telling party given s c clear unreached out

-- .. of those that the texts are read as
abbrev pub TellsSo : Telling → Option Party → Readable → List ℕ → Option (List ℕ) → Bool → Bool → List ℕ → Type 0
TellsSo telling party readable text start clear unreached out =
    (s : StateMaps) (c : ContractTree) → IsReadAs readable text start s c → TellsFor telling party (is_some start) s c clear unreached out
