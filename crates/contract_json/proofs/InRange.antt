-- What is written where JSON has all its numbers.
use Rattle.std.proofs.Common.{◌≡◌, ◌≢◌, Bool, true, false, Ok, Err, refl, sym, ap}
use Rattle.json.specs.Written as json
use Rattle.serde_json.specs.Data.{Data}
use Rattle.json_write_contracts.specs.declared.fault.WriteFault.{WriteFault}
use Rattle.json_write_contracts.specs.declared.fault.WriteFault.TheVariants.{OutOfRange, Memory}
use Rattle.json_write_contracts.specs.Tokens.{PutsFitting}
use Rattle.json_write_contracts.specs.Written.{in_range}

-- JSON has all numbers
pub fitting : {W : Type 0} (fits : Bool) (w x : W) → fits ≡ true → x ≡ w → in_range fits w ≡ Ok x
fitting true w x h k = ap Ok (sym k)
fitting false w x h k = absurd (cc)

pub fits_of : {W : Type 0} (fits : Bool) (w x : W) → in_range fits w ≡ Ok x → fits ≡ true
fits_of true w x h = refl
fits_of false w x h = absurd (cc)

-- one fault, whatever is written
pub same_fault : {V W : Type 0} (fits : Bool) (v : V) (w : W) (f : WriteFault) → in_range fits v ≡ Err f → in_range fits w ≡ Err f
same_fault true v w f h = absurd (cc)
same_fault false v w f h = cc

-- the fault of a writer
pub fault_of : {W : Type 0} (f : WriteFault) (old new : json.Written) (fits : Bool) (d : Data) (w : W) → PutsFitting (Err f) old new fits d → f ≢ Memory → in_range fits w ≡ Err f
fault_of OutOfRange old new fits d w h m = rw (h m) refl
fault_of Memory old new fits d w h m = absurd (m refl)
