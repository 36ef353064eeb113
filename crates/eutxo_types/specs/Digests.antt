-- The digest of a datum.
use Rattle.std.specs.Prelude.{ℕ, List}
use Rattle.sha2.specs.Sha256.{sha256}
use Rattle.machine.specs.declared.datum.Datum.{Datum}
use Rattle.machine.specs.Spelling.{datum_bytes}

-- the SHA-256 of its spelling
unfoldable pub datum_hash : Datum → List ℕ
datum_hash d = sha256 (datum_bytes d)
