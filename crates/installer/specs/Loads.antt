-- What a load cell's readings mean. Assumes nothing.
use Rattle.std.specs.Prelude.{◌≡◌, ℕ, ◌≤◌, false, cond, List, map, length, ◌==◌, nat_le, Ok}
use Rattle.std.proofs.Common.{arith}
use Rattle.std.proofs.lemmas.List.{length-map}
use Rattle.trace.specs.Readings.{Reading, fault}
use Rattle.trace.specs.Symbols.{only, set_where}

-- a load in kilograms: no symbol at 0, symbol 40 up to 500, and above that a fault of the recorder's own cause at the load
abbrev pub load_reading : ℕ → Reading
load_reading kg =
    cond (nat_le kg 500)
    (cond (kg == 0) (Ok (record { symbols = set_where (λ _. false) })) (Ok (record { symbols = only 40 })))
    (fault 700 kg)

-- six loads are at most 1,024
pub loads_few : (kgs : List ℕ) → length kgs ≡ 6 → length (map load_reading kgs) ≤ 1024
loads_few kgs six = omega (arith, length-map kgs load_reading)
