-- The numbers by which an exported call answers, beside those of the refusals, which are 1 to 15.
use Rattle.std.specs.Prelude.{ℕ}

-- the call was done
abbrev pub done : ℕ
done = 0

-- the kind of record is none of codes, snapshots and runs
abbrev pub no_kind : ℕ
no_kind = 253

-- the lent slice has fewer places than there are rules
abbrev pub short_slice : ℕ
short_slice = 254

-- there was not enough memory
abbrev pub no_memory : ℕ
no_memory = 255
