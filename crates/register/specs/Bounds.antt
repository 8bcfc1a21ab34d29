-- What always holds of a register's sums and codes. This file names no register, so that the register's own file can cite it.
use Rattle.std.specs.Prelude.{ℕ, ◌+◌, ◌*◌, ◌≤◌, List, slice_index, slice_index_or}
use Rattle.register.specs.Limits.{millionths, last_code}
use Rattle.register.specs.Sums.{no_figures}
use Rattle.register.specs.declared.figures.Figures.{Figures}

-- figures over at most so many traces with so many instants
abbrev pub Within : ℕ → ℕ → Figures → Type 0
Within traces instants f =
    (f.both + f.act + f.tgt + f.none ≤ instants) × (f.triggered ≤ traces) × (f.degrees ≤ millionths * traces)

-- all figures are
abbrev pub Bounded : ℕ → ℕ → List Figures → Type 0
Bounded traces instants fs = (k : ℕ) → Within traces instants (slice_index_or fs k no_figures)

-- each code names a symbol
abbrev pub Coded : List ℕ → Type 0
Coded codes = (k : ℕ) → slice_index codes k ≤ last_code
