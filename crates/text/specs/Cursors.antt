-- What a reader does to a cursor. No public contract cites this file. Assumes nothing.
use Rattle.std.specs.Prelude.{◌≡◌, ℕ, List, drop}
use Rattle.text.specs.declared.cursor.Cursor.{Cursor}

-- the bytes that come next
abbrev pub rest : Cursor → List ℕ
rest c = drop c.at c.text.now

-- the cursor d stands in the text of the cursor c, and P holds of the text and of the places of c and d
abbrev pub Moves : Cursor → Cursor → (List ℕ → ℕ → ℕ → Type 0) → Type 0
Moves c d P = record { text : d.text.now ≡ c.text.now; read : P c.text.now c.at d.at }
