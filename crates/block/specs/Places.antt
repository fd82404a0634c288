-- Bytes written at a place of a buffer, one part behind the other. Assumes nothing.
use Rattle.std.specs.Prelude.{◌≡◌, ℕ, ◌+◌, ◌≤◌, List, [], ◌∷◌, ◌++◌, length}
use Rattle.codec.specs.declared.row.Row.{Row}
use Rattle.codec.specs.Bytes.{overwrite}
use Rattle.codec.specs.Rows.{row_bytes}
use Rattle.block.specs.declared.writer.Writer.{Writer}

-- bytes that fit are written from the place `at` on, all others stay, and `behind` is the place behind them
abbrev pub Puts : ℕ → List ℕ → List ℕ → List ℕ → ℕ → Type 0
Puts at bytes old new behind = at + length bytes ≤ length old → (behind ≡ at + length bytes) × (new ≡ overwrite at bytes old)

-- a writer is still over its buffer
abbrev pub SameBuffer : Writer → Writer → Type 0
SameBuffer w w' = w'.buffer.ghost_name ≡ w.buffer.ghost_name

-- a writer has put bytes behind what stood there, if they fit
abbrev pub Put : List ℕ → Writer → Writer → Type 0
Put bytes w w' = Puts w.place bytes w.buffer.now w'.buffer.now w'.place

-- rows end to end
abbrev pub rows_bytes : ℕ → List Row → List ℕ
rows_bytes w [] = []
rows_bytes w (r ∷ rs) = row_bytes w r ++ rows_bytes w rs
