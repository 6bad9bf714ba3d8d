-- How much room buffers have.
use Rattle.std.specs.Prelude.{ℕ}
use Rattle.sj_tape.specs.declared.reader.buffers.Buffers.{Buffers}

-- for how many nodes
abbrev pub room : Buffers → ℕ
room b = b.nodes
