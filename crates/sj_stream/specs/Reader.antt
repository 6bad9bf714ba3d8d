-- What a reader of lines holds.
use Rattle.std.specs.Prelude.{ℕ, List, Bool, Option, Some, None}
use Rattle.sj_text_core.specs.Tree.{Tree}
use Rattle.sj_stream.specs.declared.line_reader.Slot.{Slot}
use Rattle.sj_stream.specs.declared.line_reader.Slot.TheVariants.{Read, Spare}
use Rattle.sj_stream.specs.declared.line_reader.LineReader.{LineReader}
use Rattle.sj_stream.specs.Kept.{keeps, kept_text}

abbrev pub slot_tree : Slot → Option Tree
slot_tree (Read t) = Some t
slot_tree (Spare s) = None

-- the tree of the line that was read last, where it was read
abbrev pub tree_read : LineReader → Option Tree
tree_read r = slot_tree r.slot

-- the text of the line that was read last, where it is kept
abbrev pub line_kept : LineReader → Option (List ℕ)
line_kept r = kept_text r.kept

-- whether the places of faults are told
abbrev pub tells_places : LineReader → Bool
tells_places r = keeps r.kept
