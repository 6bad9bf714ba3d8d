-- What private clauses alone cite beside Printed.
use Rattle.std.specs.Prelude.{ℕ, ◌+◌, List, length}
use Rattle.std.specs.List.{sum_by}
use Rattle.sj_text_core.specs.Tree.{null, boolean, int}
use Rattle.sj_text_core.specs.Nodes.{Mark, nothing, truth, number, string, array, object}
use Rattle.sj_text_core.specs.Print.{quoted, compact}
use Rattle.sj_print.specs.Printed.{frame_len}

-- what a node adds to a compact print: its own text; of a container the brackets and commas; of an object's members the colons too
abbrev pub mark_len : Mark → ℕ
mark_len nothing = length (compact null)
mark_len (truth b) = length (compact (boolean b))
mark_len (number n c) = length (compact (int n c))
mark_len (string s) = length (quoted s)
mark_len (array len count) = frame_len len
mark_len (object len count) = frame_len len + len

abbrev pub marks_len : List Mark → ℕ
marks_len ns = sum_by mark_len ns
