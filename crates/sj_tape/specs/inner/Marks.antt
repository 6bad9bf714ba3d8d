-- What private clauses alone cite beside Marks.
use Rattle.std.specs.Prelude.{ℕ, List, ◌∷◌, Option, Some, None}
use Rattle.sj_text_core.specs.Nodes.{Mark, string, array, object}

-- how many items an array has, by its node
abbrev pub array_len : Mark → Option ℕ
array_len (array len count) = Some len
array_len _ = None

-- how many members an object has, by its node
abbrev pub object_len : Mark → Option ℕ
object_len (object len count) = Some len
object_len _ = None

-- the text that nodes begin with, and the others
abbrev pub split_text : List Mark → Option (List ℕ × List Mark)
split_text (string s ∷ ns) = Some (s, ns)
split_text _ = None
