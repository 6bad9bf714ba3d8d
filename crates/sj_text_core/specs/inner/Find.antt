-- What private clauses alone cite beside Find.
use Rattle.std.specs.Prelude.{Option, unwrap_or}
use Rattle.sj_text_core.specs.Tree.{Tree, null}

-- what was found; a null where that is nothing
abbrev pub or_null : Option Tree → Tree
or_null o = unwrap_or o null
