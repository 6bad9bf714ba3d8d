-- What a read of a null answers.
use Rattle.std.specs.Prelude.{Option, Some, None, ⊤}
use Rattle.sj_text_core.specs.Tree.{Tree, null}

-- that the tree is a null
abbrev pub as_nothing : Tree → Option ⊤
as_nothing null = Some tt
as_nothing _ = None
