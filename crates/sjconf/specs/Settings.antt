-- Values that are set.
use Rattle.std.specs.Prelude.{◌≡◌, List, [], ◌∷◌, Option, Some, option_and_then, string_bytes}
use Rattle.sj_text_core.specs.Tree.{Tree}
use Rattle.sj_document.specs.Document.{document_tree}
use Rattle.sj_path.specs.Made.{set_made}
use Rattle.sjconf.specs.Layers.{AreRead, layered}
use Rattle.sjconf.specs.declared.input.Layer.{Layer}
use Rattle.sjconf.specs.declared.setting.Setting.{Setting}

-- the tree with each value put where its keys lead, one after another; none where one of them leads nowhere
abbrev pub all_set : List Setting → Tree → Option Tree
all_set [] t = Some t
all_set (s ∷ ss) t = option_and_then (λ u. all_set ss u) (set_made s.place (document_tree string_bytes s.value) t)

-- what the files spell, merged in turn, and then set
abbrev pub IsMade : List Layer → List Setting → Tree → Type 0
IsMade ls ss t = (ts : List Tree) × AreRead ls ts × (all_set ss (layered ts) ≡ Some t)
