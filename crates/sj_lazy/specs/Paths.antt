-- What a path leads to in a lazy value, where the first or the last member of a key counts.
use Rattle.std.specs.Prelude.{◌≡◌, List, option_map}
use Rattle.std.specs.Borrow.{Bor}
use Rattle.sj_text_core.specs.Paths.{Step, tree_at, tree_at_by}
use Rattle.sj_text_core.specs.Repeats.{keep_by}
use Rattle.sj_document.specs.declared.value.Document.{Document}
use Rattle.sj_tape.specs.declared.value.Value.{Value as TapeValue}
use Rattle.sj_lazy.specs.declared.value.Lazy.{Lazy}
use Rattle.sj_lazy.specs.Value.{Text, value_tree, value_choice, value_kept}

-- a path leads in a lazy value that is written to what it led to, kept; or to nothing in both
abbrev pub LeadsKept : Type 0
LeadsKept = (v : Lazy TapeValue (Bor (Document Text)) Text) (p : List Step) → tree_at p (value_kept v) ≡ option_map (keep_by (value_choice v)) (tree_at_by (value_choice v) p (value_tree v))
