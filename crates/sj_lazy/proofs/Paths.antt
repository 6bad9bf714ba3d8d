-- Paths in what is kept.
use Rattle.std.proofs.Common.{◌≡◌, List, option_map, ap, ◌∙◌}
use Rattle.std.specs.Borrow.{Bor}
use Rattle.std.specs.Cow.{cow_str_bytes}
use Rattle.sj_text_core.specs.Paths.{Step, tree_at, tree_at_by}
use Rattle.sj_text_core.specs.Repeats.{keep_by}
use Rattle.sj_text_core.specs.declared.repeats.Repeats.TheVariants.{First}
use Rattle.sj_text_core.proofs.Paths.{tree_at-keep_by}
use Rattle.sj_document.specs.declared.value.Document.{Document}
use Rattle.sj_tape.specs.Value.{tape_tree, tape_choice}
use Rattle.sj_tape.specs.declared.value.Value.{Value as TapeValue}
use Rattle.sj_lazy.specs.declared.value.Lazy.{Lazy}
use Rattle.sj_lazy.specs.declared.value.Lazy.TheVariants.{Tape, Value}
use Rattle.sj_lazy.specs.Value.{Text, value_tree, value_choice, value_kept, lent_tree, shared_tree}
use Rattle.sj_lazy.proofs.Steps.{shared_kept}

pub leads-kept : (v : Lazy TapeValue (Bor (Document Text)) Text) (p : List Step) → tree_at p (value_kept v) ≡ option_map (keep_by (value_choice v)) (tree_at_by (value_choice v) p (value_tree v))
leads-kept (Tape x) p = tree_at-keep_by (tape_choice x) p (tape_tree x)
leads-kept (Value c) p = ap (tree_at p) (shared_kept c) ∙ tree_at-keep_by First p (shared_tree lent_tree cow_str_bytes c)
