-- What a read finds: the place at a path, lengths, and keys one by one.
use Rattle.std.proofs.Common.{Option, option_and_then, ◌<◌, ◌+◌, drop, drop-cons, add-one, get_or, ◌≡◌, ℕ, List, ◌∷◌, length, map, sym, ap, ◌∙◌}
use Rattle.sj_text_core.specs.Paths.{step_into_by, tree_at_by}
use Rattle.sj_text_core.specs.Tree.{Tree}
use Rattle.sj_text_core.specs.declared.repeats.Repeats.{Repeats}
use Rattle.sj_commands.specs.Meant.{step_meant}
use Rattle.sj_commands.specs.declared.command.Step as meant

-- where the next step of a path leads
pub step_at : (c : Repeats) (p : List meant.Step) (i : ℕ) (x : meant.Step) (u : Tree) (o : Option Tree) → i < length p → x ≡ get_or p i x → step_into_by c (step_meant x) u ≡ o
    → tree_at_by c (map step_meant (drop i p)) u ≡ option_and_then (tree_at_by c (map step_meant (drop (i + 1) p))) o
step_at c p i x u o h e f =
    ap (λ q. tree_at_by c (map step_meant q) u) (drop-cons p i x h) ∙ (λ j. tree_at_by c (map step_meant (sym e j ∷ drop (sym (add-one i) j) p)) u)
    ∙ ap (option_and_then (tree_at_by c (map step_meant (drop (i + 1) p)))) f
