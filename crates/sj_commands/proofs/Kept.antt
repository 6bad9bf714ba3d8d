-- What is kept of the parts of a line's tape.
use Rattle.std.proofs.Common.{◌≡◌, ℕ, List, map, refl, ap, ◌∙◌}
use Rattle.std.specs.Prelude.{Some}
use Rattle.sj_text_core.specs.Tree.{Tree, null, boolean, int, text, list, obj, Items, no_items, item, items_from, listed}
use Rattle.sj_text_core.specs.Keep.{keep_items}
use Rattle.sj_text_core.specs.Reads.{as_text, as_items}
use Rattle.sj_text_core.specs.Repeats.{keep_by, keep_last_items}
use Rattle.sj_text_core.specs.declared.repeats.Repeats.{Repeats}
use Rattle.sj_text_core.specs.declared.repeats.Repeats.TheVariants.{First, Last}
use Rattle.sj_commands.specs.inner.Parts.{kept_part}

-- a text is kept as it is
pub kept_text : (c : Repeats) (t : Tree) (k : List ℕ) → Some k ≡ as_text t → keep_by c t ≡ text k
kept_text c null k h = cc
kept_text c (boolean b) k h = cc
kept_text c (int n r) k h = cc
kept_text First (text s) k h = cc
kept_text Last (text s) k h = cc
kept_text c (list is) k h = cc
kept_text c (obj ms) k h = cc

kept_first : (is : Items) → keep_items is ≡ items_from (map kept_part (map (λ t. (First, t)) (listed is)))
kept_first no_items = refl
kept_first (item t is) = ap (item (keep_by First t)) (kept_first is)

kept_last : (is : Items) → keep_last_items is ≡ items_from (map kept_part (map (λ t. (Last, t)) (listed is)))
kept_last no_items = refl
kept_last (item t is) = ap (item (keep_by Last t)) (kept_last is)

-- of an array each item is kept
pub kept_list : (c : Repeats) (t : Tree) (is : Items) → Some is ≡ as_items t → keep_by c t ≡ list (items_from (map kept_part (map (λ u. (c, u)) (listed is))))
kept_list c null is h = cc
kept_list c (boolean b) is h = cc
kept_list c (int n r) is h = cc
kept_list c (text s) is h = cc
kept_list First (list js) is h = ap list (kept_first js) ∙ ap (λ ks. list (items_from (map kept_part (map (λ u. (First, u)) (listed ks))))) cc
kept_list Last (list js) is h = ap list (kept_last js) ∙ ap (λ ks. list (items_from (map kept_part (map (λ u. (Last, u)) (listed ks))))) cc
kept_list c (obj ms) is h = cc
