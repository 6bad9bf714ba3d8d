-- The objects of maps are kept: no two members have one text.
use Rattle.std.proofs.Common.{◌≡◌, ℕ, true, false, List, [], ◌∷◌, refl, ap, ◌∙◌, bytes_eq}
use Rattle.std.specs.Bool.{if◌then◌else◌}
use Rattle.std.proofs.lemmas.Bool.{or_parts, or_from}
use Rattle.sj_text_core.specs.Tree.{Tree, list, obj, Items, no_items, item, member}
use Rattle.sj_text_core.specs.Keep.{is_seen, keep, keep_items, keep_members, IsKept}
use Rattle.sj_text_core.proofs.Texts.{bytes_eq-sym}
use Rattle.sj_object.specs.Texts.{no_repeats}
use Rattle.sj_object.specs.inner.Texts.{not_and}
use Rattle.sj_object.specs.Entries.{Entry, entry_texts}
use Rattle.sj_object.specs.HashMap.{Contents}
use Rattle.sj_object.specs.Members.{entry_members}

-- each item is kept
abbrev pub AreKept : Items → Type 0
AreKept no_items = Unit {0}
AreKept (item t is) = IsKept t × AreKept is

pub list_kept : (is : Items) → AreKept is → IsKept (list is)
list_kept is a = ap list (items_kept is a) where
  items_kept : (is : Items) → AreKept is → keep_items is ≡ is
  items_kept no_items a = refl
  items_kept (item t is) a = λ i. item (a.0 i) (items_kept is a.1 i)

-- no text of the second list is in the first
abbrev Apart : List (List ℕ) → List (List ℕ) → Type 0
Apart seen [] = Unit {0}
Apart seen (k ∷ ks) = (is_seen k seen ≡ false) × Apart seen ks

Apart-more : (k : List ℕ) (seen ks : List (List ℕ)) → is_seen k ks ≡ false → Apart seen ks → Apart (k ∷ seen) ks
Apart-more k seen [] e a = tt
Apart-more k seen (l ∷ ks) e a =
    let r = or_parts (bytes_eq k l) _ e in
    (or_from _ _ (bytes_eq-sym k l r.0) a.0, Apart-more k seen ks r.1 a.1)

Apart-none : (ks : List (List ℕ)) → Apart [] ks
Apart-none [] = tt
Apart-none (k ∷ ks) = (refl, Apart-none ks)

module _ {K V : Type 0} (tree : V → Tree) (kept : (v : V) → IsKept (tree v)) where
  kept_after : (seen : List (List ℕ)) (es : List (Entry K V)) → Apart seen (entry_texts es) → no_repeats (entry_texts es) ≡ true → keep_members seen (entry_members tree es) ≡ entry_members tree es
  kept_after seen [] a d = refl
  kept_after seen (e ∷ es) a d =
      let n = not_and (is_seen e.0.1 (entry_texts es)) _ d in
      (λ i. if a.0 i then keep_members seen (entry_members tree es) else member e.0.1 (keep (tree e.1)) (keep_members (e.0.1 ∷ seen) (entry_members tree es)))
      ∙ (λ i. member e.0.1 (kept e.1 i) (kept_after (e.0.1 ∷ seen) es (Apart-more e.0.1 seen (entry_texts es) n.0 a.1) n.1 i))

  -- the object of a map whose values are kept
  pub object_kept : {S : Type 0} (m : Contents K V S) → IsKept (obj (entry_members tree m.entries))
  object_kept m = ap obj (kept_after [] m.entries (Apart-none (entry_texts m.entries)) m.distinct)
