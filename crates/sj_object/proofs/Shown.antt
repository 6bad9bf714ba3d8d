-- What the calls of a map are on the members of an object, where each value has a tree.
use Rattle.std.proofs.Common.{◌≡◌, ℕ, suc, Bool, true, false, List, [], ◌∷◌, map, length, Option, Some, option_map, refl, ap, bytes_eq}
use Rattle.std.specs.Bool.{if◌then◌else◌}
use Rattle.sj_text_core.specs.Tree.{Tree, Members, member, members_len}
use Rattle.sj_text_core.specs.Find.{find_member}
use Rattle.sj_text_core.specs.Edits as members
use Rattle.sj_object.specs.Entries.{Entry}
use Rattle.sj_object.specs.Members.{entry_members}
use Rattle.sj_object.specs.Edits.{lookup, set_value, put_entry, cut_entry}

-- as many members as entries
pub length-members : {K V : Type 0} (f : V → Tree) (es : List (Entry K V)) → length es ≡ members_len (entry_members f es)
length-members f [] = refl
length-members f (e ∷ es) = ap suc (length-members f es)

-- values seen by one map after another
pub entry_members-map : {K V W : Type 0} (f : V → W) (g : W → Tree) (es : List (Entry K V)) → entry_members g (map (λ (e : Entry K V). (e.0, f e.1)) es) ≡ entry_members (λ v. g (f v)) es
entry_members-map f g [] = refl
entry_members-map f g (e ∷ es) = ap (member e.0.1 (g (f e.1))) (entry_members-map f g es)

lookup_by : {V : Type 0} (tree : V → Tree) (b : Bool) (v : V) (r : Option V) (d : Option Tree) → option_map tree r ≡ d → option_map tree (if b then Some v else r) ≡ (if b then Some (tree v) else d)
lookup_by tree true v r d e = refl
lookup_by tree false v r d e = e

module _ {K V : Type 0} (tree : V → Tree) where
  abbrev all : List (Entry K V) → Members
  all es = entry_members tree es

  pub lookup-entry_members : (k : List ℕ) (es : List (Entry K V)) → option_map tree (lookup k es) ≡ find_member k (all es)
  lookup-entry_members k [] = refl
  lookup-entry_members k (e ∷ es) = lookup_by tree (bytes_eq k e.0.1) e.1 _ _ (lookup-entry_members k es)

  put_by : (b : Bool) (w : V) (e : Entry K V) (es fs : List (Entry K V)) (ms : Members) → all fs ≡ ms
      → all (if b then (e.0, w) ∷ es else e ∷ fs) ≡ (if b then member e.0.1 (tree w) (all es) else member e.0.1 (tree e.1) ms)
  put_by true w e es fs ms h = refl
  put_by false w e es fs ms h = ap (member e.0.1 (tree e.1)) h

  pub entry_members-put : (q : K × List ℕ) (w : V) (es : List (Entry K V)) → all (put_entry q w es) ≡ members.put q.1 (tree w) (all es)
  entry_members-put q w [] = refl
  entry_members-put q w (e ∷ es) = put_by (bytes_eq q.1 e.0.1) w e es _ _ (entry_members-put q w es)

  set_by : (b : Bool) (k : List ℕ) (w v : V) (e : Entry K V) (es : List (Entry K V)) → (if b then Some e.1 else lookup k es) ≡ Some v
      → (lookup k es ≡ Some v → all (set_value k w es) ≡ members.put k (tree w) (all es))
      → all (if b then (e.0, w) ∷ es else e ∷ set_value k w es) ≡ (if b then member e.0.1 (tree w) (all es) else member e.0.1 (tree e.1) (members.put k (tree w) (all es)))
  set_by true k w v e es h more = refl
  set_by false k w v e es h more = ap (member e.0.1 (tree e.1)) (more h)

  -- where the text is there, a write at it is a `put`
  pub entry_members-set_value : (k : List ℕ) (w v : V) (es : List (Entry K V)) → lookup k es ≡ Some v → all (set_value k w es) ≡ members.put k (tree w) (all es)
  entry_members-set_value k w v [] h = cc
  entry_members-set_value k w v (e ∷ es) h = set_by (bytes_eq k e.0.1) k w v e es h (entry_members-set_value k w v es)

  cut_by : (b : Bool) (e : Entry K V) (es fs : List (Entry K V)) (ms : Members) → all fs ≡ ms
      → all (if b then es else e ∷ fs) ≡ (if b then all es else member e.0.1 (tree e.1) ms)
  cut_by true e es fs ms h = refl
  cut_by false e es fs ms h = ap (member e.0.1 (tree e.1)) h

  pub entry_members-cut : (k : List ℕ) (es : List (Entry K V)) → all (cut_entry k es) ≡ members.cut k (all es)
  entry_members-cut k [] = refl
  entry_members-cut k (e ∷ es) = cut_by (bytes_eq k e.0.1) e es _ _ (entry_members-cut k es)
