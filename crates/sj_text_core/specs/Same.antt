-- When two trees mean the same document: numbers by value, lists in order, objects by the first member of each text.
use Rattle.std.specs.Prelude.{◌≡◌, ℕ, List, Option, None, MatchBool, MatchOption, bytes_eq}
use Rattle.sj_text_core.specs.Tree.{Tree, null, boolean, int, text, list, obj, Items, no_items, item, Members, no_members, member}
use Rattle.sj_text_core.specs.Find.{find_member}

abbrev mutual
  pub Same : Tree → Tree → Type 0
  Same null u = u ≡ null
  Same (boolean b) u = u ≡ boolean b
  Same (int n c) (int m d) = n ≡ m
  Same (text s) u = u ≡ text s
  Same (list is) (list js) = SameItems is js
  -- each text has the same in both
  Same (obj ms) (obj ns) = (k : List ℕ) → SameAt k ms (find_member k ns)
  Same _ _ = ⊥

  pub SameItems : Items → Items → Type 0
  SameItems no_items js = js ≡ no_items
  SameItems (item t is) no_items = ⊥
  SameItems (item t is) (item u js) = Same t u × SameItems is js

  -- what the members have first at the text is absent, or the same as that
  pub SameAt : List ℕ → Members → Option Tree → Type 0
  SameAt k no_members found = found ≡ None
  SameAt k (member l t ms) found = MatchBool (bytes_eq k l) (MatchOption found ⊥ (λ u. Same t u)) (SameAt k ms found)
