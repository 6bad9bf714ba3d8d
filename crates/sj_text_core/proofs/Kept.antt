-- Keeping the first members again changes nothing.
use Rattle.std.proofs.Common.{◌≡◌, ℕ, Bool, true, false, List, [], ◌∷◌, refl, ap, if◌then◌else◌}
use Rattle.sj_text_core.specs.Tree.{Tree, null, boolean, int, text, list, obj, Items, no_items, item, Members, no_members, member}
use Rattle.sj_text_core.specs.Keep.{is_seen, keep, keep_items, keep_members}

-- one member, by whether its text was seen
by_member : (seen : List (List ℕ)) (k : List ℕ) (t : Tree) (dropped stays : Members) (b : Bool) → is_seen k seen ≡ b
    → keep_members seen dropped ≡ dropped → keep t ≡ t → keep_members (k ∷ seen) stays ≡ stays
    → keep_members seen (if b then dropped else member k t stays) ≡ (if b then dropped else member k t stays)
by_member seen k t dropped stays true e h i j = h
by_member seen k t dropped stays false e h i j =
    λ x. if e x then keep_members seen stays else member k (i x) (j x)

mutual
  pub keep-keep : (t : Tree) → keep (keep t) ≡ keep t
  keep-keep null = refl
  keep-keep (boolean b) = refl
  keep-keep (int n c) = refl
  keep-keep (text s) = refl
  keep-keep (list is) = ap list (keep_items-keep_items is)
  keep-keep (obj ms) = ap obj (keep_members-keep_members [] ms)

  keep_items-keep_items : (is : Items) → keep_items (keep_items is) ≡ keep_items is
  keep_items-keep_items no_items = refl
  keep_items-keep_items (item t is) = λ x. item (keep-keep t x) (keep_items-keep_items is x)

  keep_members-keep_members : (seen : List (List ℕ)) (ms : Members) → keep_members seen (keep_members seen ms) ≡ keep_members seen ms
  keep_members-keep_members seen no_members = refl
  keep_members-keep_members seen (member k t ms) =
      by_member seen k (keep t) (keep_members seen ms) (keep_members (k ∷ seen) ms) (is_seen k seen) refl
      (keep_members-keep_members seen ms) (keep-keep t) (keep_members-keep_members (k ∷ seen) ms)
