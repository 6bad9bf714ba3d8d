-- What the operations of a patch are on a tree (RFC 6902, section 4).
use Rattle.std.specs.Prelude.{ℕ, Bool, true, false, List, Option, Some, None, option_map, option_and_then, if◌then◌else◌, nat_le, nat_lt, bytes_eq, codes}
use Rattle.sj_text_core.specs.Tree.{Tree, list, obj, Items, items_len, Members}
use Rattle.sj_text_core.specs.Find.{find_member}
use Rattle.sj_text_core.specs.Edits.{put, cut, push}
use Rattle.sj_text_core.specs.Places.{position_of}
use Rattle.sj_document.specs.Items.{insert_at, remove_at}
use Rattle.sj_path.specs.Pointed.{pointed, set_pointed}

-- the items with u at the end, or at a position up to that
abbrev pub insert_placed : Bool → Option ℕ → Tree → Items → Option Items
insert_placed true o u is = Some (push u is)
insert_placed false None u is = None
insert_placed false (Some i) u is = if nat_le i (items_len is) then Some (insert_at i u is) else None

-- the items without the one at a position, where there is one
abbrev pub remove_placed : Option ℕ → Items → Option Items
remove_placed None is = None
remove_placed (Some i) is = if nat_lt i (items_len is) then Some (remove_at i is) else None

-- a container with u at the token: at a position of a list, behind it at `-`, or at a key of an object
abbrev pub with_token : List ℕ → Tree → Tree → Option Tree
with_token k u (list is) = option_map list (insert_placed (bytes_eq k (codes "-")) (position_of k) u is)
with_token k u (obj ms) = Some (obj (put k u ms))
with_token k u t = None

abbrev pub cut_found : List ℕ → Option Tree → Members → Option Tree
cut_found k None ms = None
cut_found k (Some u) ms = Some (obj (cut k ms))

-- a container without what is at the token
abbrev pub without_token : List ℕ → Tree → Option Tree
without_token k (list is) = option_map list (remove_placed (position_of k) is)
without_token k (obj ms) = cut_found k (find_member k ms) ms
without_token k t = None

-- the tree with what the pointer finds changed by f, where it finds something that f changes
abbrev pub edited : (Tree → Option Tree) → List (List ℕ) → Tree → Option Tree
edited f p t = option_map (λ u. set_pointed p u t) (option_and_then f (pointed p t))

-- a place: the pointer of a container, and a token in it; without a token the whole tree
abbrev pub Spot : Type 0
Spot = List (List ℕ) × Option (List ℕ)

abbrev pub added_at : List (List ℕ) → Option (List ℕ) → Tree → Tree → Option Tree
added_at p None u t = Some u
added_at p (Some k) u t = edited (with_token k u) p t

-- section 4.1
abbrev pub added : Spot → Tree → Tree → Option Tree
added s u t = added_at s.0 s.1 u t

abbrev pub removed_at : List (List ℕ) → Option (List ℕ) → Tree → Option Tree
removed_at p None t = None
removed_at p (Some k) t = edited (without_token k) p t

-- section 4.2
abbrev pub removed : Spot → Tree → Option Tree
removed s t = removed_at s.0 s.1 t
