-- A tree with a value put where tokens lead, and objects made where something is missing on the way.
use Rattle.std.specs.Prelude.{ℕ, List, [], ◌∷◌, Option, Some, None, option_map}
use Rattle.sj_text_core.specs.Tree.{Tree, obj, member, no_members}
use Rattle.sj_text_core.specs.Edits.{put}
use Rattle.sj_text_core.specs.Paths.{by_token, set_found}
use Rattle.sj_text_core.specs.declared.repeats.Repeats.TheVariants.{First}
use Rattle.sj_pointer.specs.Pointed.{token_into}

-- an object for each token, each the one member of the one before, and u in the last; u where there is no token
abbrev pub nested : List (List ℕ) → Tree → Tree
nested [] u = u
nested (k ∷ ks) u = obj (member k (nested ks u) no_members)

-- an object with u at the key; nothing else takes a member
abbrev pub member_added : List ℕ → Tree → Tree → Option Tree
member_added k u (obj ms) = Some (obj (put k u ms))
member_added k u t = None

-- what the token found is changed by f in its place; where it found nothing, u is added
abbrev pub set_within : Option Tree → List ℕ → (Tree → Option Tree) → Tree → Tree → Option Tree
set_within (Some v) k f u t = option_map (λ w. set_found (by_token k) w t) (f v)
set_within None k f u t = member_added k u t

-- the tree with u where the tokens lead; a key that an object lacks is put behind its members, with an object for each token behind it; nothing where a token finds nothing in an array or a scalar
abbrev pub set_made : List (List ℕ) → Tree → Tree → Option Tree
set_made [] u t = Some u
set_made (k ∷ ks) u t = set_within (token_into First k t) k (set_made ks u) (nested ks u) t
