-- What tokens find in a tree (RFC 6901, section 4): the path of their steps.
use Rattle.std.specs.Prelude.{ℕ, List, map, Option}
use Rattle.sj_text_core.specs.Tree.{Tree}
use Rattle.sj_text_core.specs.Paths.{Step, by_token, step_into_by, tree_at_by, set_at}
use Rattle.sj_text_core.specs.declared.repeats.Repeats.{Repeats}
use Rattle.sj_text_core.specs.declared.repeats.Repeats.TheVariants.{First}

-- a step for each token
abbrev pub path_of : List (List ℕ) → List Step
path_of ks = map by_token ks

-- what a token finds, where that member of several with one key counts; none where it names no position on an array, or no key of an object, and on anything else
abbrev pub token_into : Repeats → List ℕ → Tree → Option Tree
token_into c k t = step_into_by c (by_token k) t

-- what tokens find, one after another; the tree itself where there are none
abbrev pub pointed_by : Repeats → List (List ℕ) → Tree → Option Tree
pointed_by c ks t = tree_at_by c (path_of ks) t

-- the same, where the first member counts
abbrev pub pointed : List (List ℕ) → Tree → Option Tree
pointed ks t = pointed_by First ks t

-- the tree with u in the place of what tokens find; the tree itself where they find nothing
abbrev pub set_pointed : List (List ℕ) → Tree → Tree → Tree
set_pointed ks u t = set_at (path_of ks) u t
