-- What holds of edits: what is found after one, and what two at one place leave.
use Rattle.std.specs.Prelude.{◌≡◌, ◌≢◌, ℕ, List, ◌++◌, Option, Some, None, option_and_then}
use Rattle.sj_text_core.specs.Tree.{Tree, Items, items_len, Members}
use Rattle.sj_text_core.specs.Find.{find_member, nth_item}
use Rattle.sj_text_core.specs.Keep.{HasSingle}
use Rattle.sj_text_core.specs.Edits.{put, cut, push, front, last}
use Rattle.sj_text_core.specs.Paths.{Step, tree_at, set_at}

-- what was put is found
abbrev pub FindsPut : Type 0
FindsPut = (k : List ℕ) (t : Tree) (ms : Members) → find_member k (put k t ms) ≡ Some t

-- after a put other texts find what they found
abbrev pub FindsOthersPut : Type 0
FindsOthersPut = (k l : List ℕ) (t : Tree) (ms : Members) → k ≢ l → find_member k (put l t ms) ≡ find_member k ms

-- what was cut is gone, where no text names two members
abbrev pub CutIsGone : Type 0
CutIsGone = (k : List ℕ) (ms : Members) → HasSingle ms → find_member k (cut k ms) ≡ None

-- after a cut other texts find what they found
abbrev pub FindsOthersCut : Type 0
FindsOthersCut = (k l : List ℕ) (ms : Members) → k ≢ l → find_member k (cut l ms) ≡ find_member k ms

-- what was pushed is last, behind the items that were there
abbrev pub PushedIsLast : Type 0
PushedIsLast = (t : Tree) (is : Items) → (last (push t is) ≡ Some t) × (front (push t is) ≡ is) × (nth_item (items_len is) (push t is) ≡ Some t)

-- what was set at a path is there, if anything stood there
abbrev pub SetIsThere : Type 0
SetIsThere = (p : List Step) (u w t : Tree) → tree_at p t ≡ Some w → tree_at p (set_at p u t) ≡ Some u

-- where nothing stands at a path, nothing is set
abbrev pub SetNowhere : Type 0
SetNowhere = (p : List Step) (u t : Tree) → tree_at p t ≡ None → set_at p u t ≡ t

-- of two writes at one path the second counts
abbrev pub SetTwice : Type 0
SetTwice = (p : List Step) (u v t : Tree) → set_at p u (set_at p v t) ≡ set_at p u t

-- what stands at a path, set there, changes nothing
abbrev pub SetSame : Type 0
SetSame = (p : List Step) (u t : Tree) → tree_at p t ≡ Some u → set_at p u t ≡ t

-- a path of two parts leads to where the second leads from where the first does, and sets there
abbrev pub PathsJoin : Type 0
PathsJoin = (p q : List Step) (t : Tree) → (tree_at (p ++ q) t ≡ option_and_then (tree_at q) (tree_at p t)) × ((u w : Tree) → tree_at p t ≡ Some w → set_at (p ++ q) u t ≡ set_at p (set_at q u w) t)
