-- One document over another.
use Rattle.std.specs.Prelude.{◌≡◌, Option, Some, None, unwrap_or}
use Rattle.sj_text_core.specs.Tree.{Tree, null, boolean, int, text, list, obj, Members, no_members, member}
use Rattle.sj_text_core.specs.Find.{find_member}
use Rattle.sj_text_core.specs.Edits.{put}

abbrev pub own_members : Tree → Members
own_members (obj ms) = ms
own_members t = no_members

-- of an object all, of anything else the upper members alone
abbrev pub covered : Tree → Members → Members → Tree
covered (obj ms) ns all = obj all
covered t ns all = obj ns

abbrev pub found_or : Option Tree → Tree → Tree → Tree
found_or None u v = u
found_or (Some t) u v = v

-- of two objects the members of the upper one are put over those of the lower one, in turn, and where the lower one has the key, over its value; else the upper one is left
abbrev mutual
  pub merged : Tree → Tree → Tree
  merged t null = null
  merged t (boolean b) = boolean b
  merged t (int n c) = int n c
  merged t (text s) = text s
  merged t (list is) = list is
  merged t (obj ns) = covered t ns (merged_members (own_members t) ns)

  pub merged_members : Members → Members → Members
  merged_members ms no_members = ms
  merged_members ms (member k u ns) = merged_members (put k (found_or (find_member k ms) u (merged (unwrap_or (find_member k ms) null) u)) ms) ns

-- an object without members over an object leaves it as it is
abbrev pub NothingOver : Type 0
NothingOver = (ms : Members) → merged (obj ms) (obj no_members) ≡ obj ms
