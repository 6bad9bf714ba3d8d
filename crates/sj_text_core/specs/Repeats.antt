-- Lookups, kept trees and sameness where the first or the last member of a text counts (RFC 8259, section 4, leaves repeats open).
-- With the choice First each word here is the one of Find, Keep and Same.
use Rattle.std.specs.Prelude.{ℕ, suc, List, if◌then◌else◌, Option, Some, None, bytes_eq}
use Rattle.std.specs.Option.{option_or}
use Rattle.sj_text_core.specs.Tree.{Tree, null, boolean, int, text, list, obj, Items, no_items, item, Members, no_members, member, members_len}
use Rattle.sj_text_core.specs.Find.{find, find_member}
use Rattle.sj_text_core.specs.Keep.{keep}
use Rattle.sj_text_core.specs.Edits.{put}
use Rattle.sj_text_core.specs.Same.{Same}
use Rattle.sj_text_core.specs.declared.repeats.Repeats.{Repeats}
use Rattle.sj_text_core.specs.declared.repeats.Repeats.TheVariants.{First, Last}

-- the value of the last member with that text
abbrev pub find_last_member : List ℕ → Members → Option Tree
find_last_member k no_members = None
find_last_member k (member l t ms) = option_or (find_last_member k ms) (if bytes_eq k l then Some t else None)

-- in an object the value of the last member with that text; else absent
abbrev pub find_last : List ℕ → Tree → Option Tree
find_last k (obj ms) = find_last_member k ms
find_last k _ = None

-- the value of the member with that text that counts
abbrev pub find_member_by : Repeats → List ℕ → Members → Option Tree
find_member_by First k ms = find_member k ms
find_member_by Last k ms = find_last_member k ms

abbrev pub find_by : Repeats → List ℕ → Tree → Option Tree
find_by First k t = find k t
find_by Last k t = find_last k t

-- the members put in turn behind those that are done: each text has its last value, in the place of the first
abbrev pub put_all : Members → Members → Members
put_all done no_members = done
put_all done (member k t ms) = put_all (put k t done) ms

-- in every object, at every depth, a text has its last value, in the place of the first
abbrev mutual
  pub keep_last : Tree → Tree
  keep_last null = null
  keep_last (boolean b) = boolean b
  keep_last (int n c) = int n c
  keep_last (text s) = text s
  keep_last (list is) = list (keep_last_items is)
  keep_last (obj ms) = obj (put_all no_members (keep_last_values ms))

  pub keep_last_items : Items → Items
  keep_last_items no_items = no_items
  keep_last_items (item t is) = item (keep_last t) (keep_last_items is)

  -- the members, repeats too, with each value kept
  pub keep_last_values : Members → Members
  keep_last_values no_members = no_members
  keep_last_values (member k t ms) = member k (keep_last t) (keep_last_values ms)

-- the tree with the member of each text that counts
abbrev pub keep_by : Repeats → Tree → Tree
keep_by First t = keep t
keep_by Last t = keep_last t

-- the tree whose first members are those that count
abbrev pub by_first : Repeats → Tree → Tree
by_first First t = t
by_first Last t = keep_last t

-- the same document, each side by its own choice
abbrev pub SameBy : Repeats → Repeats → Tree → Tree → Type 0
SameBy c d t u = Same (by_first c t) (by_first d u)

-- how many members a lookup compares: those up to the first with the text, all where there is none
abbrev pub visited : List ℕ → Members → ℕ
visited k no_members = 0
visited k (member l t ms) = if bytes_eq k l then 1 else suc (visited k ms)

-- all of them where the last counts
abbrev pub visited_by : Repeats → List ℕ → Members → ℕ
visited_by First k ms = visited k ms
visited_by Last k ms = members_len ms

-- so many in an object; none elsewhere
abbrev pub visited_in : Repeats → List ℕ → Tree → ℕ
visited_in c k (obj ms) = visited_by c k ms
visited_in c k _ = 0
