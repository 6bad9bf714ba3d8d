-- What private clauses alone cite beside Merge.
use Rattle.std.specs.Prelude.{ℕ, List, if◌then◌else◌}
use Rattle.sj_text_core.specs.Tree.{Tree, Members}
use Rattle.sj_text_core.specs.Find.{find_member}
use Rattle.sj_text_core.specs.Edits.{put, cut}
use Rattle.sj_merge.specs.Merge.{is_null, merged}

-- one such pair
abbrev pub merged_pair : List ℕ → Tree → Members → Members
merged_pair k v ms = if is_null v then cut k ms else put k (merged (find_member k ms) v) ms
