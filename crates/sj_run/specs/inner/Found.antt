-- What a read has found. Only private clauses cite it.
use Rattle.std.specs.Prelude.{ℕ, Option, Some, None}
use Rattle.sj_text_core.specs.Print.{compact, pretty}
use Rattle.sj_text_core.specs.Reads.{as_members}
use Rattle.sj_text_core.specs.Tree.{Tree}
use Rattle.sj_run.specs.Answers.{keys_reply}
use Rattle.sj_run.specs.Replies as said
use Rattle.sj_run.specs.declared.find.found.Found.{Found}
use Rattle.sj_run.specs.declared.find.found.Found.TheVariants as found

-- how many items or members a value has, where it has some
abbrev pub len_meant : Option ℕ → said.PlainReply
len_meant (Some n) = said.count n
len_meant None = said.no_length

-- t gives the tree of a place
module _ {P : Type 0} (t : P → Tree) where
  abbrev pub found_meant : Found P → said.PlainReply
  found_meant (found.Kind k) = said.kind k
  found_meant (found.Truth b) = said.truth b
  found_meant (found.Text s) = said.text s.now
  found_meant (found.Count n) = said.count n
  found_meant (found.Keys p) = keys_reply (as_members (t p.now))
  found_meant (found.Print p) = said.printed (compact (t p.now))
  found_meant (found.Pretty p) = said.printed (pretty 0 (t p.now))
  found_meant found.NotAString = said.not_a_string
  found_meant found.NoLength = said.no_length
