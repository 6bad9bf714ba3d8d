use Rattle.std.proofs.Common.{string_bytes}
use Rattle.sj_text_core.specs.Tree.{paired}
use Rattle.sj_object.specs.Members.{entry_members}
use Rattle.sj_document.specs.Document.{document_tree}
use Rattle.sj_c.specs.Shown.{ShowsMember, ShowsFrom}
use Rattle.sj_c.proofs.members.show_members.Given as goal

abbrev pub invariant-loop-at : goal.invariant-loop-at
invariant-loop-at l = ShowsFrom ShowsMember l.from l.at l.out (paired (entry_members (document_tree string_bytes) l.members.entries))
