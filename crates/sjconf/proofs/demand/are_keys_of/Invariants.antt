use Rattle.std.proofs.Common.{◌≡◌, length, map, string_bytes}
use Rattle.sj_text_core.specs.Tree.{keys_of}
use Rattle.sj_object.specs.Entries.{entries_of}
use Rattle.sj_object.specs.Members.{entry_members}
use Rattle.sj_document.specs.Document.{document_tree}
use Rattle.sjconf.specs.Demands.{are_of}
use Rattle.sjconf.proofs.demand.are_keys_of.Given as goal

abbrev pub invariant-loop-key : goal.invariant-loop-key
invariant-loop-key l = are_of (map string_bytes l.keys) (keys_of (entry_members (document_tree string_bytes) (entries_of string_bytes l.left))) ≡ are_of (map string_bytes l.keys) (keys_of (entry_members (document_tree string_bytes) l.members.entries))

abbrev pub decreases-loop-key : goal.decreases-loop-key
decreases-loop-key l = length l.left
