use Rattle.std.proofs.Common.{◌≡◌, ◌++◌, map, string_bytes, length}
use Rattle.sj_text_core.specs.Tree.{keys_of, members_from}
use Rattle.sj_run.proofs.find.found.keys_copied.Given as goal

abbrev pub invariant-loop-key : goal.invariant-loop-key
invariant-loop-key g l =
    let left = g.P.Parts.members_left in
    record {
      copied : map string_bytes l.copies.items ++ keys_of (members_from (left l.members)) ≡ keys_of (members_from (left l.fn.members));
    }

abbrev pub decreases-loop-key : goal.decreases-loop-key
decreases-loop-key g l = length (g.P.Parts.members_left l.members)
