use Rattle.std.proofs.Common.{length}
use Rattle.sj_tests_map.proofs.map.hashed.empties.Given as goal

abbrev pub decreases-loop-list : goal.decreases-loop-list
decreases-loop-list g l = length l.list.items
