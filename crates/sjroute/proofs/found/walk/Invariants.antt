use Rattle.std.proofs.Common.{◌≡◌, map, drop, string_bytes}
use Rattle.sj_tape.specs.Value.{tape_tree, tape_choice}
use Rattle.sj_pointer.specs.Pointed.{pointed_by}
use Rattle.sjroute.proofs.found.walk.Given as goal

abbrev pub invariant-loop-token : goal.invariant-loop-token
invariant-loop-token l = record {
  found : pointed_by (tape_choice l.message) (map string_bytes (drop l.token-index l.tokens)) (tape_tree l.at) ≡ pointed_by (tape_choice l.message) (map string_bytes l.tokens) (tape_tree l.message);
  choice : tape_choice l.at ≡ tape_choice l.message;
}
