use Rattle.std.proofs.Common.{◌≡◌, map, drop, string_bytes}
use Rattle.sj_tape.specs.Value.{tape_tree, tape_choice}
use Rattle.sj_pointer.specs.Pointed.{pointed_by}
use Rattle.sj_path.proofs.lazy.find_on_tape.Given as goal

abbrev pub invariant-loop-token : goal.invariant-loop-token
invariant-loop-token l = record {
  found : pointed_by (tape_choice l.part) (map string_bytes (drop l.token-index l.tokens)) (tape_tree l.at) ≡ pointed_by (tape_choice l.part) (map string_bytes l.tokens) (tape_tree l.part);
  choice : tape_choice l.at ≡ tape_choice l.part;
}
