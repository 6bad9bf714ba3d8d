use Rattle.std.proofs.Common.{◌≡◌, ◌++◌, map, string_bytes}
use Rattle.std.specs.Vec.Iter.{into_iter_items}
use Rattle.sj_pointer.specs.Pointed.{path_of}
use Rattle.sj_commands.specs.Meant.{path_meant}
use Rattle.sj_commands.proofs.command.line.token_steps.Given as goal

abbrev pub invariant-loop-token : goal.invariant-loop-token
invariant-loop-token l = path_meant l.steps.items ++ path_of (map string_bytes (into_iter_items l.token-iterator)) ≡ path_of (map string_bytes l.fn.tokens.items)
