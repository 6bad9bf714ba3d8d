use Rattle.std.proofs.Common.{◌≡◌, ◌++◌, map}
use Rattle.std.specs.Vec.Iter.{into_iter_items}
use Rattle.sj_run.specs.Repeats.{replies_by, part_after}
use Rattle.sj_commands.specs.Meant.{command_meant}
use Rattle.sj_run.specs.Meant.{reply_meant}
use Rattle.sj_run.proofs.runs.run.Given as goal

abbrev pub invariant-loop-command : goal.invariant-loop-command
invariant-loop-command g l = record {
  told : map reply_meant l.done.items ≡ replies_by (g.D.Document.part l.fn.document) (map command_meant l.yielded);
  after : g.D.Document.part l.document ≡ part_after (g.D.Document.part l.fn.document) (map command_meant l.yielded);
  all : l.fn.commands.items ≡ l.yielded ++ into_iter_items l.command-iterator;
}
