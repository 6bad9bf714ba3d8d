use Rattle.std.proofs.Common.{[], ◌∷◌, map}
use Rattle.std.specs.Vec.Iter.{into_iter_items}
use Rattle.sj_commands.specs.Meant.{command_meant}
use Rattle.sj_run.specs.Meant.{reply_meant}
use Rattle.sj_run.proofs.Series.{stays, may_refuse, told_last, after_last, asked_apart, all_last}
use Rattle.sj_run.proofs.runs.run.Goals as goal
use Rattle.std.proofs.lemmas.List.{map-append}

pub returns-then-is_err-clause-fault : goal.returns-then-is_err-clause-fault
returns-then-is_err-clause-fault g c = record {
  before = map command_meant c.loop-command.yielded;
  refused = command_meant c.in-Some.command;
  behind = map command_meant (into_iter_items c.next.new.self);
  are = asked_apart c.args.commands.items c.loop-command.yielded (into_iter_items c.next.new.self) c.in-Some.command (into_iter_items c.loop-command.command-iterator) c.loop-command.invariant.all c.in-Some.ensures.steps.0;
  told = rw c.reserve.ensures.items c.loop-command.invariant.told;
  may = tt;
  leaves = stays _ _ _ c.loop-command.invariant.after;
}

pub loop-command-preserved : goal.loop-command-preserved
loop-command-preserved g c =
    let t = g.D.Document.part c.args.document.now in
    record {
      told = told_last t _ (map reply_meant c.loop-command.done.items) c.loop-command.yielded c.in-Some.command (reply_meant c.in-Ok.reply)
          (rw (c.push.ensures.items, c.unwrap.ensures, c.reserve.ensures.items) (map-append reply_meant c.loop-command.done.items (c.in-Ok.reply ∷ []))) c.loop-command.invariant.told
          (rw (← c.loop-command.invariant.after) c.in-Ok.ensures.reply);
      after = after_last t _ c.loop-command.yielded c.in-Some.command (rw (← c.loop-command.invariant.after) c.in-Ok.ensures.after);
      all = all_last _ c.loop-command.yielded (into_iter_items c.next.new.self) c.in-Some.command _ c.loop-command.invariant.all c.in-Some.ensures.steps.0;
    }

pub returns-in-Err-clause-fault : goal.returns-in-Err-clause-fault
returns-in-Err-clause-fault g c = record {
  before = map command_meant c.loop-command.yielded;
  refused = command_meant c.in-Some.command;
  behind = map command_meant (into_iter_items c.next.new.self);
  are = asked_apart c.args.commands.items c.loop-command.yielded (into_iter_items c.next.new.self) c.in-Some.command (into_iter_items c.loop-command.command-iterator) c.loop-command.invariant.all c.in-Some.ensures.steps.0;
  told = rw c.reserve.ensures.items c.loop-command.invariant.told;
  may = may_refuse _ _ (command_meant c.in-Some.command) c.in-Err.why c.loop-command.invariant.after c.in-Err.ensures.too_long.0;
  leaves = rw (← c.loop-command.invariant.after) c.in-Err.ensures.refused;
}
