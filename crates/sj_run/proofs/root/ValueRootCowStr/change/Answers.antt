use Rattle.std.proofs.Common.{map, string_bytes}
use Rattle.std.specs.Cow.{cow_str_bytes}
use Rattle.sj_commands.specs.Meant.{step_meant, write_meant}
use Rattle.sj_run.proofs.Kept.{short_edit}
use Rattle.sj_run.proofs.Lazies.{lazy_reply, lazy_after, lazy_refused}
use Rattle.sj_run.proofs.root.ValueRootCowStr.change.Goals as goal

pub returns-in_err-made-clause-short : goal.returns-in_err-made-clause-short
returns-in_err-made-clause-short c = short_edit (map step_meant c.args.path.now) (write_meant string_bytes c.args.write.now) _

pub returns : goal.returns
returns c =
    let v = c.args.self.now in
    let n = c.change_lazy.new.value in
    let p = map step_meant c.args.path.now in
    let w = write_meant string_bytes c.args.write.now in
    let x = write_meant cow_str_bytes c.in_ok-made.made in
    let told = c.change_lazy.ensures in
    record {
      reply = lazy_reply v n p w x c.in_ok-made.ensures c.change_lazy.result told.reply;
      after = lazy_after v n p w x c.in_ok-made.ensures c.change_lazy.result told.after;
      refused = lazy_refused v n p w c.change_lazy.result told.refused;
      short = short_edit p w _;
    }
