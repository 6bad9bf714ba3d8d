use Rattle.sj_tape.proofs.Yielded.{member_yields}
use Rattle.sj_tape.proofs.value.serialize.ValueParts.next_member.Goals as goal

pub returns : goal.returns
returns c = member_yields c.args.members.now c.next.result c.next.new.self c.next.ensures.steps
