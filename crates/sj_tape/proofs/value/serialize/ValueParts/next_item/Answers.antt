use Rattle.sj_tape.proofs.Yielded.{item_yields}
use Rattle.sj_tape.proofs.value.serialize.ValueParts.next_item.Goals as goal

pub returns : goal.returns
returns c = item_yields c.args.items.now c.next.result c.next.new.self c.next.ensures.steps
