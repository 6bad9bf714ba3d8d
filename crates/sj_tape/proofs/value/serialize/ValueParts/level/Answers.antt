use Rattle.sj_tape.specs.Items.{items}
use Rattle.sj_tape.specs.Members.{members}
use Rattle.sj_tape.specs.Value.{tape_tree}
use Rattle.sj_tape.proofs.Containers.{array_from, object_from}
use Rattle.sj_tape.proofs.value.serialize.ValueParts.level.Goals as goal

pub returns-in-Some : goal.returns-in-Some
returns-in-Some c = array_from (tape_tree c.args.self.now) (items c.in-Some.items) _ c.iter.ensures.items c.in-Some.ensures.items

pub returns-in-Some-as_object : goal.returns-in-Some-as_object
returns-in-Some-as_object c =
    object_from (tape_tree c.args.self.now) (members c.in-Some-as_object.members) _ c.iter-in-Object.ensures.members c.in-Some-as_object.ensures.members
