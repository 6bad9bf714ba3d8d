use Rattle.sj_tape.proofs.Sixteens.{moved_ok, moved_lanes}
use Rattle.sj_tape.proofs.reader.digits.move_to_end.Goals as goal

pub swizzle : goal.swizzle
swizzle c = moved_ok c.args.lanes c.args.count c.fits-lanes.0 c.requires

pub returns : goal.returns
returns c = moved_lanes c.args.lanes c.args.count c.fits-lanes.0 c.requires
