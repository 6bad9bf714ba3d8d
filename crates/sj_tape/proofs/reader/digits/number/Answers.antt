use Rattle.sj_tape.proofs.Sixteens.{sixteen_is}
use Rattle.sj_tape.proofs.reader.digits.number.Goals as goal

pub returns : goal.returns
returns c = (sixteen_is c.args.lanes c.numbers_of_eight-eights.result c.fits-lanes.0 c.fits-lanes.1 c.numbers_of_eight-eights.ensures).2
