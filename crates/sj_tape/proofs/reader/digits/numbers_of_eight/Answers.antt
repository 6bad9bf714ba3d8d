use Rattle.sj_tape.proofs.Sixteens.{eights_are}
use Rattle.sj_tape.proofs.reader.digits.numbers_of_eight.Goals as goal

pub returns : goal.returns
returns c = eights_are c.args.lanes c.numbers_of_four.result c.fits-lanes.0 c.fits-lanes.1 c.numbers_of_four.ensures
