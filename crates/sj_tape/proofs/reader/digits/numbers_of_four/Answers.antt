use Rattle.std.proofs.lemmas.Simd.{dot4_Fits}
use Rattle.sj_tape.proofs.Sixteens.{fours_are}
use Rattle.sj_tape.proofs.reader.digits.numbers_of_four.Goals as goal

pub dot4-tens : goal.dot4-tens
dot4-tens c = (dot4_Fits c.args.lanes _ c.fits-lanes.1 tt, tt)

pub dot4-ones : goal.dot4-ones
dot4-ones c = (dot4_Fits c.args.lanes _ c.fits-lanes.1 tt, tt)

pub returns : goal.returns
returns c = fours_are c.args.lanes c.fits-lanes.0 c.fits-lanes.1
