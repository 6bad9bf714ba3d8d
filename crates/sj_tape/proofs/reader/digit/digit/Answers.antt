use Rattle.std.proofs.Common.{◌∙◌, get_or}
use Rattle.std.specs.Char.{digit_value}
use Rattle.sj_tape.specs.declared.reader.digit.TheConstants.{DIGITS}
use Rattle.sj_print.proofs.Lanes.{agree}
use Rattle.sj_tape.proofs.reader.digit.digit.Goals as goal

pub returns : goal.returns
returns c = c.from.ensures ∙ agree (λ x. get_or DIGITS x 0) digit_value tt c.args.byte c.ranges.byte.fits
