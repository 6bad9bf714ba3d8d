use Rattle.sj_tape.proofs.Digits.{each_digit, word_is}
use Rattle.sj_tape.proofs.reader.number.narrow_value.Goals as goal

pub returns : goal.returns
returns c = word_is c.args.digits.now c.read_digits-value.result.0 c.read_digits-value.result.1 (each_digit c.args.digits.now c.requires.digits) c.read_digits-value.ensures.end c.read_digits-value.ensures.value c.requires.few
