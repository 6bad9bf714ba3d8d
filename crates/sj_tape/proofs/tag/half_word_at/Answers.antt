use Rattle.std.proofs.Common.{rules}
use Rattle.sj_tape.specs.inner.Tags.{half_word}
use Rattle.sj_tape.proofs.tag.half_word_at.Goals as goal

pub returns : goal.returns
unfolding half_word
returns c = search rules
