use Rattle.std.proofs.Common.{rules}
use Rattle.sj_tape.specs.inner.Tags.{word}
use Rattle.sj_tape.proofs.tag.word_at.Goals as goal

pub returns : goal.returns
unfolding word
returns c = search rules
