use Rattle.sj_pointer.proofs.Written.{tokens_spell, written_read}
use Rattle.sj_pointer.proofs.laws.texts_are_read.Goals as goal

pub returns : goal.returns
returns c = λ ks. let w = written_read ks in (tokens_spell ks, w.0, w.1, w.2)
