use Rattle.std.proofs.Common.{◌∙◌, true, false}
use Rattle.sj_text_core.specs.Tree.{null, boolean}
use Rattle.sj_text_core.specs.inner.Parse.{nothing_at}
use Rattle.sj_tape.proofs.Scalars.{null_at, true_at, false_at, on_err}
use Rattle.sj_tape.proofs.reader.value.read_word.Goals as goal

pub returns-in_err-word_end-in-110-clause-err : goal.returns-in_err-word_end-in-110-clause-err
returns-in_err-word_end-in-110-clause-err c = on_err _ (null_at nothing_at nothing_at c.args.bytes.now 0 c.requires.some c.in-110.is ∙ c.in_err-word_end-in-110.ensures.err null)

pub returns-in_err-word_end-in-116-clause-err : goal.returns-in_err-word_end-in-116-clause-err
returns-in_err-word_end-in-116-clause-err c = on_err _ (true_at nothing_at nothing_at c.args.bytes.now 0 c.requires.some c.in-116.is ∙ c.in_err-word_end-in-116.ensures.err (boolean true))

pub returns-in_err-word_end-in-102-clause-err : goal.returns-in_err-word_end-in-102-clause-err
returns-in_err-word_end-in-102-clause-err c = on_err _ (false_at nothing_at nothing_at c.args.bytes.now 0 c.requires.some c.in-102.is ∙ c.in_err-word_end-in-102.ensures.err (boolean false))

pub returns-in_ok-word_end-in-110-clause-ok : goal.returns-in_ok-word_end-in-110-clause-ok
returns-in_ok-word_end-in-110-clause-ok c = null_at nothing_at nothing_at c.args.bytes.now 0 c.requires.some c.in-110.is ∙ c.in_ok-word_end-in-110.ensures.ok null

pub returns-in_ok-word_end-in-116-clause-ok : goal.returns-in_ok-word_end-in-116-clause-ok
returns-in_ok-word_end-in-116-clause-ok c = true_at nothing_at nothing_at c.args.bytes.now 0 c.requires.some c.in-116.is ∙ c.in_ok-word_end-in-116.ensures.ok (boolean true)

pub returns-in_ok-word_end-in-102-clause-ok : goal.returns-in_ok-word_end-in-102-clause-ok
returns-in_ok-word_end-in-102-clause-ok c = false_at nothing_at nothing_at c.args.bytes.now 0 c.requires.some c.in-102.is ∙ c.in_ok-word_end-in-102.ensures.ok (boolean false)
