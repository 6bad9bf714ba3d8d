use Rattle.std.proofs.Common.{◌∙◌, arith}
use Rattle.sj_tape.proofs.Tags.{tag_few, tag_halves, tag_words}
use Rattle.sj_tape.proofs.tag.tag_of.Goals as goal

pub returns : goal.returns
returns c = c.tag_of_few.ensures ∙ tag_few c.args.text.now (omega (arith, c.if-len-ge4.false))

pub returns-then-len-ge8 : goal.returns-then-len-ge8
returns-then-len-ge8 c =
    c.mix.ensures ∙ tag_words c.args.text.now c.word_at.result c.word_at-middle.result c.word_at-then-len-ge8.result (omega (arith, c.if-len-ge8.true)) c.word_at.ensures c.word_at-middle.ensures c.word_at-then-len-ge8.ensures

pub returns-then-len-ge4 : goal.returns-then-len-ge4
returns-then-len-ge4 c =
    c.mix-then-len-ge4.ensures ∙ tag_halves c.args.text.now c.half_word_at.result c.half_word_at-then-len-ge4.result (omega (arith, c.if-len-ge4.true)) (omega (arith, c.if-len-ge8.false)) c.half_word_at.ensures c.half_word_at-then-len-ge4.ensures
