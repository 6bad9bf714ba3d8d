use Rattle.std.proofs.Common.{refl, sym, arith, length}
use Rattle.std.specs.Int.{w32}
use Rattle.sj_text_core.proofs.Words.{by_words}
use Rattle.sj_text_core.proofs.bytes.are_same_short.Goals as goal

pub returns : goal.returns
returns c =
    let x = c.half_word_at.ensures in
    let y = c.half_word_at-2.ensures in
    let u = c.half_word_at-3.ensures in
    let v = c.half_word_at-4.ensures in
    by_words w32 4 (length c.args.a.now) c.args.a.now c.args.b.now _ _ _ _ refl (sym c.requires.same) (omega arith) (omega arith)
    (record { value = x.value; bytes = x.bytes }) (record { value = y.value; bytes = y.bytes }) c.if-half_word_at.false (record { value = u.value; bytes = u.bytes }) (record { value = v.value; bytes = v.bytes })
