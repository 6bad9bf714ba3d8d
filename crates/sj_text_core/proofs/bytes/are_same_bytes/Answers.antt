use Rattle.std.proofs.Common.{refl, sym, arith, length}
use Rattle.std.specs.Int.{w64}
use Rattle.sj_text_core.proofs.Words.{by_words}
use Rattle.sj_text_core.proofs.bytes.are_same_bytes.Goals as goal

pub returns-then-len-le16 : goal.returns-then-len-le16
returns-then-len-le16 c =
    let x = c.word_at.ensures in
    let y = c.word_at-2.ensures in
    let u = c.word_at-then-len-le16.ensures in
    let v = c.word_at-then-len-le16-2.ensures in
    by_words w64 8 (length c.args.a.now) c.args.a.now c.args.b.now _ _ _ _ refl (sym c.if-len-b.false) (omega arith) (omega arith)
    (record { value = x.value; bytes = x.bytes }) (record { value = y.value; bytes = y.bytes }) c.if-word_at.false (record { value = u.value; bytes = u.bytes }) (record { value = v.value; bytes = v.bytes })
