use Rattle.std.proofs.Common.{rules, arith, take, drop}
use Rattle.std.proofs.lemmas.Nat.{le_bytes_8}
use Rattle.sj_text_core.proofs.Words.{part_length, part_bytes}
use Rattle.sj_text_core.proofs.bytes.word_at.Goals as goal

pub returns-clause-bytes : goal.returns-clause-bytes
returns-clause-bytes c =
    let a = c.args.bytes.now in
    le_bytes_8 (take 8 (drop c.args.at a)) c.from_le_bytes.result (part_length 8 c.args.at a c.requires) (part_bytes 8 c.args.at a (λ i. let h = c.type_inv.bytes i in omega arith)) (search rules)
