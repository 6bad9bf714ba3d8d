use Rattle.std.proofs.Common.{◌≡◌, ◌+◌, ◌≤◌, ◌^◌, IfOk, OnOk, OnErr, subst}
use Rattle.sj_tape.proofs.PackedCounts.{printed_len}
use Rattle.sj_tape.specs.inner.PackedTree.{packed_tree}
use Rattle.sj_tape.proofs.value.packed_tree.PackedTree.count.Goals as goal

pub returns-else-pretty-clause-ok : goal.returns-else-pretty-clause-ok
returns-else-pretty-clause-ok c =
    subst (λ len. IfOk c.count_compact.result (λ n. n ≡ c.args.before + len)) (printed_len c.args.pretty (packed_tree c.args.self.now) _ c.if-pretty.false c.nodes.ensures) c.count_compact.ensures.ok

pub returns-else-pretty-clause-err : goal.returns-else-pretty-clause-err
returns-else-pretty-clause-err c =
    subst (λ len. OnErr c.count_compact.result (2 ^ 64 ≤ c.args.before + len)) (printed_len c.args.pretty (packed_tree c.args.self.now) _ c.if-pretty.false c.nodes.ensures) c.count_compact.ensures.err

pub returns-else-pretty-clause-fits : goal.returns-else-pretty-clause-fits
returns-else-pretty-clause-fits c =
    subst (λ len. OnOk c.count_compact.result (c.args.before + len + 1 ≤ 2 ^ 64)) (printed_len c.args.pretty (packed_tree c.args.self.now) _ c.if-pretty.false c.nodes.ensures) c.count_compact.ensures.fits
