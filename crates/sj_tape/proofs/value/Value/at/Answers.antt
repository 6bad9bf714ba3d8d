use Rattle.std.proofs.Common.{rules, ◌+◌, ◌<◌, ◌^◌, take, drop, ap, sym, ◌∙◌, subst, arith}
use Rattle.sj_text_core.specs.Nodes.{IsPreorder}
use Rattle.sj_tape.specs.Stretches.{nodes_in}
use Rattle.sj_tape.proofs.Splits.{tree_at}
use Rattle.sj_tape.proofs.Stretched.{few}
use Rattle.sj_tape.proofs.value.Value.at.Goals as goal

pub overflow_add-place : goal.overflow_add-place
overflow_add-place c =
    let small : c.args.place + c.args.width < 2 ^ 64 = omega (arith, (tree_at c.args.place (nodes_in c.args.nodes.now) c.requires.begins).fits, few c.args.nodes.now, c.requires.wide) in
    search (rules, small)

pub between-requires-clause-within : goal.between-requires-clause-within
between-requires-clause-within c =
    omega (arith, (tree_at c.args.place (nodes_in c.args.nodes.now) c.requires.begins).fits, c.requires.wide)

pub from_nodes-requires : goal.from_nodes-requires
from_nodes-requires c =
    let p = c.args.place in
    let ns = nodes_in c.args.nodes.now in
    let same = c.between.ensures ∙ ap (λ n. drop p (take (p + n) ns)) c.requires.wide in
    subst IsPreorder (sym same) (tree_at p ns c.requires.begins).whole
