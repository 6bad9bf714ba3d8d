use Rattle.std.proofs.Common.{◌∙◌, ◌+◌, ◌++◌, take, drop, ap, sym, subst, arith}
use Rattle.sj_text_core.specs.Nodes.{IsPreorder}
use Rattle.sj_tape.specs.Stretches.{nodes_in}
use Rattle.sj_tape.proofs.Splits.{tree_at}
use Rattle.sj_tape.proofs.Stretched.{few}
use Rattle.sj_tape.proofs.value.Value.take.Goals as goal

pub width_at-requires-clause-place : goal.width_at-requires-clause-place
width_at-requires-clause-place c = (tree_at c.args.place (nodes_in c.args.nodes.now) c.requires).some

pub width_at-requires-clause-fits : goal.width_at-requires-clause-fits
width_at-requires-clause-fits c =
    omega (arith, (tree_at c.args.place (nodes_in c.args.nodes.now) c.requires).fits, few c.args.nodes.now)

pub overflow_add-end : goal.overflow_add-end
overflow_add-end c =
    omega (arith, (tree_at c.args.place (nodes_in c.args.nodes.now) c.requires).fits, few c.args.nodes.now, c.width_at.ensures)

pub between-tree-requires-clause-within : goal.between-tree-requires-clause-within
between-tree-requires-clause-within c =
    omega (arith, (tree_at c.args.place (nodes_in c.args.nodes.now) c.requires).fits, c.width_at.ensures)

pub skip-requires : goal.skip-requires
skip-requires c =
    omega (arith, (tree_at c.args.place (nodes_in c.args.nodes.now) c.requires).fits, c.width_at.ensures)

pub invariant_of-result : goal.invariant_of-result
invariant_of-result c =
    let p = c.args.place in
    let ns = nodes_in c.args.nodes.now in
    let same = c.between-tree.ensures ∙ ap (λ n. drop p (take (p + n) ns)) c.width_at.ensures in
    record { whole = subst IsPreorder (sym same) (tree_at p ns c.requires).whole }

pub returns-clause-all : goal.returns-clause-all
returns-clause-all c =
    let p = c.args.place in
    let ns = nodes_in c.args.nodes.now in
    (tree_at p ns c.requires).all ∙ ap (λ n. drop p (take (p + n) ns) ++ drop (p + n) ns) (sym c.width_at.ensures)
    ∙ ap (λ l. l ++ drop (p + c.width_at.result) ns) (sym c.between-tree.ensures) ∙ ap (λ l. nodes_in c.between-tree.result ++ l) (sym c.skip.ensures)
