use Rattle.std.proofs.Common.{◌+◌, refl, sym, subst, arith}
use Rattle.sj_text_core.specs.Tree.{no_items}
use Rattle.sj_tape.specs.inner.Fronts.{BeginsItems}
use Rattle.sj_tape.specs.Marks.{marks}
use Rattle.sj_tape.proofs.Counts.{item_step, items_none}
use Rattle.sj_tape.proofs.preorder.items_width.Goals as goal

pub loop-init : goal.loop-init
loop-init c = record { inside = omega arith; done = record { items = no_items; rest = marks c.args.nodes.now; are = refl; counted = refl; wide = refl } }

pub returns-then-at-nodes-clause-none : goal.returns-then-at-nodes-clause-none
returns-then-at-nodes-clause-none c =
    items_none c.loop.counter c.loop.at c.args.len c.args.nodes.now c.loop.invariant.done (omega arith) (omega arith)

pub width-at-requires : goal.width-at-requires
width-at-requires c =
    let step = item_step c.loop.counter c.loop.at c.args.nodes.now c.requires c.loop.invariant.done (omega arith) in
    omega (arith, step.inside)

pub overflow_add-at : goal.overflow_add-at
overflow_add-at c =
    let step = item_step c.loop.counter c.loop.at c.args.nodes.now c.requires c.loop.invariant.done (omega arith) in
    omega (arith, step.inside, c.width-at.ensures)

pub loop-preserved : goal.loop-preserved
loop-preserved c =
    let step = item_step c.loop.counter c.loop.at c.args.nodes.now c.requires c.loop.invariant.done (omega arith) in
    record {
      inside = omega (arith, step.inside, c.width-at.ensures);
      done = subst (λ n. BeginsItems (c.loop.counter + 1) (c.loop.at + n) (marks c.args.nodes.now)) (sym c.width-at.ensures) step.next;
    }
