use Rattle.std.proofs.Common.{◌≡◌, ◌+◌, ◌<◌, Bool, true, false, IsTrue, ◌↔◌, length, get_or, refl, sym, subst, arith}
use Rattle.sj_text_core.specs.Tree.{no_members}
use Rattle.sj_text_core.specs.declared.static_node.StaticNode.TheVariants.{Null}
use Rattle.sj_tape.specs.declared.node.Node.TheVariants.{Static}
use Rattle.sj_tape.specs.inner.Fronts.{IsText, BeginsMembers}
use Rattle.sj_tape.specs.Marks.{mark, marks}
use Rattle.sj_tape.proofs.Counts.{member_step, members_none}
use Rattle.sj_tape.proofs.preorder.members_width.Goals as goal
use Rattle.sj_tape.proofs.preorder.members_width.Goals.{then-at-nodes-via-then-at-nodes, then-at-nodes-via-else-at-nodes+then-not-is_text}

is_so : (b : Bool) (P : Type 0) → IsTrue b ↔ P → b ≡ true → P
is_so b P h e = h.0 e

is_not : (b : Bool) (P : Type 0) → IsTrue b ↔ P → b ≡ false → P → ⊥
is_not b P h e p = let t = h.1 p in cc

pub loop-init : goal.loop-init
loop-init c = record { inside = omega arith; done = record { members = no_members; rest = marks c.args.nodes.now; are = refl; counted = refl; wide = refl } }

pub returns-then-at-nodes-clause-none : goal.returns-then-at-nodes-clause-none
returns-then-at-nodes-clause-none c =
    members_none c.loop.counter c.loop.at c.args.len c.args.nodes.now c.loop.invariant.done (omega arith)
    (λ (l : c.loop.at + 1 < length c.args.nodes.now) (k : IsText (mark (get_or c.args.nodes.now c.loop.at (Static Null)))).
    elim c.then-at-nodes.branch [
      | then-at-nodes-via-then-at-nodes w ↦ absurd (omega (arith, l))
      | then-at-nodes-via-else-at-nodes+then-not-is_text w ↦ is_not _ _ w.is_text.ensures w.if-not-is_text.true k
    ])

pub width-requires : goal.width-requires
width-requires c =
    let text = is_so _ _ c.is_text.ensures c.if-not-is_text.false in
    let step = member_step c.loop.counter c.loop.at c.args.nodes.now c.requires c.loop.invariant.done (omega arith) text in
    omega (arith, step.inside)

pub overflow_add-at-in-loop-2 : goal.overflow_add-at-in-loop-2
overflow_add-at-in-loop-2 c =
    let text = is_so _ _ c.is_text.ensures c.if-not-is_text.false in
    let step = member_step c.loop.counter c.loop.at c.args.nodes.now c.requires c.loop.invariant.done (omega arith) text in
    omega (arith, step.inside, c.width.ensures)

pub overflow_add-at-in-loop-3 : goal.overflow_add-at-in-loop-3
overflow_add-at-in-loop-3 c =
    let text = is_so _ _ c.is_text.ensures c.if-not-is_text.false in
    let step = member_step c.loop.counter c.loop.at c.args.nodes.now c.requires c.loop.invariant.done (omega arith) text in
    omega (arith, step.inside, c.width.ensures)

pub loop-preserved : goal.loop-preserved
loop-preserved c =
    let text = is_so _ _ c.is_text.ensures c.if-not-is_text.false in
    let step = member_step c.loop.counter c.loop.at c.args.nodes.now c.requires c.loop.invariant.done (omega arith) text in
    record {
      inside = omega (arith, step.inside, c.width.ensures);
      done = subst (λ n. BeginsMembers (c.loop.counter + 1) (c.loop.at + (1 + n)) (marks c.args.nodes.now)) (sym c.width.ensures) step.next;
    }
