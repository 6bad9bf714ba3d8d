use Rattle.std.proofs.Common.{rules, ◌≡◌, ◌∙◌, ◌-◌, ◌<◌, ◌^◌, ℕ, List, nat_eq, length, drop, ap, sym, subst, arith}
use Rattle.std.proofs.lemmas.Bool.Decides.{nat_tests}
use Rattle.std.proofs.lemmas.List.{length-map}
use Rattle.sj_tape.specs.inner.Fronts.{AllBegin, BeginsTree}
use Rattle.sj_tape.specs.Marks.{mark, marks}
use Rattle.sj_tape.proofs.Counts.{begins_first}
use Rattle.std.proofs.Math.ListN.{get_or-map}
use Rattle.sj_text_core.specs.Nodes.{Mark, width}
use Rattle.sj_text_core.specs.declared.static_node.StaticNode.TheVariants.{Null}
use Rattle.sj_tape.specs.declared.node.Node.TheVariants.{Static}
use Rattle.sj_tape.proofs.Splits.{first_width}
use Rattle.sj_tape.proofs.Preorders.{AllBegin-behind, begins_within, marks_from, whole_test}
use Rattle.sj_tape.proofs.preorder.is_preorder.Goals as goal

pub begins_tree-requires : goal.begins_tree-requires
begins_tree-requires c = AllBegin-behind c.args.nodes.now (c.loop-at.at - 1) c.loop-at.at (omega arith) c.loop-at.invariant

pub returns-then-not-begins_tree : goal.returns-then-not-begins_tree
returns-then-not-begins_tree c = (
  λ t. absurd (cc),
  λ p. absurd (let t = c.begins_tree.ensures.1 (begins_within c.args.nodes.now (c.loop-at.at - 1) (omega arith) p) in cc),
)

pub loop-at-preserved : goal.loop-at-preserved
loop-at-preserved c =
    subst (λ l. AllBegin l) (sym (marks_from c.args.nodes.now (c.loop-at.at - 1) (omega arith)))
    (c.begins_tree.ensures.0 c.if-not-begins_tree.false, AllBegin-behind c.args.nodes.now (c.loop-at.at - 1) c.loop-at.at (omega arith) c.loop-at.invariant)

begun : (ns : List Mark) (at : ℕ) → at ≡ 0 → 0 < length ns → AllBegin (drop at ns) → BeginsTree ns
begun ns at e h b = begins_first ns (subst (λ n. AllBegin (drop n ns)) e b) h

pub width-requires : goal.width-requires
width-requires c =
    let some : 0 < length c.args.nodes.now = grind (arith, nat_tests) in
    let lens = length-map c.args.nodes.now mark in
    let t = begun (marks c.args.nodes.now) c.loop-at.at (omega arith) (omega (arith, some, lens)) c.loop-at.invariant in
    let f : length c.args.nodes.now < 2 ^ 64 = search (rules, c.well_formed) in
    omega (arith, (first_width (marks c.args.nodes.now) t).fits, ap width (get_or-map mark c.args.nodes.now 0 (Static Null)), lens, f)

pub returns-then-not-is_empty : goal.returns-then-not-is_empty
returns-then-not-is_empty c =
    let some : 0 < length c.args.nodes.now = grind (arith, nat_tests) in
    let lens = length-map c.args.nodes.now mark in
    let t = begun (marks c.args.nodes.now) c.loop-at.at (omega arith) (omega (arith, some, lens)) c.loop-at.invariant in
    whole_test (marks c.args.nodes.now) _ _ t (c.width.ensures ∙ ap width (sym (get_or-map mark c.args.nodes.now 0 (Static Null)))) (ap (λ n. nat_eq c.width.result n) (sym lens))
