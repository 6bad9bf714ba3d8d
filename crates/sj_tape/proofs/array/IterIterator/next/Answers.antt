use Rattle.std.proofs.Common.{◌∙◌, ◌∷◌, map, List, length, ap, sym, rules}
use Rattle.sj_text_core.specs.Tree.{Tree, listed}
use Rattle.sj_text_core.specs.declared.repeats.Repeats.{Repeats}
use Rattle.sj_tape.specs.Stretches.{nodes_in}
use Rattle.sj_tape.specs.Value.{tape_tree}
use Rattle.sj_tape.specs.Parts.{items_in}
use Rattle.sj_tape.proofs.Splits.{some_first, next_item, BeginsTree-items}
use Rattle.sj_tape.proofs.array.IterIterator.next.Goals as goal

pub take-requires : goal.take-requires
take-requires c =
    BeginsTree-items (nodes_in c.args.self.now.nodes) c.args.self.now.whole (some_first _ _ c.is_empty.ensures c.if-is_empty.false)

pub invariant_of-self : goal.invariant_of-self
invariant_of-self c = record {
  whole = (next_item (nodes_in c.args.self.now.nodes) (nodes_in c.take.result.nodes) (nodes_in c.take.new.nodes) c.args.self.now.whole
      (some_first _ _ c.is_empty.ensures c.if-is_empty.false) c.take.result.whole c.take.ensures.all).rest_are;
}

pub returns-clause-steps : goal.returns-clause-steps
returns-clause-steps c =
    let next = next_item (nodes_in c.args.self.now.nodes) (nodes_in c.take.result.nodes) (nodes_in c.take.new.nodes) c.args.self.now.whole
    (some_first _ _ c.is_empty.ensures c.if-is_empty.false) c.take.result.whole c.take.ensures.all in
    let r = c.args.self.now.repeats in
    ap (λ is. map (λ (t : Tree). (r, t)) (listed is)) next.items ∙ ap (λ p. p ∷ map (λ (t : Tree). (r, t)) (listed (items_in (nodes_in c.take.new.nodes)))) (ap (λ q. (q, tape_tree c.take.result)) (sym c.take.ensures.choice))

pub returns-clause-goes : goal.returns-clause-goes
returns-clause-goes c =
    let left = ap (λ (l : List (Repeats × Tree)). length l) (returns-clause-steps c) in
    search (rules, left)
