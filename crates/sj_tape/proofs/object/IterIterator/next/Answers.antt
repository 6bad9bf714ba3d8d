use Rattle.std.proofs.Common.{◌∙◌, ◌∷◌, List, ℕ, length, drop, refl, ap, sym, rules}
use Rattle.sj_text_core.specs.Tree.{Tree, paired}
use Rattle.sj_text_core.specs.declared.repeats.Repeats.{Repeats}
use Rattle.sj_text_core.specs.Nodes.{members_in}
use Rattle.sj_tape.specs.Members.{chosen_pairs}
use Rattle.sj_tape.specs.Stretches.{nodes_in}
use Rattle.sj_tape.specs.Value.{tape_tree}
use Rattle.sj_tape.proofs.Splits.{next_member, first_text-are, BeginsTree-member}
use Rattle.sj_tape.proofs.object.IterIterator.next.Goals as goal

pub take-requires : goal.take-requires
take-requires c = BeginsTree-member _ _ _ c.args.self.now.whole (first_text-are (nodes_in c.args.self.now.nodes) (drop 1 (nodes_in c.args.self.now.nodes)) c.in-Some.name.now c.in-Some.ensures refl)

pub invariant_of-self : goal.invariant_of-self
invariant_of-self c =
    let nodes = first_text-are (nodes_in c.args.self.now.nodes) (drop 1 (nodes_in c.args.self.now.nodes)) c.in-Some.name.now c.in-Some.ensures refl in
    record { whole = (next_member _ _ _ _ _ c.args.self.now.whole nodes c.take.result.whole c.take.ensures.all).rest_are }

pub returns-clause-steps : goal.returns-clause-steps
returns-clause-steps c =
    let nodes = first_text-are (nodes_in c.args.self.now.nodes) (drop 1 (nodes_in c.args.self.now.nodes)) c.in-Some.name.now c.in-Some.ensures refl in
    let next = next_member _ _ _ _ _ c.args.self.now.whole nodes c.take.result.whole c.take.ensures.all in
    let r = c.args.self.now.repeats in
    ap (λ ms. chosen_pairs r (paired ms)) next.members ∙ ap (λ p. (c.in-Some.name.now, p) ∷ chosen_pairs r (paired (members_in (nodes_in c.take.new.nodes)))) (ap (λ q. (q, tape_tree c.take.result)) (sym c.take.ensures.choice))

pub returns-clause-goes : goal.returns-clause-goes
returns-clause-goes c =
    let left = ap (λ (l : List (List ℕ × (Repeats × Tree))). length l) (returns-clause-steps c) in
    search (rules, left)
