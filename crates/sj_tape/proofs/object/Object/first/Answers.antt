use Rattle.std.proofs.Common.{◌≡◌, ◌∙◌, ap, sym, ℕ, List, ◌∷◌, cond, Option, Some, Bool, bytes_eq}
use Rattle.sj_text_core.specs.Find.{find_member}
use Rattle.sj_text_core.specs.Tree.{Tree, members_from}
use Rattle.sj_text_core.proofs.Shapes.{members_from-paired}
use Rattle.sj_tape.specs.Members.{members, members_ahead}
use Rattle.sj_tape.specs.Value.{tape_tree, tape_part}
use Rattle.sj_tape.proofs.Chosen.{member_step, members_end}
use Rattle.sj_tape.proofs.object.Object.first.Goals as goal

-- the lookup by the test of the first pair
by_first : (key name : List ℕ) (t : Tree) (ahead rest : List (List ℕ × Tree)) (found : Option Tree) (same b : Bool)
    → find_member key (members_from ahead) ≡ found → ahead ≡ (name, t) ∷ rest → same ≡ bytes_eq key name → same ≡ b
    → cond b (Some t) (find_member key (members_from rest)) ≡ found
by_first key name t ahead rest found same b e f g h =
    ap (λ x. cond x (Some t) (find_member key (members_from rest))) (sym h ∙ g) ∙ (sym (ap (λ ps. find_member key (members_from ps)) f) ∙ e)

pub loop-name-init : goal.loop-name-init
loop-name-init c =
    ap (λ it. find_member c.args.key.now (members_from (members_ahead it))) c.into_iter-name-iterator.ensures.into_iter_gives
    ∙ ap (λ ps. find_member c.args.key.now (members_from ps)) c.iter-name-items.ensures.members
    ∙ ap (λ ms. find_member c.args.key.now ms) (members_from-paired (members c.args.self.now))

pub returns-then-are_same_texts : goal.returns-then-are_same_texts
returns-then-are_same_texts c =
    let step = member_step c.loop-name.name-iterator.repeats c.next.new.self.repeats c.in-Some.name.now (tape_part c.in-Some.value) (members_ahead c.loop-name.name-iterator) (members_ahead c.next.new.self) c.in-Some.ensures.steps in
    by_first c.args.key.now c.in-Some.name.now (tape_tree c.in-Some.value) _ _ _ _ _ c.loop-name.invariant step c.are_same_texts.ensures c.if-are_same_texts.true

pub loop-name-preserved : goal.loop-name-preserved
loop-name-preserved c =
    let step = member_step c.loop-name.name-iterator.repeats c.next.new.self.repeats c.in-Some.name.now (tape_part c.in-Some.value) (members_ahead c.loop-name.name-iterator) (members_ahead c.next.new.self) c.in-Some.ensures.steps in
    by_first c.args.key.now c.in-Some.name.now (tape_tree c.in-Some.value) _ _ _ _ _ c.loop-name.invariant step c.are_same_texts.ensures c.if-are_same_texts.false

pub returns : goal.returns
returns c =
    let none = members_end c.loop-name.name-iterator.repeats (members_ahead c.loop-name.name-iterator) c.in-None.ensures.steps.0 in
    sym (ap (λ ps. find_member c.args.key.now (members_from ps)) none) ∙ c.loop-name.invariant
