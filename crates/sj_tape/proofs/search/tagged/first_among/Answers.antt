use Rattle.std.proofs.Common.{rules, ◌≡◌, ◌+◌, ◌<◌, ◌^◌, List, ℕ, true, false, bytes_eq, get_or, length, sym, ap, ◌∙◌, subst, arith}
use Rattle.std.proofs.lemmas.List.{length-map}
use Rattle.sj_text_core.specs.Nodes.{Mark, nothing, width, members_in}
use Rattle.sj_text_core.specs.inner.Nodes.{AreMembers}
use Rattle.sj_text_core.specs.Find.{find_member}
use Rattle.sj_text_core.specs.Repeats.{visited}
use Rattle.sj_text_core.specs.Tree.{members_len}
use Rattle.sj_tape.specs.inner.Ahead.{MembersAhead, members_at}
use Rattle.sj_tape.specs.Marks.{packed_mark, packed_marks}
use Rattle.sj_tape.specs.inner.Tags.{member_node}
use Rattle.sj_tape.proofs.Ahead.{NextAhead, at_ahead, at_more, next_at, at_next, one_text, find_pass, visit_pass, find_hit, visit_hit}
use Rattle.sj_tape.proofs.search.tagged.first_among.Goals as goal

here : (ns : List Mark) (are : AreMembers ns) (i p : ℕ) → p ≡ member_node ns i → i < members_len (members_in ns) → NextAhead ns p
here ns are i p e l = subst (NextAhead ns) (sym e) (next_at ns are i l)

pub name_at-requires-clause-ahead : goal.name_at-requires-clause-ahead
name_at-requires-clause-ahead g c =
    let ns = packed_marks c.args.nodes.now in
    subst (MembersAhead ns) (sym c.loop.invariant.there) (at_ahead ns c.requires.are c.loop.counter (omega (arith, c.loop-test.true, c.requires.within)))

pub name_at-requires-clause-more : goal.name_at-requires-clause-more
name_at-requires-clause-more g c =
    let ns = packed_marks c.args.nodes.now in
    omega (arith, at_more ns c.requires.are c.loop.counter (omega (arith, c.loop-test.true, c.requires.within)), c.loop.invariant.there)

pub returns-then-is_key-clause-begins : goal.returns-then-is_key-clause-begins
returns-then-is_key-clause-begins g c =
    (here (packed_marks c.args.nodes.now) c.requires.are c.loop.counter c.loop.at c.loop.invariant.there (omega (arith, c.loop-test.true, c.requires.within))).begins

pub returns-then-is_key-clause-found : goal.returns-then-is_key-clause-found
returns-then-is_key-clause-found g c =
    let next = here (packed_marks c.args.nodes.now) c.requires.are c.loop.counter c.loop.at c.loop.invariant.there (omega (arith, c.loop-test.true, c.requires.within)) in
    let k = c.args.key.now in
    let same : bytes_eq k next.key ≡ true = ap (bytes_eq k) (one_text _ _ _ next.text c.name_at.ensures) ∙ sym c.is_key.ensures.answer ∙ c.if-is_key.true in
    sym (find_hit k next.key _ _ _ next.members same) ∙ c.loop.invariant.found

pub returns-then-is_key-clause-found_exact : goal.returns-then-is_key-clause-found_exact
returns-then-is_key-clause-found_exact g c =
    let next = here (packed_marks c.args.nodes.now) c.requires.are c.loop.counter c.loop.at c.loop.invariant.there (omega (arith, c.loop-test.true, c.requires.within)) in
    let k = c.args.key.now in
    let same : bytes_eq k next.key ≡ true = ap (bytes_eq k) (one_text _ _ _ next.text c.name_at.ensures) ∙ sym c.is_key.ensures.answer ∙ c.if-is_key.true in
    omega (arith, visit_hit k next.key _ _ _ next.members same, c.loop.invariant.exact, c.is_key.ensures.step)

pub value_width-requires-clause-ahead : goal.value_width-requires-clause-ahead
value_width-requires-clause-ahead g c =
    let ns = packed_marks c.args.nodes.now in
    subst (MembersAhead ns) (sym c.loop.invariant.there) (at_ahead ns c.requires.are c.loop.counter (omega (arith, c.loop-test.true, c.requires.within)))

pub overflow_add-at : goal.overflow_add-at
overflow_add-at g c =
    let next = here (packed_marks c.args.nodes.now) c.requires.are c.loop.counter c.loop.at c.loop.invariant.there (omega (arith, c.loop-test.true, c.requires.within)) in
    let long : length c.args.nodes.now < 2 ^ 64 = search rules in
    let small : 1 + c.value_width.result < 2 ^ 64 = omega (arith, next.fits, c.value_width.ensures, length-map c.args.nodes.now packed_mark, long) in
    search (rules, small)

pub overflow_add-at-in-loop : goal.overflow_add-at-in-loop
overflow_add-at-in-loop g c =
    let next = here (packed_marks c.args.nodes.now) c.requires.are c.loop.counter c.loop.at c.loop.invariant.there (omega (arith, c.loop-test.true, c.requires.within)) in
    let long : length c.args.nodes.now < 2 ^ 64 = search rules in
    let small : c.loop.at + (1 + c.value_width.result) < 2 ^ 64 = omega (arith, next.fits, c.value_width.ensures, length-map c.args.nodes.now packed_mark, long) in
    search (rules, small)

pub loop-preserved : goal.loop-preserved
loop-preserved g c =
    let ns = packed_marks c.args.nodes.now in
    let next = here ns c.requires.are c.loop.counter c.loop.at c.loop.invariant.there (omega (arith, c.loop-test.true, c.requires.within)) in
    let k = c.args.key.now in
    let other : bytes_eq k next.key ≡ false = ap (bytes_eq k) (one_text _ _ _ next.text c.name_at.ensures) ∙ sym c.is_key.ensures.answer ∙ c.if-is_key.false in
    let there : c.loop.at + 1 + width (get_or ns (c.loop.at + 1) nothing) ≡ c.loop.at + (1 + c.value_width.result) = omega (arith, c.value_width.ensures) in
    record {
      there = sym there ∙ at_next ns c.loop.counter c.loop.at c.loop.invariant.there;
      found = ap (λ p. find_member k (members_at ns p)) (sym there) ∙ sym (find_pass k next.key _ _ _ next.members other) ∙ c.loop.invariant.found;
      exact = omega (arith, ap (λ p. visited k (members_at ns p)) there, visit_pass k next.key _ _ _ next.members other, c.loop.invariant.exact, c.is_key.ensures.step);
    }
