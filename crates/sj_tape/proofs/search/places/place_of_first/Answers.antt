use Rattle.std.proofs.Common.{rules, ◌≡◌, ◌+◌, ◌<◌, ◌^◌, true, false, bytes_eq, get_or, length, sym, ap, ◌∙◌, subst, arith}
use Rattle.std.proofs.lemmas.List.{length-map}
use Rattle.sj_text_core.specs.Nodes.{nothing, width}
use Rattle.sj_text_core.specs.Find.{find_member}
use Rattle.sj_text_core.specs.Repeats.{visited}
use Rattle.sj_tape.specs.inner.Ahead.{MembersAhead, members_at}
use Rattle.sj_tape.specs.Marks.{packed_mark, packed_marks}
use Rattle.sj_tape.proofs.Ahead.{NextAhead, next_ahead, one_text, find_pass, visit_pass, find_hit, visit_hit}
use Rattle.sj_tape.proofs.search.places.place_of_first.Given.{Over}
use Rattle.sj_tape.proofs.search.places.place_of_first.Goals as goal

here : (g : Over) (c : goal.After-value_width g) → NextAhead (packed_marks c.args.nodes.now) c.loop-at.at
here g c =
    let long = length-map c.args.nodes.now packed_mark in
    next_ahead (packed_marks c.args.nodes.now) c.loop-at.at c.loop-at.invariant.ahead (omega (arith, long, c.loop-at-test.true))

pub returns-then-is_key : goal.returns-then-is_key
returns-then-is_key g c =
    let next = next_ahead (packed_marks c.args.nodes.now) c.loop-at.at c.loop-at.invariant.ahead (omega (arith, length-map c.args.nodes.now packed_mark, c.loop-at-test.true)) in
    let k = c.args.key.now in
    let same : bytes_eq k next.key ≡ true = ap (bytes_eq k) (one_text _ _ _ next.text c.name_at.ensures) ∙ sym c.is_key.ensures.answer ∙ c.if-is_key.true in
    record {
      begins = next.begins;
      value = sym (find_hit k next.key _ _ _ next.members same) ∙ c.loop-at.invariant.found;
      exact = omega (arith, visit_hit k next.key _ _ _ next.members same, c.loop-at.invariant.exact, c.is_key.ensures.step);
    }

pub overflow_add-at : goal.overflow_add-at
overflow_add-at g c =
    let next = here g c in
    let long : length c.args.nodes.now < 2 ^ 64 = search rules in
    let small : 1 + c.value_width.result < 2 ^ 64 = omega (arith, next.fits, c.value_width.ensures, length-map c.args.nodes.now packed_mark, long) in
    search (rules, small)

pub overflow_add-at-in-loop-at : goal.overflow_add-at-in-loop-at
overflow_add-at-in-loop-at g c =
    let next = here g c in
    let long : length c.args.nodes.now < 2 ^ 64 = search rules in
    let small : c.loop-at.at + (1 + c.value_width.result) < 2 ^ 64 = omega (arith, next.fits, c.value_width.ensures, length-map c.args.nodes.now packed_mark, long) in
    search (rules, small)

pub loop-at-preserved : goal.loop-at-preserved
loop-at-preserved g c =
    let ns = packed_marks c.args.nodes.now in
    let next = here g c in
    let k = c.args.key.now in
    let other : bytes_eq k next.key ≡ false = ap (bytes_eq k) (one_text _ _ _ next.text c.name_at.ensures) ∙ sym c.is_key.ensures.answer ∙ c.if-is_key.false in
    let there : c.loop-at.at + 1 + width (get_or ns (c.loop-at.at + 1) nothing) ≡ c.loop-at.at + (1 + c.value_width.result) = omega (arith, c.value_width.ensures) in
    record {
      ahead = subst (MembersAhead ns) there next.next;
      found = ap (λ p. find_member k (members_at ns p)) (sym there) ∙ sym (find_pass k next.key _ _ _ next.members other) ∙ c.loop-at.invariant.found;
      exact = omega (arith, ap (λ p. visited k (members_at ns p)) there, visit_pass k next.key _ _ _ next.members other, c.loop-at.invariant.exact, c.is_key.ensures.step);
    }
