use Rattle.std.proofs.Common.{rules, ◌≡◌, ◌+◌, ◌<◌, ◌^◌, true, false, bytes_eq, get_or, inl, inr, length, sym, ap, ◌∙◌, subst, arith}
use Rattle.std.proofs.lemmas.List.{length-map}
use Rattle.std.proofs.lemmas.Bool.{cases_lt}
use Rattle.sj_text_core.specs.Nodes.{nothing, width}
use Rattle.sj_text_core.specs.Find.{find_member}
use Rattle.sj_text_core.specs.Repeats.{visited}
use Rattle.sj_tape.specs.inner.Ahead.{MembersAhead, members_at}
use Rattle.sj_tape.specs.Marks.{packed_mark, packed_marks}
use Rattle.sj_tape.proofs.Ahead.{NextAhead, next_ahead, one_text, find_pass, visit_pass, find_hit, visit_hit}
use Rattle.sj_tape.proofs.search.places.first_in_run.Given.{Over}
use Rattle.sj_tape.proofs.search.places.first_in_run.Goals as goal

here : (g : Over) (c : goal.Else-is_key g) → NextAhead (packed_marks c.args.nodes.now) c.loop-at.at
here g c =
    let long = length-map c.args.nodes.now packed_mark in
    next_ahead (packed_marks c.args.nodes.now) c.loop-at.at c.loop-at.invariant.ahead (omega (arith, long, c.loop-at-test.true))

pub returns-then-value_width-width-clause-on : goal.returns-then-value_width-width-clause-on
returns-then-value_width-width-clause-on g c = elim (cases_lt c.args.from c.loop-at.at) [
  | inl low ↦ low
  | inr high ↦
      let ns = packed_marks c.args.nodes.now in
      let there : c.loop-at.at ≡ c.args.from = omega (arith, high, c.loop-at.invariant.on) in
      let same : c.value_width.result ≡ c.value_width-width.result = c.value_width.ensures ∙ ap (λ p. width (get_or ns (p + 1) nothing)) there ∙ sym c.value_width-width.ensures in
      absurd (omega (arith, same, c.if-value_width-width.true))
]

pub returns-then-is_key-clause-begins : goal.returns-then-is_key-clause-begins
returns-then-is_key-clause-begins g c = (next_ahead (packed_marks c.args.nodes.now) c.loop-at.at c.loop-at.invariant.ahead (omega (arith, length-map c.args.nodes.now packed_mark, c.loop-at-test.true))).begins

pub returns-then-is_key-clause-found : goal.returns-then-is_key-clause-found
returns-then-is_key-clause-found g c =
    let next = next_ahead (packed_marks c.args.nodes.now) c.loop-at.at c.loop-at.invariant.ahead (omega (arith, length-map c.args.nodes.now packed_mark, c.loop-at-test.true)) in
    let k = c.args.key.now in
    let same : bytes_eq k next.key ≡ true = ap (bytes_eq k) (one_text _ _ _ next.text c.name_at.ensures) ∙ sym c.is_key.ensures.answer ∙ c.if-is_key.true in
    sym (find_hit k next.key _ _ _ next.members same) ∙ c.loop-at.invariant.found

pub returns-then-is_key-clause-found_exact : goal.returns-then-is_key-clause-found_exact
returns-then-is_key-clause-found_exact g c =
    let next = next_ahead (packed_marks c.args.nodes.now) c.loop-at.at c.loop-at.invariant.ahead (omega (arith, length-map c.args.nodes.now packed_mark, c.loop-at-test.true)) in
    let k = c.args.key.now in
    let same : bytes_eq k next.key ≡ true = ap (bytes_eq k) (one_text _ _ _ next.text c.name_at.ensures) ∙ sym c.is_key.ensures.answer ∙ c.if-is_key.true in
    omega (arith, visit_hit k next.key _ _ _ next.members same, c.loop-at.invariant.exact, c.is_key.ensures.step)

wide : (g : Over) (c : goal.Else-is_key g) → width (get_or (packed_marks c.args.nodes.now) (c.loop-at.at + 1) nothing) ≡ c.value_width-width.result
wide g c = omega (arith, c.value_width.ensures, c.if-value_width-width.false)

pub overflow_add-at : goal.overflow_add-at
overflow_add-at g c =
    let long : length c.args.nodes.now < 2 ^ 64 = search rules in
    let small : 1 + c.value_width-width.result < 2 ^ 64 = omega (arith, (here g c).fits, wide g c, length-map c.args.nodes.now packed_mark, long) in
    search (rules, small)

pub overflow_add-at-in-loop-at : goal.overflow_add-at-in-loop-at
overflow_add-at-in-loop-at g c =
    let long : length c.args.nodes.now < 2 ^ 64 = search rules in
    let small : c.loop-at.at + (1 + c.value_width-width.result) < 2 ^ 64 = omega (arith, (here g c).fits, wide g c, length-map c.args.nodes.now packed_mark, long) in
    search (rules, small)

pub loop-at-preserved : goal.loop-at-preserved
loop-at-preserved g c =
    let ns = packed_marks c.args.nodes.now in
    let next = here g c in
    let k = c.args.key.now in
    let other : bytes_eq k next.key ≡ false = ap (bytes_eq k) (one_text _ _ _ next.text c.name_at.ensures) ∙ sym c.is_key.ensures.answer ∙ c.if-is_key.false in
    let there : c.loop-at.at + 1 + width (get_or ns (c.loop-at.at + 1) nothing) ≡ c.loop-at.at + (1 + c.value_width-width.result) = omega (arith, wide g c) in
    record {
      ahead = subst (MembersAhead ns) there next.next;
      on = omega (arith, c.loop-at.invariant.on);
      found = ap (λ p. find_member k (members_at ns p)) (sym there) ∙ sym (find_pass k next.key _ _ _ next.members other) ∙ c.loop-at.invariant.found;
      exact = omega (arith, ap (λ p. visited k (members_at ns p)) there, visit_pass k next.key _ _ _ next.members other, c.loop-at.invariant.exact, c.is_key.ensures.step);
    }
