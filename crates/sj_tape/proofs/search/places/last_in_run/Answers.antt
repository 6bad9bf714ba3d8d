use Rattle.std.proofs.Common.{rules, ◌≡◌, ◌+◌, ◌<◌, ◌^◌, ℕ, Some, if◌then◌else◌, bytes_eq, get_or, drop, inl, inr, option_map, length, refl, sym, ap, ◌∙◌, subst, arith}
use Rattle.std.specs.Option.{option_or}
use Rattle.std.proofs.lemmas.List.{length-map}
use Rattle.std.proofs.lemmas.Bool.{cases_lt}
use Rattle.sj_text_core.specs.Nodes.{nothing, width}
use Rattle.sj_text_core.specs.Repeats.{find_last_member}
use Rattle.sj_text_core.specs.Tree.{members_len}
use Rattle.sj_tape.specs.inner.Ahead.{MembersAhead, members_at, tree_from}
use Rattle.sj_tape.specs.inner.Fronts.{BeginsTree}
use Rattle.sj_tape.specs.Marks.{packed_mark, packed_marks}
use Rattle.sj_tape.proofs.Ahead.{next_ahead, one_text, last_pass, later_holds}
use Rattle.sj_tape.proofs.search.places.last_in_run.Goals as goal

pub returns-then-value_width-wide-clause-on : goal.returns-then-value_width-wide-clause-on
returns-then-value_width-wide-clause-on g c = elim (cases_lt c.args.from c.loop-at.at) [
  | inl low ↦ low
  | inr high ↦
      let ns = packed_marks c.args.nodes.now in
      let there : c.loop-at.at ≡ c.args.from = omega (arith, high, c.loop-at.invariant.on) in
      let same : c.value_width.result ≡ c.value_width-wide.result = c.value_width.ensures ∙ ap (λ p. width (get_or ns (p + 1) nothing)) there ∙ sym c.value_width-wide.ensures in
      absurd (omega (arith, same, c.if-value_width-wide.true))
]

pub overflow_add-at-in-loop-at : goal.overflow_add-at-in-loop-at
overflow_add-at-in-loop-at g c =
    let next = next_ahead (packed_marks c.args.nodes.now) c.loop-at.at c.loop-at.invariant.ahead (omega (arith, length-map c.args.nodes.now packed_mark, c.loop-at-test.true)) in
    let long : length c.args.nodes.now < 2 ^ 64 = search rules in
    let small : 1 + c.value_width-wide.result < 2 ^ 64 = omega (arith, next.fits, c.value_width.ensures, c.if-value_width-wide.false, length-map c.args.nodes.now packed_mark, long) in
    search (rules, small)

pub overflow_add-at-in-loop-at-2 : goal.overflow_add-at-in-loop-at-2
overflow_add-at-in-loop-at-2 g c =
    let next = next_ahead (packed_marks c.args.nodes.now) c.loop-at.at c.loop-at.invariant.ahead (omega (arith, length-map c.args.nodes.now packed_mark, c.loop-at-test.true)) in
    let long : length c.args.nodes.now < 2 ^ 64 = search rules in
    let small : c.loop-at.at + (1 + c.value_width-wide.result) < 2 ^ 64 = omega (arith, next.fits, c.value_width.ensures, c.if-value_width-wide.false, length-map c.args.nodes.now packed_mark, long) in
    search (rules, small)

pub loop-at-preserved : goal.loop-at-preserved
loop-at-preserved g c =
    let ns = packed_marks c.args.nodes.now in
    let next = next_ahead (packed_marks c.args.nodes.now) c.loop-at.at c.loop-at.invariant.ahead (omega (arith, length-map c.args.nodes.now packed_mark, c.loop-at-test.true)) in
    let k = c.args.key.now in
    let is : c.is_key-is_met.result ≡ bytes_eq k next.key = c.is_key-is_met.ensures.answer ∙ ap (bytes_eq k) (sym (one_text _ _ _ next.text c.name_at.ensures)) in
    let there : c.loop-at.at + 1 + width (get_or ns (c.loop-at.at + 1) nothing) ≡ c.loop-at.at + (1 + c.value_width-wide.result) = omega (arith, c.value_width.ensures, c.if-value_width-wide.false) in
    let chosen : c.later_place-last.result ≡ (if c.is_key-is_met.result then Some (c.loop-at.at + 1) else c.loop-at.last) = c.later_place-last.ensures in
    record {
      ahead = subst (MembersAhead ns) there next.next;
      on = omega (arith, c.loop-at.invariant.on);
      begins = later_holds c.later_place-last.result c.is_key-is_met.result (c.loop-at.at + 1) c.loop-at.last (λ (p : ℕ). BeginsTree (drop p ns)) chosen next.begins c.loop-at.invariant.begins;
      value =
          ap (λ p. option_or (find_last_member k (members_at ns p)) (option_map (tree_from ns) c.later_place-last.result)) (sym there)
          ∙ ap (λ o. option_or (find_last_member k (members_at ns (c.loop-at.at + 1 + width (get_or ns (c.loop-at.at + 1) nothing)))) (option_map (tree_from ns) o)) chosen
          ∙ last_pass k next.key _ _ _ c.is_key-is_met.result (tree_from ns) (c.loop-at.at + 1) c.loop-at.last next.members is refl ∙ c.loop-at.invariant.value;
      exact = omega (arith, ap (λ p. members_len (members_at ns p)) there, ap members_len next.members, c.loop-at.invariant.exact, c.is_key-is_met.ensures.step);
    }
