use Rattle.std.proofs.Common.{sym, ap, ap₂, ◌∙◌, nat_cmp}
use Rattle.std.proofs.lemmas.Str.{IsUtf8-past_char}
use Rattle.std.specs.Cmp.Lexicographic.{slice_cmp}
use Rattle.std.specs.Str.Iter.{chars_rest}
use Rattle.sj_canonical.specs.Canonical.{units}
use Rattle.sj_canonical.proofs.Characters.{both_begin, both_go_on, goes_on, units-none}
use Rattle.sj_canonical.proofs.order.compare_units.Goals as goal

pub returns-in_default-next : goal.returns-in_default-next
returns-in_default-next c =
    sym (sym c.loop-one.invariant.same ∙ ap (slice_cmp nat_cmp (units (chars_rest c.loop-one.first))) (units-none (chars_rest c.loop-one.second) c.in_default-next.ensures.steps.0.0)
    ∙ (goes_on (chars_rest c.loop-one.first) _ c.in-Some.one c.loop-one.invariant.first c.in-Some.ensures.steps.0).0)

pub returns-then-one-other : goal.returns-then-one-other
returns-then-one-other c =
    sym (sym c.loop-one.invariant.same ∙ both_begin (chars_rest c.loop-one.first) (chars_rest c.loop-one.second) (chars_rest c.next.new.self) (chars_rest c.next-in-Some.new.self) c.in-Some.one c.in-Some-next.other
    c.loop-one.invariant.first c.loop-one.invariant.second c.in-Some.ensures.steps.0 c.in-Some-next.ensures.steps.0 ∙ c.compare_characters.ensures (units (chars_rest c.next.new.self)) (units (chars_rest c.next-in-Some.new.self)))

pub loop-one-preserved : goal.loop-one-preserved
loop-one-preserved c = record {
  first = IsUtf8-past_char (chars_rest c.loop-one.first) (chars_rest c.next.new.self) c.in-Some.one c.loop-one.invariant.first c.in-Some.ensures.steps.0;
  second = IsUtf8-past_char (chars_rest c.loop-one.second) (chars_rest c.next-in-Some.new.self) c.in-Some-next.other c.loop-one.invariant.second c.in-Some-next.ensures.steps.0;
  same = both_go_on (chars_rest c.loop-one.first) (chars_rest c.loop-one.second) (chars_rest c.next.new.self) (chars_rest c.next-in-Some.new.self) c.in-Some.one c.in-Some-next.other
      c.loop-one.invariant.first c.loop-one.invariant.second c.in-Some.ensures.steps.0 c.in-Some-next.ensures.steps.0 c.if-one-other.false ∙ c.loop-one.invariant.same;
}

pub returns-in-Some-next-2 : goal.returns-in-Some-next-2
returns-in-Some-next-2 c =
    sym (sym c.loop-one.invariant.same ∙ ap (λ l. slice_cmp nat_cmp l (units (chars_rest c.loop-one.second))) (units-none (chars_rest c.loop-one.first) c.in_default.ensures.steps.0.0)
    ∙ (goes_on (chars_rest c.loop-one.second) _ c.in-Some-next-2.field-0 c.loop-one.invariant.second c.in-Some-next-2.ensures.steps.0).1)

pub returns-in-None : goal.returns-in-None
returns-in-None c =
    sym (sym c.loop-one.invariant.same ∙ ap₂ (slice_cmp nat_cmp) (units-none (chars_rest c.loop-one.first) c.in_default.ensures.steps.0.0) (units-none (chars_rest c.loop-one.second) c.in-None.ensures.steps.0.0))
