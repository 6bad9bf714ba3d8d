use Rattle.std.proofs.Common.{◌≡◌, List, [], ◌+◌, ◌<◌, ◌^◌, ◌↔◌, refl, sym, ap, subst, ◌∙◌, arith, rules, length, IsTrue, bytes_eq}
use Rattle.sj_text_core.specs.Tree.{Tree, obj, depth, items_depth, items_from, listed, paired}
use Rattle.sj_text_core.specs.Agree.{is_seen_before}
use Rattle.sj_text_core.specs.inner.Agree.{HasTexts}
use Rattle.sj_text_core.specs.Keep.{is_seen}
use Rattle.sj_text_core.specs.Repeats.{by_first, find_member_by}
use Rattle.sj_text_core.specs.Same.{Same}
use Rattle.sj_text_core.specs.declared.repeats.Repeats.TheVariants.{First, Last}
use Rattle.sj_text_core.proofs.Equality.{same-sym}
use Rattle.sj_text_core.proofs.Shapes.{items_from-listed, list_is, obj_is}
use Rattle.sj_tape.specs.Items.{items, items_ahead, items_parts_ahead, array_choice}
use Rattle.sj_tape.specs.Members.{members, members_ahead, object_choice}
use Rattle.sj_tape.specs.Value.{tape_tree, tape_choice, tape_part}
use Rattle.sj_tape.proofs.Chosen.{item_step, items_end, members_end}
use Rattle.sj_tape.proofs.Compared.{length-listed, none_left, same_here, further_repeat, further_in_step, texts_further, same_at_end, same_found, differ_absent, further_found, same_if_has, has_if_same, allowed, denied, agree_less}
use Rattle.sj_tape.proofs.Counted.{parts, items_taken, items_joined, moved, into_items, from_items, lens_by, by_choices, found_within, seen_behind, counted_again, counted_same, same_last, not_same_last, same_if_counted, has_if_counted, last_in_both, counted_in_step, goes_on}
use Rattle.sj_tape.proofs.Walked.{walked}
use Rattle.sj_tape.proofs.Sorts.{leaves_same, as_same, unlike_items, unlike_members}
use Rattle.sj_tape.proofs.value.cmp.+same.Goals as goal
use Rattle.sj_tape.proofs.value.cmp.+same.Goals.{first_in_step-else-not-same_parts-via-then-not-same_parts+else-not-has_before, first_in_step-else-not-same_parts-via-else-not-same_parts, first_by_key-then-at-place+then-not-has_before+in-Some-get+else-not-same_parts, first_by_key-else-at-place, first_by_key-else-at-place-via-then-at-place+else-not-has_before, first_by_key-else-at-place-via-else-at-place, last_in_step-else-not-same_parts-via-then-not-same_parts+else-not-has_behind, last_in_step-else-not-same_parts-via-else-not-same_parts}

pub same_parts-returns-in-None-as_array : goal.same_parts-returns-in-None-as_array
same_parts-returns-in-None-as_array t c =
    (λ f. absurd (cc), λ h. absurd (unlike_items (tape_choice c.args.left) (tape_choice c.args.right) (tape_tree c.args.left) (tape_tree c.args.right) (items c.in-Some.items) c.in-Some.ensures.items c.in-None-as_array.ensures.items h))

pub same_parts-returns-in-None-as_object-2 : goal.same_parts-returns-in-None-as_object-2
same_parts-returns-in-None-as_object-2 t c =
    (λ f. absurd (cc), λ h. absurd (unlike_members (tape_choice c.args.left) (tape_choice c.args.right) (tape_tree c.args.left) (tape_tree c.args.right) (members c.in-Some-as_object.members) c.in-Some-as_object.ensures.members c.in-None-as_object-2.ensures.members h))

pub same_parts-returns-in-None-as_object : goal.same_parts-returns-in-None-as_object
same_parts-returns-in-None-as_object t c =
    leaves_same (tape_choice c.args.left) (tape_choice c.args.right) (tape_tree c.args.left) (tape_tree c.args.right) _ (sym c.in-None.ensures.items) (sym c.in-None-as_object.ensures.members) c.same_leaves.ensures

pub same_parts-same_items-requires : goal.same_parts-same_items-requires
same_parts-same_items-requires t c =
    (omega (arith, c.decreases, ap depth (list_is (tape_tree c.args.left) (items c.in-Some.items) c.in-Some.ensures.items), ap depth (list_is (tape_tree c.args.right) (items c.in-Some-as_array.others) c.in-Some-as_array.ensures.items)), tt)

pub same_parts-returns-in-Some-as_array : goal.same_parts-returns-in-Some-as_array
same_parts-returns-in-Some-as_array t c =
    as_same (tape_choice c.args.left) (tape_choice c.args.right) (tape_tree c.args.left) (tape_tree c.args.right) _ _ _ _ _ c.in-Some.ensures.choice c.in-Some-as_array.ensures.choice (list_is (tape_tree c.args.left) (items c.in-Some.items) c.in-Some.ensures.items) (list_is (tape_tree c.args.right) (items c.in-Some-as_array.others) c.in-Some-as_array.ensures.items) c.same_items.ensures

pub same_parts-same_members-requires : goal.same_parts-same_members-requires
same_parts-same_members-requires t c =
    (omega (arith, c.decreases, ap depth (obj_is (tape_tree c.args.left) (members c.in-Some-as_object.members) c.in-Some-as_object.ensures.members), ap depth (obj_is (tape_tree c.args.right) (members c.in-Some-as_object-2.others) c.in-Some-as_object-2.ensures.members)), tt)

pub same_parts-returns-in-Some-as_object-2 : goal.same_parts-returns-in-Some-as_object-2
same_parts-returns-in-Some-as_object-2 t c =
    as_same (tape_choice c.args.left) (tape_choice c.args.right) (tape_tree c.args.left) (tape_tree c.args.right) _ _ _ _ _ c.in-Some-as_object.ensures.choice c.in-Some-as_object-2.ensures.choice (obj_is (tape_tree c.args.left) (members c.in-Some-as_object.members) c.in-Some-as_object.ensures.members) (obj_is (tape_tree c.args.right) (members c.in-Some-as_object-2.others) c.in-Some-as_object-2.ensures.members) c.same_members.ensures

pub same_items-returns-then-len : goal.same_items-returns-then-len
same_items-returns-then-len t c =
    (λ f. absurd (cc), λ h. absurd (c.if-len.true (c.len.ensures ∙ lens_by (array_choice c.args.left) (array_choice c.args.right) (items c.args.left) (items c.args.right) h ∙ sym c.len-2.ensures)))

pub same_items-loop-item-init : goal.same_items-loop-item-init
same_items-loop-item-init t c =
    let mine = ap items_parts_ahead c.into_iter-item-iterator.ensures.into_iter_gives ∙ c.iter-item-items.ensures.parts in
    let theirs = c.iter-others.ensures.parts in
    let all : items_ahead c.into_iter-item-iterator.result ≡ listed (items c.args.left) = ap items_ahead c.into_iter-item-iterator.ensures.into_iter_gives ∙ c.iter-item-items.ensures.items in
    let first = ap items_from all ∙ items_from-listed (items c.args.left) in
    let second = ap items_from c.iter-others.ensures.items ∙ items_from-listed (items c.args.right) in
    record {
      on = λ h. from_items (array_choice c.args.left) (array_choice c.args.right) (items c.args.left) (items c.args.right) (moved _ _ _ _ mine theirs h);
      off = λ h. moved _ _ _ _ (sym mine) (sym theirs) (into_items (array_choice c.args.left) (array_choice c.args.right) (items c.args.left) (items c.args.right) h);
      lens = ap length all ∙ length-listed (items c.args.left) ∙ sym c.len.ensures ∙ c.if-len.false ∙ c.len-2.ensures ∙ sym (length-listed (items c.args.right)) ∙ sym (ap length c.iter-others.ensures.items);
      within = omega (arith, ap items_depth first);
      others_within = omega (arith, ap items_depth second);
    }

pub same_items-same_parts-requires : goal.same_items-same_parts-requires
same_items-same_parts-requires t c =
    let step = item_step c.loop-item.item-iterator.repeats c.next.new.self.repeats (tape_part c.in-Some.item) (items_ahead c.loop-item.item-iterator) (items_ahead c.next.new.self) c.in-Some.ensures.steps in
    let also = item_step c.loop-item.others.repeats c.next-in-loop-item.new.self.repeats (tape_part c.in-Some-next.other) (items_ahead c.loop-item.others) (items_ahead c.next-in-loop-item.new.self) c.in-Some-next.ensures.steps in
    (omega (arith, c.decreases, c.loop-item.invariant.within, c.loop-item.invariant.others_within, ap (λ l. items_depth (items_from l)) step, ap (λ l. items_depth (items_from l)) also), tt)

pub same_items-returns-then-not-same_parts : goal.same_items-returns-then-not-same_parts
same_items-returns-then-not-same_parts t c = (
  λ f. absurd (cc),
  λ h. absurd (denied c.same_parts.result _ c.same_parts.ensures c.if-not-same_parts.true
      (items_taken _ _ _ _ (tape_part c.in-Some.item) (tape_part c.in-Some-next.other) c.in-Some.ensures.steps c.in-Some-next.ensures.steps (c.loop-item.invariant.off h)).0),
)

pub same_items-loop-item-preserved : goal.same_items-loop-item-preserved
same_items-loop-item-preserved t c =
    let step = item_step c.loop-item.item-iterator.repeats c.next.new.self.repeats (tape_part c.in-Some.item) (items_ahead c.loop-item.item-iterator) (items_ahead c.next.new.self) c.in-Some.ensures.steps in
    let also = item_step c.loop-item.others.repeats c.next-in-loop-item.new.self.repeats (tape_part c.in-Some-next.other) (items_ahead c.loop-item.others) (items_ahead c.next-in-loop-item.new.self) c.in-Some-next.ensures.steps in
    let i = c.loop-item.invariant in
    record {
      on = λ h. i.on (items_joined _ _ _ _ (tape_part c.in-Some.item) (tape_part c.in-Some-next.other) c.in-Some.ensures.steps c.in-Some-next.ensures.steps (allowed c.same_parts.result _ c.same_parts.ensures c.if-not-same_parts.false, h));
      off = λ h. (items_taken _ _ _ _ (tape_part c.in-Some.item) (tape_part c.in-Some-next.other) c.in-Some.ensures.steps c.in-Some-next.ensures.steps (i.off h)).1;
      lens = omega (arith, i.lens, ap (λ (l : List Tree). length l) step, ap (λ (l : List Tree). length l) also);
      within = omega (arith, i.within, ap (λ l. items_depth (items_from l)) step);
      others_within = omega (arith, i.others_within, ap (λ l. items_depth (items_from l)) also);
    }

pub same_items-returns-in-None-next : goal.same_items-returns-in-None-next
same_items-returns-in-None-next t c =
    let step = item_step c.loop-item.item-iterator.repeats c.next.new.self.repeats (tape_part c.in-Some.item) (items_ahead c.loop-item.item-iterator) (items_ahead c.next.new.self) c.in-Some.ensures.steps in
    absurd (omega (arith, c.loop-item.invariant.lens, ap (λ (l : List Tree). length l) step, ap (λ (l : List Tree). length l) (items_end c.loop-item.others.repeats (items_ahead c.loop-item.others) c.in-None-next.ensures.steps.0)))

pub same_items-returns : goal.same_items-returns
same_items-returns t c =
    let others = none_left _ _ (items_end c.loop-item.item-iterator.repeats (items_ahead c.loop-item.item-iterator) c.in-None.ensures.steps.0) c.loop-item.invariant.lens in
    (λ _. c.loop-item.invariant.on (moved [] [] _ _ (sym c.in-None.ensures.steps.0) (sym (ap (parts c.loop-item.others.repeats) others)) refl), λ h. refl)

pub same_members-returns-in-First-repeats : goal.same_members-returns-in-First-repeats
same_members-returns-in-First-repeats t c =
    as_same (object_choice c.args.left) (object_choice c.args.right) (obj (members c.args.left)) (obj (members c.args.right)) _ First First _ _ (sym c.in-First.is ∙ c.repeats.ensures) (sym c.in-First-repeats.is ∙ c.repeats-in-First.ensures) refl refl c.first_in_step.ensures

pub same_members-returns-in-Last : goal.same_members-returns-in-Last
same_members-returns-in-Last t c =
    as_same (object_choice c.args.left) (object_choice c.args.right) (obj (members c.args.left)) (obj (members c.args.right)) _ Last (object_choice c.args.right) _ _ (sym c.in-Last.is ∙ c.repeats.ensures) refl refl refl c.last_members.ensures

pub same_members-returns-in-Last-repeats : goal.same_members-returns-in-Last-repeats
same_members-returns-in-Last-repeats t c =
    let mine = by_first (object_choice c.args.left) (obj (members c.args.left)) in
    let other = obj (members c.args.right) in
    let last : Last ≡ object_choice c.args.right = sym c.in-Last-repeats.is ∙ c.repeats-in-First.ensures in (
      λ h. same-sym _ _ (subst (λ d. Same (by_first d other) mine) last (c.last_by_key.ensures.0 h)),
      λ h. c.last_by_key.ensures.1 (same-sym mine (by_first Last other) (subst (λ d. Same mine (by_first d other)) (sym last) h)),
    )

pub first_in_step-overflow_add-place : goal.first_in_step-overflow_add-place
first_in_step-overflow_add-place r c =
    let g : c.args.left.len < 2 ^ 64 = search (rules, c.well_formed) in
    omega (arith, (walked First (members c.args.left) c.loop-key.place c.in-Some.key.now c.in-Some.value c.loop-key.key-iterator c.next.new.self c.loop-key.invariant.ahead c.loop-key.invariant.mine c.in-Some.ensures.steps).fits, g, c.args.left.counted)

pub first_in_step-same_parts-requires : goal.first_in_step-same_parts-requires
first_in_step-same_parts-requires r c =
    let own = walked First (members c.args.left) c.loop-key.place c.in-Some.key.now c.in-Some.value c.loop-key.key-iterator c.next.new.self c.loop-key.invariant.ahead c.loop-key.invariant.mine c.in-Some.ensures.steps in
    let its = walked First (members c.args.right) c.loop-key.place c.in-Some-next.name.now c.in-Some-next.other c.loop-key.others c.next-in-loop-key.new.self c.loop-key.invariant.others c.loop-key.invariant.theirs c.in-Some-next.ensures.steps in
    (omega (arith, c.decreases, own.within, its.within), tt)

pub first_in_step-returns-then-not-has_before : goal.first_in_step-returns-then-not-has_before
first_in_step-returns-then-not-has_before r c =
    let i = c.loop-key.invariant in
    let m = members c.args.left in
    let n = members c.args.right in
    let k = c.in-Some.key.now in
    let l = c.in-Some-next.name.now in
    let t = tape_tree c.in-Some.value in
    let u = tape_tree c.in-Some-next.other in
    let own = walked First m c.loop-key.place k c.in-Some.value c.loop-key.key-iterator c.next.new.self i.ahead i.mine c.in-Some.ensures.steps in
    let its = walked First n c.loop-key.place l c.in-Some-next.other c.loop-key.others c.next-in-loop-key.new.self i.others i.theirs c.in-Some-next.ensures.steps in
    let new : c.has_before.result ≡ is_seen_before c.loop-key.place k (paired m) = c.has_before.ensures in
    let asked : c.are_same_texts.result ≡ bytes_eq k l = c.are_same_texts.ensures in (
      λ f. absurd (cc),
      λ h. absurd (denied c.same_parts.result _ c.same_parts.ensures c.if-not-same_parts.true
          (by_choices First First (tape_choice c.in-Some.value) (tape_choice c.in-Some-next.other) t u (sym own.choice) (sym its.choice)
          (same_here c.loop-key.place k t m n _ (members_ahead c.next.new.self) i.ahead own.step l u _ (members_ahead c.next-in-loop-key.new.self) i.others its.step
          c.are_same_texts.result asked c.if-are_same_texts.true i.in_step (sym new ∙ c.if-not-has_before.true) h))),
    )

pub first_in_step-loop-key-preserved : goal.first_in_step-loop-key-preserved
first_in_step-loop-key-preserved r c =
    let i = c.loop-key.invariant in
    let m = members c.args.left in
    let n = members c.args.right in
    let k = c.in-Some.key.now in
    let l = c.in-Some-next.name.now in
    let t = tape_tree c.in-Some.value in
    let u = tape_tree c.in-Some-next.other in
    let own = walked First m c.loop-key.place k c.in-Some.value c.loop-key.key-iterator c.next.new.self i.ahead i.mine c.in-Some.ensures.steps in
    let its = walked First n c.loop-key.place l c.in-Some-next.other c.loop-key.others c.next-in-loop-key.new.self i.others i.theirs c.in-Some-next.ensures.steps in
    let asked : c.are_same_texts.result ≡ bytes_eq k l = c.are_same_texts.ensures in
    record {
      ahead = own.rest;
      others = its.rest;
      in_step = texts_further c.loop-key.place k t m n _ (members_ahead c.next.new.self) i.ahead own.step l u _ (members_ahead c.next-in-loop-key.new.self) i.others its.step
          c.are_same_texts.result asked c.if-are_same_texts.true i.in_step;
      agree = elim c.else-not-same_parts.branch [
        | first_in_step-else-not-same_parts-via-then-not-same_parts+else-not-has_before w ↦
            (let new : w.has_before.result ≡ is_seen_before c.loop-key.place k (paired m) = w.has_before.ensures in
            further_repeat c.loop-key.place k t m n _ (members_ahead c.next.new.self) i.ahead own.step (sym new ∙ w.if-not-has_before.false) i.agree)
        | first_in_step-else-not-same_parts-via-else-not-same_parts w ↦
            further_in_step c.loop-key.place k t m n _ (members_ahead c.next.new.self) i.ahead own.step l u _ (members_ahead c.next-in-loop-key.new.self) i.others its.step
            c.are_same_texts.result asked c.if-are_same_texts.true i.in_step
            (by_choices (tape_choice c.in-Some.value) (tape_choice c.in-Some-next.other) First First t u own.choice its.choice (allowed c.same_parts.result _ c.same_parts.ensures w.if-not-same_parts.false)) i.agree
      ];
      mine = own.mine;
      theirs = its.mine;
    }

pub first_in_step-returns-in-None-next : goal.first_in_step-returns-in-None-next
first_in_step-returns-in-None-next t c =
    let i = c.loop-key.invariant in
    (λ _. same_at_end c.loop-key.place (members c.args.left) (members c.args.right) _ _ i.ahead (members_end c.loop-key.key-iterator.repeats (members_ahead c.loop-key.key-iterator) c.in-None.ensures.steps.0) i.others (members_end c.loop-key.others.repeats (members_ahead c.loop-key.others) c.in-None-next.ensures.steps.0) i.in_step i.agree, λ h. refl)

pub first_by_key-overflow_add-at : goal.first_by_key-overflow_add-at
first_by_key-overflow_add-at r c =
    let g : c.args.left.len < 2 ^ 64 = search (rules, c.well_formed) in
    omega (arith, (walked First (members c.args.left) c.loop-key.at c.in-Some.key.now c.in-Some.value c.loop-key.key-iterator c.next.new.self c.loop-key.invariant.ahead c.loop-key.invariant.mine c.in-Some.ensures.steps).fits, g, c.args.left.counted)

pub first_by_key-same_parts-requires : goal.first_by_key-same_parts-requires
first_by_key-same_parts-requires r c =
    let beside = found_within (object_choice c.args.right) c.in-Some.key.now (members c.args.right) (tape_tree c.in-Some-get.other) (sym c.in-Some-get.ensures.value) in
    (omega (arith, c.decreases, (walked First (members c.args.left) c.loop-key.at c.in-Some.key.now c.in-Some.value c.loop-key.key-iterator c.next.new.self c.loop-key.invariant.ahead c.loop-key.invariant.mine c.in-Some.ensures.steps).within, beside), tt)

pub first_by_key-returns-then-not-same_parts : goal.first_by_key-returns-then-not-same_parts
first_by_key-returns-then-not-same_parts r c =
    let i = c.loop-key.invariant in
    let m = members c.args.left in
    let n = members c.args.right in
    let k = c.in-Some.key.now in
    let t = tape_tree c.in-Some.value in
    let u = tape_tree c.in-Some-get.other in
    let own = walked First m c.loop-key.at k c.in-Some.value c.loop-key.key-iterator c.next.new.self i.ahead i.mine c.in-Some.ensures.steps in
    let found = sym (c.in-Some-get.ensures.value ∙ ap (λ d. find_member_by d k n) c.requires.other_choice) in
    let new : c.has_before.result ≡ is_seen_before c.loop-key.at k (paired m) = c.has_before.ensures in (
      λ f. absurd (cc),
      λ h. absurd (denied c.same_parts.result _ c.same_parts.ensures c.if-not-same_parts.true
          (by_choices First First (tape_choice c.in-Some.value) (tape_choice c.in-Some-get.other) t u (sym own.choice) (sym (c.in-Some-get.ensures.choice ∙ c.requires.other_choice))
          (same_found c.loop-key.at k t m n _ (members_ahead c.next.new.self) i.ahead own.step u (sym new ∙ c.if-not-has_before.true) found h))),
    )

pub first_by_key-returns-in-None-get : goal.first_by_key-returns-in-None-get
first_by_key-returns-in-None-get r c =
    let i = c.loop-key.invariant in
    let m = members c.args.left in
    let n = members c.args.right in
    let k = c.in-Some.key.now in
    let own = walked First m c.loop-key.at k c.in-Some.value c.loop-key.key-iterator c.next.new.self i.ahead i.mine c.in-Some.ensures.steps in
    let new : c.has_before.result ≡ is_seen_before c.loop-key.at k (paired m) = c.has_before.ensures in
    let absent = sym (c.in-None-get.ensures.value ∙ ap (λ d. find_member_by d k n) c.requires.other_choice) in
    (λ f. absurd (cc), λ h. absurd (differ_absent c.loop-key.at k (tape_tree c.in-Some.value) m n _ (members_ahead c.next.new.self) i.ahead own.step (sym new ∙ c.if-not-has_before.true) absent h))

pub first_by_key-loop-key-preserved : goal.first_by_key-loop-key-preserved
first_by_key-loop-key-preserved r c =
    let i = c.loop-key.invariant in
    let m = members c.args.left in
    let n = members c.args.right in
    let k = c.in-Some.key.now in
    let t = tape_tree c.in-Some.value in
    let own = walked First m c.loop-key.at k c.in-Some.value c.loop-key.key-iterator c.next.new.self i.ahead i.mine c.in-Some.ensures.steps in
    record {
      ahead = own.rest;
      agree = elim c.if-at-place.branch [
        | first_by_key-then-at-place+then-not-has_before+in-Some-get+else-not-same_parts w ↦
            (let new : w.has_before.result ≡ is_seen_before c.loop-key.at k (paired m) = w.has_before.ensures in
            let u = tape_tree w.in-Some-get.other in
            let found = sym (w.in-Some-get.ensures.value ∙ ap (λ d. find_member_by d k n) c.requires.other_choice) in
            further_found c.loop-key.at k t m n _ (members_ahead c.next.new.self) i.ahead own.step u (sym new ∙ w.if-not-has_before.true) found
            (by_choices (tape_choice c.in-Some.value) (tape_choice w.in-Some-get.other) First First t u own.choice (w.in-Some-get.ensures.choice ∙ c.requires.other_choice) (allowed w.same_parts.result _ w.same_parts.ensures w.if-not-same_parts.false)) i.agree)
        | first_by_key-else-at-place w ↦ elim w.else-at-place.branch [
          | first_by_key-else-at-place-via-then-at-place+else-not-has_before v ↦
              (let new : v.has_before.result ≡ is_seen_before c.loop-key.at k (paired m) = v.has_before.ensures in
              further_repeat c.loop-key.at k t m n _ (members_ahead c.next.new.self) i.ahead own.step (sym new ∙ v.if-not-has_before.false) i.agree)
          | first_by_key-else-at-place-via-else-at-place v ↦ agree_less (c.loop-key.at + 1) c.args.place (paired m) (paired n) (omega (arith, v.if-at-place.false)) c.requires.agree
        ]
      ];
      mine = own.mine;
    }

pub first_by_key-returns : goal.first_by_key-returns
first_by_key-returns t c =
    let now : IsTrue c.has_keys.result ↔ HasTexts (paired (members c.args.left)) (paired (members c.args.right)) = c.has_keys.ensures in (
      λ h. same_if_has c.loop-key.at (members c.args.left) (members c.args.right) _ c.loop-key.invariant.ahead (members_end c.loop-key.key-iterator.repeats (members_ahead c.loop-key.key-iterator) c.in-None.ensures.steps.0) c.loop-key.invariant.agree (now.0 h),
      λ h. now.1 (has_if_same (members c.args.left) (members c.args.right) h),
    )

pub last_in_step-overflow_add-seen : goal.last_in_step-overflow_add-seen
last_in_step-overflow_add-seen r c =
    let g : c.args.left.len < 2 ^ 64 = search (rules, c.well_formed) in
    omega (arith, (walked Last (members c.args.left) c.loop-key.seen c.in-Some.key.now c.in-Some.value c.loop-key.key-iterator c.next.new.self c.loop-key.invariant.ahead c.loop-key.invariant.mine c.in-Some.ensures.steps).fits, g, c.args.left.counted)

pub last_in_step-same_parts-requires : goal.last_in_step-same_parts-requires
last_in_step-same_parts-requires r c =
    let own = walked Last (members c.args.left) c.loop-key.seen c.in-Some.key.now c.in-Some.value c.loop-key.key-iterator c.next.new.self c.loop-key.invariant.ahead c.loop-key.invariant.mine c.in-Some.ensures.steps in
    let its = walked Last (members c.args.right) c.loop-key.seen c.in-Some-next.field-0-0.now c.in-Some-next.other c.loop-key.others c.next-in-loop-key.new.self c.loop-key.invariant.others c.loop-key.invariant.theirs c.in-Some-next.ensures.steps in
    (omega (arith, c.decreases, own.within, its.within), tt)

pub last_in_step-returns-then-not-has_behind : goal.last_in_step-returns-then-not-has_behind
last_in_step-returns-then-not-has_behind r c =
    let i = c.loop-key.invariant in
    let m = members c.args.left in
    let n = members c.args.right in
    let k = c.in-Some.key.now in
    let l = c.in-Some-next.field-0-0.now in
    let t = tape_tree c.in-Some.value in
    let x = tape_tree c.in-Some-next.other in
    let own = walked Last m c.loop-key.seen k c.in-Some.value c.loop-key.key-iterator c.next.new.self i.ahead i.mine c.in-Some.ensures.steps in
    let its = walked Last n c.loop-key.seen l c.in-Some-next.other c.loop-key.others c.next-in-loop-key.new.self i.others i.theirs c.in-Some-next.ensures.steps in
    let behind = seen_behind c.has_behind.result (c.loop-key.seen + 1) k (paired m) _ c.has_behind.ensures own.rest in
    let alone = sym behind ∙ c.if-not-has_behind.true in
    let both = last_in_both m n c.requires.keys c.loop-key.seen k t _ _ i.ahead own.step l x _ _ i.others its.step alone in (
      λ f. absurd (cc),
      λ h. absurd (denied c.same_parts.result _ c.same_parts.ensures c.if-not-same_parts.true
          (by_choices Last Last (tape_choice c.in-Some.value) (tape_choice c.in-Some-next.other) t x (sym own.choice) (sym its.choice)
          (same_last Last m n k t _ _ own.step c.loop-key.seen i.ahead alone x both h))),
    )

pub last_in_step-loop-key-preserved : goal.last_in_step-loop-key-preserved
last_in_step-loop-key-preserved r c =
    let i = c.loop-key.invariant in
    let m = members c.args.left in
    let n = members c.args.right in
    let k = c.in-Some.key.now in
    let l = c.in-Some-next.field-0-0.now in
    let t = tape_tree c.in-Some.value in
    let x = tape_tree c.in-Some-next.other in
    let own = walked Last m c.loop-key.seen k c.in-Some.value c.loop-key.key-iterator c.next.new.self i.ahead i.mine c.in-Some.ensures.steps in
    let its = walked Last n c.loop-key.seen l c.in-Some-next.other c.loop-key.others c.next-in-loop-key.new.self i.others i.theirs c.in-Some-next.ensures.steps in
    record {
      ahead = own.rest;
      others = its.rest;
      counted = elim c.else-not-same_parts.branch [
        | last_in_step-else-not-same_parts-via-then-not-same_parts+else-not-has_behind w ↦
            (let behind = seen_behind w.has_behind.result (c.loop-key.seen + 1) k (paired m) _ w.has_behind.ensures own.rest in
            counted_again Last m n k t _ _ own.step (sym behind ∙ w.if-not-has_behind.false) i.counted)
        | last_in_step-else-not-same_parts-via-else-not-same_parts w ↦
            counted_in_step m n c.requires.keys c.loop-key.seen k t _ _ i.ahead own.step l x _ _ i.others its.step
            (by_choices (tape_choice c.in-Some.value) (tape_choice c.in-Some-next.other) Last Last t x own.choice its.choice (allowed c.same_parts.result _ c.same_parts.ensures w.if-not-same_parts.false)) i.counted
      ];
      mine = own.mine;
      theirs = its.mine;
    }

pub last_in_step-returns-in-None-next : goal.last_in_step-returns-in-None-next
last_in_step-returns-in-None-next r c =
    let i = c.loop-key.invariant in
    let own = walked Last (members c.args.left) c.loop-key.seen c.in-Some.key.now c.in-Some.value c.loop-key.key-iterator c.next.new.self i.ahead i.mine c.in-Some.ensures.steps in
    absurd (goes_on (members c.args.left) (members c.args.right) c.requires.keys c.loop-key.seen c.in-Some.key.now (tape_tree c.in-Some.value) _ _ i.ahead own.step _ i.others (members_end c.loop-key.others.repeats (members_ahead c.loop-key.others) c.in-None-next.ensures.steps.0))

pub last_in_step-returns : goal.last_in_step-returns
last_in_step-returns t c =
    (λ _. same_if_counted Last (members c.args.left) (members c.args.right) _ (members_end c.loop-key.key-iterator.repeats (members_ahead c.loop-key.key-iterator) c.in-None.ensures.steps.0) c.loop-key.invariant.counted (λ k s. ap (is_seen k) c.requires.keys ∙ s), λ h. refl)

pub last_by_key-overflow_add-seen : goal.last_by_key-overflow_add-seen
last_by_key-overflow_add-seen r c =
    let g : c.args.left.len < 2 ^ 64 = search (rules, c.well_formed) in
    omega (arith, (walked Last (members c.args.left) c.loop-key.seen c.in-Some.key.now c.in-Some.value c.loop-key.key-iterator c.next.new.self c.loop-key.invariant.ahead c.loop-key.invariant.mine c.in-Some.ensures.steps).fits, g, c.args.left.counted)

pub last_by_key-same_parts-requires : goal.last_by_key-same_parts-requires
last_by_key-same_parts-requires r c =
    let beside = found_within (object_choice c.args.right) c.in-Some.key.now (members c.args.right) (tape_tree c.in-Some-get.other) (sym c.in-Some-get.ensures.value) in
    (omega (arith, c.decreases, (walked Last (members c.args.left) c.loop-key.seen c.in-Some.key.now c.in-Some.value c.loop-key.key-iterator c.next.new.self c.loop-key.invariant.ahead c.loop-key.invariant.mine c.in-Some.ensures.steps).within, beside), tt)

pub last_by_key-returns-then-not-same_parts : goal.last_by_key-returns-then-not-same_parts
last_by_key-returns-then-not-same_parts r c =
    let i = c.loop-key.invariant in
    let m = members c.args.left in
    let k = c.in-Some.key.now in
    let d = object_choice c.args.right in
    let t = tape_tree c.in-Some.value in
    let u = tape_tree c.in-Some-get.other in
    let own = walked Last m c.loop-key.seen k c.in-Some.value c.loop-key.key-iterator c.next.new.self i.ahead i.mine c.in-Some.ensures.steps in
    let behind = seen_behind c.has_behind.result (c.loop-key.seen + 1) k (paired m) _ c.has_behind.ensures own.rest in (
      λ f. absurd (cc),
      λ h. absurd (denied c.same_parts.result _ c.same_parts.ensures c.if-not-same_parts.true
          (by_choices Last d (tape_choice c.in-Some.value) (tape_choice c.in-Some-get.other) t u (sym own.choice) (sym c.in-Some-get.ensures.choice)
          (same_last d m (members c.args.right) k t _ _ own.step c.loop-key.seen i.ahead (sym behind ∙ c.if-not-has_behind.true) u (sym c.in-Some-get.ensures.value) h))),
    )

pub last_by_key-loop-key-preserved-else-not-same_parts : goal.last_by_key-loop-key-preserved-else-not-same_parts
last_by_key-loop-key-preserved-else-not-same_parts r c =
    let i = c.loop-key.invariant in
    let m = members c.args.left in
    let k = c.in-Some.key.now in
    let d = object_choice c.args.right in
    let t = tape_tree c.in-Some.value in
    let u = tape_tree c.in-Some-get.other in
    let own = walked Last m c.loop-key.seen k c.in-Some.value c.loop-key.key-iterator c.next.new.self i.ahead i.mine c.in-Some.ensures.steps in
    let behind = seen_behind c.has_behind.result (c.loop-key.seen + 1) k (paired m) _ c.has_behind.ensures own.rest in
    record {
      ahead = own.rest;
      counted = counted_same d m (members c.args.right) k t _ _ own.step c.loop-key.seen i.ahead (sym behind ∙ c.if-not-has_behind.true) u (sym c.in-Some-get.ensures.value)
          (by_choices (tape_choice c.in-Some.value) (tape_choice c.in-Some-get.other) Last d t u own.choice c.in-Some-get.ensures.choice (allowed c.same_parts.result _ c.same_parts.ensures c.if-not-same_parts.false)) i.counted;
      mine = own.mine;
    }

pub last_by_key-returns-in-None-get : goal.last_by_key-returns-in-None-get
last_by_key-returns-in-None-get r c =
    let i = c.loop-key.invariant in
    let m = members c.args.left in
    let k = c.in-Some.key.now in
    let own = walked Last m c.loop-key.seen k c.in-Some.value c.loop-key.key-iterator c.next.new.self i.ahead i.mine c.in-Some.ensures.steps in
    let behind = seen_behind c.has_behind.result (c.loop-key.seen + 1) k (paired m) _ c.has_behind.ensures own.rest in
    (λ f. absurd (cc), λ h. absurd (not_same_last (object_choice c.args.right) m (members c.args.right) k (tape_tree c.in-Some.value) _ _ own.step c.loop-key.seen i.ahead (sym behind ∙ c.if-not-has_behind.true) (sym c.in-None-get.ensures.value) h))

pub last_by_key-loop-key-preserved : goal.last_by_key-loop-key-preserved
last_by_key-loop-key-preserved r c =
    let i = c.loop-key.invariant in
    let m = members c.args.left in
    let k = c.in-Some.key.now in
    let own = walked Last m c.loop-key.seen k c.in-Some.value c.loop-key.key-iterator c.next.new.self i.ahead i.mine c.in-Some.ensures.steps in
    let behind = seen_behind c.has_behind.result (c.loop-key.seen + 1) k (paired m) _ c.has_behind.ensures own.rest in
    record {
      ahead = own.rest;
      counted = counted_again (object_choice c.args.right) m (members c.args.right) k (tape_tree c.in-Some.value) _ _ own.step (sym behind ∙ c.if-not-has_behind.false) i.counted;
      mine = own.mine;
    }

pub last_by_key-returns : goal.last_by_key-returns
last_by_key-returns t c =
    let m = members c.args.left in
    let n = members c.args.right in
    let now : IsTrue c.has_keys.result ↔ HasTexts (paired m) (paired n) = c.has_keys.ensures in (
      λ h. same_if_counted (object_choice c.args.right) m n _ (members_end c.loop-key.key-iterator.repeats (members_ahead c.loop-key.key-iterator) c.in-None.ensures.steps.0) c.loop-key.invariant.counted (now.0 h),
      λ h. now.1 (has_if_counted (object_choice c.args.right) m n h),
    )
