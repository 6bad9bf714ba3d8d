use Rattle.std.proofs.Common.{◌≡◌, List, ◌+◌, ◌<◌, ◌^◌, ◌↔◌, map, refl, sym, ap, subst, ◌∙◌, arith, rules, length, IsTrue, bytes_eq}
use Rattle.sj_text_core.specs.Tree.{Tree, list, obj, depth, items_depth, items_from, listed, paired}
use Rattle.sj_text_core.specs.Agree.{is_seen_before}
use Rattle.sj_text_core.specs.inner.Agree.{HasTexts}
use Rattle.sj_text_core.specs.Keep.{is_seen}
use Rattle.sj_text_core.specs.Repeats.{by_first}
use Rattle.sj_text_core.specs.Same.{SameItems}
use Rattle.sj_text_core.specs.declared.repeats.Repeats.{Repeats}
use Rattle.sj_text_core.specs.declared.repeats.Repeats.TheVariants.{First, Last}
use Rattle.sj_text_core.proofs.Shapes.{items_from-listed, list_is, obj_is}
use Rattle.sj_tape.specs.Items.{items, items_ahead, array_choice}
use Rattle.sj_tape.specs.Members.{members, members_ahead, object_choice, chosen_pairs, members_parts_ahead}
use Rattle.sj_tape.specs.Value.{tape_tree, tape_choice, tape_part}
use Rattle.sj_tape.proofs.Chosen.{item_step, members_end}
use Rattle.sj_tape.proofs.Compared.{scalar_is, length-listed, drop_next, same_here, further_repeat, further_in_step, texts_further, same_at_end, same_found, differ_absent, further_found, same_if_has, has_if_same, allowed, denied, agree_less}
use Rattle.sj_tape.proofs.Counted.{parts, part_items, len_by, by_choices, seen_behind, counted_again, counted_same, same_last, not_same_last, same_if_counted, has_if_counted, goes_on, counted_none}
use Rattle.sj_tape.proofs.Sorts.{sort_by, as_same}
use Rattle.sj_tape.proofs.Walked.{walked}
use Rattle.sj_object.specs.Entries.{entries_of}
use Rattle.sj_object.specs.Members.{entry_members}
use Rattle.sj_object.specs.Texts.{no_repeats}
use Rattle.sj_document.specs.Document.{document_tree}
use Rattle.sj_document.proofs.Trees.{tree-Static, tree-Array, tree-Object}
use Rattle.sj_document.proofs.Mixed.{lens_mixed, ended_mixed, into_mixed, from_mixed, taken_mixed, joined_mixed, lens_next, texts_paired, found_at, absent_at, first_here, last_here, found_here}
use Rattle.sj_document.proofs.Sorts.{text_is, same_text, tree-String, by_static, by_text, unlike_static, unlike_text, unlike_list, unlike_obj}
use Rattle.sj_document.proofs.value.cmp.tape.+same.Goals as goal
use Rattle.sj_document.proofs.value.cmp.tape.+same.Goals.{first_by_key-then-at-place+then-not-has_before+in-Some-get+else-not-same_as_tape, first_by_key-else-at-place, first_by_key-else-at-place-via-then-at-place+else-not-has_before, first_by_key-else-at-place-via-else-at-place}

pub same_as_tape-returns-in-Some : goal.same_as_tape-returns-in-Some
same_as_tape-returns-in-Some g r c =
    let u = g.T.KeyText.text_of in
    let mine = scalar_is (tape_tree c.args.left) _ c.in-Some.ensures in
    let other = ap (document_tree u) c.in-Static.is ∙ tree-Static u c.in-Static.other in
    by_static _ (tape_choice c.args.left) (tape_tree c.args.left) (document_tree u c.args.right.now) c.in-Some.scalar c.in-Static.other mine other c.eq.ensures.same

pub same_as_tape-returns-in-Some-into_string : goal.same_as_tape-returns-in-Some-into_string
same_as_tape-returns-in-Some-into_string g r c =
    let u = g.T.KeyText.text_of in
    let s = c.in-Some-into_string.text.now in
    let mine = text_is (tape_tree c.args.left) s c.in-Some-into_string.ensures in
    let other = ap (document_tree u) c.in-String.is ∙ tree-String u c.in-String.other in
    by_text _ (tape_choice c.args.left) (tape_tree c.args.left) (document_tree u c.args.right.now) s (u c.in-String.other) mine other (same_text s (u c.in-String.other) _ (c.are_same_texts.ensures ∙ ap (bytes_eq s) c.text.ensures))

pub same_as_tape-returns-in-Some-as_array : goal.same_as_tape-returns-in-Some-as_array
same_as_tape-returns-in-Some-as_array g r c =
    let u = g.T.KeyText.text_of in
    let mine = list_is (tape_tree c.args.left) (items c.in-Some-as_array.items) c.in-Some-as_array.ensures.items in
    let other = ap (document_tree u) c.in-Array.is ∙ tree-Array u c.in-Array.others ∙ ap (λ v. list (items_from (map (document_tree u) v.items))) (sym c.deref.ensures) in
    as_same (tape_choice c.args.left) First (tape_tree c.args.left) (document_tree u c.args.right.now) _ _ First _ _ c.in-Some-as_array.ensures.choice refl mine other c.same_items.ensures

pub same_as_tape-returns-in-None : goal.same_as_tape-returns-in-None
same_as_tape-returns-in-None g r c =
    (λ f. absurd (cc), λ h. absurd (unlike_static (tape_tree c.args.left) (by_first (tape_choice c.args.left) (tape_tree c.args.left)) (document_tree g.T.KeyText.text_of c.args.right.now) (sort_by (tape_choice c.args.left) (tape_tree c.args.left)) c.in-None.ensures c.in-Static.other (ap (document_tree g.T.KeyText.text_of) c.in-Static.is ∙ tree-Static g.T.KeyText.text_of c.in-Static.other) h))

pub same_as_tape-returns-in-None-into_string : goal.same_as_tape-returns-in-None-into_string
same_as_tape-returns-in-None-into_string g r c =
    (λ f. absurd (cc), λ h. absurd (unlike_text (tape_tree c.args.left) (by_first (tape_choice c.args.left) (tape_tree c.args.left)) (document_tree g.T.KeyText.text_of c.args.right.now) (sort_by (tape_choice c.args.left) (tape_tree c.args.left)) c.in-None-into_string.ensures _ (ap (document_tree g.T.KeyText.text_of) c.in-String.is ∙ tree-String g.T.KeyText.text_of c.in-String.other) h))

pub same_as_tape-returns-in-None-as_array : goal.same_as_tape-returns-in-None-as_array
same_as_tape-returns-in-None-as_array g r c =
    (λ f. absurd (cc), λ h. absurd (unlike_list (tape_tree c.args.left) (by_first (tape_choice c.args.left) (tape_tree c.args.left)) (document_tree g.T.KeyText.text_of c.args.right.now) (sort_by (tape_choice c.args.left) (tape_tree c.args.left)) c.in-None-as_array.ensures.items _ (ap (document_tree g.T.KeyText.text_of) c.in-Array.is ∙ tree-Array g.T.KeyText.text_of c.in-Array.others) h))

pub same_as_tape-returns-in-None-as_object : goal.same_as_tape-returns-in-None-as_object
same_as_tape-returns-in-None-as_object g r c =
    (λ f. absurd (cc), λ h. absurd (unlike_obj (tape_tree c.args.left) (by_first (tape_choice c.args.left) (tape_tree c.args.left)) (document_tree g.T.KeyText.text_of c.args.right.now) (sort_by (tape_choice c.args.left) (tape_tree c.args.left)) c.in-None-as_object.ensures.members _ (ap (document_tree g.T.KeyText.text_of) c.in-Object.is ∙ tree-Object g.T.KeyText.text_of c.in-Object.others) h))

pub same_as_tape-same_members-requires : goal.same_as_tape-same_members-requires
same_as_tape-same_members-requires g r c κs within =
    (omega (arith, c.decreases, ap depth (obj_is (tape_tree c.args.left) (members c.in-Some-as_object.members) c.in-Some-as_object.ensures.members)), (within, c.repeats.ensures ∙ sym c.in-Some-as_object.ensures.choice))

pub same_as_tape-returns-in-Some-as_object : goal.same_as_tape-returns-in-Some-as_object
same_as_tape-returns-in-Some-as_object g r c =
    let u = g.T.KeyText.text_of in
    let mine = obj_is (tape_tree c.args.left) (members c.in-Some-as_object.members) c.in-Some-as_object.ensures.members in
    let other = ap (document_tree u) c.in-Object.is ∙ tree-Object u c.in-Object.others ∙ ap (λ m. obj (entry_members (document_tree u) m.entries)) (sym c.deref-in-Some-as_object.ensures) in
    as_same (tape_choice c.args.left) First (tape_tree c.args.left) (document_tree u c.args.right.now) _ _ First _ _ c.in-Some-as_object.ensures.choice refl mine other c.same_members.ensures

pub same_items-returns-then-len-others : goal.same_items-returns-then-len-others
same_items-returns-then-len-others g r c =
    let u = document_tree g.T.KeyText.text_of in
    (λ f. absurd (cc), λ h. absurd (c.if-len-others.true (c.len.ensures ∙ sym (len_by (array_choice c.args.left) (items c.args.left)) ∙ lens_mixed u (part_items (parts (array_choice c.args.left) (listed (items c.args.left)))) c.args.right.now.items (into_mixed (array_choice c.args.left) (items c.args.left) (items_from (map u c.args.right.now.items)) h) ∙ sym (ap length c.as_slice-others.ensures.value))))

pub same_items-loop-other-init : goal.same_items-loop-other-init
same_items-loop-other-init g r c =
    let first = ap items_from c.iter-items.ensures.items ∙ items_from-listed (items c.args.left) in
    let all = ap part_items c.iter-items.ensures.parts in
    let others = items_from (map (document_tree g.T.KeyText.text_of) c.as_slice-others.result.now) in
    record {
      on = λ h. from_mixed (array_choice c.args.left) (items c.args.left) others (subst (λ is. SameItems is others) all h);
      off = λ h. subst (λ is. SameItems is others) (sym all) (into_mixed (array_choice c.args.left) (items c.args.left) others h);
      lens = ap length c.iter-items.ensures.items ∙ length-listed (items c.args.left) ∙ sym c.len.ensures ∙ c.if-len-others.false;
      within = omega (arith, ap items_depth first);
    }

pub same_items-same_as_tape-requires : goal.same_items-same_as_tape-requires
same_items-same_as_tape-requires g r c κs within =
    (omega (arith, c.decreases, c.loop-other.invariant.within, ap (λ l. items_depth (items_from l)) (item_step c.loop-other.items.repeats c.next.new.self.repeats (tape_part c.in-Some.item) (items_ahead c.loop-other.items) (items_ahead c.next.new.self) c.in-Some.ensures.steps)), within)

pub same_items-returns-then-not-same_as_tape : goal.same_items-returns-then-not-same_as_tape
same_items-returns-then-not-same_as_tape g r c =
    let u = document_tree g.T.KeyText.text_of in
    let steps = ap (λ (l : List (Repeats × Tree)). map (λ (p : Repeats × Tree). by_first p.0 p.1) l) c.in-Some.ensures.steps in (
      λ f. absurd (cc),
      λ h. absurd (denied c.same_as_tape.result _ c.same_as_tape.ensures c.if-not-same_as_tape.true
          (taken_mixed u _ _ (by_first (tape_choice c.in-Some.item) (tape_tree c.in-Some.item)) steps c.loop-other.other-index _ c.other-item.result c.loop-other-test.true c.other-item.is
          (c.loop-other.invariant.off (rw c.as_slice-others.ensures.value h))).0),
    )

pub same_items-loop-other-preserved : goal.same_items-loop-other-preserved
same_items-loop-other-preserved g r c =
    let step = item_step c.loop-other.items.repeats c.next.new.self.repeats (tape_part c.in-Some.item) (items_ahead c.loop-other.items) (items_ahead c.next.new.self) c.in-Some.ensures.steps in
    let u = document_tree g.T.KeyText.text_of in
    let steps = ap (λ (l : List (Repeats × Tree)). map (λ (p : Repeats × Tree). by_first p.0 p.1) l) c.in-Some.ensures.steps in
    let first = by_first (tape_choice c.in-Some.item) (tape_tree c.in-Some.item) in
    let i = c.loop-other.invariant in
    record {
      on = λ h. i.on (joined_mixed u _ _ first steps c.loop-other.other-index _ c.other-item.result c.loop-other-test.true c.other-item.is
          (allowed c.same_as_tape.result _ c.same_as_tape.ensures c.if-not-same_as_tape.false, h));
      off = λ h. (taken_mixed u _ _ first steps c.loop-other.other-index _ c.other-item.result c.loop-other-test.true c.other-item.is (i.off h)).1;
      lens = lens_next u _ _ (tape_tree c.in-Some.item) step c.loop-other.other-index _ c.other-item.result c.loop-other-test.true c.other-item.is i.lens;
      within = omega (arith, i.within, ap (λ l. items_depth (items_from l)) step);
    }

pub same_items-returns : goal.same_items-returns
same_items-returns g r c =
    let all = c.loop-other.invariant.on (ended_mixed (document_tree g.T.KeyText.text_of) c.loop-other.items.repeats (items_ahead c.loop-other.items) c.loop-other.other-index c.as_slice-others.result.now (omega (arith, c.loop-other-test.false)) c.loop-other.invariant.lens) in
    (λ _. rw c.as_slice-others.ensures.value at all, λ h. refl)

pub same_members-returns-in-First : goal.same_members-returns-in-First
same_members-returns-in-First g r c =
    as_same (object_choice c.args.left) First (obj (members c.args.left)) (obj (entry_members (document_tree g.T.KeyText.text_of) c.args.right.now.entries)) _ First First _ _ (sym c.in-First.is ∙ c.requires) refl refl refl c.first_in_step.ensures

pub same_members-returns-in-Last : goal.same_members-returns-in-Last
same_members-returns-in-Last g r c =
    as_same (object_choice c.args.left) First (obj (members c.args.left)) (obj (entry_members (document_tree g.T.KeyText.text_of) c.args.right.now.entries)) _ Last First _ _ (sym c.in-Last.is ∙ c.requires) refl refl refl c.last_members.ensures

pub first_in_step-overflow_add-place : goal.first_in_step-overflow_add-place
first_in_step-overflow_add-place g r c =
    let f : c.args.left.len < 2 ^ 64 = search (rules, c.well_formed) in
    omega (arith, (walked First (members c.args.left) c.loop-key.place c.in-Some.key.now c.in-Some.value c.loop-key.key-iterator c.next.new.self c.loop-key.invariant.ahead c.loop-key.invariant.mine c.in-Some.ensures.steps).fits, f, c.args.left.counted)

pub first_in_step-same_as_tape-requires : goal.first_in_step-same_as_tape-requires
first_in_step-same_as_tape-requires g r c κs within =
    (omega (arith, c.decreases, (walked First (members c.args.left) c.loop-key.place c.in-Some.key.now c.in-Some.value c.loop-key.key-iterator c.next.new.self c.loop-key.invariant.ahead c.loop-key.invariant.mine c.in-Some.ensures.steps).within), within)

pub first_in_step-returns-then-not-same_as_tape : goal.first_in_step-returns-then-not-same_as_tape
first_in_step-returns-then-not-same_as_tape g r c =
    let i = c.loop-key.invariant in
    let m = members c.args.left in
    let own = walked First m c.loop-key.place c.in-Some.key.now c.in-Some.value c.loop-key.key-iterator c.next.new.self i.ahead i.mine c.in-Some.ensures.steps in
    let u = g.T.KeyText.text_of in
    let n = entry_members (document_tree u) c.args.right.now.entries in
    let shows = ap (λ s. paired (entry_members (document_tree u) (entries_of u s))) c.in-Some-next.ensures.steps in
    let asked : c.are_same_texts.result ≡ bytes_eq c.in-Some.key.now (u c.in-Some-next.name.now) = c.are_same_texts.ensures ∙ ap (bytes_eq c.in-Some.key.now) c.text.ensures in
    let alone = ap no_repeats (texts_paired (document_tree u) c.args.right.now.entries) ∙ c.args.right.now.distinct in (
      λ f. absurd (cc),
      λ h. absurd (denied c.same_as_tape.result _ c.same_as_tape.ensures c.if-not-same_as_tape.true
          (by_choices First First (tape_choice c.in-Some.value) First (tape_tree c.in-Some.value) (document_tree u c.in-Some-next.other.now) (sym own.choice) refl
          (same_here c.loop-key.place c.in-Some.key.now (tape_tree c.in-Some.value) m n _ (members_ahead c.next.new.self) i.ahead own.step
          (u c.in-Some-next.name.now) (document_tree u c.in-Some-next.other.now) _ _ i.others shows c.are_same_texts.result asked c.if-are_same_texts.true i.in_step
          (first_here c.loop-key.place c.in-Some.key.now (u c.in-Some-next.name.now) (document_tree u c.in-Some-next.other.now) (paired m) (paired n) _ _ c.are_same_texts.result i.others shows asked c.if-are_same_texts.true i.in_step alone) h))),
    )

pub first_in_step-loop-key-preserved : goal.first_in_step-loop-key-preserved
first_in_step-loop-key-preserved g r c =
    let i = c.loop-key.invariant in
    let m = members c.args.left in
    let own = walked First m c.loop-key.place c.in-Some.key.now c.in-Some.value c.loop-key.key-iterator c.next.new.self i.ahead i.mine c.in-Some.ensures.steps in
    let u = g.T.KeyText.text_of in
    let n = entry_members (document_tree u) c.args.right.now.entries in
    let shows = ap (λ s. paired (entry_members (document_tree u) (entries_of u s))) c.in-Some-next.ensures.steps in
    let asked : c.are_same_texts.result ≡ bytes_eq c.in-Some.key.now (u c.in-Some-next.name.now) = c.are_same_texts.ensures ∙ ap (bytes_eq c.in-Some.key.now) c.text.ensures in
    record {
      ahead = own.rest;
      others = drop_next c.loop-key.place (paired n) _ _ (i.others ∙ shows);
      in_step = texts_further c.loop-key.place c.in-Some.key.now (tape_tree c.in-Some.value) m n _ (members_ahead c.next.new.self) i.ahead own.step
          (u c.in-Some-next.name.now) (document_tree u c.in-Some-next.other.now) _ _ i.others shows c.are_same_texts.result asked c.if-are_same_texts.true i.in_step;
      agree = further_in_step c.loop-key.place c.in-Some.key.now (tape_tree c.in-Some.value) m n _ (members_ahead c.next.new.self) i.ahead own.step
          (u c.in-Some-next.name.now) (document_tree u c.in-Some-next.other.now) _ _ i.others shows c.are_same_texts.result asked c.if-are_same_texts.true i.in_step
          (by_choices (tape_choice c.in-Some.value) First First First (tape_tree c.in-Some.value) (document_tree u c.in-Some-next.other.now) own.choice refl (allowed c.same_as_tape.result _ c.same_as_tape.ensures c.if-not-same_as_tape.false)) i.agree;
      mine = own.mine;
    }

pub first_in_step-returns-in-None-next : goal.first_in_step-returns-in-None-next
first_in_step-returns-in-None-next g r c =
    let i = c.loop-key.invariant in
    (λ _. same_at_end c.loop-key.place (members c.args.left) (entry_members (document_tree g.T.KeyText.text_of) c.args.right.now.entries) _ _ i.ahead (members_end c.loop-key.key-iterator.repeats (members_ahead c.loop-key.key-iterator) c.in-None.ensures.steps.0) i.others (ap (λ s. paired (entry_members (document_tree g.T.KeyText.text_of) (entries_of g.T.KeyText.text_of s))) c.in-None-next.ensures.steps.0) i.in_step i.agree, λ h. refl)

pub first_by_key-overflow_add-at : goal.first_by_key-overflow_add-at
first_by_key-overflow_add-at g r c =
    let f : c.args.left.len < 2 ^ 64 = search (rules, c.well_formed) in
    omega (arith, (walked First (members c.args.left) c.loop-key.at c.in-Some.key.now c.in-Some.value c.loop-key.key-iterator c.next.new.self c.loop-key.invariant.ahead c.loop-key.invariant.mine c.in-Some.ensures.steps).fits, f, c.args.left.counted)

pub first_by_key-same_as_tape-requires : goal.first_by_key-same_as_tape-requires
first_by_key-same_as_tape-requires g r c κs within =
    (omega (arith, c.decreases, (walked First (members c.args.left) c.loop-key.at c.in-Some.key.now c.in-Some.value c.loop-key.key-iterator c.next.new.self c.loop-key.invariant.ahead c.loop-key.invariant.mine c.in-Some.ensures.steps).within), within)

pub first_by_key-returns-then-not-same_as_tape : goal.first_by_key-returns-then-not-same_as_tape
first_by_key-returns-then-not-same_as_tape g r c =
    let i = c.loop-key.invariant in
    let own = walked First (members c.args.left) c.loop-key.at c.in-Some.key.now c.in-Some.value c.loop-key.key-iterator c.next.new.self i.ahead i.mine c.in-Some.ensures.steps in
    let u = g.T.KeyText.text_of in
    let es = c.args.right.now.entries in
    let new : c.has_before.result ≡ is_seen_before c.loop-key.at c.in-Some.key.now (paired (members c.args.left)) = c.has_before.ensures in (
      λ f. absurd (cc),
      λ h. absurd (denied c.same_as_tape.result _ c.same_as_tape.ensures c.if-not-same_as_tape.true
          (by_choices First First (tape_choice c.in-Some.value) First (tape_tree c.in-Some.value) (document_tree u c.in-Some-get.other.now) (sym own.choice) refl
          (same_found c.loop-key.at c.in-Some.key.now (tape_tree c.in-Some.value) (members c.args.left) (entry_members (document_tree u) es) _ (members_ahead c.next.new.self) i.ahead own.step
          (document_tree u c.in-Some-get.other.now) (sym new ∙ c.if-not-has_before.true) (found_at (document_tree u) c.in-Some.key.now es c.in-Some-get.other.now c.in-Some-get.ensures) h))),
    )

pub first_by_key-returns-in-None-get : goal.first_by_key-returns-in-None-get
first_by_key-returns-in-None-get g r c =
    let i = c.loop-key.invariant in
    let own = walked First (members c.args.left) c.loop-key.at c.in-Some.key.now c.in-Some.value c.loop-key.key-iterator c.next.new.self i.ahead i.mine c.in-Some.ensures.steps in
    let u = g.T.KeyText.text_of in
    let es = c.args.right.now.entries in
    let new : c.has_before.result ≡ is_seen_before c.loop-key.at c.in-Some.key.now (paired (members c.args.left)) = c.has_before.ensures in (
      λ f. absurd (cc),
      λ h. absurd (differ_absent c.loop-key.at c.in-Some.key.now (tape_tree c.in-Some.value) (members c.args.left) (entry_members (document_tree u) es) _ (members_ahead c.next.new.self)
          i.ahead own.step (sym new ∙ c.if-not-has_before.true) (absent_at (document_tree u) c.in-Some.key.now es c.in-None-get.ensures) h),
    )

pub first_by_key-loop-key-preserved : goal.first_by_key-loop-key-preserved
first_by_key-loop-key-preserved g r c =
    let i = c.loop-key.invariant in
    let m = members c.args.left in
    let own = walked First m c.loop-key.at c.in-Some.key.now c.in-Some.value c.loop-key.key-iterator c.next.new.self i.ahead i.mine c.in-Some.ensures.steps in
    let u = g.T.KeyText.text_of in
    let es = c.args.right.now.entries in
    let n = entry_members (document_tree u) es in
    record {
      ahead = own.rest;
      agree = elim c.if-at-place.branch [
        | first_by_key-then-at-place+then-not-has_before+in-Some-get+else-not-same_as_tape w ↦
            (let new : w.has_before.result ≡ is_seen_before c.loop-key.at c.in-Some.key.now (paired m) = w.has_before.ensures in
            further_found c.loop-key.at c.in-Some.key.now (tape_tree c.in-Some.value) m n _ (members_ahead c.next.new.self) i.ahead own.step
            (document_tree u w.in-Some-get.other.now) (sym new ∙ w.if-not-has_before.true) (found_at (document_tree u) c.in-Some.key.now es w.in-Some-get.other.now w.in-Some-get.ensures)
            (by_choices (tape_choice c.in-Some.value) First First First (tape_tree c.in-Some.value) (document_tree u w.in-Some-get.other.now) own.choice refl (allowed w.same_as_tape.result _ w.same_as_tape.ensures w.if-not-same_as_tape.false)) i.agree)
        | first_by_key-else-at-place w ↦ elim w.else-at-place.branch [
          | first_by_key-else-at-place-via-then-at-place+else-not-has_before v ↦
              (let new : v.has_before.result ≡ is_seen_before c.loop-key.at c.in-Some.key.now (paired m) = v.has_before.ensures in
              further_repeat c.loop-key.at c.in-Some.key.now (tape_tree c.in-Some.value) m n _ (members_ahead c.next.new.self) i.ahead own.step (sym new ∙ v.if-not-has_before.false) i.agree)
          | first_by_key-else-at-place-via-else-at-place v ↦ agree_less (c.loop-key.at + 1) c.args.place (paired m) (paired n) (omega (arith, v.if-at-place.false)) c.requires.agree
        ]
      ];
      mine = own.mine;
    }

pub first_by_key-returns : goal.first_by_key-returns
first_by_key-returns g r c =
    let n = entry_members (document_tree g.T.KeyText.text_of) c.args.right.now.entries in
    let now : IsTrue c.has_keys.result ↔ HasTexts (paired (members c.args.left)) (paired n) = c.has_keys.ensures in (
      λ h. same_if_has c.loop-key.at (members c.args.left) n _ c.loop-key.invariant.ahead (members_end c.loop-key.key-iterator.repeats (members_ahead c.loop-key.key-iterator) c.in-None.ensures.steps.0) c.loop-key.invariant.agree (now.0 h),
      λ h. now.1 (has_if_same (members c.args.left) n h),
    )

pub last_in_step-loop-value-init : goal.last_in_step-loop-value-init
last_in_step-loop-value-init g r c =
    let u = document_tree g.T.KeyText.text_of in
    let m = members c.args.left in
    let es = c.args.right.now.entries in
    let all : members_ahead c.into_iter-value-iterator.result ≡ paired m = ap members_ahead c.into_iter-value-iterator.ensures.into_iter_gives ∙ c.iter-value-items.ensures.members in
    record {
      at = (0, sym all, sym (ap (λ es. paired (entry_members u es)) c.iter-others.ensures));
      counted = counted_none First m (entry_members u es) _ all;
      mine = ap members_parts_ahead c.into_iter-value-iterator.ensures.into_iter_gives ∙ c.iter-value-items.ensures.parts ∙ ap (λ e. chosen_pairs e (paired m)) c.requires.choice ∙ ap (chosen_pairs Last) (sym all);
    }

pub last_in_step-same_as_tape-requires : goal.last_in_step-same_as_tape-requires
last_in_step-same_as_tape-requires g r c κs within =
    (omega (arith, c.decreases, (walked Last (members c.args.left) c.loop-value.invariant.at.0 c.in-Some.field-0-0.now c.in-Some.value c.loop-value.value-iterator c.next.new.self c.loop-value.invariant.at.1 c.loop-value.invariant.mine c.in-Some.ensures.steps).within), within)

pub last_in_step-returns-then-not-same_as_tape : goal.last_in_step-returns-then-not-same_as_tape
last_in_step-returns-then-not-same_as_tape g r c =
    let i = c.loop-value.invariant in
    let m = members c.args.left in
    let k = c.in-Some.field-0-0.now in
    let own = walked Last m i.at.0 k c.in-Some.value c.loop-value.value-iterator c.next.new.self i.at.1 i.mine c.in-Some.ensures.steps in
    let t = g.T.KeyText.text_of in
    let u = document_tree t in
    let es = c.args.right.now.entries in
    let n = entry_members u es in
    let l = t c.in-Some-next.field-0-0.now in
    let x = u c.in-Some-next.other.now in
    let shows = ap (λ s. paired (entry_members u (entries_of t s))) c.in-Some-next.ensures.steps in
    let alone = ap no_repeats (texts_paired u es) ∙ c.args.right.now.distinct in
    let here = last_here m n c.requires.keys alone i.at.0 k l (tape_tree c.in-Some.value) x _ _ _ _ i.at.1 own.step i.at.2 shows in
    let found = found_here m n c.requires.keys alone i.at.0 k l (tape_tree c.in-Some.value) x _ _ _ _ i.at.1 own.step i.at.2 shows in (
      λ f. absurd (cc),
      λ h. absurd (denied c.same_as_tape.result _ c.same_as_tape.ensures c.if-not-same_as_tape.true
          (by_choices Last First (tape_choice c.in-Some.value) First (tape_tree c.in-Some.value) x (sym own.choice) refl (same_last First m n k (tape_tree c.in-Some.value) _ _ own.step i.at.0 i.at.1 here x found h))),
    )

pub last_in_step-loop-value-preserved : goal.last_in_step-loop-value-preserved
last_in_step-loop-value-preserved g r c =
    let i = c.loop-value.invariant in
    let m = members c.args.left in
    let k = c.in-Some.field-0-0.now in
    let own = walked Last m i.at.0 k c.in-Some.value c.loop-value.value-iterator c.next.new.self i.at.1 i.mine c.in-Some.ensures.steps in
    let t = g.T.KeyText.text_of in
    let u = document_tree t in
    let es = c.args.right.now.entries in
    let n = entry_members u es in
    let l = t c.in-Some-next.field-0-0.now in
    let x = u c.in-Some-next.other.now in
    let shows = ap (λ s. paired (entry_members u (entries_of t s))) c.in-Some-next.ensures.steps in
    let alone = ap no_repeats (texts_paired u es) ∙ c.args.right.now.distinct in
    let here = last_here m n c.requires.keys alone i.at.0 k l (tape_tree c.in-Some.value) x _ _ _ _ i.at.1 own.step i.at.2 shows in
    let found = found_here m n c.requires.keys alone i.at.0 k l (tape_tree c.in-Some.value) x _ _ _ _ i.at.1 own.step i.at.2 shows in
    record {
      at = (i.at.0 + 1, own.rest, drop_next i.at.0 (paired n) _ _ (i.at.2 ∙ shows));
      counted = counted_same First m n k (tape_tree c.in-Some.value) _ _ own.step i.at.0 i.at.1 here x found
          (by_choices (tape_choice c.in-Some.value) First Last First (tape_tree c.in-Some.value) x own.choice refl (allowed c.same_as_tape.result _ c.same_as_tape.ensures c.if-not-same_as_tape.false)) i.counted;
      mine = own.mine;
    }

pub last_in_step-returns-in-None-next : goal.last_in_step-returns-in-None-next
last_in_step-returns-in-None-next g r c =
    let i = c.loop-value.invariant in
    let k = c.in-Some.field-0-0.now in
    let own = walked Last (members c.args.left) i.at.0 k c.in-Some.value c.loop-value.value-iterator c.next.new.self i.at.1 i.mine c.in-Some.ensures.steps in
    absurd (goes_on (members c.args.left) (entry_members (document_tree g.T.KeyText.text_of) c.args.right.now.entries) c.requires.keys i.at.0 k (tape_tree c.in-Some.value) _ _ i.at.1 own.step _ i.at.2 (ap (λ s. paired (entry_members (document_tree g.T.KeyText.text_of) (entries_of g.T.KeyText.text_of s))) c.in-None-next.ensures.steps.0))

pub last_in_step-returns : goal.last_in_step-returns
last_in_step-returns g r c =
    (λ _. same_if_counted First (members c.args.left) (entry_members (document_tree g.T.KeyText.text_of) c.args.right.now.entries) _ (members_end c.loop-value.value-iterator.repeats (members_ahead c.loop-value.value-iterator) c.in-None.ensures.steps.0) c.loop-value.invariant.counted (λ k s. ap (is_seen k) c.requires.keys ∙ s), λ h. refl)

pub last_by_key-overflow_add-seen : goal.last_by_key-overflow_add-seen
last_by_key-overflow_add-seen g r c =
    let f : c.args.left.len < 2 ^ 64 = search (rules, c.well_formed) in
    omega (arith, (walked Last (members c.args.left) c.loop-key.seen c.in-Some.key.now c.in-Some.value c.loop-key.key-iterator c.next.new.self c.loop-key.invariant.ahead c.loop-key.invariant.mine c.in-Some.ensures.steps).fits, f, c.args.left.counted)

pub last_by_key-same_as_tape-requires : goal.last_by_key-same_as_tape-requires
last_by_key-same_as_tape-requires g r c κs within =
    (omega (arith, c.decreases, (walked Last (members c.args.left) c.loop-key.seen c.in-Some.key.now c.in-Some.value c.loop-key.key-iterator c.next.new.self c.loop-key.invariant.ahead c.loop-key.invariant.mine c.in-Some.ensures.steps).within), within)

pub last_by_key-returns-then-not-same_as_tape : goal.last_by_key-returns-then-not-same_as_tape
last_by_key-returns-then-not-same_as_tape g r c =
    let i = c.loop-key.invariant in
    let m = members c.args.left in
    let k = c.in-Some.key.now in
    let own = walked Last m c.loop-key.seen k c.in-Some.value c.loop-key.key-iterator c.next.new.self i.ahead i.mine c.in-Some.ensures.steps in
    let u = document_tree g.T.KeyText.text_of in
    let es = c.args.right.now.entries in
    let behind = seen_behind c.has_behind.result (c.loop-key.seen + 1) k (paired m) _ c.has_behind.ensures own.rest in (
      λ f. absurd (cc),
      λ h. absurd (denied c.same_as_tape.result _ c.same_as_tape.ensures c.if-not-same_as_tape.true
          (by_choices Last First (tape_choice c.in-Some.value) First (tape_tree c.in-Some.value) (u c.in-Some-get.other.now) (sym own.choice) refl
          (same_last First m (entry_members u es) k (tape_tree c.in-Some.value) _ _ own.step c.loop-key.seen i.ahead (sym behind ∙ c.if-not-has_behind.true) (u c.in-Some-get.other.now) (found_at u k es c.in-Some-get.other.now c.in-Some-get.ensures) h))),
    )

pub last_by_key-loop-key-preserved-else-not-same_as_tape : goal.last_by_key-loop-key-preserved-else-not-same_as_tape
last_by_key-loop-key-preserved-else-not-same_as_tape g r c =
    let i = c.loop-key.invariant in
    let m = members c.args.left in
    let k = c.in-Some.key.now in
    let own = walked Last m c.loop-key.seen k c.in-Some.value c.loop-key.key-iterator c.next.new.self i.ahead i.mine c.in-Some.ensures.steps in
    let u = document_tree g.T.KeyText.text_of in
    let es = c.args.right.now.entries in
    let behind = seen_behind c.has_behind.result (c.loop-key.seen + 1) k (paired m) _ c.has_behind.ensures own.rest in
    record {
      ahead = own.rest;
      counted = counted_same First m (entry_members u es) k (tape_tree c.in-Some.value) _ _ own.step c.loop-key.seen i.ahead (sym behind ∙ c.if-not-has_behind.true) (u c.in-Some-get.other.now) (found_at u k es c.in-Some-get.other.now c.in-Some-get.ensures)
          (by_choices (tape_choice c.in-Some.value) First Last First (tape_tree c.in-Some.value) (u c.in-Some-get.other.now) own.choice refl (allowed c.same_as_tape.result _ c.same_as_tape.ensures c.if-not-same_as_tape.false)) i.counted;
      mine = own.mine;
    }

pub last_by_key-returns-in-None-get : goal.last_by_key-returns-in-None-get
last_by_key-returns-in-None-get g r c =
    let i = c.loop-key.invariant in
    let m = members c.args.left in
    let k = c.in-Some.key.now in
    let own = walked Last m c.loop-key.seen k c.in-Some.value c.loop-key.key-iterator c.next.new.self i.ahead i.mine c.in-Some.ensures.steps in
    let u = document_tree g.T.KeyText.text_of in
    let es = c.args.right.now.entries in
    let behind = seen_behind c.has_behind.result (c.loop-key.seen + 1) k (paired m) _ c.has_behind.ensures own.rest in
    (λ f. absurd (cc), λ h. absurd (not_same_last First m (entry_members u es) k (tape_tree c.in-Some.value) _ _ own.step c.loop-key.seen i.ahead (sym behind ∙ c.if-not-has_behind.true) (absent_at u k es c.in-None-get.ensures) h))

pub last_by_key-loop-key-preserved : goal.last_by_key-loop-key-preserved
last_by_key-loop-key-preserved g r c =
    let i = c.loop-key.invariant in
    let m = members c.args.left in
    let k = c.in-Some.key.now in
    let own = walked Last m c.loop-key.seen k c.in-Some.value c.loop-key.key-iterator c.next.new.self i.ahead i.mine c.in-Some.ensures.steps in
    let behind = seen_behind c.has_behind.result (c.loop-key.seen + 1) k (paired m) _ c.has_behind.ensures own.rest in
    record {
      ahead = own.rest;
      counted = counted_again First m (entry_members (document_tree g.T.KeyText.text_of) c.args.right.now.entries) k (tape_tree c.in-Some.value) _ _ own.step (sym behind ∙ c.if-not-has_behind.false) i.counted;
      mine = own.mine;
    }

pub last_by_key-returns : goal.last_by_key-returns
last_by_key-returns g r c =
    let m = members c.args.left in
    let n = entry_members (document_tree g.T.KeyText.text_of) c.args.right.now.entries in
    let now : IsTrue c.has_keys.result ↔ HasTexts (paired m) (paired n) = c.has_keys.ensures in
    (λ h. same_if_counted First m n _ (members_end c.loop-key.key-iterator.repeats (members_ahead c.loop-key.key-iterator) c.in-None.ensures.steps.0) c.loop-key.invariant.counted (now.0 h), λ h. now.1 (has_if_counted First m n h))
