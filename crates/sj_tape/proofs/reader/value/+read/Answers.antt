use Rattle.std.proofs.Common.{◌≡◌, ℕ, List, MutBor, set, ◌+◌, ◌-◌, ◌++◌, ◌∷◌, [], Some, length, sym, ap, ◌∙◌, arith, refl, true, false}
use Rattle.std.proofs.lemmas.Result.{IfOk-weaker, err_from_is_err_and}
use Rattle.sj_text_core.specs.Tree.{list, obj, items_from, members_from}
use Rattle.sj_text_core.specs.Nodes.{flat, array, object}
use Rattle.sj_tape.specs.Marks.{packed_marks}
use Rattle.sj_text_core.specs.inner.Parse.{read_value, parts_at, list_at, obj_at, read_member}
use Rattle.sj_tape.proofs.Gives.{ends_drop, behind_quote, gives_by, list_is, obj_is, member_by, member_gives, member_errs, filled, empty}
use Rattle.sj_tape.proofs.Parts.{fails, parts_none, parts_unseparated, last_turn, next_turn, item_flats, member_flats, member_flat, item_flats-push, member_flats-push}
use Rattle.sj_tape.proofs.Values.{value_at_end, value_too_deep, value_too_deep_2, value_in_list, value_in_obj, value_scalar, count_is, nodes_set, flat_list_is, flat_obj_is}
use Rattle.sj_tape.proofs.reader.value.+read.Goals as goal

pub value-returns-then-is_empty-clause-err : goal.value-returns-then-is_empty-clause-err
value-returns-then-is_empty-clause-err t c = λ _. value_at_end c.args.depth c.args.rest.now 0 (empty (length c.args.rest.now) c.if-is_empty.ensures)

pub value-returns-then-byte-le57-clause-ok : goal.value-returns-then-byte-le57-clause-ok
value-returns-then-byte-le57-clause-ok t c =
    gives_by _ _ c.in_ok-left.left.now _ _ (value_scalar c.args.depth c.args.rest.now 0 (filled (length c.args.rest.now) c.if-is_empty.ensures) (omega (arith, c.if-byte-le57.true)) (omega (arith, c.if-byte-le57.true))) c.in_ok-left.ensures.ok

pub value-returns-in_err-left-clause-err : goal.value-returns-in_err-left-clause-err
value-returns-in_err-left-clause-err t c =
    let p = err_from_is_err_and c.from_residual.result c.from_residual.ensures.1 in
    rw (p.1, p.2) (λ n. value_scalar c.args.depth c.args.rest.now 0 (filled (length c.args.rest.now) c.if-is_empty.ensures) (omega (arith, c.if-byte-le57.true)) (omega (arith, c.if-byte-le57.true)) ∙ c.in_err-left.ensures.err n)

pub other_value-returns-then-depth-eq0-clause-err : goal.other_value-returns-then-depth-eq0-clause-err
other_value-returns-then-depth-eq0-clause-err t c = λ _. value_too_deep c.args.depth c.args.rest.now 0 c.requires.some c.if-byte-eq91.true c.if-depth-eq0.true

pub other_value-returns-then-depth-eq0-2-clause-err : goal.other_value-returns-then-depth-eq0-2-clause-err
other_value-returns-then-depth-eq0-2-clause-err t c = λ _. value_too_deep_2 c.args.depth c.args.rest.now 0 c.requires.some c.if-byte-eq123.true c.if-depth-eq0-2.true

pub other_value-array-requires : goal.other_value-array-requires
other_value-array-requires t c = (omega (arith, c.decreases), ends_drop c.args.rest.now _ 1 c.requires.ends c.split_at_mut-inside.ensures.back)

pub other_value-returns-then-byte-eq91-clause-ok : goal.other_value-returns-then-byte-eq91-clause-ok
other_value-returns-then-byte-eq91-clause-ok t c =
    let e = value_in_list c.args.depth c.args.rest.now 0 c.requires.some c.if-byte-eq91.true c.if-depth-eq0.false in
    let f = e ∙ ap (λ l. list_at (read_value (c.args.depth - 1)) l) (sym c.split_at_mut-inside.ensures.back) in
    gives_by _ _ c.in_ok-left.left.now _ _ f c.in_ok-left.ensures.ok

pub other_value-object-requires : goal.other_value-object-requires
other_value-object-requires t c = (omega (arith, c.decreases), ends_drop c.args.rest.now _ 1 c.requires.ends c.split_at_mut-inside-then-byte-eq123.ensures.back)

pub other_value-returns-then-byte-eq123-clause-ok : goal.other_value-returns-then-byte-eq123-clause-ok
other_value-returns-then-byte-eq123-clause-ok t c =
    let e = value_in_obj c.args.depth c.args.rest.now 0 c.requires.some c.if-byte-eq123.true c.if-depth-eq0-2.false in
    let f = e ∙ ap (λ l. obj_at (read_value (c.args.depth - 1)) l) (sym c.split_at_mut-inside-then-byte-eq123.ensures.back) in
    gives_by _ _ c.in_ok-left-2.left.now _ _ f c.in_ok-left-2.ensures.ok

pub other_value-returns-clause-ok : goal.other_value-returns-clause-ok
other_value-returns-clause-ok t c =
    gives_by _ _ c.in_ok-left-3.left.now _ _ (value_scalar c.args.depth c.args.rest.now 0 c.requires.some c.if-byte-eq91.false c.if-byte-eq123.false) c.in_ok-left-3.ensures.ok

pub other_value-returns-in_err-left-clause-err : goal.other_value-returns-in_err-left-clause-err
other_value-returns-in_err-left-clause-err t c =
    let p = err_from_is_err_and c.from_residual.result c.from_residual.ensures.1 in
    rw (p.1, p.2) (λ n. value_in_list c.args.depth c.args.rest.now 0 c.requires.some c.if-byte-eq91.true c.if-depth-eq0.false ∙ ap (λ l. list_at (read_value (c.args.depth - 1)) l) (sym c.split_at_mut-inside.ensures.back) ∙ c.in_err-left.ensures.err n)

pub other_value-returns-in_err-left-2-clause-err : goal.other_value-returns-in_err-left-2-clause-err
other_value-returns-in_err-left-2-clause-err t c =
    let p = err_from_is_err_and c.from_residual-in_err-left-2.result c.from_residual-in_err-left-2.ensures.1 in
    rw (p.1, p.2) (λ n. value_in_obj c.args.depth c.args.rest.now 0 c.requires.some c.if-byte-eq123.true c.if-depth-eq0-2.false ∙ ap (λ l. obj_at (read_value (c.args.depth - 1)) l) (sym c.split_at_mut-inside-then-byte-eq123.ensures.back) ∙ c.in_err-left-2.ensures.err n)

pub other_value-returns-in_err-left-3-clause-err : goal.other_value-returns-in_err-left-3-clause-err
other_value-returns-in_err-left-3-clause-err t c =
    let p = err_from_is_err_and c.from_residual-in_err-left-3.result c.from_residual-in_err-left-3.ensures.1 in
    rw (p.1, p.2) (λ n. value_scalar c.args.depth c.args.rest.now 0 c.requires.some c.if-byte-eq91.false c.if-byte-eq123.false ∙ c.in_err-left-3.ensures.err n)

pub array-returns-then-byte_at-eq93-clause-ends : goal.array-returns-then-byte_at-eq93-clause-ends
array-returns-then-byte_at-eq93-clause-ends t c = ends_drop c.args.rest.now _ (c.skip-first.result + 1) c.requires c.split_at_mut-rest.ensures.back

pub array-items-requires : goal.array-items-requires
array-items-requires t c = (omega (arith, c.decreases), ends_drop c.args.rest.now _ c.skip-first.result c.requires c.split_at_mut-inside.ensures.back)

pub array-returns-clause-ok : goal.array-returns-clause-ok
array-returns-clause-ok t c =
    let old = packed_marks c.args.nodes.now.items in
    let new = packed_marks c.items.new.nodes.items in
    let k = c.in_ok-rest.ensures.ok in
    let inner = c.count.result - c.count-place.result - 1 in
    let at_end : c.count-place.result ≡ length old = c.count-place.ensures in
    let nodes' : new ≡ (old ++ array 0 0 ∷ []) ++ item_flats k.trees = k.nodes ∙ ap (λ ns. ns ++ item_flats k.trees) c.in_ok-push_node.ensures.marks in
    let counted : inner ≡ length (item_flats k.trees) = omega (arith, c.count.ensures, at_end, count_is old new (array 0 0) (item_flats k.trees) nodes') in
    record {
      tree = list (items_from k.trees);
      was = list_is (read_value c.args.depth) c.args.rest.now _ _ c.skip-first.result k.trees c.skip-first.ensures.rest (λ e. c.if-byte_at-eq93.false (c.byte_at.ensures ∙ e)) c.split_at_mut-inside.ensures.back k.was;
      nodes = c.set_node.ensures
          ∙ (ap (λ n. set new n (array c.in_ok-rest.len inner)) at_end
          ∙ (nodes_set old new (array 0 0) (array c.in_ok-rest.len inner) (item_flats k.trees) nodes' ∙ ap (λ m. old ++ m) (sym (flat_list_is k.trees c.in_ok-rest.len inner k.count counted))));
    }

pub items-returns-in_err-after-clause-err : goal.items-returns-in_err-after-clause-err
items-returns-in_err-after-clause-err t c =
    let p = err_from_is_err_and c.from_residual.result c.from_residual.ensures.1 in
    rw (p.1, p.2) (λ n. fails item_flats _ _ _ _ _ c.loop-after.invariant.progress
    (parts_none 93 (read_value c.args.depth) (length c.args.bytes.now - c.loop-after.len) c.loop-after.rest.now (c.in_err-after.ensures.err n)))

pub items-loop-after-preserved : goal.items-loop-after-preserved
items-loop-after-preserved t c =
    let s = c.separator-stop.ensures.comma c.in-Comma.is in
    let k = c.split_at_mut-next.ensures in
    let a = c.in_ok-after.ensures in
    record {
      room = omega (arith, c.loop-after.invariant.room, a.shorter, k.back_len);
      ends = ends_drop c.in_ok-after.after.now _ c.separator-stop.result.next a.ends k.back;
      progress = next_turn 93 (read_value c.args.depth) item_flats (λ t. flat t) item_flats-push (length c.args.bytes.now) c.loop-after.len c.loop-after.rest.now
          c.in_ok-after.after.now c.split_at_mut-next.result.1.now true
          (parts_at 93 (read_value c.args.depth) (length c.args.bytes.now) c.args.bytes.now)
          (packed_marks c.args.nodes.now.items) (packed_marks c.loop-after.nodes.items) (packed_marks c.value.new.nodes.items)
          a.ok.tree (omega (arith, c.loop-after.invariant.room, a.shorter)) c.loop-after.invariant.progress a.ok.was (s.2 ∙ ap (λ l. Some (true, l)) (sym k.back)) refl a.ok.nodes;
    }

pub items-returns-in-Close-clause-ok : goal.items-returns-in-Close-clause-ok
items-returns-in-Close-clause-ok t c =
    let s = c.separator-stop.ensures.close c.in-Close.is in
    let a = c.in_ok-after.ensures in
    let d = last_turn 93 (read_value c.args.depth) item_flats (λ t. flat t) item_flats-push (length c.args.bytes.now) c.loop-after.len c.loop-after.rest.now
    c.in_ok-after.after.now c.split_at_mut-behind.result.1.now false
    (parts_at 93 (read_value c.args.depth) (length c.args.bytes.now) c.args.bytes.now)
    (packed_marks c.args.nodes.now.items) (packed_marks c.loop-after.nodes.items) (packed_marks c.value.new.nodes.items)
    a.ok.tree (omega (arith, c.loop-after.invariant.room, a.shorter)) c.loop-after.invariant.progress a.ok.was (s.2 ∙ ap (λ l. Some (false, l)) (sym c.split_at_mut-behind.ensures.back)) refl a.ok.nodes in
    record { trees = d.parts; was = d.was; nodes = d.nodes; count = d.count }

pub items-returns-in-Close-clause-ends : goal.items-returns-in-Close-clause-ends
items-returns-in-Close-clause-ends t c = ends_drop c.in_ok-after.after.now _ c.separator-stop.result.next c.in_ok-after.ensures.ends c.split_at_mut-behind.ensures.back

pub items-returns-in-Other-clause-err : goal.items-returns-in-Other-clause-err
items-returns-in-Other-clause-err t c = λ _. fails item_flats _ _ _ _ _ c.loop-after.invariant.progress
    (parts_unseparated 93 (read_value c.args.depth) (length c.args.bytes.now - c.loop-after.len) c.loop-after.rest.now
    c.in_ok-after.ensures.ok.tree c.in_ok-after.after.now c.in_ok-after.ensures.ok.was (c.separator-stop.ensures.other c.in-Other.is))

pub object-returns-then-byte_at-eq125-clause-ends : goal.object-returns-then-byte_at-eq125-clause-ends
object-returns-then-byte_at-eq125-clause-ends t c = ends_drop c.args.rest.now _ (c.skip-first.result + 1) c.requires c.split_at_mut-rest.ensures.back

pub object-members-requires : goal.object-members-requires
object-members-requires t c = (omega (arith, c.decreases), ends_drop c.args.rest.now _ c.skip-first.result c.requires c.split_at_mut-inside.ensures.back)

pub object-returns-clause-ok : goal.object-returns-clause-ok
object-returns-clause-ok t c =
    let old = packed_marks c.args.nodes.now.items in
    let new = packed_marks c.members.new.nodes.items in
    let k = c.in_ok-rest.ensures.ok in
    let inner = c.count.result - c.count-place.result - 1 in
    let at_end : c.count-place.result ≡ length old = c.count-place.ensures in
    let nodes' : new ≡ (old ++ object 0 0 ∷ []) ++ member_flats k.pairs = k.nodes ∙ ap (λ ns. ns ++ member_flats k.pairs) c.in_ok-push_node.ensures.marks in
    let counted : inner ≡ length (member_flats k.pairs) = omega (arith, c.count.ensures, at_end, count_is old new (object 0 0) (member_flats k.pairs) nodes') in
    record {
      tree = obj (members_from k.pairs);
      was = obj_is (read_value c.args.depth) c.args.rest.now _ _ c.skip-first.result k.pairs c.skip-first.ensures.rest (λ e. c.if-byte_at-eq125.false (c.byte_at.ensures ∙ e)) c.split_at_mut-inside.ensures.back k.was;
      nodes = c.set_node.ensures
          ∙ (ap (λ n. set new n (object c.in_ok-rest.len inner)) at_end
          ∙ (nodes_set old new (object 0 0) (object c.in_ok-rest.len inner) (member_flats k.pairs) nodes' ∙ ap (λ m. old ++ m) (sym (flat_obj_is k.pairs c.in_ok-rest.len inner k.count counted))));
    }

pub members-returns-in_err-after-clause-err : goal.members-returns-in_err-after-clause-err
members-returns-in_err-after-clause-err t c =
    let p = err_from_is_err_and c.from_residual.result c.from_residual.ensures.1 in
    rw (p.1, p.2) (λ n. fails member_flats _ _ _ _ _ c.loop-after.invariant.progress
    (parts_none 125 (read_member (read_value c.args.depth)) (length c.args.bytes.now - c.loop-after.len) c.loop-after.rest.now (c.in_err-after.ensures.err n)))

pub members-loop-after-preserved : goal.members-loop-after-preserved
members-loop-after-preserved t c =
    let s = c.separator-stop.ensures.comma c.in-Comma.is in
    let k = c.split_at_mut-next.ensures in
    let a = c.in_ok-after.ensures in
    record {
      room = omega (arith, c.loop-after.invariant.room, a.shorter, k.back_len);
      ends = ends_drop c.in_ok-after.after.now _ c.separator-stop.result.next a.ends k.back;
      progress = next_turn 125 (read_member (read_value c.args.depth)) member_flats member_flat member_flats-push (length c.args.bytes.now) c.loop-after.len c.loop-after.rest.now
          c.in_ok-after.after.now c.split_at_mut-next.result.1.now true
          (parts_at 125 (read_member (read_value c.args.depth)) (length c.args.bytes.now) c.args.bytes.now)
          (packed_marks c.args.nodes.now.items) (packed_marks c.loop-after.nodes.items) (packed_marks c.member.new.nodes.items)
          (a.ok.key, a.ok.tree) (omega (arith, c.loop-after.invariant.room, a.shorter)) c.loop-after.invariant.progress a.ok.was (s.2 ∙ ap (λ l. Some (true, l)) (sym k.back)) refl a.ok.nodes;
    }

pub members-returns-in-Close-clause-ok : goal.members-returns-in-Close-clause-ok
members-returns-in-Close-clause-ok t c =
    let s = c.separator-stop.ensures.close c.in-Close.is in
    let a = c.in_ok-after.ensures in
    let d = last_turn 125 (read_member (read_value c.args.depth)) member_flats member_flat member_flats-push (length c.args.bytes.now) c.loop-after.len c.loop-after.rest.now
    c.in_ok-after.after.now c.split_at_mut-behind.result.1.now false
    (parts_at 125 (read_member (read_value c.args.depth)) (length c.args.bytes.now) c.args.bytes.now)
    (packed_marks c.args.nodes.now.items) (packed_marks c.loop-after.nodes.items) (packed_marks c.member.new.nodes.items)
    (a.ok.key, a.ok.tree) (omega (arith, c.loop-after.invariant.room, a.shorter)) c.loop-after.invariant.progress a.ok.was (s.2 ∙ ap (λ l. Some (false, l)) (sym c.split_at_mut-behind.ensures.back)) refl a.ok.nodes in
    record { pairs = d.parts; was = d.was; nodes = d.nodes; count = d.count }

pub members-returns-in-Close-clause-ends : goal.members-returns-in-Close-clause-ends
members-returns-in-Close-clause-ends t c = ends_drop c.in_ok-after.after.now _ c.separator-stop.result.next c.in_ok-after.ensures.ends c.split_at_mut-behind.ensures.back

pub members-returns-in-Other-clause-err : goal.members-returns-in-Other-clause-err
members-returns-in-Other-clause-err t c = λ _. fails member_flats _ _ _ _ _ c.loop-after.invariant.progress
    (parts_unseparated 125 (read_member (read_value c.args.depth)) (length c.args.bytes.now - c.loop-after.len) c.loop-after.rest.now
    (c.in_ok-after.ensures.ok.key, c.in_ok-after.ensures.ok.tree) c.in_ok-after.after.now c.in_ok-after.ensures.ok.was (c.separator-stop.ensures.other c.in-Other.is))

pub member-text-requires : goal.member-text-requires
member-text-requires t c = behind_quote c.args.rest.now _ c.requires (sym c.byte_at.ensures ∙ c.if-byte_at-ne34.false) c.split_at_mut-inside.ensures.back

pub member-value-requires : goal.member-value-requires
member-value-requires t c = (omega (arith, c.decreases), ends_drop c.in_ok-behind.behind.now _ c.skip-place.result c.in_ok-behind.ensures.ends c.split_at_mut-next.ensures.back)

pub member-returns-clause-ok : goal.member-returns-clause-ok
member-returns-clause-ok t c =
    let k = c.in_ok-behind.ensures.ok in
    let e = member_by (read_value c.args.depth) c.args.rest.now _ c.in_ok-behind.behind.now _ c.skip-colon.result c.skip-place.result k.text (sym c.byte_at.ensures ∙ c.if-byte_at-ne34.false) c.split_at_mut-inside.ensures.back k.was
    c.skip-colon.ensures.rest (sym c.byte_at-2.ensures ∙ c.if-byte_at-ne58.false) c.skip-place.ensures.rest c.split_at_mut-next.ensures.back in
    IfOk-weaker {X = MutBor (List ℕ)} _ _ _ (λ r h. member_gives _ _ _ c.in_ok-behind.behind.now r.now _ _ _ k e h) c.value.ensures.ok

pub member-returns-clause-err : goal.member-returns-clause-err
member-returns-clause-err t c =
    let k = c.in_ok-behind.ensures.ok in
    let e = member_by (read_value c.args.depth) c.args.rest.now _ c.in_ok-behind.behind.now _ c.skip-colon.result c.skip-place.result k.text (sym c.byte_at.ensures ∙ c.if-byte_at-ne34.false) c.split_at_mut-inside.ensures.back k.was
    c.skip-colon.ensures.rest (sym c.byte_at-2.ensures ∙ c.if-byte_at-ne58.false) c.skip-place.ensures.rest c.split_at_mut-next.ensures.back in
    member_errs _ _ _ _ k.text e c.value.ensures.err
