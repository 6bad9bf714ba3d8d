use Rattle.std.proofs.Common.{◌≡◌, IsUtf8, length, max, rules, sym, ap, ◌∙◌}
use Rattle.std.proofs.lemmas.List.{length-map}
use Rattle.std.proofs.lemmas.Result.{err_from_is_err_and}
use Rattle.sj_text_core.specs.Nodes.{flat}
use Rattle.sj_tape.specs.Marks.{packed_mark, packed_marks}
use Rattle.sj_tape.proofs.Reading.{is_read, is_taped, preorder_is, unreadable}
use Rattle.sj_tape.proofs.reader.read.Goals as goal

pub tape_for-requires : goal.tape_for-requires
tape_for-requires c = preorder_is (packed_marks c.read_tree.new.nodes.items) c.in_ok-read_tree.ensures.ok.tree c.in_ok-read_tree.ensures.ok.nodes

pub returns-clause-spelled : goal.returns-clause-spelled
returns-clause-spelled c =
    let utf8 : IsUtf8 c.args.bytes.now = search rules in
    (is_read c.args.bytes.now c.tape_for.result utf8 (is_taped c.args.bytes.now _ _ c.in_ok-read_tree.ensures.ok c.tape_for.ensures)).spelled

pub returns-clause-within : goal.returns-clause-within
returns-clause-within c =
    let utf8 : IsUtf8 c.args.bytes.now = search rules in
    (is_read c.args.bytes.now c.tape_for.result utf8 (is_taped c.args.bytes.now _ _ c.in_ok-read_tree.ensures.ok c.tape_for.ensures)).within

pub returns-clause-only : goal.returns-clause-only
returns-clause-only c =
    let utf8 : IsUtf8 c.args.bytes.now = search rules in
    (is_read c.args.bytes.now c.tape_for.result utf8 (is_taped c.args.bytes.now _ _ c.in_ok-read_tree.ensures.ok c.tape_for.ensures)).only

pub returns-in_err-read_tree-clause-err : goal.returns-in_err-read_tree-clause-err
returns-in_err-read_tree-clause-err c =
    let p = err_from_is_err_and c.from_residual-in_err-read_tree.result c.from_residual-in_err-read_tree.ensures.1 in
    rw (p.1, p.2) (λ _ n. unreadable c.args.bytes.now (c.in_err-read_tree.ensures.err n))

pub returns-clause-room : goal.returns-clause-room
returns-clause-room c =
    let ms = packed_marks c.read_tree.new.nodes.items in
    let e : length c.read_tree.new.nodes.items ≡ length (flat c.tape_for.result) =
    sym (length-map c.read_tree.new.nodes.items packed_mark) ∙ ap length (preorder_is ms c.in_ok-read_tree.ensures.ok.tree c.in_ok-read_tree.ensures.ok.nodes) ∙ ap (λ t. length (flat t)) (sym c.tape_for.ensures) in
    let l : c.len.result ≡ length c.read_tree.new.nodes.items = search rules in
    c.max.ensures ∙ ap (λ n. max n c.args.room.now) (l ∙ e)
