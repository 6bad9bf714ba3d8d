use Rattle.std.proofs.Common.{Some, option_map, sym, ap, ◌∙◌}
use Rattle.sj_text_core.specs.Tree.{items_len}
use Rattle.sj_text_core.specs.Reads.{as_items}
use Rattle.sj_tape.specs.Value.{tape_tree, tape_choice}
use Rattle.sj_lazy.specs.Value.{value_kept}
use Rattle.sj_lazy.proofs.Lists.{array_len-keep_by}
use Rattle.sj_lazy.proofs.value.items.Value.array_len.Goals as goal

pub returns-in_ok-as_array-in-Tape-clause-kept : goal.returns-in_ok-as_array-in-Tape-clause-kept
returns-in_ok-as_array-in-Tape-clause-kept c =
    let part = c.in-Tape.part in
    ap Some c.len.ensures ∙ ap (option_map items_len) c.in_ok-as_array-in-Tape.ensures.items ∙ sym (array_len-keep_by (tape_choice part) (tape_tree part))
    ∙ sym (ap (λ v. option_map items_len (as_items (value_kept v))) c.in-Tape.is)
