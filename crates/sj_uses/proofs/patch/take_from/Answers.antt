use Rattle.std.proofs.Common.{Some, option_map, string_bytes, sym, ap, ◌∙◌}
use Rattle.sj_document.specs.Document.{document_tree}
use Rattle.sj_uses.proofs.Containers.{item_taken, no_item_taken, no_member_taken}
use Rattle.sj_uses.proofs.patch.take_from.Goals as goal

pub returns-in-None-clause-kept : goal.returns-in-None-clause-kept
returns-in-None-clause-kept c = c.remove.ensures.after ∙ no_member_taken c.args.token.now (document_tree string_bytes c.args.container.now) (sym c.in_ok-old.ensures.answer ∙ ap (option_map (document_tree string_bytes)) c.in-None.is)

pub returns-in-Some-2-clause-done : goal.returns-in-Some-2-clause-done
returns-in-Some-2-clause-done c =
    let t = document_tree string_bytes c.args.container.now in
    let found = sym c.in_ok-old-2.ensures.answer ∙ ap (option_map (document_tree string_bytes)) c.in-Some-2.is in
    ap (λ u. Some u) c.remove_idx.ensures.after ∙ item_taken c.args.token.now c.in-Some-position.at t (document_tree string_bytes c.in-Some-2.old) found (sym c.in-Some-position.ensures)

pub returns-in-None-2-clause-kept : goal.returns-in-None-2-clause-kept
returns-in-None-2-clause-kept c = c.remove_idx.ensures.after ∙ no_item_taken c.in-Some-position.at (document_tree string_bytes c.args.container.now) (sym c.in_ok-old-2.ensures.answer ∙ ap (option_map (document_tree string_bytes)) c.in-None-2.is)
