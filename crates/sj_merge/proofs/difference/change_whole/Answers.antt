use Rattle.std.proofs.Common.{◌≡◌, false, option_map, ap, ◌∙◌}
use Rattle.std.specs.Option.{option_copied}
use Rattle.std.proofs.lemmas.Result.{IfOk-weaker}
use Rattle.sj_text_core.specs.Equal.{passes, tree_eq}
use Rattle.sj_document.specs.Document.{document_tree}
use Rattle.sj_merge.proofs.Changes.{eq_true, eq_false}
use Rattle.sj_merge.proofs.difference.change_whole.Goals as goal

pub returns-then-same : goal.returns-then-same
returns-then-same g c =
    let t = g.T.KeyText.text_of in
    let w = document_tree t c.args.value.now in
    ap (λ o. passes (option_map (document_tree t) (option_copied o)) (λ u. tree_eq u w)) c.in-Some.is ∙ eq_true (document_tree t c.in-Some.old.now) w c.same.result c.same.ensures c.if-same.true

pub returns-else-same : goal.returns-else-same
returns-else-same g c =
    let t = g.T.KeyText.text_of in
    let w = document_tree t c.args.value.now in
    let other : passes (option_map (document_tree t) (option_copied c.args.found)) (λ u. tree_eq u w) ≡ false =
    ap (λ o. passes (option_map (document_tree t) (option_copied o)) (λ u. tree_eq u w)) c.in-Some.is ∙ eq_false (document_tree t c.in-Some.old.now) w c.same.result c.same.ensures c.if-same.false in
    IfOk-weaker c.replacement.result _ _ (λ x h. h (option_map (document_tree t) (option_copied c.args.found)) other) c.replacement.ensures
