use Rattle.std.proofs.Common.{◌-◌, length, map, take, string_bytes, sym, ap, ◌∙◌}
use Rattle.sj_document.specs.Document.{document_tree}
use Rattle.sj_patch.specs.inner.Changed.{undone_at}
use Rattle.sj_patch.proofs.Gathered.{gathered_gap, ends_tokens}
use Rattle.sj_patch.proofs.removals.gathered.Goals as goal

pub returns-in-Ok : goal.returns-in-Ok
returns-in-Ok g c =
    let t = g.T.KeyText.text_of in
    let r = c.args.reversal in
    let v = c.args.value in
    let xs = c.args.tokens.now in
    let ks = ends_tokens xs c.in-len1-up.len_at_least in
    λ u. gathered_gap t c.in-Ok.gaps r v (map string_bytes (take (length xs - 1) xs)) ks.0 u c.in-Ok.ensures.gap ∙ ap (λ ks. undone_at t r (document_tree t v) ks u) (sym ks.1)
