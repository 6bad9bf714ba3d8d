use Rattle.std.proofs.Common.{map, string_bytes, ap, ◌∙◌, subst}
use Rattle.sj_document.specs.Document.{document_tree}
use Rattle.sj_patch.specs.inner.Changed.{TakesBeside, filled_below, gaps_filled}
use Rattle.sj_patch.proofs.Stepped.{filled-alike}
use Rattle.sj_patch.proofs.Gathered.{taken_back, taken_removed, left_same}
use Rattle.sj_patch.proofs.removals.take_more.Goals as goal

pub returns-in-Ok-Some-clause-removes : goal.returns-in-Ok-Some-clause-removes
returns-in-Ok-Some-clause-removes g c =
    let t = g.T.KeyText.text_of in
    let h = c.in-Ok-Some.ensures.changed in
    let takes = subst (λ o. TakesBeside t c.reserve.new.self c.args.token.now (document_tree t h.0) (document_tree t h.1) o) c.in-Ok-Some.field-0-is h.3 in
    taken_removed t c.reserve.new.self (map string_bytes c.args.holder.now) c.args.token.now (document_tree t c.args.document.now) (document_tree t c.update_in.new.value) (document_tree t h.0) (document_tree t h.1) c.in-Ok-Some.gap h.2 h.4 takes

pub returns-in-Ok-Some-clause-undo : goal.returns-in-Ok-Some-clause-undo
returns-in-Ok-Some-clause-undo g c =
    let t = g.T.KeyText.text_of in
    let h = c.in-Ok-Some.ensures.changed in
    let takes = subst (λ o. TakesBeside t c.reserve.new.self c.args.token.now (document_tree t h.0) (document_tree t h.1) o) c.in-Ok-Some.field-0-is h.3 in
    let ls = map string_bytes c.args.holder.now in
    let before = document_tree t c.args.document.now in
    taken_back t c.reserve.new.self c.push.new.self ls c.args.token.now before (document_tree t c.update_in.new.value) (document_tree t h.0) (document_tree t h.1) c.in-Ok-Some.gap h.2 h.4 takes c.push.ensures
    ∙ filled-alike (gaps_filled t c.reserve.new.self) (gaps_filled t c.args.gaps.now) ls before c.reserve.ensures.same

pub returns-in-Ok-None-clause-removes : goal.returns-in-Ok-None-clause-removes
returns-in-Ok-None-clause-removes g c =
    let t = g.T.KeyText.text_of in
    let h = c.in-Ok-None.ensures.changed in
    let takes = subst (λ o. TakesBeside t c.reserve.new.self c.args.token.now (document_tree t h.0) (document_tree t h.1) o) c.in-Ok-None.field-0-is h.3 in
    left_same (map string_bytes c.args.holder.now) (document_tree t c.args.document.now) (document_tree t c.update_in.new.value) (document_tree t h.0) (document_tree t h.1) h.2 h.4 takes

pub returns-in-Ok-None-clause-undo : goal.returns-in-Ok-None-clause-undo
returns-in-Ok-None-clause-undo g c =
    let t = g.T.KeyText.text_of in
    let h = c.in-Ok-None.ensures.changed in
    let takes = subst (λ o. TakesBeside t c.reserve.new.self c.args.token.now (document_tree t h.0) (document_tree t h.1) o) c.in-Ok-None.field-0-is h.3 in
    let ls = map string_bytes c.args.holder.now in
    let before = document_tree t c.args.document.now in
    ap (filled_below (gaps_filled t c.reserve.new.self) ls) (left_same ls before (document_tree t c.update_in.new.value) (document_tree t h.0) (document_tree t h.1) h.2 h.4 takes)
    ∙ filled-alike (gaps_filled t c.reserve.new.self) (gaps_filled t c.args.gaps.now) ls before c.reserve.ensures.same
