use Rattle.std.proofs.Common.{◌+◌, take, string_bytes, refl, ◌∙◌, arith}
use Rattle.std.proofs.lemmas.List.{take_all}
use Rattle.std.proofs.lemmas.Result.{IfOk-weaker}
use Rattle.sj_document.specs.Document.{document_tree}
use Rattle.sj_uses.proofs.Each.{each_pushed, each_of, one_more, made_means}
use Rattle.sj_uses.proofs.typed.VecToJson.to_json.Goals as goal

pub loop-value-preserved : goal.loop-value-preserved
loop-value-preserved g c =
    let xs = c.deref-value-items.result.now in
    let i = c.loop-value.value-index in
    each_pushed (λ d x. g.T.Meant.means (document_tree string_bytes d) x) c.loop-value.items.items c.push.new.self.items (take i xs) (take (i + 1) xs) c.in_ok-to_json.field-0 c.value-item.result
    c.loop-value.invariant c.in_ok-to_json.ensures c.in_ok-push.ensures.items (one_more xs i c.value-item.result (omega (arith, c.loop-value-test.true)) c.value-item.is)

pub returns : goal.returns
returns g c =
    let xs = c.deref-value-items.result.now in
    let i = c.loop-value.value-index in
    IfOk-weaker c.try_make.result _ _
    (λ v m. made_means (document_tree string_bytes) g.T.Meant.means (document_tree string_bytes v) c.loop-value.items.items c.args.self.now.items
    (each_of (λ d x. g.T.Meant.means (document_tree string_bytes d) x) _ _ _ _ refl (take_all i xs (omega (arith, c.loop-value-test.false)) ∙ c.deref-value-items.ensures.value) c.loop-value.invariant) m)
    c.try_make.ensures
