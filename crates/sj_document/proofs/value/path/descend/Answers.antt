use Rattle.std.proofs.Common.{◌≡◌, ◌<◌, length, map, ap, ◌∙◌, arith, rules}
use Rattle.std.proofs.lemmas.List.{length-map}
use Rattle.sj_text_core.specs.Paths.{set_found}
use Rattle.sj_document.specs.Document.{document_tree}
use Rattle.sj_document.proofs.Descents.{begins, goes_down, ends_there, ends_before, step_is}
use Rattle.sj_document.proofs.value.path.descend.Goals as goal

pub loop-depth-init : goal.loop-depth-init
loop-depth-init g c = begins _ _ _

pub loop-depth-preserved : goal.loop-depth-preserved
loop-depth-preserved g c =
    let t = g.T.KeyText.text_of in
    let f = g.W.Leads.step_of in
    let ks = c.args.path.now in
    let d = c.loop-depth.depth in
    let k = c.index-path-depth.result in
    let l : d < length ks = search (rules, arith) in
    let a : document_tree t c.replace-up.result ≡ set_found (f k) (document_tree t c.loop-depth.up) (document_tree t c.loop-depth.value) = ap (document_tree t) c.replace-up.ensures.value ∙ c.in-Ok.ensures.1 in
    goes_down (map f ks) _ (document_tree t c.loop-depth.value) (document_tree t c.loop-depth.up) (document_tree t c.in-Ok.part) d (f k) _ _ c.loop-depth.invariant (omega (arith, l, length-map ks f))
    (step_is f ks d k l c.index-path-depth.is) c.in-Ok.ensures.0 a (ap (document_tree t) c.replace-up.ensures.after)

pub returns-in-Err : goal.returns-in-Err
returns-in-Err g c =
    let t = g.T.KeyText.text_of in
    let f = g.W.Leads.step_of in
    let ks = c.args.path.now in
    let d = c.loop-depth.depth in
    let k = c.index-path-depth.result in
    let l : d < length ks = search (rules, arith) in
    ends_before (map f ks) _ (document_tree t c.loop-depth.value) (document_tree t c.loop-depth.up) d (f k) _ _ c.loop-depth.invariant (omega (arith, l, length-map ks f))
    (step_is f ks d k l c.index-path-depth.is) c.in-Err.ensures.0 c.in-Err.ensures.1 (ap (document_tree t) c.in-Err.ensures.2)

pub returns : goal.returns
returns g c =
    let f = g.W.Leads.step_of in
    let ks = c.args.path.now in
    ends_there (map f ks) _ _ _ c.loop-depth.depth c.loop-depth.invariant (λ l. omega (arith, l, length-map ks f))
