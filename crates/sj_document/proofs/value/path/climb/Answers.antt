use Rattle.std.proofs.Common.{◌≡◌, ◌<◌, ◌-◌, ℕ, suc, length, map, Some, sym, ap, ◌∙◌, subst, arith, rules}
use Rattle.sj_text_core.specs.Paths.{step_into, set_found}
use Rattle.sj_document.specs.Document.{document_tree}
use Rattle.sj_document.specs.inner.Descents.{plug, IsSpine}
use Rattle.sj_document.proofs.Descents.{climbed, spine_climbed, no_spine, step_is}
use Rattle.sj_document.proofs.value.path.climb.Goals as goal

pub loop-left-preserved-in-Ok : goal.loop-left-preserved-in-Ok
loop-left-preserved-in-Ok g c =
    let t = g.T.KeyText.text_of in
    let f = g.W.Leads.step_of in
    let ks = c.args.path.now in
    let p = map f ks in
    let d : ℕ = c.loop-left.left - 1 in
    let z : c.loop-left.left ≡ suc d = search (rules, arith) in
    let l : d < length ks = search (rules, arith) in
    let k = c.index-path-left.result in
    let s = step_is f ks d k l c.index-path-left.is in
    let up = document_tree t c.loop-left.up in
    let cur = document_tree t c.loop-left.value in
    let h : IsSpine p (suc d) up = subst (λ n. IsSpine p n up) z c.loop-left.invariant.spine in
    let v : document_tree t c.replace-below.new.dest ≡ up = ap (document_tree t) c.replace-below.ensures.after in
    let b : document_tree t c.replace-below.result ≡ cur = ap (document_tree t) c.replace-below.ensures.value in
    let e : step_into (f k) up ≡ Some (document_tree t c.in-Ok.next) = ap (step_into (f k)) (sym v) ∙ c.in-Ok.ensures.0 in
    let a : document_tree t c.swap.new.value ≡ set_found (f k) cur up = c.in-Ok.ensures.1 ∙ (λ j. set_found (f k) (b j) (v j)) in
    record {
      within = omega (arith, l);
      spine = spine_climbed p d up (document_tree t c.in-Ok.next) (f k) s e h;
      whole = sym (climbed p d up cur (document_tree t c.in-Ok.next) (document_tree t c.swap.new.value) (f k) s e a) ∙ ap (λ n. plug p n up cur) (sym z) ∙ c.loop-left.invariant.whole;
    }

pub loop-left-preserved : goal.loop-left-preserved
loop-left-preserved g c =
    let t = g.T.KeyText.text_of in
    let f = g.W.Leads.step_of in
    let ks = c.args.path.now in
    let d : ℕ = c.loop-left.left - 1 in
    let z : c.loop-left.left ≡ suc d = search (rules, arith) in
    let l : d < length ks = search (rules, arith) in
    let k = c.index-path-left.result in
    let up = document_tree t c.loop-left.up in
    let h : IsSpine (map f ks) (suc d) up = subst (λ n. IsSpine (map f ks) n up) z c.loop-left.invariant.spine in
    let v : document_tree t c.replace-below.new.dest ≡ up = ap (document_tree t) c.replace-below.ensures.after in
    absurd (no_spine (map f ks) d up (f k) (step_is f ks d k l c.index-path-left.is) (ap (step_into (f k)) (sym v) ∙ c.in-Err.ensures.0) h)
