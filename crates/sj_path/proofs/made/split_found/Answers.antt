use Rattle.std.proofs.Common.{rules, arith, ◌≡◌, ◌<◌, Some, None, map, take, length, string_bytes, add-one, sym, ap, ◌∙◌, subst}
use Rattle.std.proofs.Math.Seq.{take-length, drop-length}
use Rattle.std.proofs.lemmas.List.{take_rest}
use Rattle.sj_text_core.specs.declared.repeats.Repeats.TheVariants.{First}
use Rattle.sj_document.specs.Document.{document_tree}
use Rattle.sj_pointer.specs.Pointed.{token_into, pointed}
use Rattle.sj_path.specs.inner.Made.{IsEndOf}
use Rattle.sj_path.proofs.Nested.{found_once_more, ends_here}
use Rattle.sj_path.proofs.made.split_found.Goals as goal

pub returns-in-None-clause-found : goal.returns-in-None-clause-found
returns-in-None-clause-found g c =
    let ts = c.args.tokens.now in
    let d = c.loop-depth.depth in
    let at = document_tree g.T.KeyText.text_of c.loop-depth.at.now in
    let l : d < length ts = search (rules, arith) in
    let s = c.index-tokens-depth.result in
    let n : token_into First (string_bytes s) at ≡ None = ap (λ k. token_into First k at) (sym c.as_str.ensures.value) ∙ sym c.in-None.ensures in
    (at, c.loop-depth.invariant, subst (λ r. IsEndOf (map string_bytes r) at c.is_object.result) (sym (take_rest ts d)) (ends_here ts d s l c.index-tokens-depth.is at c.is_object.result n c.is_object.ensures))

pub loop-depth-preserved : goal.loop-depth-preserved
loop-depth-preserved g c =
    let ts = c.args.tokens.now in
    let d = c.loop-depth.depth in
    let at = document_tree g.T.KeyText.text_of c.loop-depth.at.now in
    let l : d < length ts = search (rules, arith) in
    let s = c.index-tokens-depth.result in
    let n : token_into First (string_bytes s) at ≡ Some (document_tree g.T.KeyText.text_of c.in-Some.next.now) = ap (λ k. token_into First k at) (sym c.as_str.ensures.value) ∙ sym c.in-Some.ensures in
    subst (λ m. pointed (map string_bytes (take m ts)) (document_tree g.T.KeyText.text_of c.args.value.now) ≡ Some (document_tree g.T.KeyText.text_of c.in-Some.next.now)) (sym (add-one d))
    (found_once_more ts d s l c.index-tokens-depth.is (document_tree g.T.KeyText.text_of c.args.value.now) at (document_tree g.T.KeyText.text_of c.in-Some.next.now) c.loop-depth.invariant n)

pub returns-clause-found : goal.returns-clause-found
returns-clause-found g c =
    let ts = c.args.tokens.now in
    let d = c.loop-depth.depth in
    let at = document_tree g.T.KeyText.text_of c.loop-depth.at.now in
    let whole : d ≡ length ts = omega (arith, c.loop-depth-test.false, c.loop-depth.auto.depth-end) in (
      at,
      ap (λ r. pointed (map string_bytes r) (document_tree g.T.KeyText.text_of c.args.value.now)) (sym (ap (λ n. take n ts) whole ∙ take-length ts)) ∙ c.loop-depth.invariant,
      subst (λ r. IsEndOf (map string_bytes r) at c.is_object-2.result) (sym (take_rest ts (length ts) ∙ drop-length ts)) tt,
    )
