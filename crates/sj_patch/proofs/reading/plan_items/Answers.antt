use Rattle.std.proofs.Common.{◌≡◌, ◌+◌, [], ◌∷◌, ◌++◌, length, map, drop, ap, ◌∙◌}
use Rattle.std.proofs.lemmas.List.{map-append, length_push}
use Rattle.sj_document.specs.Document.{document_tree}
use Rattle.sj_patch.specs.inner.Filled.{filled, filled_all}
use Rattle.sj_patch.specs.Meant.{meant}
use Rattle.sj_patch.specs.Operations.{operations_from}
use Rattle.sj_patch.proofs.Behind.{behind, seen, behind-turn, behind-fault}
use Rattle.sj_patch.proofs.Filling.{filled-more}
use Rattle.sj_patch.proofs.reading.plan_items.Goals as goal

pub returns-in-Err-clause-fault : goal.returns-in-Err-clause-fault
returns-in-Err-clause-fault g c =
    let t = g.T.KeyText.text_of in
    let vs = c.args.items.now in
    let xs = filled_all (map (meant t) c.loop-index.operations.items) (seen t vs) in
    behind-fault t vs c.loop-index.index c.index-items-index.result xs c.in-Err.unread (operations_from 0 (seen t vs)) c.of_item.result
    c.loop-index-test.true c.index-items-index.is c.in-Err.ensures.fault c.loop-index.invariant.read c.of_item.ensures

pub loop-index-preserved : goal.loop-index-preserved
loop-index-preserved g c =
    let t = g.T.KeyText.text_of in
    let vs = c.args.items.now in
    let i = c.loop-index.index in
    let v = c.index-items-index.result in
    let os = c.loop-index.operations.items in
    let o = meant t c.in-Ok.operation in
    let pushed : map (meant t) c.push.new.self.items ≡ map (meant t) os ++ o ∷ [] =
    ap (map (meant t)) c.in_ok-push-in-Ok.ensures.items ∙ map-append (meant t) os (c.in-Ok.operation ∷ []) in
    let more : filled_all (map (meant t) c.push.new.self.items) (seen t vs) ≡ filled_all (map (meant t) os) (seen t vs) ++ filled o (document_tree t v) ∷ [] =
    ap (λ xs. filled_all xs (seen t vs)) pushed ∙ filled-more t os vs i v o c.loop-index.invariant.count c.loop-index-test.true c.index-items-index.is in
    record {
      count = ap length c.in_ok-push-in-Ok.ensures.items ∙ length_push os c.in-Ok.operation ∙ ap (λ n. n + 1) c.loop-index.invariant.count;
      read =
          ap (λ xs. behind xs (operations_from (i + 1) (seen t (drop (i + 1) vs)))) more
          ∙ behind-turn t vs i v (filled_all (map (meant t) os) (seen t vs)) (filled o (document_tree t v)) c.loop-index-test.true c.index-items-index.is c.in-Ok.ensures.ok
          ∙ c.loop-index.invariant.read;
    }
