use Rattle.std.proofs.Common.{ℕ, List, sym, ap, ◌∙◌, arith}
use Rattle.std.proofs.lemmas.List.{nil_from_length}
use Rattle.std.specs.Borrow.{Bor}
use Rattle.std.specs.Vec.Iter.{into_iter_items}
use Rattle.sj_text_core.specs.Tree.{obj}
use Rattle.sj_text_core.specs.Edits as members
use Rattle.sj_object.specs.Members.{entry_members}
use Rattle.sj_object.proofs.Shown.{entry_members-put}
use Rattle.sj_document.specs.Document.{document_tree, put_pairs}
use Rattle.sj_document.proofs.Trees.{tree-Object}
use Rattle.sj_document.proofs.value.Document.object_of.Goals as goal

pub loop-name-preserved : goal.loop-name-preserved
loop-name-preserved g c =
    let t = g.T.KeyText.text_of in
    let all_put = put_pairs (λ (k : Bor (List ℕ)). k.now) (document_tree t) in
    let rest = into_iter_items c.next.new.self in
    let old = c.loop-name.members.entries in
    ap (λ es. all_put (entry_members (document_tree t) es) rest) c.in_ok-set.ensures
    ∙ ap (λ ms. all_put ms rest) (entry_members-put (document_tree t) (c.in_ok-key.key, t c.in_ok-key.key) c.in-Some.value old)
    ∙ (λ i. all_put (members.put (c.in_ok-key.ensures.text i) (document_tree t c.in-Some.value) (entry_members (document_tree t) old)) rest)
    ∙ sym (ap (all_put (entry_members (document_tree t) old)) c.in-Some.ensures.steps.0) ∙ c.loop-name.invariant

pub returns : goal.returns
returns g c =
    let t = g.T.KeyText.text_of in
    let all_put = put_pairs (λ (k : Bor (List ℕ)). k.now) (document_tree t) in
    let put = entry_members (document_tree t) c.loop-name.members.entries in
    let ended = nil_from_length (into_iter_items c.loop-name.name-iterator) (omega (arith, c.loop-name.name-iterator.rest.ok.0, c.in-None.ensures.steps.0)) in
    tree-Object t c.in_ok-new.field-0 ∙ ap (λ m. obj (entry_members (document_tree t) m.entries)) c.in_ok-new.ensures.ok
    ∙ ap obj (sym (ap (all_put put) ended) ∙ c.loop-name.invariant)
