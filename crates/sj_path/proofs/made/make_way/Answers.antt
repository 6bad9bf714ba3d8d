use Rattle.std.proofs.Common.{rules, ◌≡◌, Some, Err, IfErr, true, false, map, drop, string_bytes, sym, ap, ◌∙◌, subst}
use Rattle.std.specs.Option.{IsSome}
use Rattle.std.proofs.lemmas.List.{take_rest}
use Rattle.std.proofs.lemmas.Option.{same_Some}
use Rattle.sj_text_core.specs.Tree.{null}
use Rattle.sj_text_core.specs.Reads.{as_members}
use Rattle.sj_text_core.specs.declared.error.AccessError.TheVariants.{NotAnObject, OutOfMemory}
use Rattle.sj_document.specs.Document.{document_tree, edit_fault, with_member}
use Rattle.sj_pointer.specs.Pointed.{set_pointed}
use Rattle.sj_path.specs.Made.{nested, set_made}
use Rattle.sj_path.proofs.Changed.{put_back}
use Rattle.sj_path.proofs.Nested.{why_some, shut_way, is_open, open_way, wants_memory}
use Rattle.sj_path.proofs.made.make_way.Goals as goal

pub returns-then-not-is_object-clause-kind : goal.returns-then-not-is_object-clause-kind
returns-then-not-is_object-clause-kind g c =
    let r = c.split_found-is_object.result in
    let f = c.split_found-is_object.ensures.found in
    let h : r.2 ≡ false = search rules in
    sym (shut_way r.0.now r.1.now c.args.tokens.now c.first-item.result (document_tree g.T.KeyText.text_of c.args.value.now) f.0 r.2 c.in-len1-up.len_at_least c.first-item.is c.split_found-is_object.ensures.joined f.1 f.2 h)

pub returns-in_err-from_str-clause-kind : goal.returns-in_err-from_str-clause-kind
returns-in_err-from_str-clause-kind g c =
    let r = c.split_found-is_object.result in
    let f = c.split_found-is_object.ensures.found in
    let old = document_tree g.T.KeyText.text_of c.args.value.now in
    let h : r.2 ≡ true = search rules in
    let q : c.from_residual.result ≡ Err OutOfMemory = search rules in
    let w = wants_memory r.0.now r.1.now c.args.tokens.now c.first-item.result old f.0 r.2 c.in-len1-up.len_at_least c.first-item.is c.split_found-is_object.ensures.joined f.1 f.2 h in
    subst (λ x. IfErr x (λ e. e ≡ edit_fault NotAnObject (set_made (map string_bytes c.args.tokens.now) null old))) (sym q) (sym w)

pub returns-in_err-nest-clause-kind : goal.returns-in_err-nest-clause-kind
returns-in_err-nest-clause-kind g c =
    let r = c.split_found-is_object.result in
    let f = c.split_found-is_object.ensures.found in
    let old = document_tree g.T.KeyText.text_of c.args.value.now in
    let h : r.2 ≡ true = search rules in
    let q : c.from_residual-in_err-nest.result ≡ Err OutOfMemory = search rules in
    let w = wants_memory r.0.now r.1.now c.args.tokens.now c.first-item.result old f.0 r.2 c.in-len1-up.len_at_least c.first-item.is c.split_found-is_object.ensures.joined f.1 f.2 h in
    subst (λ x. IfErr x (λ e. e ≡ edit_fault NotAnObject (set_made (map string_bytes c.args.tokens.now) null old))) (sym q) (sym w)

pub returns-in-Ok-answer-clause-after : goal.returns-in-Ok-answer-clause-after
returns-in-Ok-answer-clause-after g c =
    let t = g.T.KeyText.text_of in
    let r = c.split_found-is_object.result in
    let f = c.split_found-is_object.ensures.found in
    let way = map string_bytes r.0.now in
    let old = document_tree t c.args.value.now in
    let h = c.in-Ok.ensures.changed in
    let takes : r.2 ≡ true = search rules in
    let there : f.0 ≡ document_tree t h.0 = same_Some f.0 (document_tree t h.0) (sym f.1 ∙ h.2) in
    let k : t c.owned.result ≡ string_bytes c.first-item.result = search rules in
    let n : document_tree t c.in_ok-nest.field-0 ≡ nested (map string_bytes (drop 1 r.1.now)) null = c.in_ok-nest.ensures ∙ ap (λ ts. nested (map string_bytes ts) null) (take_rest r.1.now 1) in
    let m : document_tree t h.1 ≡ with_member (t c.owned.result) (document_tree t c.in_ok-nest.field-0) (document_tree t h.0) = rw c.in-Ok-answer.is at h.3.made in
    open_way r.0.now r.1.now c.args.tokens.now c.first-item.result old f.0 r.2 c.in-len1-up.len_at_least c.first-item.is c.split_found-is_object.ensures.joined f.1 f.2 takes
    ∙ ap Some (sym (h.4 ∙ ap (λ x. set_pointed way x old) (m ∙ (λ j. with_member (k j) (n j) (sym there j)))))

pub returns-in-Ok-clause-refused : goal.returns-in-Ok-clause-refused
returns-in-Ok-clause-refused g c =
    let t = g.T.KeyText.text_of in
    let h = c.in-Ok.ensures.changed in
    put_back (map string_bytes c.split_found-is_object.result.0.now) (document_tree t h.0) (document_tree t h.1) (document_tree t c.args.value.now) (document_tree t c.update_in.new.value) h.2 h.4 (rw c.in-Err-answer.is at h.3.refused)

pub returns-in-Ok-clause-kind : goal.returns-in-Ok-clause-kind
returns-in-Ok-clause-kind g c =
    let t = g.T.KeyText.text_of in
    let r = c.split_found-is_object.result in
    let f = c.split_found-is_object.ensures.found in
    let old = document_tree t c.args.value.now in
    let h = c.in-Ok.ensures.changed in
    let takes : r.2 ≡ true = search rules in
    let there : f.0 ≡ document_tree t h.0 = same_Some f.0 (document_tree t h.0) (sym f.1 ∙ h.2) in
    let o = is_open r.0.now r.1.now c.args.tokens.now c.first-item.result old f.0 r.2 c.in-len1-up.len_at_least c.first-item.is c.split_found-is_object.ensures.joined f.1 f.2 takes in
    let w = wants_memory r.0.now r.1.now c.args.tokens.now c.first-item.result old f.0 r.2 c.in-len1-up.len_at_least c.first-item.is c.split_found-is_object.ensures.joined f.1 f.2 takes in
    let k : c.in-Err-answer.refused.why ≡ edit_fault NotAnObject (as_members (document_tree t h.0)) = rw c.in-Err-answer.is at h.3.kind in
    k ∙ why_some NotAnObject (as_members (document_tree t h.0)) (subst (λ x. IsSome (as_members x)) there o) ∙ sym w
