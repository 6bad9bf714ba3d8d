use Rattle.std.proofs.Common.{◌≡◌, Some, option_map, sym, ap, ◌∙◌}
use Rattle.sj_text_core.specs.Tree.{null}
use Rattle.sj_text_core.specs.declared.error.AccessError.TheVariants.{NotAnObject}
use Rattle.sj_document.specs.Document.{document_tree, edit_fault}
use Rattle.sj_pointer.specs.Pointed.{set_pointed}
use Rattle.sj_path.specs.Made.{set_made}
use Rattle.sj_path.proofs.Nested.{made_found, made_again, why_again}
use Rattle.sj_path.proofs.made.set.Goals as goal

pub returns-in-Ok-clause-after : goal.returns-in-Ok-clause-after
returns-in-Ok-clause-after g c =
    let t = g.T.KeyText.text_of in
    made_found c.args.pointer.now (document_tree t c.args.new) (document_tree t c.in-Ok.before) (document_tree t c.args.value.now) (sym c.in-Ok.ensures.before) ∙ ap Some (sym c.in-Ok.ensures.after)

pub returns-in-Ok-make_way-clause-after : goal.returns-in-Ok-make_way-clause-after
returns-in-Ok-make_way-clause-after g c =
    let t = g.T.KeyText.text_of in
    let ks = c.args.pointer.now in
    let u = document_tree t c.args.new in
    let m = document_tree t c.make_way.new.value in
    let made : set_made ks null (document_tree t c.args.value.now) ≡ Some m = (λ j. set_made (sym c.tokens.ensures j) null (sym c.in-Err.ensures.kept j)) ∙ c.in-Ok-make_way.ensures.after in
    made_again ks u null (document_tree t c.args.value.now) ∙ ap (option_map (set_pointed ks u)) made
    ∙ ap Some (ap (λ v. set_pointed ks (document_tree t v) m) (sym c.in-Err.ensures.back) ∙ sym c.replace-in-Ok-make_way.ensures.after)

pub returns-in-Err-make_way-clause-kind : goal.returns-in-Err-make_way-clause-kind
returns-in-Err-make_way-clause-kind g c =
    let t = g.T.KeyText.text_of in
    let ks = c.args.pointer.now in
    c.in-Err-make_way.ensures.kind ∙ (λ j. edit_fault NotAnObject (set_made (c.tokens.ensures j) null (c.in-Err.ensures.kept j)))
    ∙ why_again NotAnObject ks null (document_tree t c.args.new) (document_tree t c.args.value.now)
