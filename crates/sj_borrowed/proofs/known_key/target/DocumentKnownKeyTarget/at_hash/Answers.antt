use Rattle.sj_document.specs.Document.{document_tree}
use Rattle.sj_borrowed.proofs.Objects.{found_ref}
use Rattle.sj_borrowed.proofs.known_key.target.DocumentKnownKeyTarget.at_hash.Goals as goal

pub returns : goal.returns
returns g c =
    let t = g.T.KeyText.text_of in
    found_ref t c.in_ok-as_object.field-0.now c.args.key.now (document_tree t c.args.self.now) c.in_ok-as_object.ensures c.get_hashed.result c.get_hashed.ensures
