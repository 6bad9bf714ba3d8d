-- The members of a document, as its walk gives them.
use Rattle.std.proofs.Common.{◌≡◌, ℕ, List, [], ◌∷◌, map, refl, ap}
use Rattle.sj_text_core.specs.Tree.{member, members_from}
use Rattle.sj_object.specs.Entries.{entries_of}
use Rattle.sj_object.specs.Members.{entry_members}
use Rattle.sj_document.specs.Document.{document_tree}
use Rattle.sj_document.specs.declared.value.Document.{Document}

pub members_seen : {T : Type 0} (t : T → List ℕ) (ps : List (T × Document T)) → members_from (map (λ (p : T × Document T). (t p.0, document_tree t p.1)) ps) ≡ entry_members (document_tree t) (entries_of t ps)
members_seen t [] = refl
members_seen t (p ∷ ps) = ap (member (t p.0) (document_tree t p.1)) (members_seen t ps)
