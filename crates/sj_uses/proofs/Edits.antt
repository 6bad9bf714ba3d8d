-- What was put is found.
use Rattle.std.proofs.Common.{◌≡◌, ℕ, List, Some, ap, ◌∙◌}
use Rattle.std.specs.Prelude.{IsSome, OnOk, Ok, Err, Result}
use Rattle.sj_text_core.specs.Tree.{Tree, null, boolean, int, text, list, obj}
use Rattle.sj_text_core.specs.Find.{find}
use Rattle.sj_text_core.specs.Reads.{as_members}
use Rattle.sj_text_core.proofs.Writes.{find-put_same}
use Rattle.sj_document.specs.Document.{with_member}

pub find_with_member : (k : List ℕ) (u t : Tree) → IsSome (as_members t) → find k (with_member k u t) ≡ Some u
find_with_member k u null h = cc
find_with_member k u (boolean b) h = cc
find_with_member k u (int n c) h = cc
find_with_member k u (text s) h = cc
find_with_member k u (list is) h = cc
find_with_member k u (obj ms) h = find-put_same k u ms

pub found_after : {A E : Type 0} (r : Result A E) (k : List ℕ) (u v t n : Tree) → v ≡ u → OnOk r (n ≡ with_member k v t) → OnOk r (IsSome (as_members t)) → OnOk r (find k n ≡ Some u)
found_after (Ok x) k u v t n e a o = ap (find k) a ∙ find_with_member k v t o ∙ ap Some e
found_after (Err x) k u v t n e a o = tt
