-- Pairs put into an object in turn.
use Rattle.std.proofs.Common.{◌≡◌, ℕ, List, [], ◌∷◌, ◌++◌, refl}
use Rattle.sj_text_core.specs.Tree.{Tree, Members}
use Rattle.sj_text_core.specs.Edits.{put}
use Rattle.sj_document.specs.Document.{put_pairs}

pub put_pairs-last : {K V : Type 0} (t : K → List ℕ) (v : V → Tree) (ms : Members) (ps : List (K × V)) (p : K × V) → put (t p.0) (v p.1) (put_pairs t v ms ps) ≡ put_pairs t v ms (ps ++ p ∷ [])
put_pairs-last t v ms [] p = refl
put_pairs-last t v ms (q ∷ ps) p = put_pairs-last t v (put (t q.0) (v q.1) ms) ps p
