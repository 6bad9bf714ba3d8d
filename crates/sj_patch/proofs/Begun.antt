-- Lists of tokens that begin with others.
use Rattle.std.proofs.Common.{◌≡◌, ◌↔◌, ◌&&◌, ℕ, Bool, true, false, IsTrue, List, [], ◌∷◌, ◌++◌, bytes_eq, refl, sym, ap, ◌∙◌, true≢false}
use Rattle.std.proofs.lemmas.Slice.Eq.{bytes_eq-Decides}
use Rattle.std.proofs.lemmas.Bool.{and_parts}
use Rattle.sj_patch.specs.Patch.{begins}

begins-front : (ks rest : List (List ℕ)) → begins ks (ks ++ rest) ≡ true
begins-front [] rest = refl
begins-front (k ∷ ks) rest = let same = (bytes_eq-Decides k k).1 refl in (λ j. same j && begins-front ks rest j)

begins-rest : (ks ls : List (List ℕ)) → begins ks ls ≡ true → (rest : List (List ℕ)) × (ls ≡ ks ++ rest)
begins-rest [] ls h = (ls, refl)
begins-rest (k ∷ ks) [] h = absurd (true≢false (sym h))
begins-rest (k ∷ ks) (l ∷ ls) h =
    let parts = and_parts (bytes_eq k l) (begins ks ls) h in
    let same : k ≡ l = (bytes_eq-Decides k l).0 parts.0 in
    let further = begins-rest ks ls parts.1 in
    (further.0, (λ j. sym same j ∷ further.1 j))

not_begun : (b : Bool) (ks ls : List (List ℕ)) → begins ks ls ≡ b → ((rest : List (List ℕ)) × (ls ≡ ks ++ rest) → false ≡ true) → false ≡ b
not_begun true ks ls e h = h (begins-rest ks ls e)
not_begun false ks ls e h = refl

-- what is told of two lists
pub begun : (b : Bool) (ks ls : List (List ℕ)) → (IsTrue b ↔ (rest : List (List ℕ)) × (ls ≡ ks ++ rest)) → b ≡ begins ks ls
begun true ks ls h = let r = h.0 refl in sym (ap (begins ks) r.1 ∙ begins-front ks r.0)
begun false ks ls h = not_begun (begins ks ls) ks ls refl h.1
