-- The path of a pointer's tokens.
use Rattle.std.proofs.Common.{◌≡◌, List, [], ◌∷◌, map, string_bytes, String, Global, refl, ap}
use Rattle.sj_text_core.specs.Paths.{by_token}
use Rattle.sj_pointer.specs.Pointed.{path_of}

pub tokens-path : (ks : List (String Global)) → map (λ s. by_token (string_bytes s)) ks ≡ path_of (map string_bytes ks)
tokens-path [] = refl
tokens-path (k ∷ ks) = ap (λ p. by_token (string_bytes k) ∷ p) (tokens-path ks)
