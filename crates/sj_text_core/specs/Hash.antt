-- The fixed hash of a text.
use Rattle.std.specs.Prelude.{ℕ, ◌+◌, ◌*◌, ◌%◌, ◌^◌, List, fold}

-- It starts at 0. At each byte it is multiplied by 31, and the byte is added, modulo 2^64.
abbrev pub hash : List ℕ → ℕ
hash s = fold (λ h c. (h * 31 + c) % 2 ^ 64) 0 s
