-- How many members a look-up compares, in a plain list and along chains.
use Rattle.std.proofs.Common.{◌≡◌, ℕ, List, [], ◌∷◌, length, refl, codes, Some, None}
use Rattle.sj_text_core.specs.Hash.{hash}
use Rattle.sj_object.specs.Entries.{Entry}
use Rattle.sj_object.specs.Steps.{entries_visited, found_on, chain, walk}
use Rattle.sj_object.specs.inner.Steps.{entries_compared}

abbrev entry : List ℕ → ℕ → Entry ℕ ℕ
entry k v = ((v, k), v)

-- Aa, c, BB: the fixed hash of the first and the last is 2112, that of the one between is 99
abbrev three : List (Entry ℕ ℕ)
three = entry (codes "Aa") 0 ∷ entry (codes "c") 1 ∷ entry (codes "BB") 2 ∷ []

hash-first : hash (codes "Aa") ≡ 2112
hash-first = refl

hash-last : hash (codes "BB") ≡ 2112
hash-last = refl

-- ---- a plain list: up to the one found, and all of them where none is

visited-first : entries_visited (codes "Aa") three ≡ 1
visited-first = refl

visited-last : entries_visited (codes "BB") three ≡ 3
visited-last = refl

visited-absent : entries_visited (codes "x") three ≡ 3
visited-absent = refl

visited-none : entries_visited {K = ℕ} {V = ℕ} (codes "x") [] ≡ 0
visited-none = refl

-- ---- 64 buckets: 2112 is in bucket 0, 99 in bucket 35

chain-two : chain hash 64 (codes "BB") three ≡ 2
chain-two = refl

chain-one : chain hash 64 (codes "c") three ≡ 1
chain-one = refl

-- a text that is absent has a bucket all the same: # is 35
chain-absent : chain hash 64 (codes "#") three ≡ 1
chain-absent = refl

-- from the last down to the one found
walk-last : walk hash 64 (codes "BB") three ≡ 1
walk-last = refl

walk-first : walk hash 64 (codes "Aa") three ≡ 2
walk-first = refl

walk-absent : walk hash 64 (codes "#") three ≡ 1
walk-absent = refl

walk-empty-bucket : walk hash 64 (codes "a") three ≡ 0
walk-empty-bucket = refl

-- in one bucket all members are in one chain
walk-one-bucket : walk (λ k. 7) 64 (codes "Aa") three ≡ 3
walk-one-bucket = refl

walk-one-bucket-middle : walk (λ k. 7) 64 (codes "c") three ≡ 2
walk-one-bucket-middle = refl

walk-one-bucket-absent : walk (λ k. 7) 64 (codes "x") three ≡ 3
walk-one-bucket-absent = refl

-- by the length of a text
walk-length : walk length 64 (codes "Aa") three ≡ 2
walk-length = refl

onward : found_on (codes "c") three ≡ entry (codes "c") 1 ∷ entry (codes "BB") 2 ∷ []
onward = refl

compared-plain : entries_compared hash None (codes "BB") three ≡ 3
compared-plain = refl

compared-hashed : entries_compared hash (Some 64) (codes "BB") three ≡ 1
compared-hashed = refl
