-- Texts that are the same by their words.
use Rattle.std.proofs.Common.{◌≡◌, ◌≢◌, ℕ, ◌+◌, ◌-◌, ◌<◌, ◌≤◌, Bool, true, false, List, length, take, drop, get_or, bytes_eq, refl, sym, ap, ◌∙◌, arith, nat_le, nat_lt, nat_eq}
use Rattle.std.specs.Int.{Width, from_le_bytes, to_le_bytes}
use Rattle.std.proofs.lemmas.List.{get_or-drop, get_or-take, get_or_past, length-take, length-take-le, length-drop}
use Rattle.std.proofs.lemmas.Grind.{same_number_lists}
use Rattle.std.proofs.lemmas.Slice.Eq.{bytes_eq-Decides}
use Rattle.std.proofs.lemmas.Bool.Decides.{nat_tests}

pub bytes_same : (a b : List ℕ) → a ≡ b → bytes_eq a b ≡ true
bytes_same a b e = (bytes_eq-Decides a b).1 e

module _ (m p : ℕ) (a b : List ℕ) (e : take m (drop p a) ≡ take m (drop p b)) where
  same_part : (i : ℕ) → i < m → get_or a (p + i) 0 ≡ get_or b (p + i) 0
  same_part i l = sym (get_or-take m (drop p a) i 0 l ∙ get_or-drop p a i 0) ∙ ap (λ xs. get_or xs i 0) e ∙ get_or-take m (drop p b) i 0 l ∙ get_or-drop p b i 0

  same_at : (i : ℕ) → p ≤ i → i < p + m → get_or a i 0 ≡ get_or b i 0
  same_at i l u = let j : p + (i - p) ≡ i = omega arith in sym (ap (λ k. get_or a k 0) j) ∙ same_part (i - p) (omega arith) ∙ ap (λ k. get_or b k 0) j

-- texts of n bytes whose last m and first m are the same, where these meet
pub joined : (m n : ℕ) (a b : List ℕ) → length a ≡ n → length b ≡ n → n ≤ m + m → m ≤ n → take m (drop (n - m) a) ≡ take m (drop (n - m) b) → take m (drop 0 a) ≡ take m (drop 0 b) → a ≡ b
joined m n a b p q u l e f = same_number_lists a b (p ∙ sym q) (λ i w. by_test i (nat_le m i) refl (omega arith)) where
  by_test : (i : ℕ) (c : Bool) → nat_le m i ≡ c → i < n → get_or a i 0 ≡ get_or b i 0
  by_test i true t w = let g : m ≤ i = grind (arith, nat_tests) in same_at m (n - m) a b e i (omega arith) (omega arith)
  by_test i false t w = let g : i < m = grind (arith, nat_tests) in same_at m 0 a b f i (omega arith) (omega arith)

pub part_length : (m p : ℕ) (a : List ℕ) → p + m ≤ length a → length (take m (drop p a)) ≡ m
part_length m p a l = length-take-le m (drop p a) (let h = length-drop p a in omega (arith, h, l))

-- a part of bytes is bytes
pub part_bytes : (m p : ℕ) (a : List ℕ) → ((i : ℕ) → get_or a i 0 < 256) → (i : ℕ) → get_or (take m (drop p a)) i 0 < 256
part_bytes m p a f i = by_test (nat_lt i m) refl where
  by_test : (c : Bool) → nat_lt i m ≡ c → get_or (take m (drop p a)) i 0 < 256
  by_test true t = let l : i < m = grind (arith, nat_tests) in let e = get_or-take m (drop p a) i 0 l ∙ get_or-drop p a i 0 in omega (arith, e, f (p + i))
  by_test false t =
      let l : m ≤ i = grind (arith, nat_tests) in
      let past : length (take m (drop p a)) ≤ i = let h = length-take m (drop p a) in omega (arith, h, l) in
      omega (arith, get_or_past (take m (drop p a)) i 0 past)

decides : (x y : ℕ) (a b : List ℕ) → (x ≡ y → a ≡ b) → (a ≡ b → x ≡ y) → nat_eq x y ≡ bytes_eq a b
decides x y a b f g = by_test (nat_eq x y) refl where
  by_test : (c : Bool) → nat_eq x y ≡ c → c ≡ bytes_eq a b
  by_test true t = let e : x ≡ y = grind (arith, nat_tests) in sym (bytes_same a b (f e))
  by_test false t = let n : x ≢ y = grind (arith, nat_tests) in sym (by_bytes (bytes_eq a b) refl n) where
    by_bytes : (c : Bool) → bytes_eq a b ≡ c → x ≢ y → c ≡ false
    by_bytes false s n = refl
    by_bytes true s n = absurd (n (g ((bytes_eq-Decides a b).0 s)))

-- x is the word of m bytes that stands in the text a at p
pub record IsWord (w : Width) (m p : ℕ) (a : List ℕ) (x : ℕ) : Type 0 where
  pub value : x ≡ from_le_bytes w (take m (drop p a))
  pub bytes : to_le_bytes w x ≡ take m (drop p a)

-- where texts of n bytes have the same last words, their first words decide
pub by_words : (w : Width) (m n : ℕ) (a b : List ℕ) (s t u v : ℕ) → length a ≡ n → length b ≡ n → n ≤ m + m → m ≤ n
    → IsWord w m (n - m) a s → IsWord w m (n - m) b t → s ≡ t → IsWord w m 0 a u → IsWord w m 0 b v → nat_eq u v ≡ bytes_eq a b
by_words w m n a b s t u v p q h l x y e f g = decides u v a b
    (λ k. joined m n a b p q h l (sym x.bytes ∙ ap (to_le_bytes w) e ∙ y.bytes) (sym f.bytes ∙ ap (to_le_bytes w) k ∙ g.bytes))
    (λ k. f.value ∙ ap (λ c. from_le_bytes w (take m (drop 0 c))) k ∙ sym g.value)
