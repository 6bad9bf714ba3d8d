-- Tokens as they are written, and lists of tokens.
use Rattle.std.proofs.Common.{◌≡◌, ◌==◌, ◌<◌, ◌+◌, ℕ, Bool, true, String, Global, List, [], ◌∷◌, ◌++◌, length, get_or, take, drop, map, if◌then◌else◌, string_bytes, bytes_eq, append_assoc, refl, sym, ap, ◌∙◌}
use Rattle.std.specs.Bool.{Decides}
use Rattle.std.specs.Cmp.Derive.Mapped.{pointwise-map}
use Rattle.std.proofs.lemmas.List.{map-append, take-map, take_more, length-map, append-nil}
use Rattle.std.proofs.lemmas.Grind.{flat_map-append}
use Rattle.std.proofs.lemmas.Slice.Eq.{bytes_eq-Decides, slice_eq-Decides, starts_is}
use lib.Pointwise.{pointwise}
use Rattle.sj_pointer.specs.Shown.{part_text, token_text, pointer_text}
use Rattle.sj_pointer.specs.inner.Shown.{tildes_text}
use Rattle.sj_pointer.proofs.Texts.{Lacks, lacks_first, lacks_rest}

-- a run without a tilde stays
pub tildes_first : (s r : List ℕ) → Lacks 126 s → tildes_text (s ++ r) ≡ s ++ tildes_text r
tildes_first [] r h = refl
tildes_first (x ∷ s) r h = ap (λ b. (if b then 126 ∷ 48 ∷ [] else x ∷ []) ++ tildes_text (s ++ r)) (lacks_first 126 x s h) ∙ ap (λ l. x ∷ l) (tildes_first s r (lacks_rest 126 x s h))

pub tildes_whole : (s : List ℕ) → Lacks 126 s → tildes_text s ≡ s
tildes_whole [] h = refl
tildes_whole (x ∷ s) h = ap (λ b. (if b then 126 ∷ 48 ∷ [] else x ∷ []) ++ tildes_text s) (lacks_first 126 x s h) ∙ ap (λ l. x ∷ l) (tildes_whole s (lacks_rest 126 x s h))

-- in a run without a slash only tildes are escaped
part_tilde : (x : ℕ) (s l : List ℕ) → Lacks 47 (x ∷ s) → part_text x ++ l ≡ (if x == 126 then 126 ∷ 48 ∷ [] else x ∷ []) ++ l
part_tilde x s l h = ap (λ b. (if x == 126 then 126 ∷ 48 ∷ [] else (if b then 126 ∷ 49 ∷ [] else x ∷ [])) ++ l) (lacks_first 47 x s h)

pub token_first : (s r : List ℕ) → Lacks 47 s → token_text (s ++ r) ≡ tildes_text s ++ token_text r
token_first [] r h = refl
token_first (x ∷ s) r h =
    part_tilde x s (token_text (s ++ r)) h
    ∙ ap (λ l. (if x == 126 then 126 ∷ 48 ∷ [] else x ∷ []) ++ l) (token_first s r (lacks_rest 47 x s h))
    ∙ sym (append_assoc (if x == 126 then 126 ∷ 48 ∷ [] else x ∷ []) (tildes_text s) (token_text r))

pub token_whole : (s : List ℕ) → Lacks 47 s → token_text s ≡ tildes_text s
token_whole [] h = refl
token_whole (x ∷ s) h = part_tilde x s (token_text s) h ∙ ap (λ l. (if x == 126 then 126 ∷ 48 ∷ [] else x ∷ []) ++ l) (token_whole s (lacks_rest 47 x s h))

-- one tilde more, and one slash more
pub one_tilde : (done all p tail r : List ℕ) → all ≡ done ++ tildes_text r → r ≡ p ++ (126 ∷ tail) → Lacks 126 p → all ≡ ((done ++ p) ++ (126 ∷ 48 ∷ [])) ++ tildes_text tail
one_tilde done all p tail r h e l =
    h ∙ ap (λ x. done ++ tildes_text x) e ∙ ap (λ x. done ++ x) (tildes_first p (126 ∷ tail) l) ∙ sym (append_assoc done p (126 ∷ 48 ∷ tildes_text tail))
    ∙ sym (append_assoc (done ++ p) (126 ∷ 48 ∷ []) (tildes_text tail))

pub one_slash : (done all p tail r : List ℕ) → all ≡ done ++ token_text r → r ≡ p ++ (47 ∷ tail) → Lacks 47 p → all ≡ ((done ++ tildes_text p) ++ (126 ∷ 49 ∷ [])) ++ token_text tail
one_slash done all p tail r h e l =
    h ∙ ap (λ x. done ++ token_text x) e ∙ ap (λ x. done ++ x) (token_first p (47 ∷ tail) l) ∙ sym (append_assoc done (tildes_text p) (126 ∷ 49 ∷ token_text tail))
    ∙ sym (append_assoc (done ++ tildes_text p) (126 ∷ 49 ∷ []) (token_text tail))

module _ {S : Type 0} (f : S → List ℕ) where
  -- one copy more
  pub copied_next : (vs us ws : List S) (i : ℕ) (x w : S) → i < length vs → x ≡ get_or vs i x → map f us ≡ map f (take i vs) → f w ≡ f x → ws ≡ us ++ w ∷ [] → map f ws ≡ map f (take (i + 1) vs)
  copied_next vs us ws i x w h e before same pushed =
      ap (map f) pushed ∙ map-append f us (w ∷ []) ∙ (λ j. before j ++ same j ∷ []) ∙ (λ j. map f (take i vs) ++ f (e j) ∷ [])
      ∙ sym (map-append f (take i vs) (get_or vs i x ∷ [])) ∙ ap (map f) (sym (take_more vs i x h))

-- what `==` of two lists of tokens says
pub same_tokens : (xs ys : List (String Global)) → (r : Bool) → r ≡ pointwise (λ a b. bytes_eq (string_bytes a) (string_bytes b)) xs ys → r ≡ pointwise bytes_eq (map string_bytes xs) (map string_bytes ys)
same_tokens xs ys r e = e ∙ sym (pointwise-map string_bytes bytes_eq xs ys)

pub tokens_decide : (xs ys : List (List ℕ)) (r : Bool) → r ≡ pointwise bytes_eq xs ys → Decides r (xs ≡ ys)
tokens_decide = slice_eq-Decides bytes_eq-Decides

-- what `starts_with` of two says
pub begun_tokens : (xs ns : List (String Global)) (r : Bool) → r ≡ pointwise (λ a b. bytes_eq (string_bytes a) (string_bytes b)) ns (take (length ns) xs)
    → (r ≡ true → map string_bytes xs ≡ map string_bytes ns ++ drop (length (map string_bytes ns)) (map string_bytes xs)) × ((rest : List (List ℕ)) → map string_bytes xs ≡ map string_bytes ns ++ rest → r ≡ true)
begun_tokens xs ns r e =
    starts_is bytes_eq-Decides (map string_bytes xs) (map string_bytes ns) r
    (same_tokens ns (take (length ns) xs) r e ∙ ap (pointwise bytes_eq (map string_bytes ns)) (sym (take-map string_bytes (length ns) xs) ∙ ap (λ n. take n (map string_bytes xs)) (sym (length-map ns string_bytes))))

-- one token more is written
pub shown_next : (items : List (String Global)) (i : ℕ) (x : String Global) → i < length items → x ≡ get_or items i x
    → (pointer_text (map string_bytes (take i items)) ++ (47 ∷ [])) ++ token_text (string_bytes x) ≡ pointer_text (map string_bytes (take (i + 1) items))
shown_next items i x h e =
    append_assoc (pointer_text (map string_bytes (take i items))) (47 ∷ []) (token_text (string_bytes x))
    ∙ ap (λ l. pointer_text (map string_bytes (take i items)) ++ l) (sym (append-nil (47 ∷ token_text (string_bytes x))))
    ∙ sym (flat_map-append (λ k. 47 ∷ token_text k) (map string_bytes (take i items)) (string_bytes x ∷ []))
    ∙ (λ j. pointer_text (map string_bytes (take i items) ++ string_bytes (e j) ∷ []))
    ∙ ap pointer_text (sym (map-append string_bytes (take i items) (get_or items i x ∷ [])) ∙ ap (map string_bytes) (sym (take_more items i x h)))
