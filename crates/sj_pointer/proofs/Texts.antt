-- Texts cut at their slashes, and decoded from the left.
use Rattle.std.proofs.Common.{◌≡◌, ◌≢◌, ◌==◌, ◌&&◌, ◌<◌, ℕ, suc, Bool, true, false, List, [], ◌∷◌, ◌++◌, length, get_or, eqb, if◌then◌else◌, Option, Some, None, MatchOption, unwrap_or, Bor, append_assoc, map, refl, sym, ap, ◌∙◌, arith}
use Rattle.std.proofs.lemmas.List.{map-append}
use Rattle.std.proofs.lemmas.Bool.{ne_eqb, true≢false}
use Rattle.sj_pointer.specs.Syntax.{is_begun}
use Rattle.sj_pointer.specs.Tokens.{onto, parted, tilde_replaced, decoded}

-- the byte c stands nowhere in the text
abbrev pub Lacks : ℕ → List ℕ → Type 0
Lacks c s = (i : ℕ) → i < length s → get_or s i 0 ≢ c

pub lacks_first : (c x : ℕ) (s : List ℕ) → Lacks c (x ∷ s) → eqb x c ≡ false
lacks_first c x s h = ne_eqb x c (h 0 (omega arith))

pub lacks_rest : (c x : ℕ) (s : List ℕ) → Lacks c (x ∷ s) → Lacks c s
lacks_rest c x s h = λ i l. h (suc i) (omega (arith, l))

pub parted_whole : (s : List ℕ) → Lacks 47 s → parted s ≡ s ∷ []
parted_whole [] h = refl
parted_whole (x ∷ s) h = ap (λ b. if b then [] ∷ parted s else onto x (parted s)) (lacks_first 47 x s h) ∙ ap (onto x) (parted_whole s (lacks_rest 47 x s h))

pub parted_first : (s r : List ℕ) → Lacks 47 s → parted (s ++ (47 ∷ r)) ≡ s ∷ parted r
parted_first [] r h = refl
parted_first (x ∷ s) r h =
    ap (λ b. if b then [] ∷ parted (s ++ (47 ∷ r)) else onto x (parted (s ++ (47 ∷ r)))) (lacks_first 47 x s h) ∙ ap (onto x) (parted_first s r (lacks_rest 47 x s h))

replaced_plain : (d c x : ℕ) (s : List ℕ) → eqb x 126 ≡ false → tilde_replaced d c (x ∷ s) ≡ x ∷ tilde_replaced d c s
replaced_plain d c x [] e = refl
replaced_plain d c x (y ∷ s) e = ap (λ b. if b && (y == d) then c ∷ tilde_replaced d c s else x ∷ tilde_replaced d c (y ∷ s)) e

pub decoded_plain : (x : ℕ) (s : List ℕ) → eqb x 126 ≡ false → decoded (x ∷ s) ≡ x ∷ decoded s
decoded_plain x s e = ap (tilde_replaced 48 126) (replaced_plain 49 47 x s e) ∙ replaced_plain 48 126 x (tilde_replaced 49 47 s) e

-- a run without a tilde stays
pub decoded_first : (s r : List ℕ) → Lacks 126 s → decoded (s ++ r) ≡ s ++ decoded r
decoded_first [] r h = refl
decoded_first (x ∷ s) r h = decoded_plain x (s ++ r) (lacks_first 126 x s h) ∙ ap (λ l. x ∷ l) (decoded_first s r (lacks_rest 126 x s h))

pub decoded_whole : (s : List ℕ) → Lacks 126 s → decoded s ≡ s
decoded_whole [] h = refl
decoded_whole (x ∷ s) h = decoded_plain x s (lacks_first 126 x s h) ∙ ap (λ l. x ∷ l) (decoded_whole s (lacks_rest 126 x s h))

-- a tilde and a 1, and a tilde and a 0
pub decoded_slash : (s : List ℕ) → decoded (126 ∷ 49 ∷ s) ≡ 47 ∷ decoded s
decoded_slash s = replaced_plain 48 126 47 (tilde_replaced 49 47 s) refl

pub decoded_tilde : (s : List ℕ) → decoded (126 ∷ 48 ∷ s) ≡ 126 ∷ decoded s
decoded_tilde s = ap (λ l. tilde_replaced 48 126 (126 ∷ l)) (replaced_plain 49 47 48 s refl)

kept_by : (b : Bool) (x : ℕ) (p q : List ℕ) → eqb x 48 ≡ false → tilde_replaced 48 126 (126 ∷ (if b then 47 ∷ p else x ∷ q)) ≡ 126 ∷ tilde_replaced 48 126 (if b then 47 ∷ p else x ∷ q)
kept_by true x p q e = refl
kept_by false x p q e = ap (λ b. if b then 126 ∷ tilde_replaced 48 126 q else 126 ∷ tilde_replaced 48 126 (x ∷ q)) e

kept_from : (x : ℕ) (s : List ℕ) → eqb x 48 ≡ false → tilde_replaced 48 126 (126 ∷ tilde_replaced 49 47 (x ∷ s)) ≡ 126 ∷ decoded (x ∷ s)
kept_from x [] e = kept_by false x [] [] e
kept_from x (y ∷ s) e = kept_by (eqb x 126 && eqb y 49) x (tilde_replaced 49 47 s) (tilde_replaced 49 47 (y ∷ s)) e

-- any other tilde stays
pub decoded_lone : (s : List ℕ) → ((r : List ℕ) → s ≢ 49 ∷ r) → ((r : List ℕ) → s ≢ 48 ∷ r) → decoded (126 ∷ s) ≡ 126 ∷ decoded s
decoded_lone [] f g = refl
decoded_lone (x ∷ s) f g =
    ap (λ b. tilde_replaced 48 126 (if b then 47 ∷ tilde_replaced 49 47 s else 126 ∷ tilde_replaced 49 47 (x ∷ s))) (ne_eqb x 49 (λ e. f s (ap (λ y. y ∷ s) e)))
    ∙ kept_from x s (ne_eqb x 48 (λ e. g s (ap (λ y. y ∷ s) e)))

-- what a tilde and the text behind it write, where no 1 is in front
pub decoded_else : (s : List ℕ) (o : Option (Bor (List ℕ))) (x : Bor (List ℕ)) → x.now ≡ s → ((r : List ℕ) → s ≢ 49 ∷ r) → MatchOption o ((r : List ℕ) → s ≢ 48 ∷ r) (λ y. s ≡ 48 ∷ y.now)
    → decoded (126 ∷ s) ≡ 126 ∷ decoded (unwrap_or o x).now
decoded_else s None x e f g = decoded_lone s f g ∙ ap (λ l. 126 ∷ decoded l) (sym e)
decoded_else s (Some y) x e f g = ap (λ l. decoded (126 ∷ l)) g ∙ decoded_tilde y.now

-- a run and an escape more
pub one_escape : (done next after p e r tail : List ℕ) (c : ℕ) → next ≡ done ++ p → after ≡ next ++ (c ∷ []) → r ≡ p ++ (126 ∷ e) → Lacks 126 p → decoded (126 ∷ e) ≡ c ∷ decoded tail
    → after ++ decoded tail ≡ done ++ decoded r
one_escape done next after p e r tail c f g h l d =
    ap (λ x. x ++ decoded tail) (g ∙ ap (λ x. x ++ (c ∷ [])) f)
    ∙ append_assoc (done ++ p) (c ∷ []) (decoded tail)
    ∙ append_assoc done p (c ∷ decoded tail)
    ∙ ap (λ x. done ++ (p ++ x)) (sym d)
    ∙ ap (λ x. done ++ x) (sym (decoded_first p (126 ∷ e) l) ∙ ap decoded (sym h))

pub not_begun : (s : List ℕ) → ((r : List ℕ) → s ≢ 47 ∷ r) → (length s == 0) ≡ false → is_begun s ≡ false
not_begun [] f e = absurd (true≢false e)
not_begun (x ∷ s) f e = ne_eqb x 47 (λ h. f s (ap (λ y. y ∷ s) h))

module _ {S : Type 0} (f : S → List ℕ) where
  -- a token more, and the last one
  pub one_token : (done next : List S) (x : S) (p r tail : List ℕ) → next ≡ done ++ (x ∷ []) → f x ≡ decoded p → r ≡ p ++ (47 ∷ tail) → Lacks 47 p
      → map f next ++ map decoded (parted tail) ≡ map f done ++ map decoded (parted r)
  one_token done next x p r tail e d h l =
      ap (λ y. map f y ++ map decoded (parted tail)) e
      ∙ ap (λ y. y ++ map decoded (parted tail)) (map-append f done (x ∷ []))
      ∙ append_assoc (map f done) (f x ∷ []) (map decoded (parted tail))
      ∙ ap (λ y. map f done ++ (y ∷ map decoded (parted tail))) d
      ∙ ap (λ y. map f done ++ map decoded y) (sym (parted_first p tail l) ∙ ap parted (sym h))

  pub last_token : (done next : List S) (x : S) (r : List ℕ) → next ≡ done ++ (x ∷ []) → f x ≡ decoded r → Lacks 47 r → map f next ≡ map f done ++ map decoded (parted r)
  last_token done next x r e d l =
      ap (map f) e ∙ map-append f done (x ∷ []) ∙ ap (λ y. map f done ++ (y ∷ [])) d ∙ ap (λ y. map f done ++ map decoded y) (sym (parted_whole r l))
