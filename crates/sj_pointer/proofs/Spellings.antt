-- Spelled tokens are the tokens of the text, and the tokens of a text are spelled.
use Rattle.std.proofs.Common.{◌≡◌, ◌≢◌, ◌⊎◌, inl, inr, ◌==◌, ◌&&◌, ◌||◌, ◌↔◌, ℕ, Bool, true, false, List, [], ◌∷◌, ◌++◌, drop, map, eqb, if◌then◌else◌, append_assoc, refl, sym, ap, subst, ◌∙◌}
use Rattle.std.proofs.lemmas.Bool.{ne_eqb}
use Rattle.std.proofs.lemmas.Bool.Decides.{eqb_tells}
use Rattle.sj_pointer.specs.Syntax.{has_code, is_begun, is_escaped}
use Rattle.sj_pointer.specs.Tokens.{onto, parted, decoded, tokens_of}
use Rattle.sj_pointer.specs.Spelled.{IsPart, SpellsToken, SpellsTokens}
use Rattle.sj_pointer.proofs.Texts.{decoded_plain, decoded_slash, decoded_tilde}

part_escaped : (c : ℕ) (f x : List ℕ) → IsPart c f → is_escaped (f ++ x) ≡ is_escaped x
part_escaped c f x (inl h) = ap (λ f. is_escaped (f ++ x)) h.0 ∙ ap (λ b. (if b then has_code x else true) && is_escaped x) (ne_eqb c 126 h.2)
part_escaped c f x (inr (inl h)) = ap (λ f. is_escaped (f ++ x)) h.1
part_escaped c f x (inr (inr h)) = ap (λ f. is_escaped (f ++ x)) h.1

part_decoded : (c : ℕ) (f x : List ℕ) → IsPart c f → decoded (f ++ x) ≡ c ∷ decoded x
part_decoded c f x (inl h) = ap (λ f. decoded (f ++ x)) h.0 ∙ decoded_plain c x (ne_eqb c 126 h.2)
part_decoded c f x (inr (inl h)) = ap (λ f. decoded (f ++ x)) h.1 ∙ decoded_tilde x ∙ ap (λ c. c ∷ decoded x) (sym h.0)
part_decoded c f x (inr (inr h)) = ap (λ f. decoded (f ++ x)) h.1 ∙ decoded_slash x ∙ ap (λ c. c ∷ decoded x) (sym h.0)

part_parted : (c : ℕ) (f x y : List ℕ) (zs : List (List ℕ)) → IsPart c f → parted x ≡ y ∷ zs → parted (f ++ x) ≡ (f ++ y) ∷ zs
part_parted c f x y zs (inl h) e =
    ap (λ f. parted (f ++ x)) h.0 ∙ ap (λ b. if b then [] ∷ parted x else onto c (parted x)) (ne_eqb c 47 h.1) ∙ ap (onto c) e ∙ ap (λ f. (f ++ y) ∷ zs) (sym h.0)
part_parted c f x y zs (inr (inl h)) e = ap (λ f. parted (f ++ x)) h.1 ∙ ap (λ w. onto 126 (onto 48 w)) e ∙ ap (λ f. (f ++ y) ∷ zs) (sym h.1)
part_parted c f x y zs (inr (inr h)) e = ap (λ f. parted (f ++ x)) h.1 ∙ ap (λ w. onto 126 (onto 49 w)) e ∙ ap (λ f. (f ++ y) ∷ zs) (sym h.1)

token_escaped : (k b r : List ℕ) → SpellsToken k b → is_escaped (b ++ r) ≡ is_escaped r
token_escaped [] b r h = ap (λ b. is_escaped (b ++ r)) h
token_escaped (c ∷ k) b r h =
    ap (λ b. is_escaped (b ++ r)) h.2 ∙ ap is_escaped (append_assoc h.0 h.1 r) ∙ part_escaped c h.0 (h.1 ++ r) h.3 ∙ token_escaped k h.1 r h.4

token_decoded : (k b : List ℕ) → SpellsToken k b → decoded b ≡ k
token_decoded [] b h = ap decoded h
token_decoded (c ∷ k) b h = ap decoded h.2 ∙ part_decoded c h.0 h.1 h.3 ∙ ap (λ l. c ∷ l) (token_decoded k h.1 h.4)

begun_parted : (r : List ℕ) → is_begun r ≡ true → parted r ≡ [] ∷ drop 1 (parted r)
begun_parted [] e = refl
begun_parted (x ∷ r) e =
    ap (λ b. if b then [] ∷ parted r else onto x (parted r)) e ∙ sym (ap (λ b. [] ∷ drop 1 (if b then [] ∷ parted r else onto x (parted r))) e)

token_parted : (k b r : List ℕ) → is_begun r ≡ true → SpellsToken k b → parted (b ++ r) ≡ b ∷ drop 1 (parted r)
token_parted [] b r e h = ap (λ b. parted (b ++ r)) h ∙ begun_parted r e ∙ ap (λ b. b ∷ drop 1 (parted r)) (sym h)
token_parted (c ∷ k) b r e h =
    ap (λ b. parted (b ++ r)) h.2 ∙ ap parted (append_assoc h.0 h.1 r) ∙ part_parted c h.0 (h.1 ++ r) h.1 (drop 1 (parted r)) h.3 (token_parted k h.1 r e h.4)
    ∙ ap (λ b. b ∷ drop 1 (parted r)) (sym h.2)

spelled : (ks : List (List ℕ)) (b : List ℕ) → SpellsTokens ks b → (is_begun b ≡ true) × (is_escaped b ≡ true) × (ks ≡ tokens_of b)
spelled [] b h = (ap is_begun h, ap is_escaped h, sym (ap tokens_of h))
spelled (k ∷ ks) b h =
    let ih = spelled ks h.1 h.4 in (
      ap is_begun h.2,
      ap is_escaped h.2 ∙ token_escaped k h.0 h.1 h.3 ∙ ih.1,
      sym (ap tokens_of h.2 ∙ ap (map decoded) (token_parted k h.0 h.1 ih.0 h.3) ∙ (λ i. token_decoded k h.0 h.3 i ∷ sym ih.2 i)),
    )

-- a text that is a token's, and the pointer behind it
record Cut (s : List ℕ) : Type 0 where
  token : List ℕ
  tokens : List (List ℕ)
  first : List ℕ
  rest : List ℕ
  is : s ≡ first ++ rest
  one : SpellsToken token first
  more : SpellsTokens tokens rest

empty : Cut []
empty = record { token = []; tokens = []; first = []; rest = []; is = refl; one = refl; more = refl }

behind_slash : (s : List ℕ) → Cut s → Cut (47 ∷ s)
behind_slash s c = record {
  token = [];
  tokens = c.token ∷ c.tokens;
  first = [];
  rest = 47 ∷ s;
  is = refl;
  one = refl;
  more = (c.first, c.rest, ap (λ l. 47 ∷ l) c.is, c.one, c.more);
}

behind_part : (b : ℕ) (f s : List ℕ) → IsPart b f → Cut s → Cut (f ++ s)
behind_part b f s h c = record {
  token = b ∷ c.token;
  tokens = c.tokens;
  first = f ++ c.first;
  rest = c.rest;
  is = ap (λ l. f ++ l) c.is ∙ sym (append_assoc f c.first c.rest);
  one = (f, c.first, refl, h, c.one);
  more = c.more;
}

behind_plain : (x : ℕ) (s : List ℕ) → x ≢ 126 → Cut s → Cut (x ∷ s)
behind_plain x s n c = by (eqb_tells x 47) where
  by : ((eqb x 47 ≡ true) × (x ≡ 47)) ⊎ ((eqb x 47 ≡ false) × (x ≢ 47)) → Cut (x ∷ s)
  by (inl h) = subst (λ y. Cut (y ∷ s)) (sym h.1) (behind_slash s c)
  by (inr h) = behind_part x (x ∷ []) s (inl (refl, h.1, n)) c

-- what an escape is
pub right : (a b : Bool) → (a && b) ≡ true → b ≡ true
right true b e = e
right false b e = cc

pub left : (a b : Bool) → (a && b) ≡ true → a ≡ true
left true b e = refl
left false b e = cc

behind_escape : (y : ℕ) (s : List ℕ) → ((y == 48) || (y == 49)) ≡ true → Cut s → Cut (126 ∷ y ∷ s)
behind_escape y s e c = by (eqb_tells y 48) (eqb_tells y 49) where
  by : ((eqb y 48 ≡ true) × (y ≡ 48)) ⊎ ((eqb y 48 ≡ false) × (y ≢ 48)) → ((eqb y 49 ≡ true) × (y ≡ 49)) ⊎ ((eqb y 49 ≡ false) × (y ≢ 49)) → Cut (126 ∷ y ∷ s)
  by (inl h) g = subst (λ z. Cut (126 ∷ z ∷ s)) (sym h.1) (behind_part 126 (126 ∷ 48 ∷ []) s (inr (inl (refl, refl))) c)
  by (inr h) (inl g) = subst (λ z. Cut (126 ∷ z ∷ s)) (sym g.1) (behind_part 47 (126 ∷ 49 ∷ []) s (inr (inr (refl, refl))) c)
  by (inr h) (inr g) = let f : false ≡ true = (λ i. sym h.0 i || sym g.0 i) ∙ e in cc

cut : (s : List ℕ) → is_escaped s ≡ true → Cut s
cut [] e = empty
cut (x ∷ []) e = by (eqb_tells x 126) where
  by : ((eqb x 126 ≡ true) × (x ≡ 126)) ⊎ ((eqb x 126 ≡ false) × (x ≢ 126)) → Cut (x ∷ [])
  by (inl h) = let f : false ≡ true = ap (λ b. (if b then false else true) && true) (sym h.0) ∙ e in cc
  by (inr h) = behind_plain x [] h.1 empty
cut (x ∷ y ∷ s) e = by (eqb_tells x 126) (λ h. cut s h) (λ h. cut (y ∷ s) h) where
  by : ((eqb x 126 ≡ true) × (x ≡ 126)) ⊎ ((eqb x 126 ≡ false) × (x ≢ 126)) → (is_escaped s ≡ true → Cut s) → (is_escaped (y ∷ s) ≡ true → Cut (y ∷ s)) → Cut (x ∷ y ∷ s)
  by (inl h) two one =
      let f : (((y == 48) || (y == 49)) && is_escaped (y ∷ s)) ≡ true = ap (λ b. (if b then has_code (y ∷ s) else true) && is_escaped (y ∷ s)) (sym h.0) ∙ e in
      subst (λ z. Cut (z ∷ y ∷ s)) (sym h.1) (behind_escape y s (left _ (is_escaped (y ∷ s)) f) (two (right _ (is_escaped s) (right _ (is_escaped (y ∷ s)) f))))
  by (inr h) two one = behind_plain x (y ∷ s) h.1 (one (right _ (is_escaped (y ∷ s)) e))

spells_some : (s : List ℕ) → is_begun s ≡ true → is_escaped s ≡ true → (ks : List (List ℕ)) × SpellsTokens ks s
spells_some [] b e = ([], refl)
spells_some (x ∷ s) b e = by (eqb_tells x 47) where
  by : ((eqb x 47 ≡ true) × (x ≡ 47)) ⊎ ((eqb x 47 ≡ false) × (x ≢ 47)) → (ks : List (List ℕ)) × SpellsTokens ks (x ∷ s)
  by (inl h) =
      let c = cut s (right _ (is_escaped s) e) in
      (c.token ∷ c.tokens, (c.first, c.rest, (λ i. h.1 i ∷ c.is i), c.one, c.more))
  by (inr h) = let f : false ≡ true = sym h.0 ∙ b in cc

pub spelled_are : (ks : List (List ℕ)) (s : List ℕ) → SpellsTokens ks s ↔ ((is_begun s ≡ true) × (is_escaped s ≡ true) × (ks ≡ tokens_of s))
spelled_are ks s = (spelled ks s, λ h. let some = spells_some s h.0 h.1 in subst (λ (l : List (List ℕ)). SpellsTokens l s) ((spelled some.0 s some.1).2 ∙ sym h.2) some.1)
