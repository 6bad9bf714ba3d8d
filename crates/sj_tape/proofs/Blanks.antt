-- Whitespace by its length.
use Rattle.std.proofs.Common.{◌≡◌, ℕ, suc, ◌+◌, ◌<◌, Bool, true, false, not, cond, List, [], ◌∷◌, length, drop, get_or, refl, sym, ap, ◌∙◌, arith}
use Rattle.std.specs.List.{prefix_len}
use Rattle.std.proofs.lemmas.List.{drop-drop, drop_more}
use Rattle.std.proofs.lemmas.Bool.Decides.{nat_tests}
use Rattle.sj_text_core.specs.inner.Parse.{is_space, after_blank}

-- twice not
pub not-not : (b : Bool) → b ≡ not (not b)
not-not true = refl
not-not false = refl

after_run : (l : List ℕ) → drop (prefix_len is_space l) l ≡ after_blank l
after_run [] = refl
after_run (c ∷ l) = by_byte c l (is_space c) (after_run l)
  where
    one_more : (n c : ℕ) (l : List ℕ) → drop (1 + n) (c ∷ l) ≡ drop n l
    one_more n c l = let e : 1 + n ≡ suc n = omega arith in ap (λ k. drop k (c ∷ l)) e

    by_byte : (c : ℕ) (l : List ℕ) (t : Bool) → drop (prefix_len is_space l) l ≡ after_blank l → drop (cond t (1 + prefix_len is_space l) 0) (c ∷ l) ≡ cond t (after_blank l) (c ∷ l)
    by_byte c l true h = one_more (prefix_len is_space l) c l ∙ h
    by_byte c l false h = refl

-- what follows the run of whitespace
pub blank_rest : (b : List ℕ) (at e : ℕ) → e ≡ at + prefix_len is_space (drop at b) → drop e b ≡ after_blank (drop at b)
blank_rest b at e h = sym (drop-drop (prefix_len is_space (drop at b)) at b ∙ ap (λ n. drop n b) (omega (arith, h))) ∙ after_run (drop at b)

-- where there is none
pub solid_rest : (b : List ℕ) (at : ℕ) → at < length b → 32 < get_or b at 0 → drop at b ≡ after_blank (drop at b)
solid_rest b at h k = drop_more b at 0 h ∙ (sym (ap (λ t. cond t (after_blank (drop (at + 1) b)) (get_or b at 0 ∷ drop (at + 1) b)) (none (get_or b at 0) k)) ∙ ap (λ l. after_blank l) (sym (drop_more b at 0 h)))
  where
    none : (c : ℕ) → 32 < c → is_space c ≡ false
    none c k = grind (arith, nat_tests)

-- where there is one space
pub space_rest : (b : List ℕ) (at : ℕ) → at + 1 < length b → get_or b at 0 ≡ 32 → 32 < get_or b (at + 1) 0 → drop (at + 1) b ≡ after_blank (drop at b)
space_rest b at h e k =
    solid_rest b (at + 1) h k ∙ sym (ap (λ l. after_blank l) (drop_more b at 0 (omega (arith, h)) ∙ ap (λ c. c ∷ drop (at + 1) b) e))
