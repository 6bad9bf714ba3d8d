-- The text that writes tokens spells them.
use Rattle.std.proofs.Common.{◌≡◌, ◌≢◌, ◌==◌, ◌⊎◌, ℕ, true, false, List, [], ◌∷◌, if◌then◌else◌, refl, sym, ap, ◌∙◌, inl, inr, eqb}
use Rattle.std.proofs.lemmas.Bool.Decides.{eqb_tells}
use Rattle.sj_pointer.specs.Spelled.{IsPart, SpellsToken, SpellsTokens}
use Rattle.sj_pointer.specs.Shown.{part_text, token_text, pointer_text}
use Rattle.sj_pointer.specs.Syntax.{is_begun, is_escaped}
use Rattle.sj_pointer.specs.Tokens.{tokens_of}
use Rattle.sj_pointer.proofs.Spellings.{spelled_are}

part_by : (x : ℕ) → ((eqb x 126 ≡ true) × (x ≡ 126)) ⊎ ((eqb x 126 ≡ false) × (x ≢ 126)) → ((eqb x 47 ≡ true) × (x ≡ 47)) ⊎ ((eqb x 47 ≡ false) × (x ≢ 47)) → IsPart x (part_text x)
part_by x (inl e) s = inr (inl (e.1, ap (λ b. if b then 126 ∷ 48 ∷ [] else (if x == 47 then 126 ∷ 49 ∷ [] else x ∷ [])) e.0))
part_by x (inr e) (inl s) =
    inr (inr (s.1, ap (λ b. if b then 126 ∷ 48 ∷ [] else (if x == 47 then 126 ∷ 49 ∷ [] else x ∷ [])) e.0 ∙ ap (λ b. if b then 126 ∷ 49 ∷ [] else x ∷ []) s.0))
part_by x (inr e) (inr s) =
    inl (ap (λ b. if b then 126 ∷ 48 ∷ [] else (if x == 47 then 126 ∷ 49 ∷ [] else x ∷ [])) e.0 ∙ ap (λ b. if b then 126 ∷ 49 ∷ [] else x ∷ []) s.0, s.1, e.1)

token_spells : (k : List ℕ) → SpellsToken k (token_text k)
token_spells [] = refl
token_spells (x ∷ k) = (part_text x, token_text k, refl, part_by x (eqb_tells x 126) (eqb_tells x 47), token_spells k)

pub tokens_spell : (ks : List (List ℕ)) → SpellsTokens ks (pointer_text ks)
tokens_spell [] = refl
tokens_spell (k ∷ ks) = (token_text k, pointer_text ks, refl, token_spells k, tokens_spell ks)

-- and is read as them
pub written_read : (ks : List (List ℕ)) → (is_begun (pointer_text ks) ≡ true) × (is_escaped (pointer_text ks) ≡ true) × (tokens_of (pointer_text ks) ≡ ks)
written_read ks =
    let r = (spelled_are ks (pointer_text ks)).0 (tokens_spell ks) in
    (r.0, r.1, sym r.2)
