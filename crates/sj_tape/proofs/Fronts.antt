-- Spellings taken off the front, one part after another.
use Rattle.std.proofs.Common.{◌≡◌, ◌⊎◌, ℕ, zero, suc, Bool, true, false, cond, List, [], ◌∷◌, ◌++◌, Some, None, refl, sym, ap, subst, ◌∙◌, append_assoc, append-nil, inl, inr, ⊎_elim}
use Rattle.std.proofs.lemmas.Option.{none-some, option_and_then_some, some_pair_parts}
use Rattle.sj_text_core.specs.Grammar.{IsBlank}
use Rattle.sj_text_core.specs.inner.Parse.{Reading, after_blank, separator_at, separator_or, with_first, parts_at}
use Rattle.sj_text_core.proofs.parse.Steps.{blank_off, separator_is}

-- a spelling was taken off the front
pub record Front {X : Type 0} (P : X → List ℕ → Type 0) (b : List ℕ) (x : X) (r : List ℕ) : Type 0 where
  pub front : List ℕ
  pub is : b ≡ front ++ r
  pub has : P x front

abbrev pub Sound : {X : Type 0} → (X → List ℕ → Type 0) → (List ℕ → Reading X) → Type 0
Sound {X} P read = (b : List ℕ) (x : X) (r : List ℕ) → read b ≡ Some (x, r) → Front P b x r

-- a word, whitespace, and what R says of the rest
pub record Word (W R : List ℕ → Type 0) (b : List ℕ) : Type 0 where
  pub word : List ℕ
  pub after : List ℕ
  pub rest : List ℕ
  pub is : b ≡ word ++ (after ++ rest)
  pub spelled : W word
  pub blank : IsBlank after
  pub more : R rest

-- further parts, each behind a comma and whitespace
abbrev pub More : {X : Type 0} → (X → List ℕ → Type 0) → List X → List ℕ → Type 0
More P [] b = b ≡ []
More P (x ∷ xs) b = (before : List ℕ) × (rest : List ℕ) × (b ≡ 44 ∷ (before ++ rest)) × IsBlank before × Word (λ w. P x w) (λ r. More P xs r) rest

pub record Separated (close : ℕ) (b : List ℕ) (m : Bool) (s : List ℕ) : Type 0 where
  pub after : List ℕ
  pub blank : IsBlank after
  pub which : ((m ≡ false) × (b ≡ after ++ (close ∷ s))) ⊎ ((m ≡ true) × ((before : List ℕ) × IsBlank before × (b ≡ after ++ (44 ∷ (before ++ s)))))

pub separated : (close : ℕ) (b after rest : List ℕ) (m : Bool) (s : List ℕ) → IsBlank after → b ≡ after ++ rest → separator_or close rest ≡ Some (m, s) → Separated close b m s
separated close b after [] m s h e f = absurd (none-some (m, s) f)
separated close b after (c ∷ rest) m s h e f = record {
  after = after;
  blank = h;
  which = ⊎_elim
      (λ k. inl (k.0, e ∙ (ap (λ x. after ++ (x ∷ rest)) k.1 ∙ ap (λ l. after ++ (close ∷ l)) (sym k.2))))
      (λ k. let q = blank_off rest in
      inr (k.0, (q.front, q.blank, e ∙ (ap (λ x. after ++ (x ∷ rest)) k.1 ∙ (ap (λ l. after ++ (44 ∷ l)) q.is ∙ ap (λ l. after ++ (44 ∷ (q.front ++ l))) (sym k.2))))))
      (separator_is close c rest m s f);
}

-- a separator was taken off the front
pub separator_off : (close : ℕ) (b : List ℕ) (m : Bool) (s : List ℕ) → separator_at close b ≡ Some (m, s) → Separated close b m s
separator_off close b m s e = let q = blank_off b in separated close b q.front (after_blank b) m s q.blank q.is e

pub with_first_some : {X : Type 0} (x : X) (o : Reading (List X)) (xs : List X) (r : List ℕ) → with_first x o ≡ Some (xs, r) → (ys : List X) × (o ≡ Some (ys, r)) × (xs ≡ x ∷ ys)
with_first_some x None xs r e = absurd (none-some (xs, r) e)
with_first_some x (Some p) xs r e = let k = some_pair_parts (x ∷ p.0) xs p.1 r e in (p.0, ap (λ l. Some (p.0, l)) k.1, sym k.0)

pub record PartsFront {X : Type 0} (P : X → List ℕ → Type 0) (close : ℕ) (b : List ℕ) (xs : List X) (r : List ℕ) : Type 0 where
  pub head : X
  pub tail : List X
  pub split : xs ≡ head ∷ tail
  pub inside : List ℕ
  pub is : b ≡ inside ++ (close ∷ r)
  pub spelled : Word (λ w. P head w) (λ l. More P tail l) inside

module _ {X : Type 0} (P : X → List ℕ → Type 0) (close : ℕ) (read : List ℕ → Reading X) where
  finish : (n : ℕ) → ((b : List ℕ) (xs : List X) (r : List ℕ) → parts_at close read n b ≡ Some (xs, r) → PartsFront P close b xs r)
      → (b : List ℕ) (x : X) (r1 : List ℕ) (m : Bool) (s : List ℕ) (xs : List X) (r : List ℕ) → Front P b x r1 → Separated close r1 m s
      → cond m (with_first x (parts_at close read n s)) (Some (x ∷ [], s)) ≡ Some (xs, r) → PartsFront P close b xs r
  finish n ih b x r1 true s xs r fr sep e =
      let w = with_first_some x (parts_at close read n s) xs r e in
      let k = ih s w.0 r w.1 in
      ⊎_elim (λ q. absurd (false-true q.0))
      (λ q. record {
        head = x;
        tail = w.0;
        split = w.2;
        inside = fr.front ++ (sep.after ++ (44 ∷ (q.1.0 ++ k.inside)));
        is = fr.is ∙ (ap (λ l. fr.front ++ l) (q.1.2 ∙ ap (λ l. sep.after ++ (44 ∷ (q.1.0 ++ l))) k.is) ∙ regroup fr.front sep.after q.1.0 k.inside (close ∷ r));
        spelled = record {
          word = fr.front;
          after = sep.after;
          rest = 44 ∷ (q.1.0 ++ k.inside);
          is = refl;
          spelled = fr.has;
          blank = sep.blank;
          more = subst (λ l. More P l (44 ∷ (q.1.0 ++ k.inside))) (sym k.split) (q.1.0, k.inside, refl, q.1.1, k.spelled);
        };
      })
      sep.which
    where
      false-true : true ≡ false → ⊥
      false-true h = cc

      regroup : (a b c d e : List ℕ) → a ++ (b ++ (44 ∷ (c ++ (d ++ e)))) ≡ (a ++ (b ++ (44 ∷ (c ++ d)))) ++ e
      regroup a b c d e = simp append_assoc
  finish n ih b x r1 false s xs r fr sep e =
      let k = some_pair_parts (x ∷ []) xs s r e in
      ⊎_elim (λ q. record {
        head = x;
        tail = [];
        split = sym k.0;
        inside = fr.front ++ (sep.after ++ []);
        is = fr.is ∙ (ap (λ l. fr.front ++ l) (q.1 ∙ ap (λ l. sep.after ++ (close ∷ l)) k.1) ∙ regroup_last fr.front sep.after (close ∷ r));
        spelled = record { word = fr.front; after = sep.after; rest = []; is = refl; spelled = fr.has; blank = sep.blank; more = refl };
      })
      (λ q. absurd (true-false q.0))
      sep.which
    where
      true-false : false ≡ true → ⊥
      true-false h = cc

      regroup_last : (a b e : List ℕ) → a ++ (b ++ e) ≡ (a ++ (b ++ [])) ++ e
      regroup_last a b e = simp (append_assoc, append-nil)

  pub parts_sound : Sound P read → (n : ℕ) (b : List ℕ) (xs : List X) (r : List ℕ) → parts_at close read n b ≡ Some (xs, r) → PartsFront P close b xs r
  unfolding parts_at
  parts_sound h zero b xs r e = absurd (none-some (xs, r) e)
  parts_sound h (suc n) b xs r e =
      option_and_then_some _ (read b) (xs, r) e (λ p e1 e2.
      option_and_then_some _ (separator_at close p.1) (xs, r) e2 (λ s f1 f2.
      finish n (λ b' ys r' g. parts_sound h n b' ys r' g) b p.0 p.1 s.0 s.1 xs r (h b p.0 p.1 e1) (separator_off close p.1 s.0 s.1 f1) f2))
