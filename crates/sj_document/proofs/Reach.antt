-- How deep a pile reaches, entry by entry.
use Rattle.std.proofs.Common.{◌≡◌, ◌↔◌, ◌+◌, ◌<◌, ◌≤◌, ℕ, suc, max, Bool, true, false, List, [], ◌∷◌, ◌++◌, length, Result, Ok, Err, IfOk, sym, ap, ◌∙◌, subst, true≢false, arith}
use Rattle.std.proofs.lemmas.List.{length_push}
use Rattle.std.proofs.lemmas.List.Sums.{sum_by_push}
use Rattle.sj_text_core.specs.Tree.{Tree}
use Rattle.sj_document.specs.inner.Reach.{ahead_depth, ahead_weight, reach, ahead_left, Reached}
use Rattle.sj_document.specs.declared.value.depth.Ahead.{Ahead}

module _ {I M : Type 0} (items : I → List Tree) (members : M → List (List ℕ × Tree)) where
  pub reach_push : (p : List (Ahead I M)) (e : Ahead I M) → reach items members (p ++ e ∷ []) ≡ max (reach items members p) (length p + suc (ahead_depth items members e))
  reach_push [] e = omega arith
  reach_push (x ∷ p) e = omega (arith, reach_push p e)

  pub left_push : (p : List (Ahead I M)) (e : Ahead I M) → ahead_left items members (p ++ e ∷ []) ≡ ahead_left items members p + suc (ahead_weight items members e)
  left_push p e = sum_by_push (λ e. suc (ahead_weight items members e)) p e

  -- a container that was put onto the pile
  pub reached_up : (levels : ℕ) (p q : List (Ahead I M)) (e : Ahead I M) (w : ℕ) → length p < levels → q ≡ p ++ e ∷ [] → ahead_weight items members e + 1 < w → Reached items members levels p (suc (ahead_depth items members e)) w true q
  reached_up levels p q e w l same h =
      let a : reach items members q ≡ max (reach items members p) (length p + suc (ahead_depth items members e)) = ap (reach items members) same ∙ reach_push p e in
      let b : ahead_left items members q ≡ ahead_left items members p + suc (ahead_weight items members e) = ap (ahead_left items members) same ∙ left_push p e in
      let n : length q ≡ length p + 1 = ap length same ∙ length_push p e in
      ((λ h. omega (arith, a, h), λ h. omega (arith, a, h)), omega (arith, n, l), omega (arith, b, h))

  -- a part of the container that went back onto the pile
  pub reached_part : (levels : ℕ) (p q : List (Ahead I M)) (e : Ahead I M) (d w n m : ℕ) (is : Bool) (new : List (Ahead I M)) → q ≡ p ++ e ∷ [] → n ≡ max d (ahead_depth items members e) → m ≡ w + ahead_weight items members e
      → Reached items members levels q d w is new → Reached items members levels p (suc n) (suc m) is new
  reached_part levels p q e d w n m true new same deep heavy r =
      let a : reach items members q ≡ max (reach items members p) (length p + suc (ahead_depth items members e)) = ap (reach items members) same ∙ reach_push p e in
      let b : ahead_left items members q ≡ ahead_left items members p + suc (ahead_weight items members e) = ap (ahead_left items members) same ∙ left_push p e in
      let l : length q ≡ length p + 1 = ap length same ∙ length_push p e in
      let k : max (reach items members q) (length q + d) ≡ max (reach items members p) (length p + suc n) = omega (arith, a, l, deep) in
      ((λ h. r.0.0 (subst (λ (x : ℕ). x ≤ levels) (sym k) h), λ h. subst (λ (x : ℕ). x ≤ levels) k (r.0.1 h)), r.1, omega (arith, r.2, b, heavy))
  reached_part levels p q e d w n m false new same deep heavy r =
      let a : reach items members q ≡ max (reach items members p) (length p + suc (ahead_depth items members e)) = ap (reach items members) same ∙ reach_push p e in
      let l : length q ≡ length p + 1 = ap length same ∙ length_push p e in
      let k : max (reach items members q) (length q + d) ≡ max (reach items members p) (length p + suc n) = omega (arith, a, l, deep) in
      subst (λ (x : ℕ). levels < x) k r

  pub reached_on : {E : Type 0} (r : Result Bool E) (levels : ℕ) (p q : List (Ahead I M)) (e : Ahead I M) (d w n m : ℕ) (new : List (Ahead I M)) → q ≡ p ++ e ∷ [] → n ≡ max d (ahead_depth items members e) → m ≡ w + ahead_weight items members e
      → IfOk r (λ is. Reached items members levels q d w is new) → IfOk r (λ is. Reached items members levels p (suc n) (suc m) is new)
  reached_on (Ok is) levels p q e d w n m new same deep heavy r = reached_part levels p q e d w n m is new same deep heavy r
  reached_on (Err x) levels p q e d w n m new same deep heavy r = tt

  -- the container on top of the pile goes on
  pub reached_all : (levels d : ℕ) (w p : List (Ahead I M)) (e : Ahead I M) (is : Bool) (new : List (Ahead I M)) → w ≡ p ++ e ∷ [] → (d ≤ levels) ↔ (reach items members w ≤ levels) → is ≡ true
      → Reached items members levels p (suc (ahead_depth items members e)) (suc (ahead_weight items members e)) is new → (d ≤ levels) ↔ (reach items members new ≤ levels)
  reached_all levels d w p e true new same before f r =
      let k : reach items members w ≡ max (reach items members p) (length p + suc (ahead_depth items members e)) = ap (reach items members) same ∙ reach_push p e in
      (λ h. r.0.0 (subst (λ (x : ℕ). x ≤ levels) k (before.0 h)), λ h. before.1 (subst (λ (x : ℕ). x ≤ levels) (sym k) (r.0.1 h)))
  reached_all levels d w p e false new same before f r = absurd (true≢false (sym f))

  -- it stays within, and is less
  pub reached_within : (levels d n : ℕ) (p : List (Ahead I M)) (is : Bool) (new : List (Ahead I M)) → is ≡ true → Reached items members levels p d n is new → length new ≤ levels
  reached_within levels d n p true new f r = r.1
  reached_within levels d n p false new f r = absurd (true≢false (sym f))

  -- it reaches too deep
  pub reached_none : (levels d : ℕ) (w p : List (Ahead I M)) (e : Ahead I M) (is : Bool) (new : List (Ahead I M)) → w ≡ p ++ e ∷ [] → (d ≤ levels) ↔ (reach items members w ≤ levels) → is ≡ false
      → Reached items members levels p (suc (ahead_depth items members e)) (suc (ahead_weight items members e)) is new → (false ≡ true → d ≤ levels) × (d ≤ levels → false ≡ true)
  reached_none levels d w p e false new same before f r =
      let k : reach items members w ≡ max (reach items members p) (length p + suc (ahead_depth items members e)) = ap (reach items members) same ∙ reach_push p e in
      (λ f. absurd (true≢false (sym f)), λ h. let m : reach items members w ≤ levels = before.0 h in absurd (omega (arith, m, k, r)))
  reached_none levels d w p e true new same before f r = absurd (true≢false f)
