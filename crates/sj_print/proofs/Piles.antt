-- What is left on the pile, step by step.
use Rattle.std.proofs.Common.{◌≡◌, ◌+◌, Bool, true, false, ℕ, List, [], ◌∷◌, ◌++◌, Option, Some, None, Result, Ok, Err, is_ok, IsOk, cond, refl, sym, ap, ◌∙◌, subst, append_assoc, append-nil}
use Rattle.std.proofs.lemmas.Bool.{false≢true}
use Rattle.std.proofs.lemmas.List.Sums.{sum_by_push}
use Rattle.sj_text_core.specs.Tree.{Tree, list, obj, no_items, no_members, items_from, members_from}
use Rattle.sj_print.specs.Layouts.{IsLayout, deeper, laid, gap}
use Rattle.sj_print.specs.Outputs.{AppendsText, HoldsText, Lays}
use Rattle.sj_print.specs.inner.Outputs.{Towards}
use Rattle.sj_print.specs.inner.Piles.{items_laid, members_laid, ahead_tree, ahead_laid, open_laid, open_weight, pile_weight, inner, AreLaid, laid_rest, PilesUp}
use Rattle.sj_print.specs.declared.layout.Layout.{Layout}
use Rattle.sj_print.specs.declared.print.Ahead.{Ahead}
use Rattle.sj_print.specs.declared.print.Ahead.TheVariants as ahead
use Rattle.sj_print.specs.declared.print.Open.{Open}
use Rattle.sj_print.proofs.Layouts.{laid-no_items, laid-no_members}
use Rattle.sj_print.proofs.Puts.{appends_nothing, appends_both}

-- the ends, and what is empty
pub items_laid-end : (begun : Bool) (s : Option ℕ) → begun ≡ true → items_laid begun s no_items ≡ gap s ++ 93 ∷ []
items_laid-end true s e = ap (λ l. l ++ (gap s ++ 93 ∷ [])) (laid-no_items (deeper s))
items_laid-end false s e = absurd (false≢true e)

pub items_laid-none : (begun : Bool) (s : Option ℕ) → begun ≡ false → items_laid begun s no_items ≡ 91 ∷ 93 ∷ []
items_laid-none true s e = absurd (false≢true (sym e))
items_laid-none false None e = refl
items_laid-none false (Some n) e = refl

pub members_laid-end : (begun : Bool) (s : Option ℕ) → begun ≡ true → members_laid begun s no_members ≡ gap s ++ 125 ∷ []
members_laid-end true s e = ap (λ l. l ++ (gap s ++ 125 ∷ [])) (laid-no_members (deeper s))
members_laid-end false s e = absurd (false≢true e)

pub members_laid-none : (begun : Bool) (s : Option ℕ) → begun ≡ false → members_laid begun s no_members ≡ 123 ∷ 125 ∷ []
members_laid-none true s e = absurd (false≢true (sym e))
members_laid-none false None e = refl
members_laid-none false (Some n) e = refl

-- what was pushed is the last
pub stored : {X T E : Type 0} (r : Result T E) (was now more : List X) → IsOk r → now ≡ cond (is_ok r) (was ++ more) was → now ≡ was ++ more
stored (Ok x) was now more h e = e
stored (Err x) was now more h e = absurd (false≢true h)

module _ {I M : Type 0} where
  inner_push : (s : Option ℕ) (p : List (Open I M)) (e : Open I M) → inner s (p ++ e ∷ []) ≡ deeper (inner s p)
  inner_push s [] e = refl
  inner_push s (x ∷ p) e = inner_push (deeper s) p e

  laid_push : (s : Option ℕ) (p : List (Open I M)) (e : Open I M) → AreLaid s p → IsLayout e.layout (inner s p) → AreLaid s (p ++ e ∷ [])
  laid_push s [] e all l = (l, tt {0})
  laid_push s (x ∷ p) e all l = (all.0, laid_push (deeper s) p e all.1 l)

  laid_pop : (s : Option ℕ) (p : List (Open I M)) (e : Open I M) → AreLaid s (p ++ e ∷ []) → AreLaid s p × IsLayout e.layout (inner s p)
  laid_pop s [] e all = (tt {0}, all.0)
  laid_pop s (x ∷ p) e all = let under = laid_pop (deeper s) p e all.1 in ((all.0, under.0), under.1)

module _ {I M : Type 0} (items : I → List Tree) (members : M → List (List ℕ × Tree)) where
  rest_push : (s : Option ℕ) (p : List (Open I M)) (e : Open I M) → laid_rest items members s (p ++ e ∷ []) ≡ open_laid items members (inner s p) e ++ laid_rest items members s p
  rest_push s [] e = sym (append-nil (open_laid items members s e))
  rest_push s (x ∷ p) e = ap (λ l. l ++ open_laid items members s x) (rest_push (deeper s) p e) ∙ append_assoc (open_laid items members (inner (deeper s) p) e) (laid_rest items members (deeper s) p) (open_laid items members s x)

  pub left_push : (p : List (Open I M)) (e : Open I M) → pile_weight items members (p ++ e ∷ []) ≡ pile_weight items members p + open_weight items members e
  left_push p e = sum_by_push (open_weight items members) p e

  ahead_all : (s : Option ℕ) (a : Ahead I M) → ahead_laid items members false s a ≡ laid s (ahead_tree items members a)
  ahead_all s (ahead.Items i) = refl
  ahead_all s (ahead.Members m) = refl

  module _ {S O : Type 0} (holds : S → O → List ℕ → Type 0) where
    -- a part that was printed at once
    pub piled_print : (p : List (Open I M)) (a b : O) (layout : Layout) (part : Option ℕ → List ℕ) → Lays holds a b layout part → PilesUp items members holds p a p b layout part
    piled_print p a b layout part f s all l = (all, record { done = part (inner s p); put = f (inner s p) l; makes = refl })

    -- a container that was put onto the pile
    pub piled_up : (p : List (Open I M)) (a : O) (e : Open I M) → e.is_begun ≡ false → PilesUp items members holds p a (p ++ e ∷ []) a e.layout (λ s. laid s (ahead_tree items members e.ahead))
    piled_up p a e fresh s all l = (
      laid_push s p e all l,
      record {
        done = [];
        put = appends_nothing (HoldsText holds) a;
        makes = rest_push s p e ∙ ap (λ l. l ++ laid_rest items members s p) (ap (λ b. ahead_laid items members b (inner s p) e.ahead) fresh ∙ ahead_all (inner s p) e.ahead);
      },
    )

    -- a part of the container that went back onto the pile, and what stands before it
    pub piled_part : (p q : List (Open I M)) (e : Open I M) (a b c : O) (layout : Layout) (before part whole : Option ℕ → List ℕ)
        → ((s : Option ℕ) → IsLayout e.layout s → IsLayout layout (deeper s)) → Lays holds a b layout before → PilesUp items members holds (p ++ e ∷ []) b q c layout part
        → ((s : Option ℕ) → whole s ≡ before (deeper s) ++ (part (deeper s) ++ open_laid items members s e)) → PilesUp items members holds p a q c e.layout whole
    piled_part p q e a b c layout before part whole deep f g same s all l =
        let t = inner s p in
        let r = g s (laid_push s p e all l) (subst (IsLayout layout) (sym (inner_push s p e)) (deep t l)) in
        let made = r.1.makes ∙ ap (λ d. part d ++ laid_rest items members s (p ++ e ∷ [])) (inner_push s p e) ∙ ap (λ l. part (deeper t) ++ l) (rest_push s p e) in (
          r.0,
          record {
            done = before (deeper t) ++ r.1.done;
            put = appends_both (HoldsText holds) a b c (before (deeper t)) r.1.done (f (deeper t) (deep t l)) r.1.put;
            makes = append_assoc (before (deeper t)) r.1.done (laid_rest items members s q) ∙ ap (λ l. before (deeper t) ++ l) made
                ∙ sym (ap (λ l. l ++ laid_rest items members s p) (same t) ∙ append_assoc (before (deeper t)) _ (laid_rest items members s p) ∙ ap (λ l. before (deeper t) ++ l) (append_assoc (part (deeper t)) _ (laid_rest items members s p)));
          },
        )

    -- the container on top of the pile goes on
    pub piled_on : (s : Option ℕ) (whole : List ℕ) (w p q : List (Open I M)) (e : Open I M) (a b c : O) → w ≡ p ++ e ∷ []
        → AreLaid s w × Towards (HoldsText holds) a b (laid_rest items members s w) whole → PilesUp items members holds p b q c e.layout (λ s. open_laid items members s e)
        → AreLaid s q × Towards (HoldsText holds) a c (laid_rest items members s q) whole
    piled_on s whole w p q e a b c same before f =
        let under = laid_pop s p e (subst (AreLaid s) same before.0) in
        let r = f s under.0 under.1 in
        let t = before.1 in (
          r.0,
          record {
            done = t.done ++ r.1.done;
            put = appends_both (HoldsText holds) a b c t.done r.1.done t.put r.1.put;
            makes = append_assoc t.done r.1.done (laid_rest items members s q) ∙ ap (λ l. t.done ++ l) (r.1.makes ∙ sym (ap (laid_rest items members s) same ∙ rest_push s p e)) ∙ t.makes;
          },
        )
