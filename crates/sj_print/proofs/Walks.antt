-- The walk over items and members, one after another.
use Rattle.std.proofs.Common.{◌≡◌, true, false, ℕ, List, [], ◌∷◌, ◌++◌, Option, Some, None, refl, sym, ap, ◌∙◌, append_assoc}
use Rattle.sj_text_core.specs.Tree.{Tree, list, obj, Items, no_items, item, Members, no_members, member}
use Rattle.sj_text_core.specs.Print.{quoted}
use Rattle.sj_print.specs.Layouts.{laid, deeper, gap}
use Rattle.sj_print.specs.inner.Layouts.{laid_items, laid_members, items_end, members_end, key_end}
use Rattle.sj_print.specs.Outputs.{Appends}
use Rattle.sj_print.specs.inner.Outputs.{Towards}
use Rattle.sj_print.proofs.Puts.{begin, step, end}
use Rattle.sj_print.proofs.Layouts.{laid-list, laid-no_items, laid-no_members, items_laid-item, members_laid-member}

module _ {S O : Type 0} (holds : S → O → List ℕ → Type 0) (s : Option ℕ) where
  abbrev d : Option ℕ
  d = deeper s

  pub items_first : (t : Tree) (is js : Items) (a b c : O) → js ≡ item t is → Appends holds a b (91 ∷ gap d) → Appends holds b c (laid d t) → Towards holds a c (items_end s is) (laid s (list js))
  items_first t is js a b c e f g =
      step holds a b c (laid d t) _ _ _ (begin holds a b (91 ∷ gap d) (laid d t ++ items_end s is) _ f (sym (ap (λ x. laid s (list x)) e ∙ laid-list s t is))) g refl

  pub items_next : (t : Tree) (is js : Items) (whole : List ℕ) (a b c e : O) → js ≡ item t is → Towards holds a b (items_end s js) whole → Appends holds b c (44 ∷ gap d) → Appends holds c e (laid d t)
      → Towards holds a e (items_end s is) whole
  items_next t is js whole a b c e same before f g =
      step holds a c e (laid d t) _ _ _ (step holds a b c (44 ∷ gap d) (items_end s js) (laid d t ++ items_end s is) whole before f
      (ap (items_end s) same ∙ items_laid-item true s t is)) g refl

  pub items_last : (js : Items) (whole : List ℕ) (a b c : O) → js ≡ no_items → Towards holds a b (items_end s js) whole → Appends holds b c (gap s ++ 93 ∷ []) → Appends holds a c whole
  items_last js whole a b c none before f =
      end holds a b c (gap s ++ 93 ∷ []) (items_end s js) whole before f (ap (items_end s) none ∙ ap (λ l. l ++ (gap s ++ 93 ∷ [])) (laid-no_items d))

  pub members_first : (k : List ℕ) (t : Tree) (ms ns : Members) (a c e : O) → ns ≡ member k t ms → Appends holds a c ((123 ∷ gap d) ++ (quoted k ++ key_end d)) → Appends holds c e (laid d t)
      → Towards holds a e (members_end s ms) (laid s (obj ns))
  members_first k t ms ns a c e same f h =
      step holds a c e (laid d t) _ _ _
      (begin holds a c ((123 ∷ gap d) ++ (quoted k ++ key_end d)) (laid d t ++ members_end s ms) _ f (sym (ap (λ x. laid s (obj x)) same ∙ members_laid-member false s k t ms))) h refl

  pub members_next : (k : List ℕ) (t : Tree) (ms ns : Members) (whole : List ℕ) (a b e i : O) → ns ≡ member k t ms → Towards holds a b (members_end s ns) whole
      → Appends holds b e ((44 ∷ gap d) ++ (quoted k ++ key_end d)) → Appends holds e i (laid d t) → Towards holds a i (members_end s ms) whole
  members_next k t ms ns whole a b e i same before f h =
      step holds a e i (laid d t) _ _ _ (step holds a b e ((44 ∷ gap d) ++ (quoted k ++ key_end d)) (members_end s ns) (laid d t ++ members_end s ms) whole before f
      (ap (members_end s) same ∙ members_laid-member true s k t ms)) h refl

  pub members_last : (ns : Members) (whole : List ℕ) (a b c : O) → ns ≡ no_members → Towards holds a b (members_end s ns) whole → Appends holds b c (gap s ++ 125 ∷ []) → Appends holds a c whole
  members_last ns whole a b c none before f =
      end holds a b c (gap s ++ 125 ∷ []) (members_end s ns) whole before f (ap (members_end s) none ∙ ap (λ l. l ++ (gap s ++ 125 ∷ [])) (laid-no_members d))
