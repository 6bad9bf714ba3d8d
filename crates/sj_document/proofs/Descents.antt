-- Ways down a path and back up, step by step.
use Rattle.std.proofs.Common.{◌≡◌, ◌<◌, ◌≤◌, ◌+◌, ℕ, zero, suc, List, [], ◌∷◌, map, length, drop, get_or, Option, Some, None, option_and_then, refl, sym, ap, ◌∙◌, subst, add-one, true≢false, arith}
use Rattle.std.specs.Option.{IsSome, is_some}
use Rattle.std.proofs.lemmas.List.{drop_more, drop_all}
use Rattle.sj_text_core.specs.Tree.{Tree}
use Rattle.sj_text_core.specs.Paths.{Step, by_key, step_into, set_found, change_found, tree_at, set_at}
use Rattle.sj_text_core.specs.inner.Find.{or_null}
use Rattle.sj_text_core.proofs.Paths.{found_same}
use Rattle.sj_text_core.proofs.Writes.{step_there, set_found-twice}
use Rattle.sj_document.specs.inner.Descents.{step_at, plug, IsSpine, Descended}

pub step_is : {A : Type 0} (f : A → Step) (ks : List A) (d : ℕ) (k : A) → d < length ks → k ≡ get_or ks d k → step_at (map f ks) d ≡ f k
step_is f [] d k l e = absurd (omega arith)
step_is f (x ∷ ks) zero k l e = ap f (sym e)
step_is f (x ∷ ks) (suc d) k l e = step_is f ks d k (omega arith) e

-- all that holds on the way down
pub record Underway (p : List Step) (before cur up : Tree) (d : ℕ) : Type 0 where
  pub within : d ≤ length p
  pub spine : IsSpine p d up
  pub whole : plug p d up cur ≡ before
  pub found : tree_at p before ≡ tree_at (drop d p) cur
  pub same : (n : Tree) → plug p d up (set_at (drop d p) n cur) ≡ set_at p n before

pub begins : (p : List Step) (t up : Tree) → Underway p t t up 0
begins p t up = record { within = omega arith; spine = tt; whole = refl; found = refl; same = λ n. refl }

module _ (p : List Step) (d : ℕ) (cur : Tree) (l : d < length p) where
  found_on : (o : Option Tree) → step_into (step_at p d) cur ≡ o → tree_at (drop d p) cur ≡ option_and_then (λ v. tree_at (drop (d + 1) p) v) o
  found_on o e = ap (λ q. tree_at q cur) (drop_more p d (by_key []) l) ∙ ap (option_and_then (λ v. tree_at (drop (d + 1) p) v)) e

  set_on : (n : Tree) (o : Option Tree) → step_into (step_at p d) cur ≡ o → set_at (drop d p) n cur ≡ change_found o (step_at p d) (set_at (drop (d + 1) p) n) cur
  set_on n o e = ap (λ q. set_at q n cur) (drop_more p d (by_key []) l) ∙ ap (λ o. change_found o (step_at p d) (set_at (drop (d + 1) p) n) cur) e

plug_down : (p : List Step) (d : ℕ) (up cur u x : Tree) → step_into (step_at p d) cur ≡ Some u → plug p (suc d) (set_found (step_at p d) up cur) x ≡ plug p d up (set_found (step_at p d) x cur)
plug_down p d up cur u x e = λ j. plug p d (or_null (step_there (step_at p d) up u cur e j)) (set_found-twice (step_at p d) x up cur j)

spine_down : (p : List Step) (d : ℕ) (up cur u : Tree) → step_into (step_at p d) cur ≡ Some u → IsSpine p d up → IsSpine p (suc d) (set_found (step_at p d) up cur)
spine_down p d up cur u e h =
    let f : Some up ≡ step_into (step_at p d) (set_found (step_at p d) up cur) = sym (step_there (step_at p d) up u cur e) in
    (subst (λ (o : Option Tree). IsSome o) f refl, subst (λ (o : Option Tree). IsSpine p d (or_null o)) f h)

down : (p : List Step) (before cur up u : Tree) (d : ℕ) → Underway p before cur up d → d < length p → step_into (step_at p d) cur ≡ Some u → Underway p before u (set_found (step_at p d) up cur) (suc d)
down p before cur up u d h l e =
    let s = step_at p d in
    let rest : drop (d + 1) p ≡ drop (suc d) p = ap (λ n. drop n p) (add-one d) in
    record {
      within = omega (arith, l);
      spine = spine_down p d up cur u e h.spine;
      whole = plug_down p d up cur u u e ∙ ap (plug p d up) (found_same s u cur e) ∙ h.whole;
      found = h.found ∙ found_on p d cur l (Some u) e ∙ ap (λ q. tree_at q u) rest;
      same = λ n. plug_down p d up cur u (set_at (drop (suc d) p) n u) e ∙ ap (λ q. plug p d up (set_found s (set_at q n u) cur)) (sym rest) ∙ ap (plug p d up) (sym (set_on p d cur l n (Some u) e)) ∙ h.same n;
    }

-- one step further down
pub goes_down : (p : List Step) (before cur up u : Tree) (d : ℕ) (s : Step) (after next : Tree) → Underway p before cur up d → d < length p → step_at p d ≡ s → step_into s cur ≡ Some u → after ≡ set_found s up cur → next ≡ u → Underway p before next after (d + 1)
goes_down p before cur up u d s after next h l k e f q =
    let r : Underway p before u (set_found (step_at p d) up cur) (suc d) = down p before cur up u d h l (ap (λ z. step_into z cur) k ∙ e) in
    let w : set_found (step_at p d) up cur ≡ after = ap (λ z. set_found z up cur) k ∙ sym f in
    subst (λ (z : Tree × (Tree × ℕ)). Underway p before z.0 z.1.0 z.1.1) (λ j. (sym q j, (w j, sym (add-one d) j))) r

-- the end of the path
pub ends_there : (p : List Step) (before cur up : Tree) (d : ℕ) → Underway p before cur up d → (d < length p → ⊥) → Descended p before cur up d
ends_there p before cur up d h ended =
    let none : drop d p ≡ [] = drop_all d p (omega (arith, ended)) in
    record {
      within = h.within;
      spine = h.spine;
      whole = h.whole;
      reached = λ e. (h.found ∙ ap (λ q. tree_at q cur) none, λ n. ap (λ q. plug p d up (set_at q n cur)) (sym none) ∙ h.same n);
      missed = λ l. absurd (ended l);
    }

-- before a step that finds nothing
pub ends_before : (p : List Step) (before cur up : Tree) (d : ℕ) (s : Step) (after back : Tree) → Underway p before cur up d → d < length p → step_at p d ≡ s → step_into s cur ≡ None → after ≡ cur → back ≡ up → Descended p before after back d
ends_before p before cur up d s after back h l k e f q =
    let r : Descended p before cur up d = record {
      within = h.within;
      spine = h.spine;
      whole = h.whole;
      reached = λ q. absurd (omega (arith, l, q));
      missed = λ q. h.found ∙ found_on p d cur l None (ap (λ z. step_into z cur) k ∙ e);
    } in
    subst (λ (z : Tree × Tree). Descended p before z.0 z.1 d) (λ j. (sym f j, sym q j)) r

-- one step back up
pub climbed : (p : List Step) (d : ℕ) (up cur next after : Tree) (k : Step) → step_at p d ≡ k → step_into k up ≡ Some next → after ≡ set_found k cur up → plug p (suc d) up cur ≡ plug p d next after
climbed p d up cur next after k s e f = (λ j. plug p d (or_null (step_into (s j) up)) (set_found (s j) cur up)) ∙ (λ j. plug p d (or_null (e j)) (sym f j))

pub spine_climbed : (p : List Step) (d : ℕ) (up next : Tree) (k : Step) → step_at p d ≡ k → step_into k up ≡ Some next → IsSpine p (suc d) up → IsSpine p d next
spine_climbed p d up next k s e h = subst (λ (o : Option Tree). IsSpine p d (or_null o)) (ap (λ z. step_into z up) s ∙ e) h.1

pub no_spine : (p : List Step) (d : ℕ) (up : Tree) (k : Step) → step_at p d ≡ k → step_into k up ≡ None → IsSpine p (suc d) up → ⊥
no_spine p d up k s e h = true≢false (sym h.0 ∙ ap is_some (ap (λ z. step_into z up) s ∙ e))
