-- The nodes of a document, level by level.
use Rattle.std.proofs.Common.{◌≡◌, ℕ, Bool, true, false, not, true≢false, ◌+◌, ◌*◌, ◌<◌, ◌≤◌, List, [], ◌∷◌, ◌++◌, map, length, get_or, set, Option, Some, None, option_to_list, Box, Vec, Global, refl, sym, ap, ◌∙◌, subst, rules, arith}
use Rattle.std.specs.List.{sum_by}
use Rattle.std.specs.Bool.{IsTrue}
use Rattle.std.specs.Option.{MatchOption, IfNone}
use Rattle.std.proofs.lemmas.List.Sums.{sum_by-cons, sum_by-append, sum_by_push, sum_by-set, get_or-le-sum_by}
use Rattle.std.proofs.Math.Nat.{mul-le-mul}
use Rattle.sj_object.specs.Entries.{Entry, entries_of}
use Rattle.sj_object.specs.Edits.{set_value_at, nth_value}
use Rattle.sj_object.proofs.Hashed.{sum_by-map}
use Rattle.sj_document.specs.inner.Nodes.{nodes, nodes_of, entry_nodes, work, level_nodes}
use Rattle.sj_document.specs.declared.value.Document.TheOpen.{Document-F}
use Rattle.sj_document.specs.declared.value.Document.{Document, Array, Object, the_lemmas, ind-Document, fold-roll-Document}
use Rattle.sj_document.proofs.Trees.{Map}

pub falls : (a p b q : ℕ) → b + q + 1 ≤ a + p → work b q < work a p
falls a p b q h =
    let m : (b + q + 1) * (b + q + 2) ≤ (a + p) * (a + p + 1) = mul-le-mul h (omega (arith, h)) in
    omega (arith, m)

pub turns : (a p b q : ℕ) → b + q ≡ a + p → q < p → work b q < work a p
turns a p b q e h =
    let P : ℕ → Type 0 = λ n. n * (n + 1) + q < (a + p) * (a + p + 1) + p in
    subst P (sym e) (omega (arith, h))

module _ {T : Type 0} where
  pub nodes-Array : (b : Box (Vec (Document T) Global) Global) → nodes (Array b) ≡ sum_by nodes b.value.items + 1
  nodes-Array b = let e : nodes (Array b) ≡ sum_by (λ n. n) (map nodes b.value.items) + 1 = search (rules, the_lemmas) in e ∙ ap (λ n. n + 1) (sum_by-map (λ n. n) nodes b.value.items)

  pub nodes-Object : (b : Box (Map T) Global) → nodes (Object b) ≡ sum_by (λ (e : Entry T (Document T)). nodes e.1) b.value.entries + 1
  nodes-Object b =
      let e : nodes (Object b) ≡ sum_by (λ (e : Entry T ℕ). e.1) (map (λ e. (e.0, nodes e.1)) b.value.entries) + 1 = search (rules, the_lemmas) in
      e ∙ ap (λ n. n + 1) (sum_by-map (λ (e : Entry T ℕ). e.1) (λ (e : Entry T (Document T)). (e.0, nodes e.1)) b.value.entries)

  level_some : (x : Document-F T ℕ) → 1 ≤ level_nodes x
  level_some (Document-F.Static s) = omega arith
  level_some (Document-F.String s) = omega arith
  level_some (Document-F.Array v) = omega arith
  level_some (Document-F.Object m) = omega arith

  pub some_nodes : (d : Document T) → 1 ≤ nodes d
  some_nodes = ind-Document T (λ v. 1 ≤ nodes v) (λ x y e. subst (λ n. 1 ≤ n) (sym (fold-roll-Document T ℕ level_nodes x)) (level_some _))

  abbrev pub of_items : List (Document T) → ℕ
  of_items ds = sum_by nodes ds

  pub items_some : (ds : List (Document T)) → 0 < length ds → 1 < of_items ds + 1
  items_some [] l = absurd (omega arith)
  items_some (d ∷ ds) l = omega (arith, sum_by-cons nodes d ds, some_nodes d)

  pub items_none : (ds : List (Document T)) → of_items ds + 1 ≡ 1 → length ds ≡ 0
  items_none [] e = refl
  items_none (d ∷ ds) e = absurd (omega (arith, sum_by-cons nodes d ds, some_nodes d, e))

  pub members_some : (es : List (Entry T (Document T))) → 0 < length es → 1 < entry_nodes es + 1
  members_some [] l = absurd (omega arith)
  members_some (x ∷ es) l = omega (arith, sum_by-cons (λ (e : Entry T (Document T)). nodes e.1) x es, some_nodes x.1)

  pub members_none : (es : List (Entry T (Document T))) → entry_nodes es + 1 ≡ 1 → es ≡ []
  members_none [] e = refl
  members_none (x ∷ es) e = absurd (omega (arith, sum_by-cons (λ (e : Entry T (Document T)). nodes e.1) x es, some_nodes x.1, e))

  pub items_popped : (xs ys : List (Document T)) (o : Option (Document T)) → xs ≡ ys ++ option_to_list o → of_items xs + 1 ≡ of_items ys + 1 + nodes_of o
  items_popped xs ys None e = omega (arith, ap of_items e ∙ sum_by-append nodes ys [])
  items_popped xs ys (Some x) e = omega (arith, ap of_items e ∙ sum_by_push nodes ys x)

  pub members_popped : (t : T → List ℕ) (xs ys : List (Entry T (Document T))) (x : T × Document T) → xs ≡ ys ++ entries_of t (x ∷ []) → entry_nodes xs ≡ entry_nodes ys + nodes x.1
  members_popped t xs ys x e = omega (arith, ap entry_nodes e ∙ sum_by_push (λ (e : Entry T (Document T)). nodes e.1) ys ((x.0, t x.0), x.1))

  pub members_rest : (xs ys : List (Entry T (Document T))) → xs ≡ ys ++ [] → entry_nodes xs ≡ entry_nodes ys + 0
  members_rest xs ys e = omega (arith, ap entry_nodes e ∙ sum_by-append (λ (e : Entry T (Document T)). nodes e.1) ys [])

  pub items_swapped : (xs : List (Document T)) (d x : Document T) → 0 < length xs → d ≡ get_or xs 0 d → of_items (set xs 0 x) + 1 + nodes d ≡ of_items xs + 1 + nodes x
  items_swapped xs d x l e = omega (arith, sum_by-set nodes xs 0 x d l, ap nodes e)

  pub items_below : (xs : List (Document T)) (d : Document T) → 0 < length xs → d ≡ get_or xs 0 d → nodes d < of_items xs + 1
  items_below xs d l e = omega (arith, get_or-le-sum_by nodes xs 0 d l, ap nodes e)

  pub members_swapped : (es : List (Entry T (Document T))) (d x : Document T) → nth_value 0 es ≡ Some d → entry_nodes (set_value_at 0 x es) + 1 + nodes d ≡ entry_nodes es + 1 + nodes x
  members_swapped [] d x e = cc
  members_swapped (y ∷ es) d x e =
      let f : Entry T (Document T) → ℕ = λ (e : Entry T (Document T)). nodes e.1 in
      let s : nodes y.1 ≡ nodes d = ap nodes_of e in
      omega (arith, sum_by-cons f y es, sum_by-cons f (y.0, x) es, s)

  pub members_below : (es : List (Entry T (Document T))) (d : Document T) → nth_value 0 es ≡ Some d → nodes d < entry_nodes es + 1
  members_below [] d e = cc
  members_below (y ∷ es) d e =
      let f : Entry T (Document T) → ℕ = λ (e : Entry T (Document T)). nodes e.1 in
      let s : nodes y.1 ≡ nodes d = ap nodes_of e in
      omega (arith, sum_by-cons f y es, s)

  pub items_pos : (ds : List (Document T)) → 1 < of_items ds + 1 → 0 < length ds
  items_pos [] e = absurd (omega arith)
  items_pos (d ∷ ds) e = omega arith

  pub items_zero : (ds : List (Document T)) → length ds ≡ 0 → of_items ds + 1 ≡ 1
  items_zero [] e = refl
  items_zero (d ∷ ds) e = absurd (omega arith)

  pub none_popped : (o : Option (Document T)) (m n x : ℕ) → MatchOption o ((m ≡ 0) × (n ≡ 0)) (λ _. n + 1 ≡ m) → (n ≡ 0 → x ≡ 1) → IfNone o (x ≡ 1)
  none_popped None m n x h f = f h.1
  none_popped (Some d) m n x h f = tt

  pub still_none : (o : Option (Document T)) (m n : ℕ) → (m ≡ 0 → n ≡ 1) → IfNone o (m ≡ 0) → IfNone o (n ≡ 1)
  still_none None m n f h = f h
  still_none (Some d) m n f h = tt

  pub members_decide : (r : Bool) (es : List (Entry T (Document T))) (n : ℕ) → (IsTrue r → es ≡ []) × (es ≡ [] → IsTrue r) → n ≡ entry_nodes es + 1 → (IsTrue (not r) → 1 < n) × (1 < n → IsTrue (not r))
  members_decide true es n h e = (λ f. absurd (true≢false (sym f)), λ l. absurd (omega (arith, l, e ∙ ap (λ (fs : List (Entry T (Document T))). entry_nodes fs + 1) (h.0 refl))))
  members_decide false [] n h e = absurd (true≢false (sym (h.1 refl)))
  members_decide false (x ∷ es) n h e = (λ f. omega (arith, e, members_some (x ∷ es) (omega arith)), λ l. refl)
