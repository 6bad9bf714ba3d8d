-- What is noted of two arrays.
use Rattle.std.proofs.Common.{◌≡◌, ℕ, zero, suc, ◌+◌, ◌-◌, ◌<◌, ◌≤◌, ◌^◌, List, [], ◌∷◌, ◌++◌, map, length, take, drop, get_or, append_assoc, append-nil, min, Some, refl, sym, ap, ◌∙◌, subst, arith, length-append}
use Rattle.std.specs.Fmt.{decimal}
use Rattle.std.proofs.lemmas.List.{length-take, length-drop, length-map, map-append, take-append-drop, drop-append-le, take-map, drop-map, drop_more, take_more, map_more, drop_all, take-take}
use Rattle.sj_text_core.specs.Tree.{Tree, items_from}
use Rattle.sj_text_core.specs.Same.{Same}
use Rattle.sj_text_core.specs.Keep.{IsSingle}
use Rattle.sj_text_core.specs.Places.{position_of}
use Rattle.sj_text_core.proofs.Equality.{same-refl}
use Rattle.sj_text_core.proofs.Shapes.{same_items_len}
use Rattle.sj_tape.proofs.Parts.{items_len-from}
use Rattle.sj_patch.specs.Patch.{PlainOperation, add, remove}
use Rattle.sj_patch.specs.Locality.{under}
use Rattle.sj_patch.specs.inner.Noted.{Leads, Notes, array, between, removals_at, additions}
use Rattle.sj_patch.proofs.Leading.{leads-same, leads-join, leads-as}
use Rattle.sj_patch.proofs.LeadingItems.{next-item, leads-removed, leads-inserted, same-array}
use Rattle.sj_patch.proofs.Noting.{notes-more, notes-further}
use Rattle.sj_patch.proofs.Positions.{place-decimal}

-- an item of a list, as a tree
module _ {A : Type 0} (f : A → Tree) (vs : List A) (i : ℕ) (v : A) (inside : i < length vs) (is : v ≡ get_or vs i v) where
  pub drop-index : drop i vs ≡ v ∷ drop (i + 1) vs
  drop-index = drop_more vs i v inside ∙ ap (λ x. x ∷ drop (i + 1) vs) (sym is)

  pub drop-at : drop i (map f vs) ≡ f v ∷ drop (i + 1) (map f vs)
  drop-at = drop-map f i vs ∙ ap (map f) drop-index ∙ ap (λ r. f v ∷ r) (sym (drop-map f (i + 1) vs))

  pub map-take-at : map f (take (i + 1) vs) ≡ map f (take i vs) ++ f v ∷ []
  map-take-at = map_more f vs i v inside ∙ ap (λ x. map f (take i vs) ++ f x ∷ []) (sym is)

  pub take-at : take (i + 1) (map f vs) ≡ take i (map f vs) ++ f v ∷ []
  take-at = take-map f (i + 1) vs ∙ map-take-at ∙ ap (λ x. x ++ f v ∷ []) (sym (take-map f i vs))

-- the item at a position counted from the back
back-at : {A : Type 0} (vs : List A) (i : ℕ) (v : A) → i < length vs → v ≡ get_or vs (length vs - 1 - i) v → drop (length vs - (i + 1)) vs ≡ v ∷ drop (length vs - i) vs
back-at vs i v h e =
    let inside : length vs - (i + 1) < length vs = omega (arith, h) in
    let place : length vs - 1 - i ≡ length vs - (i + 1) = omega arith in
    let next : length vs - (i + 1) + 1 ≡ length vs - i = omega (arith, h) in
    drop-index (length vs - (i + 1)) inside (e ∙ ap (λ n. get_or vs n v) place) ∙ ap (λ n. v ∷ drop n vs) next where
      drop-index : (n : ℕ) → n < length vs → v ≡ get_or vs n v → drop n vs ≡ v ∷ drop (n + 1) vs
      drop-index n inside is = drop_more vs n v inside ∙ ap (λ x. x ∷ drop (n + 1) vs) (sym is)

-- one item more that is the same, at the front and at the back
module _ {A : Type 0} (f : A → Tree) (olds news : List A) (i : ℕ) (x y : A) (hx : i < length olds) (hy : i < length news) where
  pub front-more : x ≡ get_or olds i x → y ≡ get_or news i y → Same (f x) (f y) → Same (array (map f (take i olds))) (array (map f (take i news))) → Same (array (map f (take (i + 1) olds))) (array (map f (take (i + 1) news)))
  front-more ex ey s h = subst (λ us. Same (array (map f (take (i + 1) olds))) (array us)) (sym (map-take-at f news i y hy ey))
      (subst (λ ts. Same (array ts) (array (map f (take i news) ++ f y ∷ []))) (sym (map-take-at f olds i x hx ex)) (same-array (map f (take i olds)) (map f (take i news)) (f x ∷ []) (f y ∷ []) h (s, refl)))

  pub back-more : x ≡ get_or olds (length olds - 1 - i) x → y ≡ get_or news (length news - 1 - i) y → Same (f x) (f y) → Same (array (map f (drop (length olds - i) olds))) (array (map f (drop (length news - i) news)))
      → Same (array (map f (drop (length olds - (i + 1)) olds))) (array (map f (drop (length news - (i + 1)) news)))
  back-more ex ey s h = subst (λ us. Same (array (map f (drop (length olds - (i + 1)) olds))) (array (map f us))) (sym (back-at news i y hy ey))
      (subst (λ ts. Same (array (map f ts)) (array (f y ∷ map f (drop (length news - i) news)))) (sym (back-at olds i x hx ex)) (s, h))

-- arrays that are the same, from an item on
same-from : (i : ℕ) (xs ys : List Tree) → Same (array xs) (array ys) → Same (array (drop i xs)) (array (drop i ys))
same-from zero xs ys h = h
same-from (suc i) [] [] h = refl
same-from (suc i) [] (y ∷ ys) h = cc
same-from (suc i) (x ∷ xs) [] h = absurd h
same-from (suc i) (x ∷ xs) (y ∷ ys) h = same-from i xs ys h.1

pub same-at : (i : ℕ) (xs ys : List Tree) (x y : Tree) (vs ws : List Tree) → drop i xs ≡ x ∷ vs → drop i ys ≡ y ∷ ws → Same (array xs) (array ys) → Same x y
same-at i xs ys x y vs ws e f h = (subst (λ r. Same (array (x ∷ vs)) (array r)) f (subst (λ r. Same (array r) (array (drop i ys))) e (same-from i xs ys h))).0

pub same-length : (xs ys : List Tree) → Same (array xs) (array ys) → length xs ≡ length ys
same-length xs ys h = sym (items_len-from xs) ∙ same_items_len (items_from xs) (items_from ys) h ∙ items_len-from ys

-- the items up to a position are those of the other array, but for the first that are the same
module _ (first : ℕ) (xs ys : List Tree) where
  abbrev pub done_at : ℕ → List Tree
  done_at i = take first xs ++ drop first (take i ys)

  pub length-done : (i : ℕ) → first ≤ i → i ≤ length xs → i ≤ length ys → length (done_at i) ≡ i
  length-done i a b c = omega (arith, a, b, c, length-append (take first xs) (drop first (take i ys)), length-take first xs, length-drop first (take i ys), length-take i ys)

  pub done-more : (i : ℕ) (y : Tree) → first ≤ i → i < length ys → take (i + 1) ys ≡ take i ys ++ y ∷ [] → done_at (i + 1) ≡ done_at i ++ y ∷ []
  done-more i y a c e =
      let inside : first ≤ length (take i ys) = omega (arith, a, c, length-take i ys) in
      ap (λ r. take first xs ++ drop first r) e ∙ ap (λ r. take first xs ++ r) (drop-append-le first (take i ys) (y ∷ []) inside) ∙ sym (append_assoc (take first xs) (drop first (take i ys)) (y ∷ []))

  pub between-first : between first first xs ys ≡ xs
  between-first = ap (λ r. take first xs ++ r ++ drop first xs) (drop_all first (take first ys) (omega (arith, length-take first ys))) ∙ ap (λ r. r ++ drop first xs) (append-nil (take first xs)) ∙ take-append-drop first xs

-- one pair more is compared
module _ {A : Type 0} (f : A → Tree) (olds news : List A) (first i : ℕ) (x y : A) (inside : i < length olds) (also : i < length news) (ex : x ≡ get_or olds i x) (ey : y ≡ get_or news i y) (behind : first ≤ i) (fits : i < 2 ^ 64) where
  abbrev xs : List Tree
  xs = map f olds

  abbrev ys : List Tree
  ys = map f news

  pub notes-pair : (place : List (List ℕ)) (before middle after : List PlainOperation) → Notes place before middle (array xs) (array ys) (array (between first i xs ys)) → Notes (place ++ decimal i ∷ []) middle after (f x) (f y) (f y)
      → Notes place before after (array xs) (array ys) (array (between first (i + 1) xs ys))
  notes-pair place before middle after h n =
      let done = done_at first xs ys i in
      let in_xs : i ≤ length xs = omega (arith, inside, length-map olds f) in
      let in_ys : i < length ys = omega (arith, also, length-map news f) in
      let named = place-decimal i fits ∙ ap Some (sym (length-done first xs ys i behind in_xs (omega (arith, in_ys)))) in
      let from : array (between first i xs ys) ≡ array (done ++ f x ∷ drop (i + 1) xs) = ap (λ r. array (done ++ r)) (drop-at f olds i x inside ex) in
      let onto : array (done ++ f y ∷ drop (i + 1) xs) ≡ array (between first (i + 1) xs ys) =
      sym (ap (λ r. array (r ++ drop (i + 1) xs)) (done-more first xs ys i (f y) behind in_ys (take-at f news i y also ey)) ∙ ap array (append_assoc done (f y ∷ []) (drop (i + 1) xs))) in
      let k = decimal i in
      notes-further place before k middle after (array xs) (array ys) (array (between first i xs ys)) (array (between first (i + 1) xs ys)) (f x) (f y) h n
      (subst (λ w. Leads (h.ops ++ map (under (k ∷ [])) n.ops) (array xs) w) onto
      (next-item h.ops (array xs) k done (drop (i + 1) xs) named n.ops (f x) (f y) n.leads (subst (λ w. Leads h.ops (array xs) w) from h.leads)))
      (same-at i xs ys (f x) (f y) (drop (i + 1) xs) (drop (i + 1) ys) (drop-at f olds i x inside ex) (drop-at f news i y also ey))

-- items go, and items come
module _ (n : ℕ) (done : List Tree) (long : length done ≡ n) where
  at-end : n < 2 ^ 64 → position_of (decimal n) ≡ Some (length done)
  at-end h = place-decimal n h ∙ ap Some (sym long)

  pub leads-removals : (ts rest : List Tree) → n + length ts < 2 ^ 64 → IsSingle (array (done ++ (ts ++ rest))) → Leads (removals_at n (length ts)) (array (done ++ (ts ++ rest))) (array (done ++ rest))
  leads-removals [] rest h x = leads-same (array (done ++ rest)) (array (done ++ rest)) x x (same-refl (array (done ++ rest)))
  leads-removals (t ∷ ts) rest h x =
      let fits : n < 2 ^ 64 = omega (arith, h) in
      let less : n + length ts < 2 ^ 64 = omega (arith, h) in
      let k = decimal n in
      let first = leads-removed k done (ts ++ rest) (at-end fits) t x in
      leads-join (remove (k ∷ []) ∷ []) (removals_at n (length ts)) (array (done ++ (t ∷ ts ++ rest))) (array (done ++ (ts ++ rest))) (array (done ++ rest)) first (leads-removals ts rest less first.to_single)

pub leads-additions : (n : ℕ) (done ts rest : List Tree) → length done ≡ n → n + length ts < 2 ^ 64 → IsSingle (array (done ++ rest)) → IsSingle (array ts) → Leads (additions n ts) (array (done ++ rest)) (array (done ++ (ts ++ rest)))
leads-additions n done [] rest long h x y = leads-same (array (done ++ rest)) (array (done ++ rest)) x x (same-refl (array (done ++ rest)))
leads-additions n done (t ∷ ts) rest long h x y =
    let fits : n < 2 ^ 64 = omega (arith, h) in
    let less : suc n + length ts < 2 ^ 64 = omega (arith, h) in
    let further : length (done ++ t ∷ []) ≡ suc n = omega (arith, length-append done (t ∷ []), long) in
    let k = decimal n in
    let first = leads-inserted k done rest (at-end n done long fits) t x y.0 in
    let moved : array (done ++ t ∷ rest) ≡ array ((done ++ t ∷ []) ++ rest) = ap array (sym (append_assoc done (t ∷ []) rest)) in
    let ended : array ((done ++ t ∷ []) ++ (ts ++ rest)) ≡ array (done ++ (t ∷ ts ++ rest)) = ap array (append_assoc done (t ∷ []) (ts ++ rest)) in
    let more = leads-additions (suc n) (done ++ t ∷ []) ts rest further less (subst IsSingle moved first.to_single) y.1 in
    leads-join (add (k ∷ []) t ∷ []) (additions (suc n) ts) (array (done ++ rest)) (array (done ++ t ∷ rest)) (array (done ++ (t ∷ ts ++ rest))) first
    (subst (λ u. Leads (additions (suc n) ts) u (array (done ++ (t ∷ ts ++ rest)))) (sym moved) (subst (λ w. Leads (additions (suc n) ts) (array ((done ++ t ∷ []) ++ rest)) w) ended more))

additions-more : (n : ℕ) (ts : List Tree) (t : Tree) → additions n (ts ++ t ∷ []) ≡ additions n ts ++ add (decimal (n + length ts) ∷ []) t ∷ []
additions-more n [] t = let here : n ≡ n + 0 = omega arith in ap (λ m. add (decimal m ∷ []) t ∷ []) here
additions-more n (u ∷ ts) t =
    let there : suc n + length ts ≡ n + length (u ∷ ts) = omega arith in
    ap (λ r. add (decimal n ∷ []) u ∷ r) (additions-more (suc n) ts t ∙ ap (λ m. additions (suc n) ts ++ add (decimal m ∷ []) t ∷ []) there)

pub additions-at : {A : Type 0} (f : A → Tree) (vs : List A) (first i : ℕ) (v : A) → first ≤ i → i < length vs → v ≡ get_or vs i v
    → additions first (map f (drop first (take (i + 1) vs))) ≡ additions first (map f (drop first (take i vs))) ++ add (decimal i ∷ []) (f v) ∷ []
additions-at f vs first i v le inside is =
    let before : List Tree = map f (drop first (take i vs)) in
    let within : first ≤ length (take i vs) = omega (arith, le, inside, length-take i vs) in
    let here : first + length before ≡ i = omega (arith, le, inside, length-map (drop first (take i vs)) f, length-drop first (take i vs), length-take i vs) in
    let next : take (i + 1) vs ≡ take i vs ++ v ∷ [] = take_more vs i v inside ∙ ap (λ x. take i vs ++ x ∷ []) (sym is) in
    ap (λ r. additions first (map f r)) (ap (drop first) next ∙ drop-append-le first (take i vs) (v ∷ []) within) ∙ ap (additions first) (map-append f (drop first (take i vs)) (v ∷ []))
    ∙ additions-more first before (f v) ∙ ap (λ m. additions first before ++ add (decimal m ∷ []) (f v) ∷ []) here

-- parts of an array whose items are single
single-take : (n : ℕ) (ts : List Tree) → IsSingle (array ts) → IsSingle (array (take n ts))
single-take zero ts h = tt
single-take (suc n) [] h = tt
single-take (suc n) (t ∷ ts) h = (h.0, single-take n ts h.1)

single-drop : (n : ℕ) (ts : List Tree) → IsSingle (array ts) → IsSingle (array (drop n ts))
single-drop zero ts h = h
single-drop (suc n) [] h = tt
single-drop (suc n) (t ∷ ts) h = single-drop n ts h.1

-- a list in two parts at a position in front of another
split : (n m : ℕ) (ts : List Tree) → n ≤ m → m ≤ length ts → drop n ts ≡ drop n (take m ts) ++ drop m ts
split n m ts le in_ts = ap (drop n) (sym (take-append-drop m ts)) ∙ drop-append-le n (take m ts) (drop m ts) (omega (arith, le, in_ts, length-take m ts))

-- all pairs in between are compared: the items behind them go, and then others come
module _ (xs ys : List Tree) (first end last : ℕ) (in_xs : end + last ≤ length xs) (in_ys : end + last ≤ length ys) (behind : first ≤ end) (few : length xs < 2 ^ 64) (also : length ys < 2 ^ 64) where
  abbrev old_end : ℕ
  old_end = length xs - last

  abbrev new_end : ℕ
  new_end = length ys - last

  abbrev done : List Tree
  done = done_at first xs ys end

  abbrev tail : List Tree
  tail = drop old_end xs

  abbrev going : List Tree
  going = drop end (take old_end xs)

  abbrev coming : List Tree
  coming = drop end (take new_end ys)

  long : length done ≡ end
  long = length-done first xs ys end behind (omega (arith, in_xs)) (omega (arith, in_ys))

  from : array (between first end xs ys) ≡ array (done ++ (going ++ tail))
  from = ap (λ r. array (done ++ r)) (split end old_end xs (omega (arith, in_xs)) (omega arith))

  gone : length going ≡ old_end - end
  gone = omega (arith, length-drop end (take old_end xs), length-take old_end xs)

  came : length coming ≡ new_end - end
  came = omega (arith, length-drop end (take new_end ys), length-take new_end ys)

  removed : IsSingle (array (done ++ (going ++ tail))) → Leads (removals_at end (old_end - end)) (array (done ++ (going ++ tail))) (array (done ++ tail))
  removed x = subst (λ n. Leads (removals_at end n) (array (done ++ (going ++ tail))) (array (done ++ tail))) gone (leads-removals end done long going tail (omega (arith, gone, few, in_xs)) x)

  inserted : IsSingle (array (done ++ tail)) → IsSingle (array ys) → Leads (additions end coming) (array (done ++ tail)) (array (done ++ (coming ++ tail)))
  inserted x y = leads-additions end done coming tail long (omega (arith, came, also, in_ys)) x (single-drop end (take new_end ys) (single-take new_end ys y))

  -- the others in their parts
  parts : take first ys ++ drop first (take end ys) ++ (coming ++ drop new_end ys) ≡ ys
  parts = let one : take first (take end ys) ≡ take first ys = take-take first end ys behind in
      ap (λ r. take first ys ++ drop first (take end ys) ++ r) (sym (split end new_end ys (omega (arith, in_ys)) (omega arith)))
      ∙ ap (λ r. r ++ drop first (take end ys) ++ drop end ys) (sym one) ∙ ap (λ r. r ++ drop end ys) (take-append-drop first (take end ys)) ∙ take-append-drop end ys

  alike : Same (array (take first xs)) (array (take first ys)) → Same (array tail) (array (drop new_end ys)) → Same (array (done ++ (coming ++ tail))) (array ys)
  alike h i = subst (λ r. Same (array (done ++ (coming ++ tail))) (array r)) parts
      (same-array done (take first ys ++ drop first (take end ys)) (coming ++ tail) (coming ++ drop new_end ys)
      (same-array (take first xs) (take first ys) (drop first (take end ys)) (drop first (take end ys)) h (same-refl (array (drop first (take end ys)))))
      (same-array coming coming tail (drop new_end ys) (same-refl (array coming)) i))

  pub notes-ends : (place : List (List ℕ)) (before middle later after : List PlainOperation) → Notes place before middle (array xs) (array ys) (array (between first end xs ys)) → later ≡ middle ++ map (under place) (removals_at end (old_end - end))
      → after ≡ later ++ map (under place) (additions end coming) → Same (array (take first xs)) (array (take first ys)) → Same (array tail) (array (drop new_end ys)) → IsSingle (array ys) → (length xs ≡ length ys → ⊥)
      → Notes place before after (array xs) (array ys) (array ys)
  notes-ends place before middle later after h n m front back y differ =
      let start = subst (λ w. Leads h.ops (array xs) w) from h.leads in
      let away = removed start.to_single in
      let first = notes-more place before middle later (removals_at end (old_end - end)) (array xs) (array ys) (array (between first end xs ys)) (array (done ++ tail)) h n
      (leads-join h.ops (removals_at end (old_end - end)) (array xs) (array (done ++ (going ++ tail))) (array (done ++ tail)) start away)
      (λ s. absurd (differ (same-length xs ys s))) in
      notes-more place before later after (additions end coming) (array xs) (array ys) (array (done ++ tail)) (array ys) first m
      (leads-as (first.ops ++ additions end coming) (array xs) (array (done ++ (coming ++ tail))) (array ys)
      (leads-join first.ops (additions end coming) (array xs) (array (done ++ tail)) (array (done ++ (coming ++ tail))) first.leads (inserted first.leads.to_single y)) y (alike front back))
      (λ s. absurd (differ (same-length xs ys s)))

same-along : (t u v w : Tree) → t ≡ u → v ≡ w → Same t v → Same u w
same-along t u v w e g h = subst (λ x. Same x w) e (subst (λ x. Same t x) g h)

-- the same, of items as trees
module _ {A : Type 0} (f : A → Tree) (olds news : List A) (first last end : ℕ) (in_old : first + last ≤ length olds) (in_new : first + last ≤ length news) (is : end ≡ min (length olds - last) (length news - last)) (few : length olds < 2 ^ 64) (also : length news < 2 ^ 64) where
  part-len : (vs : List A) → length (map f vs) - last ≡ length vs - last
  part-len vs = ap (λ n. n - last) (length-map vs f)

  back-is : (vs : List A) → array (map f (drop (length vs - last) vs)) ≡ array (drop (length (map f vs) - last) (map f vs))
  back-is vs = ap array (sym (drop-map f (length vs - last) vs) ∙ ap (λ n. drop n (map f vs)) (sym (part-len vs)))

  front-is : (vs : List A) → array (map f (take first vs)) ≡ array (take first (map f vs))
  front-is vs = ap array (sym (take-map f first vs))

  pub notes-arrays : (place : List (List ℕ)) (before middle later after : List PlainOperation) → Notes place before middle (array (map f olds)) (array (map f news)) (array (between first end (map f olds) (map f news)))
      → later ≡ middle ++ map (under place) (removals_at end (length olds - last - end)) → after ≡ later ++ map (under place) (additions end (map f (drop end (take (length news - last) news))))
      → Same (array (map f (take first olds))) (array (map f (take first news))) → Same (array (map f (drop (length olds - last) olds))) (array (map f (drop (length news - last) news))) → IsSingle (array (map f news)) → (length olds ≡ length news → ⊥)
      → Notes place before after (array (map f olds)) (array (map f news)) (array (map f news))
  notes-arrays place before middle later after h n m front back y differ =
      let xs = map f olds in
      let ys = map f news in
      let in_xs : end + last ≤ length xs = omega (arith, is, in_old, length-map olds f) in
      let in_ys : end + last ≤ length ys = omega (arith, is, in_new, length-map news f) in
      let behind : first ≤ end = omega (arith, is, in_old, in_new) in
      let coming : map f (drop end (take (length news - last) news)) ≡ drop end (take (length ys - last) ys) = sym (drop-map f end (take (length news - last) news)) ∙ ap (drop end) (sym (take-map f (length news - last) news) ∙ ap (λ k. take k ys) (sym (part-len news))) in
      notes-ends xs ys first end last in_xs in_ys behind (omega (arith, few, length-map olds f)) (omega (arith, also, length-map news f)) place before middle later after h
      (n ∙ ap (λ k. middle ++ map (under place) (removals_at end (k - end))) (sym (part-len olds))) (m ∙ ap (λ ts. later ++ map (under place) (additions end ts)) coming)
      (same-along _ _ _ _ (front-is olds) (front-is news) front) (same-along _ _ _ _ (back-is olds) (back-is news) back) y (λ e. differ (sym (length-map olds f) ∙ e ∙ length-map news f))
