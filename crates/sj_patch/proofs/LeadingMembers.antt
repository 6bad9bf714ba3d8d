-- Operations that lead from one object to another, member by member.
use Rattle.std.proofs.Common.{◌≡◌, ℕ, Bool, true, false, List, [], ◌∷◌, ◌++◌, map, Option, Some, None, option_map, option_and_then, if◌then◌else◌, bytes_eq, refl, ap, ◌∙◌, subst}
use Rattle.std.specs.Option.{option_or}
use Rattle.sj_text_core.specs.Tree.{Tree, obj, Members, member, members_from}
use Rattle.sj_text_core.specs.Keep.{IsSingle}
use Rattle.sj_text_core.specs.Edits.{put, cut}
use Rattle.sj_text_core.specs.Paths.{by_token, change_found}
use Rattle.sj_text_core.proofs.Equality.{same-refl}
use Rattle.sj_text_core.proofs.Comparing.{found}
use Rattle.sj_text_core.proofs.Single.{single-put}
use Rattle.sj_text_core.proofs.Texts.{bytes_eq-self}
use Rattle.sj_pointer.specs.Pointed.{pointed, set_pointed}
use Rattle.sj_patch.specs.Patch.{PlainOperation, add, remove, or_missing, next, patched_from}
use Rattle.sj_patch.specs.Locality.{under}
use Rattle.sj_patch.proofs.SingleEdits.{single-cut}
use Rattle.sj_patch.specs.inner.Noted.{Leads, Pairs, object, new_first, unmatched}
use Rattle.sj_patch.proofs.Leading.{leads-below}

-- an edit at the first pair of a text
module _ (k : List ℕ) where
  found_step : (b : Bool) (t u : Tree) (r s : Option Tree) → (if b then Some u else r) ≡ None → (r ≡ None → s ≡ Some t) → (if b then Some u else s) ≡ Some t
  found_step true t u r s e h = cc
  found_step false t u r s e h = h e

  pub found-at : (t : Tree) (done rest : Pairs) → found k done ≡ None → found k (done ++ (k, t) ∷ rest) ≡ Some t
  found-at t [] rest e = ap (λ b. if b then Some t else found k rest) (bytes_eq-self k)
  found-at t (p ∷ done) rest e = found_step (bytes_eq k p.0) t p.1 (found k done) (found k (done ++ (k, t) ∷ rest)) e (found-at t done rest)

  put_step : (b : Bool) (w x : Tree) (l : List ℕ) (r : Option Tree) (ms ns : Members) → (if b then Some x else r) ≡ None → (r ≡ None → put k w ms ≡ ns) → (if b then member l w ms else member l x (put k w ms)) ≡ member l x ns
  put_step true w x l r ms ns e h = cc
  put_step false w x l r ms ns e h = ap (member l x) (h e)

  put-at : (t w : Tree) (done rest : Pairs) → found k done ≡ None → put k w (members_from (done ++ (k, t) ∷ rest)) ≡ members_from (done ++ (k, w) ∷ rest)
  put-at t w [] rest e = ap (λ b. if b then member k w (members_from rest) else member k t (put k w (members_from rest))) (bytes_eq-self k)
  put-at t w (p ∷ done) rest e = put_step (bytes_eq k p.0) w p.1 p.0 (found k done) (members_from (done ++ (k, t) ∷ rest)) (members_from (done ++ (k, w) ∷ rest)) e (put-at t w done rest)

  put-last : (w : Tree) (done : Pairs) → found k done ≡ None → put k w (members_from done) ≡ members_from (done ++ (k, w) ∷ [])
  put-last w [] e = refl
  put-last w (p ∷ done) e = put_step (bytes_eq k p.0) w p.1 p.0 (found k done) (members_from done) (members_from (done ++ (k, w) ∷ [])) e (put-last w done)

  cut_step : (b : Bool) (x : Tree) (l : List ℕ) (r : Option Tree) (ms ns : Members) → (if b then Some x else r) ≡ None → (r ≡ None → cut k ms ≡ ns) → (if b then ms else member l x (cut k ms)) ≡ member l x ns
  cut_step true x l r ms ns e h = cc
  cut_step false x l r ms ns e h = ap (member l x) (h e)

  cut-at : (t : Tree) (done rest : Pairs) → found k done ≡ None → cut k (members_from (done ++ (k, t) ∷ rest)) ≡ members_from (done ++ rest)
  cut-at t [] rest e = ap (λ b. if b then members_from rest else member k t (cut k (members_from rest))) (bytes_eq-self k)
  cut-at t (p ∷ done) rest e = cut_step (bytes_eq k p.0) p.1 p.0 (found k done) (members_from (done ++ (k, t) ∷ rest)) (members_from (done ++ rest)) e (cut-at t done rest)

  -- a member changed
  pub leads-member : (ops : List PlainOperation) (u w : Tree) (done rest : Pairs) → found k done ≡ None → IsSingle (object (done ++ (k, u) ∷ rest)) → Leads ops u w
      → Leads (map (under (k ∷ [])) ops) (object (done ++ (k, u) ∷ rest)) (object (done ++ (k, w) ∷ rest))
  leads-member ops u w done rest e x h =
      let t = object (done ++ (k, u) ∷ rest) in
      let f = found-at u done rest e in
      subst (Leads (map (under (k ∷ [])) ops) t) (ap (λ o. change_found o (by_token k) (set_pointed [] w) t) f ∙ ap obj (put-at u w done rest e))
      (leads-below k [] ops t u w x (ap (option_and_then (pointed [])) f) h)

  -- a member gone
  pub leads-cut : (u : Tree) (done rest : Pairs) → found k done ≡ None → IsSingle (object (done ++ (k, u) ∷ rest)) → Leads (remove (k ∷ []) ∷ []) (object (done ++ (k, u) ∷ rest)) (object (done ++ rest))
  leads-cut u done rest e x =
      let ms = members_from (done ++ (k, u) ∷ rest) in
      subst (Leads (remove (k ∷ []) ∷ []) (obj ms)) (ap obj (cut-at u done rest e)) (record {
        values = (tt, tt);
        below = (λ q. cc, tt);
        single = x;
        to_single = single-cut k ms x;
        becomes = (obj (cut k ms), (ap (λ o. next 0 (or_missing (option_map (λ _. obj (cut k ms)) o)) (patched_from 1 [])) (found-at u done rest e), same-refl (obj (cut k ms))));
      })

  -- a new member
  pub leads-put : (v : Tree) (done : Pairs) → found k done ≡ None → IsSingle (object done) → IsSingle v → Leads (add (k ∷ []) v ∷ []) (object done) (object (done ++ (k, v) ∷ []))
  leads-put v done e x y =
      let ms = members_from done in
      subst (Leads (add (k ∷ []) v ∷ []) (obj ms)) (ap obj (put-last v done e)) (record {
        values = (y, tt);
        below = (λ q. cc, tt);
        single = x;
        to_single = single-put k v ms y x;
        becomes = (obj (put k v ms), (refl, same-refl (obj (put k v ms))));
      })

-- what is found in pairs and then more
pub found-join : (k : List ℕ) (ps qs : Pairs) → found k (ps ++ qs) ≡ option_or (found k ps) (found k qs)
found-join k [] qs = refl
found-join k (p ∷ ps) qs = ap (λ r. if bytes_eq k p.0 then Some p.1 else r) (found-join k ps qs) ∙ or_by (bytes_eq k p.0) where
  or_by : (b : Bool) → (if b then Some p.1 else option_or (found k ps) (found k qs)) ≡ option_or (if b then Some p.1 else found k ps) (found k qs)
  or_by true = refl
  or_by false = refl

-- the pairs of the first whose texts the second have, with the values there
abbrev pub match_first : Option Tree → List ℕ → Pairs → Pairs
match_first None k ps = ps
match_first (Some w) k ps = (k, w) ∷ ps

abbrev pub matched : Pairs → Pairs → Pairs
matched qs [] = []
matched qs (p ∷ ps) = match_first (found p.0 qs) p.0 (matched qs ps)

match_join : (o : Option Tree) (k : List ℕ) (ps rest : Pairs) → match_first o k (ps ++ rest) ≡ match_first o k ps ++ rest
match_join None k ps rest = refl
match_join (Some w) k ps rest = refl

pub matched-join : (qs xs ys : Pairs) → matched qs (xs ++ ys) ≡ matched qs xs ++ matched qs ys
matched-join qs [] ys = refl
matched-join qs (x ∷ xs) ys = ap (match_first (found x.0 qs) x.0) (matched-join qs xs ys) ∙ match_join (found x.0 qs) x.0 (matched qs xs) (matched qs ys)

new_join : (o : Option Tree) (q : List ℕ × Tree) (qs rest : Pairs) → new_first o q (qs ++ rest) ≡ new_first o q qs ++ rest
new_join None q qs rest = refl
new_join (Some t) q qs rest = refl

pub unmatched-join : (ps xs ys : Pairs) → unmatched ps (xs ++ ys) ≡ unmatched ps xs ++ unmatched ps ys
unmatched-join ps [] ys = refl
unmatched-join ps (x ∷ xs) ys = ap (new_first (found x.0 ps) x) (unmatched-join ps xs ys) ∙ new_join (found x.0 ps) x (unmatched ps xs) (unmatched ps ys)
