-- Operations that lead from one object to another.
use Rattle.std.proofs.Common.{◌≡◌, ℕ, Bool, true, false, List, [], ◌∷◌, ◌++◌, map, append_assoc, append-nil, Option, Some, None, if◌then◌else◌, bytes_eq, refl, sym, ap, ◌∙◌, subst}
use Rattle.std.specs.Option.{option_or}
use Rattle.std.proofs.lemmas.Slice.Eq.{bytes_eq-Decides}
use Rattle.sj_text_core.specs.Tree.{Tree}
use Rattle.sj_text_core.specs.Keep.{IsSingle}
use Rattle.sj_text_core.specs.inner.Agree.{SameFound}
use Rattle.sj_text_core.proofs.Comparing.{found, from_pointwise}
use Rattle.sj_patch.specs.Patch.{PlainOperation, add, remove}
use Rattle.sj_patch.specs.Locality.{under}
use Rattle.sj_patch.proofs.SameEdits.{same_found-refl}
use Rattle.sj_patch.specs.inner.Noted.{Leads, Pairs, object, new_first, unmatched}
use Rattle.sj_patch.proofs.Leading.{leads-join, leads-as}
use Rattle.sj_patch.proofs.LeadingMembers.{leads-member, leads-cut, leads-put, found-join, match_first, matched, matched-join, unmatched-join}

-- what is found in the matched: where the first have the text, what the second have
abbrev where_found : Option Tree → Option Tree → Option Tree
where_found None r = None
where_found (Some t) r = r

match_step : (b : Bool) (k l : List ℕ) (t : Tree) (o : Option Tree) (qs ps : Pairs) (r : Option Tree) → bytes_eq k l ≡ b → found l qs ≡ o → found k ps ≡ where_found r (found k qs)
    → found k (match_first o l ps) ≡ where_found (if b then Some t else r) (found k qs)
match_step true k l t None qs ps None e f g = g ∙ sym (ap (λ k. found k qs) ((bytes_eq-Decides k l).0 e) ∙ f)
match_step true k l t None qs ps (Some x) e f g = g
match_step true k l t (Some w) qs ps r e f g = ap (λ b. if b then Some w else found k ps) e ∙ sym (ap (λ k. found k qs) ((bytes_eq-Decides k l).0 e) ∙ f)
match_step false k l t None qs ps r e f g = g
match_step false k l t (Some w) qs ps r e f g = ap (λ b. if b then Some w else found k ps) e ∙ g

pub found-matched : (k : List ℕ) (qs ps : Pairs) → found k (matched qs ps) ≡ where_found (found k ps) (found k qs)
found-matched k qs [] = refl
found-matched k qs (p ∷ ps) = match_step (bytes_eq k p.0) k p.0 p.1 (found p.0 qs) qs (matched qs ps) (found k ps) refl refl (found-matched k qs ps)

-- and in the unmatched: where the first have the text not, what the second have
abbrev where_absent : Option Tree → Option Tree → Option Tree
where_absent None r = r
where_absent (Some t) r = None

new_step : (b : Bool) (k l : List ℕ) (u : Tree) (o : Option Tree) (ps qs : Pairs) (r : Option Tree) → bytes_eq k l ≡ b → found l ps ≡ o → found k qs ≡ where_absent (found k ps) r
    → found k (new_first o (l, u) qs) ≡ where_absent (found k ps) (if b then Some u else r)
new_step true k l u None ps qs r e f g = ap (λ b. if b then Some u else found k qs) e ∙ sym (ap (λ o. where_absent o (Some u)) (ap (λ k. found k ps) ((bytes_eq-Decides k l).0 e) ∙ f))
new_step true k l u (Some x) ps qs r e f g = let h : found k ps ≡ Some x = ap (λ k. found k ps) ((bytes_eq-Decides k l).0 e) ∙ f in g ∙ ap (λ o. where_absent o r) h ∙ sym (ap (λ o. where_absent o (Some u)) h)
new_step false k l u None ps qs r e f g = ap (λ b. if b then Some u else found k qs) e ∙ g
new_step false k l u (Some x) ps qs r e f g = g

pub found-unmatched : (k : List ℕ) (ps qs : Pairs) → found k (unmatched ps qs) ≡ where_absent (found k ps) (found k qs)
found-unmatched k ps [] = nothing (found k ps) where
  nothing : (o : Option Tree) → None ≡ where_absent o None
  nothing None = refl
  nothing (Some t) = refl
found-unmatched k ps (q ∷ qs) = new_step (bytes_eq k q.0) k q.0 q.1 (found q.0 ps) ps (unmatched ps qs) (found k qs) refl refl (found-unmatched k ps qs)

either : (o r : Option Tree) → option_or (where_found o r) (where_absent o r) ≡ r
either None r = refl
either (Some t) None = refl
either (Some t) (Some u) = refl

-- the matched and then the unmatched are the second
pub found-all : (k : List ℕ) (ps qs : Pairs) → found k (matched qs ps ++ unmatched ps qs) ≡ found k qs
found-all k ps qs = found-join k (matched qs ps) (unmatched ps qs) ∙ (λ i. option_or (found-matched k qs ps i) (found-unmatched k ps qs i)) ∙ either (found k ps) (found k qs)

module _ (ops : List PlainOperation) (start : Tree) (ps qs : Pairs) where
  -- the next of the first is there in the second
  pub leads-matched : (sub : List PlainOperation) (done rest : Pairs) (k : List ℕ) (t w : Tree) → found k done ≡ None → found k qs ≡ Some w → Leads sub t w → Leads ops start (object (matched qs done ++ (k, t) ∷ rest))
      → Leads (ops ++ map (under (k ∷ [])) sub) start (object (matched qs (done ++ (k, t) ∷ []) ++ rest))
  leads-matched sub done rest k t w e f s h =
      let none : found k (matched qs done) ≡ None = found-matched k qs done ∙ ap (λ o. where_found o (found k qs)) e in
      let left : matched qs done ++ (k, w) ∷ rest ≡ matched qs (done ++ (k, t) ∷ []) ++ rest = sym (append_assoc (matched qs done) ((k, w) ∷ []) rest) ∙ sym (ap (λ x. x ++ rest) (matched-join qs done ((k, t) ∷ []) ∙ ap (λ o. matched qs done ++ match_first o k []) f)) in
      leads-join ops (map (under (k ∷ [])) sub) start (object (matched qs done ++ (k, t) ∷ rest)) (object (matched qs (done ++ (k, t) ∷ []) ++ rest)) h
      (subst (λ x. Leads (map (under (k ∷ [])) sub) (object (matched qs done ++ (k, t) ∷ rest)) (object x)) left (leads-member k sub t w (matched qs done) rest none h.to_single s))

  -- the next of the first is not there in the second
  pub leads-gone : (done rest : Pairs) (k : List ℕ) (t : Tree) → found k done ≡ None → found k qs ≡ None → Leads ops start (object (matched qs done ++ (k, t) ∷ rest))
      → Leads (ops ++ remove (k ∷ []) ∷ []) start (object (matched qs (done ++ (k, t) ∷ []) ++ rest))
  leads-gone done rest k t e f h =
      let none : found k (matched qs done) ≡ None = found-matched k qs done ∙ ap (λ o. where_found o (found k qs)) e in
      let left : matched qs done ++ rest ≡ matched qs (done ++ (k, t) ∷ []) ++ rest = sym (append_assoc (matched qs done) [] rest) ∙ sym (ap (λ x. x ++ rest) (matched-join qs done ((k, t) ∷ []) ∙ ap (λ o. matched qs done ++ match_first o k []) f)) in
      leads-join ops (remove (k ∷ []) ∷ []) start (object (matched qs done ++ (k, t) ∷ rest)) (object (matched qs (done ++ (k, t) ∷ []) ++ rest)) h
      (subst (λ x. Leads (remove (k ∷ []) ∷ []) (object (matched qs done ++ (k, t) ∷ rest)) (object x)) left (leads-cut k t (matched qs done) rest none h.to_single))

  -- the next of the second is new
  pub leads-new : (done : Pairs) (k : List ℕ) (u : Tree) → found k done ≡ None → found k ps ≡ None → IsSingle u → Leads ops start (object (matched qs ps ++ unmatched ps done))
      → Leads (ops ++ add (k ∷ []) u ∷ []) start (object (matched qs ps ++ unmatched ps (done ++ (k, u) ∷ [])))
  leads-new done k u e f y h =
      let more = matched qs ps ++ unmatched ps done in
      let none : found k more ≡ None = found-join k (matched qs ps) (unmatched ps done)
      ∙ (λ i. option_or (found-matched k qs ps i) (found-unmatched k ps done i)) ∙ (λ i. option_or (where_found (f i) (found k qs)) (where_absent (f i) (found k done))) ∙ e in
      let left : more ++ (k, u) ∷ [] ≡ matched qs ps ++ unmatched ps (done ++ (k, u) ∷ []) = append_assoc (matched qs ps) (unmatched ps done) ((k, u) ∷ [])
      ∙ ap (λ x. matched qs ps ++ x) (sym (unmatched-join ps done ((k, u) ∷ []) ∙ ap (λ o. unmatched ps done ++ new_first o (k, u) []) f)) in
      leads-join ops (add (k ∷ []) u ∷ []) start (object more) (object (matched qs ps ++ unmatched ps (done ++ (k, u) ∷ []))) h
      (subst (λ x. Leads (add (k ∷ []) u ∷ []) (object more) (object x)) left (leads-put k u more none h.to_single y))

  -- the next of the second was there in the first
  pub leads-known : (done : Pairs) (k : List ℕ) (t u : Tree) → found k ps ≡ Some t → Leads ops start (object (matched qs ps ++ unmatched ps done)) → Leads ops start (object (matched qs ps ++ unmatched ps (done ++ (k, u) ∷ [])))
  leads-known done k t u f h =
      let left : unmatched ps done ≡ unmatched ps (done ++ (k, u) ∷ []) = sym (append-nil (unmatched ps done)) ∙ sym (unmatched-join ps done ((k, u) ∷ []) ∙ ap (λ o. unmatched ps done ++ new_first o (k, u) []) f) in
      subst (λ x. Leads ops start (object (matched qs ps ++ x))) left h

  -- at the end of both
  pub leads-object : IsSingle (object qs) → Leads ops start (object (matched qs ps ++ unmatched ps qs)) → Leads ops start (object qs)
  leads-object y h = leads-as ops start (object (matched qs ps ++ unmatched ps qs)) (object qs) h y
      (from_pointwise (matched qs ps ++ unmatched ps qs) qs (λ k. subst (λ o. SameFound o (found k qs)) (sym (found-all k ps qs)) (same_found-refl (found k qs))))
