-- What is noted of two objects.
use Rattle.std.proofs.Common.{◌≡◌, ℕ, Bool, true, false, List, [], ◌∷◌, ◌++◌, map, append_assoc, append-nil, Option, Some, None, option_map, if◌then◌else◌, bytes_eq, refl, sym, ap, ◌∙◌, subst}
use Rattle.std.proofs.lemmas.List.{map-append}
use Rattle.std.proofs.lemmas.Slice.Eq.{bytes_eq-Decides}
use Rattle.sj_text_core.specs.Tree.{Tree, obj, paired}
use Rattle.sj_text_core.specs.Find.{find_member}
use Rattle.sj_text_core.specs.Same.{Same}
use Rattle.sj_text_core.specs.Keep.{IsSingle}
use Rattle.sj_text_core.specs.inner.Agree.{SameFound}
use Rattle.sj_text_core.proofs.Equality.{same-refl}
use Rattle.sj_text_core.proofs.Shapes.{members_from-paired}
use Rattle.sj_text_core.proofs.Comparing.{found, pointwise}
use Rattle.sj_object.specs.Edits.{lookup}
use Rattle.sj_object.specs.Entries.{Entry, entries_of}
use Rattle.sj_object.specs.HashMap.{Contents}
use Rattle.sj_object.specs.Members.{entry_members}
use Rattle.sj_object.proofs.Shown.{lookup-entry_members}
use Rattle.sj_document.specs.Document.{document_tree}
use Rattle.sj_document.specs.declared.value.Document.{Document}
use Rattle.sj_patch.specs.Patch.{PlainOperation, add, remove}
use Rattle.sj_patch.specs.Locality.{under}
use Rattle.sj_patch.specs.inner.Noted.{Leads, Notes, Pairs, object, new_first, unmatched, new_members}
use Rattle.sj_patch.proofs.LeadingMembers.{found-at, matched, unmatched-join}
use Rattle.sj_patch.proofs.LeadingObjects.{leads-matched, leads-gone, leads-new, leads-known, leads-object}
use Rattle.sj_patch.proofs.Noting.{single-object, notes-nothing, notes-more, notes-further}

-- the pairs of a map's entries, and what is found in them
module _ {K V : Type 0} (f : V → Tree) where
  abbrev pub pairs : List (Entry K V) → Pairs
  pairs es = paired (entry_members f es)

  pub object-pairs : (es : List (Entry K V)) → object (pairs es) ≡ obj (entry_members f es)
  object-pairs es = ap obj (members_from-paired (entry_members f es))

  found_in : (k x : List ℕ) (es : List (Entry K V)) → x ≡ k → found k (pairs es) ≡ option_map f (lookup x es)
  found_in k x es e = ap (find_member k) (members_from-paired (entry_members f es)) ∙ sym (lookup-entry_members f k es) ∙ ap (λ x. option_map f (lookup x es)) (sym e)

  pub pair-found : (k x : List ℕ) (es : List (Entry K V)) (w : V) → x ≡ k → Some w ≡ lookup x es → found k (pairs es) ≡ Some (f w)
  pair-found k x es w e l = found_in k x es e ∙ ap (option_map f) (sym l)

  pub pair-absent : (k x : List ℕ) (es : List (Entry K V)) → x ≡ k → None ≡ lookup x es → found k (pairs es) ≡ None
  pair-absent k x es e l = found_in k x es e ∙ ap (option_map f) (sym l)

  -- those that an iterator has left
  abbrev pub left : (K → List ℕ) → List (K × V) → Pairs
  left t s = pairs (entries_of t s)

-- no text names two pairs of a map of documents
pub single-pairs : {T S : Type 0} (t : T → List ℕ) (m : Contents T (Document T) S) → IsSingle (object (pairs (document_tree t) m.entries))
single-pairs t m = subst IsSingle (sym (object-pairs (document_tree t) m.entries)) (single-object t m)

-- where no text names two pairs, those in front of one have not its text
there : (k : List ℕ) (t : Tree) (done rest : Pairs) → found k (done ++ (k, t) ∷ rest) ≡ None → ⊥
there k t [] rest e = let f : Some t ≡ None = ap (λ b. if b then Some t else found k rest) (sym ((bytes_eq-Decides k k).1 refl)) ∙ e in cc
there k t (p ∷ done) rest e = by_test (bytes_eq k p.0) e (λ f. there k t done rest f) where
  by_test : (b : Bool) → (if b then Some p.1 else found k (done ++ (k, t) ∷ rest)) ≡ None → (found k (done ++ (k, t) ∷ rest) ≡ None → ⊥) → ⊥
  by_test true f ih = cc
  by_test false f ih = ih f

pub absent-before : (k : List ℕ) (t : Tree) (done rest : Pairs) → IsSingle (object (done ++ (k, t) ∷ rest)) → found k done ≡ None
absent-before k t [] rest h = refl
absent-before k t (p ∷ done) rest h = by_test (bytes_eq k p.0) refl (absent-before k t done rest h.2) where
  by_test : (b : Bool) → bytes_eq k p.0 ≡ b → found k done ≡ None → (if b then Some p.1 else found k done) ≡ None
  by_test true e ih = absurd (there k t done rest (ap (λ l. found l (done ++ (k, t) ∷ rest)) ((bytes_eq-Decides k p.0).0 e) ∙ h.0))
  by_test false e ih = ih

one-more : (done rest : Pairs) (p : List ℕ × Tree) → done ++ p ∷ rest ≡ (done ++ p ∷ []) ++ rest
one-more done rest p = sym (append_assoc done (p ∷ []) rest)

-- the first members are compared, and these are left
pub record Compares (place : List (List ℕ)) (before after : List PlainOperation) (ps qs rest : Pairs) : Type 0 where
  pub done : Pairs
  pub parted : ps ≡ done ++ rest
  pub notes : Notes place before after (object ps) (object qs) (object (matched qs done ++ rest))

module _ (place : List (List ℕ)) (before : List PlainOperation) (ps qs : Pairs) where
  pub compares-none : IsSingle (object ps) → Compares place before before ps qs ps
  compares-none x = record { done = []; parted = refl; notes = notes-nothing place before (object ps) (object qs) (object ps) x x (same-refl (object ps)) }

  module _ (middle after : List PlainOperation) (rest rest' : Pairs) (k : List ℕ) (u : Tree) (h : Compares place before middle ps qs rest) (e : rest ≡ (k, u) ∷ rest') where
    parted' : ps ≡ h.done ++ (k, u) ∷ rest'
    parted' = h.parted ∙ ap (λ r. h.done ++ r) e

    absent : found k h.done ≡ None
    absent = absent-before k u h.done rest' (subst (λ x. IsSingle (object x)) parted' h.notes.leads.single)

    present : found k ps ≡ Some u
    present = ap (found k) parted' ∙ found-at k u h.done rest' absent

    reached : Leads h.notes.ops (object ps) (object (matched qs h.done ++ (k, u) ∷ rest'))
    reached = subst (λ r. Leads h.notes.ops (object ps) (object (matched qs h.done ++ r))) e h.notes.leads

    -- the next is there in the others
    pub compares-found : (w : Tree) → found k qs ≡ Some w → Notes (place ++ k ∷ []) middle after u w w → Compares place before after ps qs rest'
    compares-found w f n = record {
      done = h.done ++ (k, u) ∷ [];
      parted = parted' ∙ one-more h.done rest' (k, u);
      notes = notes-further place before k middle after (object ps) (object qs) (object (matched qs h.done ++ rest)) (object (matched qs (h.done ++ (k, u) ∷ []) ++ rest')) u w h.notes n
          (leads-matched h.notes.ops (object ps) ps qs n.ops h.done rest' k u w absent f n.leads reached)
          (λ s. subst (λ o. SameFound o (Some w)) present (subst (λ o. SameFound (found k ps) o) f (pointwise ps qs s k)));
    }

    -- the next is not there
    pub compares-gone : found k qs ≡ None → after ≡ middle ++ map (under place) (remove (k ∷ []) ∷ []) → Compares place before after ps qs rest'
    compares-gone f n = record {
      done = h.done ++ (k, u) ∷ [];
      parted = parted' ∙ one-more h.done rest' (k, u);
      notes = notes-more place before middle after (remove (k ∷ []) ∷ []) (object ps) (object qs) (object (matched qs h.done ++ rest)) (object (matched qs (h.done ++ (k, u) ∷ []) ++ rest')) h.notes n
          (leads-gone h.notes.ops (object ps) ps qs h.done rest' k u absent f reached)
          (λ s. absurd (subst (λ o. SameFound o None) present (subst (λ o. SameFound (found k ps) o) f (pointwise ps qs s k))));
    }

-- the first of the others have come, where they are new, and these are left
pub record Adds (place : List (List ℕ)) (before after : List PlainOperation) (ps qs rest : Pairs) : Type 0 where
  pub done : Pairs
  pub parted : qs ≡ done ++ rest
  pub noted : after ≡ before ++ map (under place) (new_members (unmatched ps done))

module _ (place : List (List ℕ)) (before : List PlainOperation) (ps qs : Pairs) where
  pub adds-none : Adds place before before ps qs qs
  adds-none = record { done = []; parted = refl; noted = sym (append-nil before) }

  module _ (middle : List PlainOperation) (rest rest' : Pairs) (k : List ℕ) (u : Tree) (h : Adds place before middle ps qs rest) (e : rest ≡ (k, u) ∷ rest') where
    more : Pairs
    more = h.done ++ (k, u) ∷ []

    parts : qs ≡ (h.done ++ (k, u) ∷ []) ++ rest'
    parts = h.parted ∙ ap (λ r. h.done ++ r) e ∙ one-more h.done rest' (k, u)

    abbrev adding : Pairs → List PlainOperation
    adding x = map (under place) (new_members x)

    pub adds-new : (after : List PlainOperation) → found k ps ≡ None → after ≡ middle ++ map (under place) (add (k ∷ []) u ∷ []) → Adds place before after ps qs rest'
    adds-new after f n = record {
      done = h.done ++ (k, u) ∷ [];
      parted = parts;
      noted = n ∙ ap (λ x. x ++ map (under place) (add (k ∷ []) u ∷ [])) h.noted ∙ append_assoc before (adding (unmatched ps h.done)) (map (under place) (add (k ∷ []) u ∷ []))
          ∙ ap (λ x. before ++ x) (sym (map-append (under place) (new_members (unmatched ps h.done)) (add (k ∷ []) u ∷ [])))
          ∙ ap (λ x. before ++ map (under place) x) (sym (map-append (λ (p : List ℕ × Tree). add (p.0 ∷ []) p.1) (unmatched ps h.done) ((k, u) ∷ [])))
          ∙ ap (λ x. before ++ adding x) (sym (unmatched-join ps h.done ((k, u) ∷ []) ∙ ap (λ o. unmatched ps h.done ++ new_first o (k, u) []) f));
    }

    pub adds-known : (x : Tree) → found k ps ≡ Some x → Adds place before middle ps qs rest'
    adds-known x f = record {
      done = h.done ++ (k, u) ∷ [];
      parted = parts;
      noted = h.noted ∙ ap (λ x. before ++ adding x) (sym (unmatched-join ps h.done ((k, u) ∷ []) ∙ ap (λ o. unmatched ps h.done ++ new_first o (k, u) []) f ∙ append-nil (unmatched ps h.done)));
    }

-- the members that come lead to the others
module _ (start : Tree) (ps qs : Pairs) (single : IsSingle (object qs)) where
  leads_by : (o : Option Tree) (ops : List PlainOperation) (done rest : Pairs) (k : List ℕ) (u : Tree) → found k ps ≡ o → found k done ≡ None → IsSingle u
      → ((ops : List PlainOperation) → Leads ops start (object (matched qs ps ++ unmatched ps (done ++ (k, u) ∷ []))) → Leads (ops ++ new_members (unmatched ps rest)) start (object (matched qs ps ++ unmatched ps qs)))
      → Leads ops start (object (matched qs ps ++ unmatched ps done)) → Leads (ops ++ new_members (new_first o (k, u) (unmatched ps rest))) start (object (matched qs ps ++ unmatched ps qs))
  leads_by None ops done rest k u f a y go h = subst (λ x. Leads x start (object (matched qs ps ++ unmatched ps qs))) (append_assoc ops (add (k ∷ []) u ∷ []) (new_members (unmatched ps rest)))
      (go (ops ++ add (k ∷ []) u ∷ []) (leads-new ops start ps qs done k u a f y h))
  leads_by (Some t) ops done rest k u f a y go h = go ops (leads-known ops start ps qs done k t u f h)

  single-next : (done rest : Pairs) (p : List ℕ × Tree) → IsSingle (object (done ++ p ∷ rest)) → IsSingle p.1
  single-next [] rest p h = h.1
  single-next (q ∷ done) rest p h = single-next done rest p h.2

  pub leads-rest : (ops : List PlainOperation) (done rest : Pairs) → qs ≡ done ++ rest → Leads ops start (object (matched qs ps ++ unmatched ps done)) → Leads (ops ++ new_members (unmatched ps rest)) start (object (matched qs ps ++ unmatched ps qs))
  leads-rest ops done [] e h = subst (λ x. Leads x start (object (matched qs ps ++ unmatched ps qs))) (sym (append-nil ops)) (subst (λ x. Leads ops start (object (matched qs ps ++ unmatched ps x))) (sym (e ∙ append-nil done)) h)
  leads-rest ops done (p ∷ rest) e h =
      let all = subst (λ x. IsSingle (object x)) e single in
      leads_by (found p.0 ps) ops done rest p.0 p.1 refl (absent-before p.0 p.1 done rest all) (single-next done rest p all)
      (λ more g. leads-rest more (done ++ p ∷ []) rest (e ∙ one-more done rest p) g) h

  pub leads-members : (ops : List PlainOperation) → Leads ops start (object (matched qs ps)) → Leads (ops ++ new_members (unmatched ps qs)) start (object qs)
  leads-members ops h = leads-object (ops ++ new_members (unmatched ps qs)) start ps qs single
      (leads-rest ops [] qs refl (subst (λ x. Leads ops start (object x)) (sym (append-nil (matched qs ps))) h))

-- none comes where the objects are the same
none_by : (k : List ℕ) (u : Tree) (o : Option Tree) (qs : Pairs) → SameFound o (Some u) → qs ≡ [] → new_first o (k, u) qs ≡ []
none_by k u None qs s e = cc
none_by k u (Some t) qs s e = e

none-new : (ps qs : Pairs) → Same (object ps) (object qs) → IsSingle (object qs) → (done rest : Pairs) → qs ≡ done ++ rest → unmatched ps rest ≡ []
none-new ps qs s x done [] e = refl
none-new ps qs s x done (p ∷ rest) e =
    let all = subst (λ x. IsSingle (object x)) e x in
    let here : found p.0 qs ≡ Some p.1 = ap (found p.0) e ∙ found-at p.0 p.1 done rest (absent-before p.0 p.1 done rest all) in
    none_by p.0 p.1 (found p.0 ps) (unmatched ps rest) (subst (λ o. SameFound (found p.0 ps) o) here (pointwise ps qs s p.0)) (none-new ps qs s x (done ++ p ∷ []) rest (e ∙ one-more done rest p))

-- all members are compared, and the others have come
pub compares-all : (place : List (List ℕ)) (before middle after : List PlainOperation) (ps qs rest : Pairs) → Compares place before middle ps qs rest → rest ≡ [] → IsSingle (object qs)
    → after ≡ middle ++ map (under place) (new_members (unmatched ps qs)) → Notes place before after (object ps) (object qs) (object qs)
compares-all place before middle after ps qs rest h e x n =
    let ended : object (matched qs h.done ++ rest) ≡ object (matched qs ps) =
    ap (λ r. object (matched qs h.done ++ r)) e ∙ ap object (append-nil (matched qs h.done)) ∙ ap (λ d. object (matched qs d)) (sym (h.parted ∙ ap (λ r. h.done ++ r) e ∙ append-nil h.done)) in
    notes-more place before middle after (new_members (unmatched ps qs)) (object ps) (object qs) (object (matched qs h.done ++ rest)) (object qs) h.notes n
    (leads-members (object ps) ps qs x h.notes.ops (subst (λ w. Leads h.notes.ops (object ps) w) ended h.notes.leads))
    (λ s. ap new_members (none-new ps qs s x [] qs refl))
