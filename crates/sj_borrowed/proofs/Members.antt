-- A member of an object that is looked up, or made, and lent or changed then.
use Rattle.std.proofs.Common.{◌≡◌, ◌<◌, ℕ, List, Option, Some, None, IsSome, IfSome, Result, Ok, Err, IsOk, IfOk, OnOk, IfErr, OnErr, MutBor, length, refl, sym, ap, ◌∙◌, subst}
use Rattle.sj_text_core.specs.Tree.{Tree, obj}
use Rattle.sj_text_core.specs.Find.{find}
use Rattle.sj_text_core.specs.Reads.{as_members, kind_of}
use Rattle.sj_text_core.proofs.Shapes.{obj_is}
use Rattle.sj_text_core.proofs.Writes.{put-twice}
use Rattle.sj_object.specs.Entries.{Entry}
use Rattle.sj_object.specs.Edits.{lookup, position, set_value, put_entry, nth_value, with_value, with_value_at}
use Rattle.sj_object.specs.Members.{entry_members}
use Rattle.sj_text_core.specs.Edits as members
use Rattle.sj_object.proofs.Places.{place_found}
use Rattle.sj_object.proofs.Shown.{entry_members-put, entry_members-set_value}
use Rattle.sj_document.specs.Document.{document_tree, with_member}
use Rattle.sj_document.specs.declared.value.Document.{Document}
use Rattle.sj_document.proofs.Trees.{Map}
use Rattle.sj_borrowed.specs.Inserts.{why_in, known_fault}
use Rattle.sj_borrowed.specs.declared.known_key.error.Error.{Error}
use Rattle.sj_borrowed.specs.declared.known_key.error.Error.TheVariants.{OutOfMemory}
use Rattle.sj_borrowed.proofs.Objects as objects
use Rattle.sj_borrowed.proofs.Puts.{lookup-put}

-- where the key stands is a place among the members
pub within : {T : Type 0} (k : List ℕ) (n : Map T) (r : Result ℕ Error) → IfOk r (λ i. position k n.entries ≡ Some i) → IfOk r (λ i. i < length n.entries)
within k n (Ok i) h = (place_found k n.entries i h).within
within k n (Err why) h = tt

pub some_any : {A : Type 0} (o : Option A) → IfSome o (λ _. Unit {0})
some_any None = tt
some_any (Some x) = tt

pub not_ok : (A : Type 0) {E X : Type 0} (why : E) → (let r : Result A E = Err why in IsOk r) → X
not_ok A why h = cc

-- m is looked up in for k, and is n then; r is the place, and q what is lent at it
module _ {T : Type 0} (t : T → List ℕ) (Copied : T → Type 0) (Gives : Document T → Type 0) (k : List ℕ) (m n : Map T) (r : Result ℕ Error) (q : Result (MutBor (Document T)) Error) where
  abbrev pub Placed : Type 0
  Placed = IfOk r (λ i. position k n.entries ≡ Some i)

  abbrev pub Found : Type 0
  Found = IsSome (lookup k m.entries) → (n ≡ m) × IsOk r

  abbrev pub IsMade : Type 0
  IsMade = (copy : T) × (v : Document T) × Copied copy × Gives v × (n.entries ≡ put_entry (copy, k) v m.entries)

  abbrev pub Made : Type 0
  Made = lookup k m.entries ≡ None → OnOk r IsMade

  abbrev pub Refused : Type 0
  Refused = OnErr r (n ≡ m)

  abbrev pub Value : Type 0
  Value = IfOk q (λ v. (i : ℕ) × (r ≡ Ok i) × (nth_value i n.entries ≡ Some v.now))

  abbrev pub Fault : Type 0
  Fault = IfErr q (λ why. r ≡ Err why)

  placed_at : (i : ℕ) → r ≡ Ok i → Placed → position k n.entries ≡ Some i
  placed_at i is p = subst (λ (r : Result ℕ Error). IfOk r (λ i. position k n.entries ≡ Some i)) is p

  made_at : (i : ℕ) → r ≡ Ok i → lookup k m.entries ≡ None → Made → IsMade
  made_at i is h g = subst (λ (r : Result ℕ Error). OnOk r IsMade) is (g h)

  kept_at : (v : Document T) → lookup k m.entries ≡ Some v → Found → n ≡ m
  kept_at v h f = (f (subst (λ o. IsSome o) (sym h) refl)).0

  -- what stands at the place is what the key finds
  value_is : (i : ℕ) (v : Document T) → r ≡ Ok i → Placed → nth_value i n.entries ≡ Some v → lookup k n.entries ≡ Some v
  value_is i v is p h = sym (place_found k n.entries i (placed_at i is p)).value ∙ h

  module _ (u : Tree) (e : Some (entry_members (document_tree t) m.entries) ≡ as_members u) where
    pub written : Placed → Found → Made → (w : Document T) (s : Map T) → (i : ℕ) × (r ≡ Ok i) × (s ≡ with_value_at n i w) → obj (entry_members (document_tree t) s.entries) ≡ with_member k (document_tree t w) u
    written p f g w s h =
        let i = h.0 in
        let there = (place_found k n.entries i (placed_at i h.1 p)).set w in
        ap (λ (c : Map T). obj (entry_members (document_tree t) c.entries)) h.2 ∙ ap (λ (es : List (Entry T (Document T))). obj (entry_members (document_tree t) es)) there
        ∙ by_lookup (lookup k m.entries) refl ∙ ap (with_member k (document_tree t w)) (sym (obj_is u (entry_members (document_tree t) m.entries) e)) where
          by_lookup : (o : Option (Document T)) → lookup k m.entries ≡ o → obj (entry_members (document_tree t) (set_value k w n.entries)) ≡ with_member k (document_tree t w) (obj (entry_members (document_tree t) m.entries))
          by_lookup (Some v) o = ap (λ (c : Map T). obj (entry_members (document_tree t) (set_value k w c.entries))) (kept_at v o f) ∙ ap obj (entry_members-set_value (document_tree t) k w v m.entries o)
          by_lookup None o =
              let made = made_at h.0 h.1 o g in
              let v = made.1 in
              ap obj (entry_members-set_value (document_tree t) k w v n.entries (ap (lookup k) made.4 ∙ lookup-put k made.0 v m.entries)
              ∙ ap (λ es. members.put k (document_tree t w) (entry_members (document_tree t) es)) made.4 ∙ ap (members.put k (document_tree t w)) (entry_members-put (document_tree t) (made.0, k) v m.entries) ∙ put-twice k (document_tree t w) (document_tree t v) (entry_members (document_tree t) m.entries))

    pub unwritten : Refused → Fault → (s : Map T) → OnErr q (s ≡ n) → OnErr q (obj (entry_members (document_tree t) s.entries) ≡ u)
    unwritten refused fault s = by_case q fault where
      by_case : (q : Result (MutBor (Document T)) Error) → IfErr q (λ why. r ≡ Err why) → OnErr q (s ≡ n) → OnErr q (obj (entry_members (document_tree t) s.entries) ≡ u)
      by_case (Ok v) f h = tt
      by_case (Err why) f h = ap (λ (c : Map T). obj (entry_members (document_tree t) c.entries)) (h ∙ subst (λ (r : Result ℕ Error). OnErr r (n ≡ m)) f refused) ∙ sym (obj_is u (entry_members (document_tree t) m.entries) e)

    pub found_tree : Placed → Found → Value → IfSome (find k u) (λ b. IfOk q (λ v. document_tree t v.now ≡ b))
    found_tree p f value = by_case q value where
      by_case : (q : Result (MutBor (Document T)) Error) → IfOk q (λ v. (i : ℕ) × (r ≡ Ok i) × (nth_value i n.entries ≡ Some v.now)) → IfSome (find k u) (λ b. IfOk q (λ v. document_tree t v.now ≡ b))
      by_case (Err why) h = some_any (find k u)
      by_case (Ok v) h = objects.found_value t m k u e v.now (by_lookup (lookup k m.entries) refl) where
        by_lookup : (o : Option (Document T)) → lookup k m.entries ≡ o → IfSome o (λ x. v.now ≡ x)
        by_lookup None o = tt
        by_lookup (Some x) o = let g : Some v.now ≡ Some x = sym (value_is h.0 v.now h.1 p h.2) ∙ ap (λ (c : Map T). lookup k c.entries) (kept_at x o f) ∙ o in cc

    pub made_value : Placed → Made → Value → find k u ≡ None → IfOk q (λ v. Gives v.now)
    made_value p g value none = by_case q value where
      by_case : (q : Result (MutBor (Document T)) Error) → IfOk q (λ v. (i : ℕ) × (r ≡ Ok i) × (nth_value i n.entries ≡ Some v.now)) → IfOk q (λ v. Gives v.now)
      by_case (Err why) h = tt
      by_case (Ok v) h =
          let made = made_at h.0 h.1 (objects.absent t m k u e none) g in
          let is : Some made.1 ≡ Some v.now = sym (ap (lookup k) made.4 ∙ lookup-put k made.0 made.1 m.entries) ∙ value_is h.0 v.now h.1 p h.2 in
          let same : made.1 ≡ v.now = cc in
          subst Gives same made.3

    pub lends : Found → Fault → IsSome (find k u) → IsOk q
    lends f fault h = by_case q fault where
      by_case : (q : Result (MutBor (Document T)) Error) → IfErr q (λ why. r ≡ Err why) → IsOk q
      by_case (Ok v) g = refl
      by_case (Err why) g = not_ok ℕ why (subst (λ (r : Result ℕ Error). IsOk r) g (f (objects.there t m k u e h)).1)

    pub kind : IfErr r (λ why. why ≡ OutOfMemory) → Fault → IfErr q (λ why. why ≡ known_fault u)
    kind h fault = by_case q fault where
      by_case : (q : Result (MutBor (Document T)) Error) → IfErr q (λ why. r ≡ Err why) → IfErr q (λ why. why ≡ known_fault u)
      by_case (Ok v) g = tt
      by_case (Err why) g = subst (λ (r : Result ℕ Error). IfErr r (λ why. why ≡ OutOfMemory)) g h ∙ ap (why_in (kind_of u)) e

    pub object : OnOk q (IsSome (as_members u))
    object = by_case q where
      by_case : (q : Result (MutBor (Document T)) Error) → OnOk q (IsSome (as_members u))
      by_case (Ok v) = objects.is_object t m k u e
      by_case (Err why) = tt

-- m is looked up in for k, and is n once the value of k was changed; d is the tree then
module _ {T : Type 0} (t : T → List ℕ) (Makes : Document T → Document T → Type 0) (k : List ℕ) (m n : Map T) (u d : Tree) (e : Some (entry_members (document_tree t) m.entries) ≡ as_members u) (left : d ≡ obj (entry_members (document_tree t) n.entries)) where
  of_members : (w : Document T) → entry_members (document_tree t) n.entries ≡ members.put k (document_tree t w) (entry_members (document_tree t) m.entries) → d ≡ with_member k (document_tree t w) u
  of_members w h = left ∙ ap obj h ∙ ap (with_member k (document_tree t w)) (sym (obj_is u (entry_members (document_tree t) m.entries) e))

  abbrev Changed : Tree → Type 0
  Changed before = (v : Document T) × (w : Document T) × (document_tree t v ≡ before) × Makes v w × (d ≡ with_member k (document_tree t w) u)

  pub changed : IfSome (lookup k m.entries) (λ b. (w : Document T) × Makes b w × (n ≡ with_value m k w)) → IfSome (find k u) Changed
  changed = by_lookup (lookup k m.entries) refl where
    by_lookup : (o : Option (Document T)) → lookup k m.entries ≡ o → IfSome o (λ b. (w : Document T) × Makes b w × (n ≡ with_value m k w)) → IfSome (find k u) Changed
    by_lookup None q h = subst (λ f. IfSome f Changed) (objects.found_in t m k u e None (sym q)) tt
    by_lookup (Some b) q h = subst (λ f. IfSome f Changed) (objects.found_in t m k u e (Some b) (sym q)) (
      b,
      h.0,
      refl,
      h.1,
      of_members h.0 (ap (λ (c : Map T). entry_members (document_tree t) c.entries) h.2 ∙ entry_members-set_value (document_tree t) k h.0 b m.entries q),
    )

  pub put_changed : (v : Document T) → (lookup k m.entries ≡ None → (w : Document T) × Makes v w × ((copy : T) × (n.entries ≡ put_entry (copy, k) w m.entries))) → find k u ≡ None → (w : Document T) × Makes v w × (d ≡ with_member k (document_tree t w) u)
  put_changed v g none =
      let h = g (objects.absent t m k u e none) in
      (h.0, h.1, of_members h.0 (ap (λ (es : List (Entry T (Document T))). entry_members (document_tree t) es) h.2.1 ∙ entry_members-put (document_tree t) (h.2.0, k) h.0 m.entries))
