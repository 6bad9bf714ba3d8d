-- Where there is no merge patch from one tree to another; and trees that are the same, from one to the other of which it tells nothing.
use Rattle.std.proofs.Common.{◌≡◌, ℕ, Bool, true, false, List, Option, Some, None, is_some, option_map, option_and_then, if◌then◌else◌, bytes_eq, refl, sym, ap, ◌∙◌, subst, true≢false}
use Rattle.std.proofs.lemmas.Slice.Eq.{bytes_eq-Decides}
use Rattle.sj_text_core.specs.Tree.{Tree, null, boolean, int, text, list, obj, Members, no_members, member}
use Rattle.sj_text_core.specs.Find.{find_member}
use Rattle.sj_text_core.specs.Keep.{IsSingle, HasSingle}
use Rattle.sj_text_core.specs.Same.{Same}
use Rattle.sj_text_core.specs.inner.Agree.{SameFound}
use Rattle.sj_text_core.proofs.Equality.{found_from_at}
use Rattle.sj_text_core.proofs.Single.{SingleFound, single-member}
use Rattle.sj_merge.specs.Merge.{is_null, target_members, merged, merged_members}
use Rattle.sj_merge.specs.MergeDiff.{removals, merge_patch, patch_members}
use Rattle.sj_merge.proofs.MergedFinds.{apart-single, found_merged, find-merged}
use Rattle.sj_merge.proofs.Told.{is_same}
use Rattle.sj_merge.proofs.Leads.{single-target, is_same_of}

-- each wanted member is what P says of it
abbrev pub Each : (List ℕ → Tree → Type 0) → Members → Type 0
Each P no_members = Unit {0}
Each P (member k w ns) = P k w × Each P ns

behind_first : (P : List ℕ → Tree → Type 0) (k l : List ℕ) (u w : Tree) (ns : Members) → find_member k ns ≡ None → ((l : List ℕ) (w : Tree) → find_member l (member k u ns) ≡ Some w → P l w) → find_member l ns ≡ Some w → P l w
behind_first P k l u w ns n h e = h l w (by_test (bytes_eq l k) refl) where
  by_test : (b : Bool) → bytes_eq l k ≡ b → (if b then Some u else find_member l ns) ≡ Some w
  by_test true f = let q : find_member l ns ≡ None = ap (λ x. find_member x ns) ((bytes_eq-Decides l k).0 f) ∙ n in let bad : Some w ≡ None = sym e ∙ q in cc
  by_test false f = e

pub each_found : (P : List ℕ → Tree → Type 0) (ns : Members) → HasSingle ns → ((k : List ℕ) (w : Tree) → find_member k ns ≡ Some w → P k w) → Each P ns
each_found P no_members a h = tt
each_found P (member k w ns) a h =
    (h k w (ap (λ b. if b then Some w else find_member k ns) ((bytes_eq-Decides k k).1 refl)), each_found P ns a.2 (λ l v e. behind_first P k l w v ns a.0 h e))

-- a value that is no null, merged into anything, is none
no_null : (old : Option Tree) (v : Tree) → is_null v ≡ false → Same (merged old v) null → ⊥
no_null old null e h = true≢false e
no_null old (boolean b) e h = cc
no_null old (int n c) e h = h
no_null old (text s) e h = cc
no_null old (list is) e h = h
no_null old (obj ps) e h = h

null_of : (w : Tree) → is_null w ≡ true → w ≡ null
null_of null e = refl
null_of (boolean b) e = cc
null_of (int n c) e = cc
null_of (text s) e = cc
null_of (list is) e = cc
null_of (obj ps) e = cc

-- at one text: the patch's value leads from the target's to the wanted
abbrev Leads : Members → Members → List ℕ → Tree → Type 0
Leads ms ps k w = SameFound (found_merged (find_member k ps) (find_member k ms)) (Some w)

not_same : (old : Option Tree) (w : Tree) → is_same old w ≡ false → SameFound old (Some w) → ⊥
not_same old w e h = true≢false (sym (is_same_of old w h) ∙ e)

-- a value that is not there as the same is told, and by no null
told_value : (old v : Option Tree) (w : Tree) (P : Type 0) → is_same old w ≡ false → ((p : Tree) → v ≡ Some p → is_null p ≡ false → Same (merged old p) w → P) → SameFound (found_merged v old) (Some w) → P
told_value old None w P e f h = absurd (not_same old w e h)
told_value old (Some p) w P e f h = by_null (is_null p) refl h where
  by_null : (y : Bool) → is_null p ≡ y → SameFound (if y then None else Some (merged old p)) (Some w) → P
  by_null true g h = cc
  by_null false g h = f p refl g h

none_by : (f : Members → Tree) (x : Option Members) → option_map f x ≡ None → x ≡ None
none_by f None e = refl
none_by f (Some ps) e = cc

missing_by : (ms : Members) (l : List ℕ) (w : Tree) (ns ps : Members) (x y : Bool) (o : Option Tree) (r : Option Members) → is_same (find_member l ms) w ≡ x → is_null w ≡ y → merge_patch (find_member l ms) w ≡ o → patch_members ms ns ≡ r
    → Leads ms ps l w → ((p : Tree) → find_member l ps ≡ Some p → merge_patch (find_member l ms) w ≡ None → Same (merged (find_member l ms) p) w → ⊥) → (patch_members ms ns ≡ None → ⊥)
    → (if x then r else if y then None else option_and_then (λ p. option_map (member l p) r) o) ≡ None → ⊥
missing_by ms l w ns ps true y o r d g e f h one rest n = rest (f ∙ n)
missing_by ms l w ns ps false true o r d g e f h one rest n =
    told_value (find_member l ms) (find_member l ps) w ⊥ d (λ p q z s. no_null (find_member l ms) p z (subst (Same (merged (find_member l ms) p)) (null_of w g) s)) h
missing_by ms l w ns ps false false None r d g e f h one rest n = told_value (find_member l ms) (find_member l ps) w ⊥ d (λ p q z s. one p q e s) h
missing_by ms l w ns ps false false (Some p) None d g e f h one rest n = rest f
missing_by ms l w ns ps false false (Some p) (Some qs) d g e f h one rest n = cc

single_in : (o : Option Tree) (p : Tree) → SingleFound o → o ≡ Some p → IsSingle p
single_in o p h e = subst SingleFound e h

members_by : (old : Option Tree) (ns : Members) (p : Tree) → IsSingle p → HasSingle (target_members old) → HasSingle ns → Same (merged old p) (obj ns)
    → ((ps : Members) → HasSingle ps → Each (Leads (target_members old) ps) ns → ⊥) → ⊥
members_by old ns null s a b h f = cc
members_by old ns (boolean x) s a b h f = cc
members_by old ns (int n c) s a b h f = h
members_by old ns (text x) s a b h f = cc
members_by old ns (list is) s a b h f = h
members_by old ns (obj ps) s a b h f =
    let ms = target_members old in
    f ps s (each_found (Leads ms ps) ns b (λ k w e.
    subst (λ o. SameFound o (Some w)) (find-merged k ms ps (apart-single ms a) (apart-single ps s))
    (subst (λ o. SameFound (find_member k (merged_members ms ps)) o) e (found_from_at k (merged_members ms ps) (find_member k ns) (h k)))))

mutual
  pub without : (old : Option Tree) (u : Tree) → SingleFound old → IsSingle u → merge_patch old u ≡ None → (p : Tree) → IsSingle p → Same (merged old p) u → ⊥
  without old null a b e p s h = cc
  without old (boolean x) a b e p s h = cc
  without old (int n c) a b e p s h = cc
  without old (text x) a b e p s h = cc
  without old (list is) a b e p s h = cc
  without old (obj ns) a b e p s h =
      members_by old ns p s (single-target old a) b h (λ ps t each. members_without (target_members old) ns ps (single-target old a) b t each (none_by _ (patch_members (target_members old) ns) e))

  members_without : (ms ns ps : Members) → HasSingle ms → HasSingle ns → HasSingle ps → Each (Leads ms ps) ns → patch_members ms ns ≡ None → ⊥
  members_without ms no_members ps a b c h e = cc
  members_without ms (member l w ns) ps a b c h e =
      missing_by ms l w ns ps (is_same (find_member l ms) w) (is_null w) (merge_patch (find_member l ms) w) (patch_members ms ns) refl refl refl refl h.0
      (λ p q n s. without (find_member l ms) w (single-member l ms a) b.1 n p (single_in (find_member l ps) p (single-member l ps c) q) s)
      (λ n. members_without ms ns ps a b.2 c h.1 n) e

-- Trees that are the same.
nothing_by : (x : Bool) (r others : Option Members) → x ≡ true → r ≡ Some no_members → (if x then r else others) ≡ Some no_members
nothing_by true r others e h = h
nothing_by false r others e h = absurd (true≢false (sym e))

tells_nothing : (ms ns : Members) → Each (λ k w. SameFound (find_member k ms) (Some w)) ns → patch_members ms ns ≡ Some no_members
tells_nothing ms no_members h = refl
tells_nothing ms (member k w ns) h = nothing_by (is_same (find_member k ms) w) (patch_members ms ns) _ (is_same_of (find_member k ms) w h.0) (tells_nothing ms ns h.1)

stays_by : (y : Bool) (k : List ℕ) (r : Members) → y ≡ true → r ≡ no_members → (if y then r else member k null r) ≡ no_members
stays_by true k r e h = h
stays_by false k r e h = absurd (true≢false (sym e))

has_by : (old wanted : Option Tree) (t : Tree) → old ≡ Some t → SameFound old wanted → is_some wanted ≡ true
has_by None wanted t e h = cc
has_by (Some u) None t e h = absurd h
has_by (Some u) (Some w) t e h = refl

removes_nothing : (ms ns : Members) → Each (λ k t. is_some (find_member k ns) ≡ true) ms → removals ms ns no_members ≡ no_members
removes_nothing no_members ns h = refl
removes_nothing (member k t ms) ns h = stays_by (is_some (find_member k ns)) k (removals ms ns no_members) h.0 (removes_nothing ms ns h.1)

pub nothing : (ms ns : Members) → HasSingle ms → HasSingle ns → Same (obj ms) (obj ns) → merge_patch (Some (obj ms)) (obj ns) ≡ Some (obj no_members)
nothing ms ns a b h =
    let found : (k : List ℕ) → SameFound (find_member k ms) (find_member k ns) = λ k. found_from_at k ms (find_member k ns) (h k) in
    ap (option_map (λ ps. obj (removals ms ns ps))) (tells_nothing ms ns (each_found _ ns b (λ k w e. subst (SameFound (find_member k ms)) e (found k))))
    ∙ ap (λ ps. Some (obj ps)) (removes_nothing ms ns (each_found _ ms a (λ k t e. has_by (find_member k ms) (find_member k ns) t e (found k))))
