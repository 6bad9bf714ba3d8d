-- The merge patch from one tree to another leads there.
use Rattle.std.proofs.Common.{◌≡◌, ℕ, Bool, true, false, List, Option, Some, None, option_map, if◌then◌else◌, bytes_eq, refl, sym, ap, ◌∙◌, subst, true≢false}
use Rattle.std.proofs.lemmas.Slice.Eq.{bytes_eq-Decides}
use Rattle.sj_text_core.specs.Tree.{Tree, null, boolean, int, text, list, obj, Members, no_members, member}
use Rattle.sj_text_core.specs.Find.{find_member}
use Rattle.sj_text_core.specs.Keep.{IsSingle, HasSingle}
use Rattle.sj_text_core.specs.Same.{Same}
use Rattle.sj_text_core.specs.inner.Agree.{SameFound}
use Rattle.sj_text_core.proofs.Equal.{tree_eq-decides}
use Rattle.sj_text_core.proofs.Equality.{at_from_found, same-refl}
use Rattle.sj_text_core.proofs.Single.{SingleFound, single-member}
use Rattle.sj_merge.specs.Merge.{is_null, target_members, merged, merged_members}
use Rattle.sj_merge.specs.MergeDiff.{removals, merge_patch, patch_members}
use Rattle.sj_merge.proofs.MergedFinds.{apart-single, found_merged, find-merged}
use Rattle.sj_merge.proofs.Told.{is_same, Told, stays, changes, told, told-absent, told-apart, told-no_null, found_told, find-removals, removals-apart}

pub single-target : (old : Option Tree) → SingleFound old → HasSingle (target_members old)
single-target None h = tt
single-target (Some null) h = tt
single-target (Some (boolean b)) h = tt
single-target (Some (int n c)) h = tt
single-target (Some (text s)) h = tt
single-target (Some (list is)) h = tt
single-target (Some (obj ms)) h = h

pub same_of : (old : Option Tree) (w : Tree) → is_same old w ≡ true → SameFound old (Some w)
same_of None w e = absurd (true≢false (sym e))
same_of (Some u) w e = (tree_eq-decides u w).0 e

pub is_same_of : (old : Option Tree) (w : Tree) → SameFound old (Some w) → is_same old w ≡ true
is_same_of None w h = cc
is_same_of (Some u) w h = (tree_eq-decides u w).1 h

-- what a text finds in the target, in what is wanted and in the patch's members: the patch leads from the one to the other
abbrev LedAt : Option Tree → Option Tree → Option Tree → Type 0
LedAt old None told = told ≡ None
LedAt old (Some w) None = SameFound old (Some w)
LedAt old (Some w) (Some p) = (is_null p ≡ false) × Same (merged old p) w

stays_by : (b : Bool) (k l : List ℕ) (w : Tree) (ms ns ps : Members) → bytes_eq k l ≡ b → find_member l ns ≡ None → is_same (find_member l ms) w ≡ true
    → LedAt (find_member k ms) (find_member k ns) (find_member k ps) → LedAt (find_member k ms) (if b then Some w else find_member k ns) (find_member k ps)
stays_by true k l w ms ns ps e n d h =
    let same = (bytes_eq-Decides k l).0 e in
    let none : find_member k ns ≡ None = ap (λ x. find_member x ns) same ∙ n in
    subst (λ o. LedAt (find_member k ms) (Some w) o) (sym (subst (λ o. LedAt (find_member k ms) o (find_member k ps)) none h))
    (subst (λ x. SameFound (find_member x ms) (Some w)) (sym same) (same_of (find_member l ms) w d))
stays_by false k l w ms ns ps e n d h = h

changes_by : (b : Bool) (k l : List ℕ) (w p : Tree) (ms ns qs : Members) → bytes_eq k l ≡ b → is_null p ≡ false → Same (merged (find_member l ms) p) w
    → LedAt (find_member k ms) (find_member k ns) (find_member k qs) → LedAt (find_member k ms) (if b then Some w else find_member k ns) (if b then Some p else find_member k qs)
changes_by true k l w p ms ns qs e y s h = (y, subst (λ x. Same (merged (find_member x ms) p) w) (sym ((bytes_eq-Decides k l).0 e)) s)
changes_by false k l w p ms ns qs e y s h = h

led : (old wanted told : Option Tree) → LedAt old wanted told → SameFound (found_merged (found_told old wanted told) old) wanted
led None None told h = subst (λ o. SameFound (found_merged o None) None) (sym h) refl
led (Some t) None told h = refl
led old (Some w) None h = h
led old (Some w) (Some p) h = some_by (is_null p) (merged old p) h.0 h.1 where
  some_by : (y : Bool) (t : Tree) → y ≡ false → Same t w → SameFound (if y then None else Some t) (Some w)
  some_by true t e s = absurd (true≢false e)
  some_by false t e s = s

lead_by : (old : Option Tree) (ns : Members) (p : Tree) (x : Option Members) → HasSingle (target_members old) → HasSingle ns → patch_members (target_members old) ns ≡ x
    → ((ps : Members) → patch_members (target_members old) ns ≡ Some ps → (k : List ℕ) → LedAt (find_member k (target_members old)) (find_member k ns) (find_member k ps))
    → option_map (λ ps. obj (removals (target_members old) ns ps)) x ≡ Some p → Same (merged old p) (obj ns)
lead_by old ns p None a b f h e = cc
lead_by old ns p (Some ps) a b f h e =
    let ms = target_members old in
    let told = removals ms ns ps in
    let apart = removals-apart ms ns ps (apart-single ms a) (told-apart ms ns ps (apart-single ns b) f) (λ k n. told-absent k ms ns ps f n) in
    let q : obj told ≡ p = cc in
    subst (λ p. Same (merged old p) (obj ns)) q (λ k. at_from_found k (merged_members ms told) (find_member k ns)
    (subst (λ o. SameFound o (find_member k ns)) (sym (find-merged k ms told (apart-single ms a) apart ∙ ap (λ o. found_merged o (find_member k ms)) (find-removals k ms ns ps)))
    (led (find_member k ms) (find_member k ns) (find_member k ps) (h ps f k))))

led_told : (k : List ℕ) (ms : Members) (l : List ℕ) (w : Tree) (ns ps : Members) → find_member l ns ≡ None
    → ((qs : Members) → patch_members ms ns ≡ Some qs → LedAt (find_member k ms) (find_member k ns) (find_member k qs)) → ((p : Tree) → merge_patch (find_member l ms) w ≡ Some p → Same (merged (find_member l ms) p) w)
    → Told ms l w ns ps → LedAt (find_member k ms) (if bytes_eq k l then Some w else find_member k ns) (find_member k ps)
led_told k ms l w ns ps n rest one (stays d h) = stays_by (bytes_eq k l) k l w ms ns ps refl n d (rest ps h)
led_told k ms l w ns ps n rest one (changes p qs d y f h q) =
    subst (λ ps. LedAt (find_member k ms) (if bytes_eq k l then Some w else find_member k ns) (find_member k ps)) (sym q)
    (changes_by (bytes_eq k l) k l w p ms ns qs refl (told-no_null (find_member l ms) w p y f) (one p f) (rest qs h))

mutual
  pub leads : (old : Option Tree) (u p : Tree) → SingleFound old → IsSingle u → merge_patch old u ≡ Some p → Same (merged old p) u
  leads old null p a b e = let q : null ≡ p = cc in subst (λ p. Same (merged old p) null) q refl
  leads old (boolean x) p a b e = let q : boolean x ≡ p = cc in subst (λ p. Same (merged old p) (boolean x)) q refl
  leads old (int n c) p a b e = let q : int n c ≡ p = cc in subst (λ p. Same (merged old p) (int n c)) q refl
  leads old (text s) p a b e = let q : text s ≡ p = cc in subst (λ p. Same (merged old p) (text s)) q refl
  leads old (list is) p a b e = let q : list is ≡ p = cc in subst (λ p. Same (merged old p) (list is)) q (same-refl (list is))
  leads old (obj ns) p a b e = lead_by old ns p (patch_members (target_members old) ns) (single-target old a) b refl (λ ps f k. led_at (target_members old) ns ps (single-target old a) b f k) e

  led_at : (ms ns ps : Members) → HasSingle ms → HasSingle ns → patch_members ms ns ≡ Some ps → (k : List ℕ) → LedAt (find_member k ms) (find_member k ns) (find_member k ps)
  led_at ms no_members ps a b e k = let q : ps ≡ no_members = cc in ap (find_member k) q
  led_at ms (member l w ns) ps a b e k = led_told k ms l w ns ps b.0 (λ qs h. led_at ms ns qs a b.2 h k) (λ p f. leads (find_member l ms) w p (single-member l ms a) b.1 f) (told ms l w ns ps e)
