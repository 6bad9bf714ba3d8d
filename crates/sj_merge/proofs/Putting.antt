-- The members of a merge patch, put one after another.
use Rattle.std.proofs.Common.{◌≡◌, ℕ, Bool, true, false, List, Option, Some, None, is_some, option_map, option_and_then, if◌then◌else◌, bytes_eq, refl, sym, ap, ◌∙◌, subst, true≢false}
use Rattle.sj_text_core.specs.Tree.{Tree, null, Members, no_members, member}
use Rattle.sj_text_core.specs.Find.{find_member}
use Rattle.sj_text_core.specs.Edits.{put}
use Rattle.sj_text_core.specs.Keep.{HasSingle}
use Rattle.sj_text_core.proofs.Texts.{bytes_eq-sym, absent_parts}
use Rattle.sj_text_core.proofs.Single.{joined, joined-nothing, joined-joined}
use Rattle.sj_document.specs.Document.{document_tree}
use Rattle.sj_document.specs.declared.value.Document.{Document}
use Rattle.sj_merge.specs.Merge.{is_null}
use Rattle.sj_merge.specs.MergeDiff.{removals, merge_patch, patch_members}
use Rattle.sj_merge.specs.inner.Change.{IsChange}
use Rattle.sj_merge.specs.declared.difference.Change.TheVariants.{Stays, Impossible, Becomes}
use Rattle.sj_merge.proofs.MergedFinds.{AreApart, apart-single}
use Rattle.sj_merge.proofs.Told.{is_same, told-absent, told-apart, removals-apart}

abbrev pub put_each : Members → Members → Members
put_each done no_members = done
put_each done (member k v ps) = put_each (put k v done) ps

-- where a text stands behind others, none of them has it
not_behind : (done : Members) (k l : List ℕ) (v : Tree) (ps : Members) → find_member l (joined done (member k v ps)) ≡ None → bytes_eq l k ≡ false
not_behind no_members k l v ps e = (absent_parts (bytes_eq l k) v (find_member l ps) e).0
not_behind (member m u done) k l v ps e = not_behind done k l v ps (absent_parts (bytes_eq l m) u (find_member l (joined done (member k v ps))) e).1

new_by : (b : Bool) (l : List ℕ) (u : Tree) (there stays last : Members) → b ≡ false → stays ≡ last → (if b then there else member l u stays) ≡ member l u last
new_by true l u there stays last e h = absurd (true≢false e)
new_by false l u there stays last e h = ap (member l u) h

put-new : (done : Members) (k : List ℕ) (v : Tree) (ps : Members) → AreApart (joined done (member k v ps)) → put k v done ≡ joined done (member k v no_members)
put-new no_members k v ps a = refl
put-new (member l u done) k v ps a =
    new_by (bytes_eq k l) l u (member l v done) (put k v done) (joined done (member k v no_members)) (bytes_eq-sym l k (not_behind done k l v ps a.0)) (put-new done k v ps a.1)

put_each-joined : (done ps : Members) → AreApart (joined done ps) → put_each done ps ≡ joined done ps
put_each-joined done no_members a = sym (joined-nothing done)
put_each-joined done (member k v ps) a =
    ap (λ d. put_each d ps) (put-new done k v ps a) ∙ put_each-joined (joined done (member k v no_members)) ps (subst AreApart (sym (joined-joined done k v ps)) a) ∙ joined-joined done k v ps

-- each goes last
pub put_each-apart : (ps : Members) → AreApart ps → put_each no_members ps ≡ ps
put_each-apart ps a = put_each-joined no_members ps a

removals_by : (y : Bool) (k : List ℕ) (r s ps : Members) → joined r ps ≡ s → joined (if y then r else member k null r) ps ≡ (if y then s else member k null s)
removals_by true k r s ps h = h
removals_by false k r s ps h = ap (member k null) h

removals-joined : (ms ns ps : Members) → joined (removals ms ns no_members) ps ≡ removals ms ns ps
removals-joined no_members ns ps = refl
removals-joined (member k t ms) ns ps = removals_by (is_some (find_member k ns)) k (removals ms ns no_members) (removals ms ns ps) ps (removals-joined ms ns ps)

begin_by : (ms ns : Members) (x : Option Members) → AreApart ms → AreApart ns → patch_members ms ns ≡ x → option_map (put_each (removals ms ns no_members)) x ≡ option_map (removals ms ns) x
begin_by ms ns None a b e = refl
begin_by ms ns (Some ps) a b e =
    let apart = removals-apart ms ns ps a (told-apart ms ns ps b e) (λ k n. told-absent k ms ns ps e n) in
    let q = removals-joined ms ns ps in
    ap Some (put_each-joined (removals ms ns no_members) ps (subst AreApart (sym q) apart) ∙ q)

-- those that change go behind those that go
pub told_begin : (ms ns : Members) → HasSingle ms → HasSingle ns → option_map (put_each (removals ms ns no_members)) (patch_members ms ns) ≡ option_map (removals ms ns) (patch_members ms ns)
told_begin ms ns a b = begin_by ms ns (patch_members ms ns) (apart-single ms a) (apart-single ns b) refl

-- one that stays, and one that goes
pub removed_stays : (k : List ℕ) (t : Tree) (done rest ns : Members) → is_some (find_member k ns) ≡ true → put_each done (removals (member k t rest) ns no_members) ≡ put_each done (removals rest ns no_members)
removed_stays k t done rest ns e = ap (λ y. put_each done (if y then removals rest ns no_members else member k null (removals rest ns no_members))) e

pub removed_goes : (k : List ℕ) (t : Tree) (done rest ns : Members) → is_some (find_member k ns) ≡ false → put_each done (removals (member k t rest) ns no_members) ≡ put_each (put k null done) (removals rest ns no_members)
removed_goes k t done rest ns e = ap (λ y. put_each done (if y then removals rest ns no_members else member k null (removals rest ns no_members))) e

pub removed_begin : (ms ns : Members) → HasSingle ms → put_each no_members (removals ms ns no_members) ≡ removals ms ns no_members
removed_begin ms ns a = put_each-apart (removals ms ns no_members) (removals-apart ms ns no_members (apart-single ms a) tt (λ k n. refl))

-- What is said of one member, and what the patch is then.
stays_by : (x : Bool) (r others : Option Members) → x ≡ true → (if x then r else others) ≡ r
stays_by true r others e = refl
stays_by false r others e = absurd (true≢false (sym e))

value_by : (x y : Bool) (k : List ℕ) (o : Option Tree) (r : Option Members) → x ≡ false
    → (if x then r else if y then None else option_and_then (λ p. option_map (member k p) r) o) ≡ option_and_then (λ p. option_map (member k p) r) (if y then None else o)
value_by true y k o r e = absurd (true≢false e)
value_by false true k o r e = refl
value_by false false k o r e = refl

put_by : (k : List ℕ) (v : Tree) (done : Members) (r : Option Members) → option_map (put_each done) (option_map (member k v) r) ≡ option_map (put_each (put k v done)) r
put_by k v done None = refl
put_by k v done (Some ps) = refl

module _ {T : Type 0} (t : T → List ℕ) (k : List ℕ) (w : Tree) (ms ns done : Members) where
  abbrev whole : Option Members
  whole = option_map (put_each done) (patch_members ms (member k w ns))

  pub told_stays : IsChange t (find_member k ms) w Stays → whole ≡ option_map (put_each done) (patch_members ms ns)
  told_stays h = ap (option_map (put_each done)) (stays_by (is_same (find_member k ms) w) (patch_members ms ns) _ h)

  pub told_impossible : IsChange t (find_member k ms) w Impossible → whole ≡ None
  told_impossible h =
      ap (option_map (put_each done)) (value_by (is_same (find_member k ms) w) (is_null w) k (merge_patch (find_member k ms) w) (patch_members ms ns) h.0
      ∙ ap (option_and_then (λ p. option_map (member k p) (patch_members ms ns))) h.1)

  pub told_becomes : (d : Document T) → IsChange t (find_member k ms) w (Becomes d) → whole ≡ option_map (put_each (put k (document_tree t d) done)) (patch_members ms ns)
  told_becomes d h =
      ap (option_map (put_each done)) (value_by (is_same (find_member k ms) w) (is_null w) k (merge_patch (find_member k ms) w) (patch_members ms ns) h.0
      ∙ ap (option_and_then (λ p. option_map (member k p) (patch_members ms ns))) h.1)
      ∙ put_by k (document_tree t d) done (patch_members ms ns)
