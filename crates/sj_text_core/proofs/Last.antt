-- What is found in a tree in which each text has its last value.
use Rattle.std.proofs.Common.{◌≡◌, ℕ, Bool, true, false, List, Option, Some, None, option_map, if◌then◌else◌, bytes_eq, refl, sym, ap, ◌∙◌, true≢false}
use Rattle.std.specs.Option.{option_or}
use Rattle.std.proofs.lemmas.Slice.Eq.{bytes_eq-Decides}
use Rattle.sj_text_core.specs.Tree.{Tree, null, boolean, int, text, list, obj, Members, no_members, member}
use Rattle.sj_text_core.specs.Find.{find, find_member}
use Rattle.sj_text_core.specs.Edits.{put}
use Rattle.sj_text_core.specs.Repeats.{find_last, find_last_member, keep_last, keep_last_values, put_all}

put_there : (x y : Bool) (t u : Tree) (r : Option Tree) → y ≡ x → (if y then Some t else r) ≡ (if x then Some t else if y then Some u else r)
put_there true true t u r e = refl
put_there true false t u r e = absurd (true≢false (sym e))
put_there false true t u r e = absurd (true≢false e)
put_there false false t u r e = refl

put_behind : (x y : Bool) (t u : Tree) (r s : Option Tree) → (x ≡ true → y ≡ true → ⊥) → s ≡ (if x then Some t else r) → (if y then Some u else s) ≡ (if x then Some t else if y then Some u else r)
put_behind true true t u r s h e = absurd (h refl refl)
put_behind true false t u r s h e = e
put_behind false true t u r s h e = refl
put_behind false false t u r s h e = e

pub find-put : (k l : List ℕ) (t : Tree) (ms : Members) → find_member k (put l t ms) ≡ (if bytes_eq k l then Some t else find_member k ms)
find-put k l t no_members = refl
find-put k l t (member m u ms) = by_test (bytes_eq l m) refl (find-put k l t ms)
  where
    by_test : (z : Bool) → bytes_eq l m ≡ z → find_member k (put l t ms) ≡ (if bytes_eq k l then Some t else find_member k ms) → find_member k (if z then member m t ms else member m u (put l t ms)) ≡ (if bytes_eq k l then Some t else if bytes_eq k m then Some u else find_member k ms)
    by_test true e rest = put_there (bytes_eq k l) (bytes_eq k m) t u (find_member k ms) (ap (bytes_eq k) (sym ((bytes_eq-Decides l m).0 e)))
    by_test false e rest = put_behind (bytes_eq k l) (bytes_eq k m) t u (find_member k ms) (find_member k (put l t ms))
        (λ x y. true≢false (sym ((bytes_eq-Decides l m).1 (sym ((bytes_eq-Decides k l).0 x) ∙ (bytes_eq-Decides k m).0 y)) ∙ e)) rest

or_or : (o : Option Tree) (x : Bool) (t : Tree) (r : Option Tree) → option_or o (if x then Some t else r) ≡ option_or (option_or o (if x then Some t else None)) r
or_or None true t r = refl
or_or None false t r = refl
or_or (Some u) x t r = refl

find-put_all : (k : List ℕ) (done ms : Members) → find_member k (put_all done ms) ≡ option_or (find_last_member k ms) (find_member k done)
find-put_all k done no_members = refl
find-put_all k done (member l t ms) =
    find-put_all k (put l t done) ms ∙ ap (λ o. option_or (find_last_member k ms) o) (find-put k l t done) ∙ or_or (find_last_member k ms) (bytes_eq k l) t (find_member k done)

map_or : (o : Option Tree) (x : Bool) (t : Tree) → option_or (option_map keep_last o) (if x then Some (keep_last t) else None) ≡ option_map keep_last (option_or o (if x then Some t else None))
map_or None true t = refl
map_or None false t = refl
map_or (Some u) x t = refl

find_last-values : (k : List ℕ) (ms : Members) → find_last_member k (keep_last_values ms) ≡ option_map keep_last (find_last_member k ms)
find_last-values k no_members = refl
find_last-values k (member l t ms) = ap (λ o. option_or o (if bytes_eq k l then Some (keep_last t) else None)) (find_last-values k ms) ∙ map_or (find_last_member k ms) (bytes_eq k l) t

or_none : (o : Option Tree) → option_or o None ≡ o
or_none None = refl
or_none (Some u) = refl

-- a key is found in what is kept as its last value, kept
pub find-keep_last : (k : List ℕ) (t : Tree) → find k (keep_last t) ≡ option_map keep_last (find_last k t)
find-keep_last k null = refl
find-keep_last k (boolean b) = refl
find-keep_last k (int n c) = refl
find-keep_last k (text s) = refl
find-keep_last k (list is) = refl
find-keep_last k (obj ms) = find-put_all k no_members (keep_last_values ms) ∙ or_none _ ∙ find_last-values k ms
