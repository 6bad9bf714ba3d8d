-- What is found in members that a patch was merged into.
use Rattle.std.proofs.Common.{◌≡◌, ℕ, Bool, true, false, List, Option, Some, None, if◌then◌else◌, bytes_eq, refl, sym, ap, ◌∙◌, true≢false}
use Rattle.std.proofs.lemmas.Slice.Eq.{bytes_eq-Decides}
use Rattle.sj_text_core.specs.Tree.{Tree, Members, no_members, member}
use Rattle.sj_text_core.specs.Find.{find_member}
use Rattle.sj_text_core.specs.Edits.{put, cut}
use Rattle.sj_text_core.specs.Keep.{HasSingle}
use Rattle.sj_text_core.proofs.Last.{find-put}
use Rattle.sj_text_core.proofs.Writes.{find-cut_other}
use Rattle.sj_text_core.proofs.Texts.{bytes_eq-sym}
use Rattle.sj_merge.specs.Merge.{is_null, merged, merged_members}
use Rattle.sj_merge.specs.inner.Merge.{merged_pair}

-- no later member has the text of one before it; of the values nothing is asked
abbrev pub AreApart : Members → Type 0
AreApart no_members = Unit {0}
AreApart (member k t ms) = (find_member k ms ≡ None) × AreApart ms

pub apart-single : (ms : Members) → HasSingle ms → AreApart ms
apart-single no_members h = tt
apart-single (member k t ms) h = (h.0, apart-single ms h.2)

differs : {P : Type 0} (b : Bool) → b ≡ false → b ≡ true → P
differs b e f = absurd (true≢false (sym f ∙ e))

-- cuts
cut_same_by : (b : Bool) (k l : List ℕ) (t : Tree) (ms : Members) → bytes_eq k l ≡ b → AreApart (member l t ms) → find_member k (cut k ms) ≡ None → find_member k (if b then ms else member l t (cut k ms)) ≡ None
cut_same_by true k l t ms e h rest = ap (λ x. find_member x ms) ((bytes_eq-Decides k l).0 e) ∙ h.0
cut_same_by false k l t ms e h rest = (λ j. if e j then Some t else find_member k (cut k ms)) ∙ rest

cut_same : (k : List ℕ) (ms : Members) → AreApart ms → find_member k (cut k ms) ≡ None
cut_same k no_members h = refl
cut_same k (member l t ms) h = cut_same_by (bytes_eq k l) k l t ms refl h (cut_same k ms h.1)

find-cut : (l k : List ℕ) (ms : Members) → AreApart ms → find_member l (cut k ms) ≡ (if bytes_eq l k then None else find_member l ms)
find-cut l k ms h = by_test (bytes_eq l k) refl where
  by_test : (b : Bool) → bytes_eq l k ≡ b → find_member l (cut k ms) ≡ (if b then None else find_member l ms)
  by_test true e = ap (λ x. find_member x (cut k ms)) ((bytes_eq-Decides l k).0 e) ∙ cut_same k ms h
  by_test false e = find-cut_other l k ms (λ q. differs (bytes_eq l k) e ((bytes_eq-Decides l k).1 q))

cut_apart_by : (b : Bool) (k l : List ℕ) (t : Tree) (ms : Members) → bytes_eq k l ≡ b → AreApart (member l t ms) → AreApart (cut k ms) → AreApart (if b then ms else member l t (cut k ms))
cut_apart_by true k l t ms e h rest = h.1
cut_apart_by false k l t ms e h rest = (find-cut_other l k ms (λ q. differs (bytes_eq k l) e ((bytes_eq-Decides k l).1 (sym q))) ∙ h.0, rest)

apart-cut : (k : List ℕ) (ms : Members) → AreApart ms → AreApart (cut k ms)
apart-cut k no_members h = tt
apart-cut k (member l t ms) h = cut_apart_by (bytes_eq k l) k l t ms refl h (apart-cut k ms h.1)

-- puts
put_apart_by : (b : Bool) (k l : List ℕ) (t u : Tree) (ms : Members) → bytes_eq k l ≡ b → AreApart (member l u ms) → AreApart (put k t ms) → AreApart (if b then member l t ms else member l u (put k t ms))
put_apart_by true k l t u ms e h rest = (h.0, h.1)
put_apart_by false k l t u ms e h rest = (find-put l k t ms ∙ ap (λ b. if b then Some t else find_member l ms) (bytes_eq-sym k l e) ∙ h.0, rest)

pub apart-put : (k : List ℕ) (t : Tree) (ms : Members) → AreApart ms → AreApart (put k t ms)
apart-put k t no_members h = (refl, tt)
apart-put k t (member l u ms) h = put_apart_by (bytes_eq k l) k l t u ms refl h (apart-put k t ms h.1)

-- one pair
pair_apart_by : (x : Bool) (k : List ℕ) (v : Tree) (ms : Members) → AreApart ms → AreApart (if x then cut k ms else put k v ms)
pair_apart_by true k v ms h = apart-cut k ms h
pair_apart_by false k v ms h = apart-put k v ms h

-- what the patch found at a text makes of what the target found there
abbrev pub found_merged : Option Tree → Option Tree → Option Tree
found_merged None old = old
found_merged (Some v) old = if is_null v then None else Some (merged old v)

pair_by : (x : Bool) (l k : List ℕ) (w : Tree) (ms : Members) → AreApart ms → find_member l (if x then cut k ms else put k w ms) ≡ (if bytes_eq l k then (if x then None else Some w) else find_member l ms)
pair_by true l k w ms h = find-cut l k ms h
pair_by false l k w ms h = find-put l k w ms

step_by : (b : Bool) (l k : List ℕ) (v : Tree) (ms ps : Members) → bytes_eq l k ≡ b → find_member k ps ≡ None
    → found_merged (find_member l ps) (if b then found_merged (Some v) (find_member k ms) else find_member l ms) ≡ found_merged (if b then Some v else find_member l ps) (find_member l ms)
step_by true l k v ms ps e none =
    let same = (bytes_eq-Decides l k).0 e in
    ap (λ o. found_merged o (found_merged (Some v) (find_member k ms))) (ap (λ x. find_member x ps) same ∙ none) ∙ ap (λ x. found_merged (Some v) (find_member x ms)) (sym same)
step_by false l k v ms ps e none = refl

pub find-merged : (l : List ℕ) (ms ps : Members) → AreApart ms → AreApart ps → find_member l (merged_members ms ps) ≡ found_merged (find_member l ps) (find_member l ms)
find-merged l ms no_members h i = refl
find-merged l ms (member k v ps) h i =
    find-merged l (merged_pair k v ms) ps (pair_apart_by (is_null v) k (merged (find_member k ms) v) ms h) i.1
    ∙ ap (found_merged (find_member l ps)) (pair_by (is_null v) l k (merged (find_member k ms) v) ms h)
    ∙ step_by (bytes_eq l k) l k v ms ps refl i.0
