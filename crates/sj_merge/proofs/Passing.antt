-- What is made of members at one text, and what of another's.
use Rattle.std.proofs.Common.{◌≡◌, ◌≢◌, ℕ, Bool, true, false, List, Some, None, if◌then◌else◌, bytes_eq, refl, sym, ap, ◌∙◌}
use Rattle.std.proofs.lemmas.Slice.Eq.{bytes_eq-Decides}
use Rattle.sj_text_core.specs.Tree.{Tree, Members, no_members, member}
use Rattle.sj_text_core.specs.Find.{find_member}
use Rattle.sj_text_core.specs.Edits.{put, cut}
use Rattle.sj_text_core.proofs.Writes.{find-cut_other}
use Rattle.sj_text_core.proofs.Texts.{ne_bytes_eq}
use Rattle.sj_merge.specs.inner.Log.{with_changed, without_last_member, Passes}

same : (k l : List ℕ) → bytes_eq k l ≡ true → k ≡ l
same k l = (bytes_eq-Decides k l).0

module _ (k l m : List ℕ) (n : k ≢ l) (u t : Tree) (ms : Members) where
  -- where the first member has the one text, it hasn't the other
  not_first : bytes_eq k m ≡ true → bytes_eq l m ≡ false
  not_first e = ne_bytes_eq l m (λ q. n (same k m e ∙ sym q))

  nor_first : bytes_eq l m ≡ true → bytes_eq k m ≡ false
  nor_first e = ne_bytes_eq k m (λ q. n (q ∙ sym (same l m e)))

  cut_puts_by : (b c : Bool) → bytes_eq k m ≡ b → bytes_eq l m ≡ c → cut l (put k u ms) ≡ put k u (cut l ms)
      → cut l (if b then member m u ms else member m t (put k u ms)) ≡ put k u (if c then ms else member m t (cut l ms))
  cut_puts_by true true d e h = let q : true ≡ false = sym e ∙ not_first d in cc
  cut_puts_by true false d e h = (λ j. if e j then ms else member m u (cut l ms)) ∙ sym (λ j. if d j then member m u (cut l ms) else member m t (put k u (cut l ms)))
  cut_puts_by false true d e h = λ j. if e j then put k u ms else member m t (cut l (put k u ms))
  cut_puts_by false false d e h = (λ j. if e j then put k u ms else member m t (cut l (put k u ms))) ∙ ap (member m t) h ∙ sym (λ j. if d j then member m u (cut l ms) else member m t (put k u (cut l ms)))

  changed_puts_by : (f : Tree → Tree) (b c : Bool) → bytes_eq k m ≡ b → bytes_eq l m ≡ c → with_changed l f (put k u ms) ≡ put k u (with_changed l f ms)
      → with_changed l f (if b then member m u ms else member m t (put k u ms)) ≡ put k u (if c then member m (f t) ms else member m t (with_changed l f ms))
  changed_puts_by f true true d e h = let q : true ≡ false = sym e ∙ not_first d in cc
  changed_puts_by f true false d e h = (λ j. if e j then member m (f u) ms else member m u (with_changed l f ms)) ∙ sym (λ j. if d j then member m u (with_changed l f ms) else member m t (put k u (with_changed l f ms)))
  changed_puts_by f false true d e h = (λ j. if e j then member m (f t) (put k u ms) else member m t (with_changed l f (put k u ms))) ∙ sym (λ j. if d j then member m u ms else member m (f t) (put k u ms))
  changed_puts_by f false false d e h = (λ j. if e j then member m (f t) (put k u ms) else member m t (with_changed l f (put k u ms))) ∙ ap (member m t) h ∙ sym (λ j. if d j then member m u (with_changed l f ms) else member m t (put k u (with_changed l f ms)))

  changed_finds_by : (f : Tree → Tree) (c : Bool) → bytes_eq l m ≡ c → find_member k (with_changed l f ms) ≡ find_member k ms
      → find_member k (if c then member m (f t) ms else member m t (with_changed l f ms)) ≡ (if bytes_eq k m then Some t else find_member k ms)
  changed_finds_by f true e h = (λ j. if nor_first e j then Some (f t) else find_member k ms) ∙ sym (λ j. if nor_first e j then Some t else find_member k ms)
  changed_finds_by f false e h = ap (λ o. if bytes_eq k m then Some t else o) h

cut_puts : (k l : List ℕ) → k ≢ l → (u : Tree) (ms : Members) → cut l (put k u ms) ≡ put k u (cut l ms)
cut_puts k l n u no_members = λ j. if ne_bytes_eq l k (λ q. n (sym q)) j then no_members else member k u no_members
cut_puts k l n u (member m t ms) = cut_puts_by k l m n u t ms (bytes_eq k m) (bytes_eq l m) refl refl (cut_puts k l n u ms)

pub cut-passes : (k l : List ℕ) → k ≢ l → Passes k (cut l)
cut-passes k l n = record { finds = λ ms. find-cut_other k l ms n; puts = cut_puts k l n }

changed_puts : (k l : List ℕ) (f : Tree → Tree) → k ≢ l → (u : Tree) (ms : Members) → with_changed l f (put k u ms) ≡ put k u (with_changed l f ms)
changed_puts k l f n u no_members = λ j. if ne_bytes_eq l k (λ q. n (sym q)) j then member k (f u) no_members else member k u no_members
changed_puts k l f n u (member m t ms) = changed_puts_by k l m n u t ms f (bytes_eq k m) (bytes_eq l m) refl refl (changed_puts k l f n u ms)

changed_finds : (k l : List ℕ) (f : Tree → Tree) → k ≢ l → (ms : Members) → find_member k (with_changed l f ms) ≡ find_member k ms
changed_finds k l f n no_members = refl
changed_finds k l f n (member m t ms) = changed_finds_by k l m n t t ms f (bytes_eq l m) refl (changed_finds k l f n ms)

pub changed-passes : (k l : List ℕ) (f : Tree → Tree) → k ≢ l → Passes k (with_changed l f)
changed-passes k l f n = record { finds = changed_finds k l f n; puts = changed_puts k l f n }

pub same-passes : (k : List ℕ) → Passes k (λ ms. ms)
same-passes k = record { finds = λ ms. refl; puts = λ u ms. refl }

pub passes_as : (k : List ℕ) (f g : Members → Members) → ((ms : Members) → f ms ≡ g ms) → Passes k g → Passes k f
passes_as k f g e p = record {
  finds = λ ms. ap (find_member k) (e ms) ∙ p.finds ms;
  puts = λ u ms. e (put k u ms) ∙ p.puts u ms ∙ ap (put k u) (sym (e ms));
}

pub both-pass : (k : List ℕ) (f g : Members → Members) → Passes k f → Passes k g → Passes k (λ ms. g (f ms))
both-pass k f g p q = record {
  finds = λ ms. q.finds (f ms) ∙ p.finds ms;
  puts = λ u ms. ap g (p.puts u ms) ∙ q.puts u (f ms);
}

found_by : (b : Bool) (k l : List ℕ) (f : Tree → Tree) (u t : Tree) (ms : Members) → (if b then Some t else find_member k ms) ≡ Some u → (find_member k ms ≡ Some u → with_changed k f ms ≡ put k (f u) ms)
    → (if b then member l (f t) ms else member l t (with_changed k f ms)) ≡ (if b then member l (f u) ms else member l t (put k (f u) ms))
found_by true k l f u t ms e h = let q : t ≡ u = cc in ap (λ x. member l (f x) ms) q
found_by false k l f u t ms e h = ap (member l t) (h e)

-- where the text is there, a change at it is a `put`
pub changed-found : (k : List ℕ) (f : Tree → Tree) (u : Tree) (ms : Members) → find_member k ms ≡ Some u → with_changed k f ms ≡ put k (f u) ms
changed-found k f u no_members e = cc
changed-found k f u (member l t ms) e = found_by (bytes_eq k l) k l f u t ms e (changed-found k f u ms)

absent_change_by : (b : Bool) (k l : List ℕ) (f : Tree → Tree) (t : Tree) (ms : Members) → (if b then Some t else find_member k ms) ≡ None → (find_member k ms ≡ None → with_changed k f ms ≡ ms)
    → (if b then member l (f t) ms else member l t (with_changed k f ms)) ≡ member l t ms
absent_change_by true k l f t ms e h = cc
absent_change_by false k l f t ms e h = ap (member l t) (h e)

-- without the text nothing is changed
pub changed-absent : (k : List ℕ) (f : Tree → Tree) (ms : Members) → find_member k ms ≡ None → with_changed k f ms ≡ ms
changed-absent k f no_members e = refl
changed-absent k f (member l t ms) e = absent_change_by (bytes_eq k l) k l f t ms e (changed-absent k f ms)

last_by : (b : Bool) (l m : List ℕ) (t u v : Tree) (ms ns : Members) → without_last_member (member l t (if b then member m u ms else member m v ns)) ≡ member l t (without_last_member (if b then member m u ms else member m v ns))
last_by true l m t u v ms ns = refl
last_by false l m t u v ms ns = refl

-- what is put is not the first of two
last_behind : (l : List ℕ) (t : Tree) (k : List ℕ) (u : Tree) (ms : Members) → without_last_member (member l t (put k u ms)) ≡ member l t (without_last_member (put k u ms))
last_behind l t k u no_members = refl
last_behind l t k u (member m v ms) = last_by (bytes_eq k m) l m t u v ms (put k u ms)

absent_by : (b : Bool) (k l : List ℕ) (u t : Tree) (ms : Members) → (if b then Some t else find_member k ms) ≡ None → (find_member k ms ≡ None → without_last_member (put k u ms) ≡ ms)
    → without_last_member (if b then member l u ms else member l t (put k u ms)) ≡ member l t ms
absent_by true k l u t ms e h = cc
absent_by false k l u t ms e h = last_behind l t k u ms ∙ ap (member l t) (h e)

-- a new member taken out again
pub last-put : (k : List ℕ) (u : Tree) (ms : Members) → find_member k ms ≡ None → without_last_member (put k u ms) ≡ ms
last-put k u no_members e = refl
last-put k u (member l t ms) e = absent_by (bytes_eq k l) k l u t ms e (last-put k u ms)
