-- Logs of merges, one entry after another.
use Rattle.std.proofs.Common.{◌≡◌, ℕ, suc, max, List, [], ◌∷◌, ◌++◌, map, Option, Some, None, IfNone, option_to_list, Vec, Global, rules, refl, sym, ap, ◌∙◌, arith}
use Rattle.sj_text_core.specs.Tree.{Tree, Members}
use Rattle.sj_text_core.specs.Edits.{cut}
use Rattle.sj_object.specs.Entries.{Entry, entries_of}
use Rattle.sj_object.specs.Members.{entry_members}
use Rattle.sj_document.specs.Document.{document_tree}
use Rattle.sj_document.specs.declared.value.Document.{Document}
use Rattle.sj_merge.specs.inner.Log.{with_changed, without_last_member, in_object, finished_one, undone_one, finished, log_undone}
use Rattle.sj_merge.specs.declared.in_place.Logged.{Logged, Goes, Added, Swapped, Within, fold-Logged, the_lemmas}
use Rattle.sj_merge.specs.declared.in_place.Logged.TheOpen.{Logged-F}

abbrev pub deepest : List ℕ → ℕ
deepest [] = 0
deepest (n ∷ ns) = max n (deepest ns)

abbrev pub level_depth : {T : Type 0} → Logged-F T ℕ → ℕ
level_depth (Logged-F.Goes k) = 0
level_depth Logged-F.Added = 0
level_depth (Logged-F.Swapped k v) = 0
level_depth (Logged-F.Within k log) = suc (deepest log.items)

-- how many logs lie in one another
abbrev pub depth_of : {T : Type 0} → Logged T → ℕ
depth_of = fold-Logged _ ℕ level_depth

abbrev pub log_depth : {T : Type 0} → List (Logged T) → ℕ
log_depth log = deepest (map depth_of log)

module _ {T : Type 0} where
  pub depth-Within : (k : T) (log : Vec (Logged T) Global) → depth_of (Within k log) ≡ suc (log_depth log.items)
  depth-Within k log = search (rules, the_lemmas)

  pub depth-last : (xs : List (Logged T)) (x : Logged T) → log_depth (xs ++ x ∷ []) ≡ max (log_depth xs) (depth_of x)
  depth-last [] x = omega arith
  depth-last (y ∷ ys) x = omega (arith, depth-last ys x)

module _ {T : Type 0} (t : T → List ℕ) where
  pub finished-Goes : (k : T) (ms : Members) → finished_one t (Goes k) ms ≡ cut (t k) ms
  finished-Goes k ms = search (rules, the_lemmas)

  pub finished-Added : (ms : Members) → finished_one t Added ms ≡ ms
  finished-Added ms = search (rules, the_lemmas)

  pub finished-Swapped : (k : T) (v : Document T) (ms : Members) → finished_one t (Swapped k v) ms ≡ ms
  finished-Swapped k v ms = search (rules, the_lemmas)

  pub finished-Within : (k : T) (log : Vec (Logged T) Global) (ms : Members) → finished_one t (Within k log) ms ≡ with_changed (t k) (in_object (finished t log.items)) ms
  finished-Within k log ms = search (rules, the_lemmas)

  pub undone-Goes : (k : T) (ms : Members) → undone_one t (Goes k) ms ≡ ms
  undone-Goes k ms = search (rules, the_lemmas)

  pub undone-Added : (ms : Members) → undone_one t Added ms ≡ without_last_member ms
  undone-Added ms = search (rules, the_lemmas)

  pub undone-Swapped : (k : T) (v : Document T) (ms : Members) → undone_one t (Swapped k v) ms ≡ with_changed (t k) (λ _. document_tree t v) ms
  undone-Swapped k v ms = search (rules, the_lemmas)

  pub undone-Within : (k : T) (log : Vec (Logged T) Global) (ms : Members) → undone_one t (Within k log) ms ≡ with_changed (t k) (in_object (log_undone t log.items)) ms
  undone-Within k log ms = search (rules, the_lemmas)

  -- the last is finished last
  pub finished-last : (xs : List (Logged T)) (x : Logged T) (ms : Members) → finished t (xs ++ x ∷ []) ms ≡ finished_one t x (finished t xs ms)
  finished-last [] x ms = refl
  finished-last (y ∷ ys) x ms = finished-last ys x (finished_one t y ms)

  -- and undone first
  pub undone-last : (xs : List (Logged T)) (x : Logged T) (ms : Members) → log_undone t (xs ++ x ∷ []) ms ≡ log_undone t xs (undone_one t x ms)
  undone-last [] x ms = refl
  undone-last (y ∷ ys) x ms = ap (undone_one t y) (undone-last ys x ms)

-- the last entry taken out
pub without_last-entry : {K V : Type 0} (f : V → Tree) (es : List (Entry K V)) (e : Entry K V) → without_last_member (entry_members f (es ++ e ∷ [])) ≡ entry_members f es
without_last-entry f [] e = refl
without_last-entry f (x ∷ []) e = refl
without_last-entry f (x ∷ (y ∷ es)) e = search (rules, without_last-entry f (y ∷ es) e)

-- what is left where the last of a map was taken out
pub popped : {K V : Type 0} (t : K → List ℕ) (f : V → Tree) (es fs : List (Entry K V)) (r : Option (K × V)) → es ≡ fs ++ entries_of t (option_to_list r) → IfNone r (fs ≡ [])
    → entry_members f fs ≡ without_last_member (entry_members f es)
popped t f es fs None e h = ap (entry_members f) h ∙ ap (λ es. without_last_member (entry_members f es)) (sym (e ∙ ap (λ fs. fs ++ []) h))
popped t f es fs (Some (k, v)) e h = sym (ap (λ es. without_last_member (entry_members f es)) e ∙ without_last-entry f fs ((k, t k), v))
