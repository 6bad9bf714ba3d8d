-- What finishes and what undoes a merge in its target. Only private clauses cite it.
use Rattle.std.specs.Prelude.{◌≡◌, ◌≢◌, ℕ, List, [], ◌∷◌, Some, Result, MatchResult, map, if◌then◌else◌, bytes_eq}
use Rattle.std.specs.declared.alloc.AllocError.{AllocError}
use Rattle.std.specs.declared.vec.Vec.{Vec}
use Rattle.std.specs.Global.{Global}
use Rattle.sj_text_core.specs.Tree.{Tree, obj, Members, no_members, member}
use Rattle.sj_text_core.specs.Find.{find_member}
use Rattle.sj_text_core.specs.Edits.{put, cut}
use Rattle.sj_document.specs.Document.{document_tree}
use Rattle.sj_merge.specs.Merge.{merged, merged_members}
use Rattle.sj_merge.specs.inner.Merge.{merged_pair}
use Rattle.sj_merge.specs.declared.in_place.Logged.{Logged, fold-Logged}
use Rattle.sj_merge.specs.declared.in_place.Logged.TheOpen.{Logged-F}

-- the first member with the text has what f makes of its value
abbrev pub with_changed : List ℕ → (Tree → Tree) → Members → Members
with_changed k f no_members = no_members
with_changed k f (member l t ms) = if bytes_eq k l then member l (f t) ms else member l t (with_changed k f ms)

-- without the last
abbrev pub without_last_member : Members → Members
without_last_member no_members = no_members
without_last_member (member k t no_members) = no_members
without_last_member (member k t (member l u ms)) = member k t (without_last_member (member l u ms))

-- an object with what f makes of its members; anything else stays
abbrev pub in_object : (Members → Members) → Tree → Tree
in_object f (obj ms) = obj (f ms)
in_object f t = t

-- each in turn, from the first to the last
abbrev pub in_turn : List (Members → Members) → Members → Members
in_turn [] ms = ms
in_turn (f ∷ fs) ms = in_turn fs (f ms)

-- each in turn, from the last to the first
abbrev pub back : List (Members → Members) → Members → Members
back [] ms = ms
back (f ∷ fs) ms = f (back fs ms)

-- what is made of members leaves the text's alone, and those that are put there
pub record Passes (k : List ℕ) (f : Members → Members) : Type 0 where
  pub finds : (ms : Members) → find_member k (f ms) ≡ find_member k ms
  pub puts : (u : Tree) (ms : Members) → f (put k u ms) ≡ put k u (f ms)

module _ {T : Type 0} (t : T → List ℕ) where
  abbrev pub level_finished : Logged-F T (Members → Members) → Members → Members
  level_finished (Logged-F.Goes k) ms = cut (t k) ms
  level_finished Logged-F.Added ms = ms
  level_finished (Logged-F.Swapped k v) ms = ms
  level_finished (Logged-F.Within k log) ms = with_changed (t k) (in_object (in_turn log.items)) ms

  abbrev pub level_undone : Logged-F T (Members → Members) → Members → Members
  level_undone (Logged-F.Goes k) ms = ms
  level_undone Logged-F.Added ms = without_last_member ms
  level_undone (Logged-F.Swapped k v) ms = with_changed (t k) (λ _. document_tree t v) ms
  level_undone (Logged-F.Within k log) ms = with_changed (t k) (in_object (back log.items)) ms

  -- the members, once what was logged at one is finished
  abbrev pub finished_one : Logged T → Members → Members
  finished_one = fold-Logged T (Members → Members) level_finished

  -- and once it is undone
  abbrev pub undone_one : Logged T → Members → Members
  undone_one = fold-Logged T (Members → Members) level_undone

  abbrev pub finished : List (Logged T) → Members → Members
  finished log ms = in_turn (map finished_one log) ms

  abbrev pub log_undone : List (Logged T) → Members → Members
  log_undone log ms = back (map undone_one log) ms

  -- the patch's members were merged into those before, but for those that go
  abbrev pub Merges : Members → Members → Members → Result (Vec (Logged T) Global) AllocError → Type 0
  Merges ps before after r =
      MatchResult r (λ log. (finished log.items after ≡ merged_members before ps) × (log_undone log.items after ≡ before)) (λ e. after ≡ before)

  -- the pair was merged into the members before, where more is to be finished first
  pub record MergesPair (k : List ℕ) (v : Tree) (before after : Members) (x : Logged T) : Type 0 where
    pub finish : (f : Members → Members) → Passes k f → finished_one x (f after) ≡ merged_pair k v (f before)
    pub undo : undone_one x after ≡ before
    pub apart : (l : List ℕ) → l ≢ k → Passes l (finished_one x)

  abbrev pub MergesAt : List ℕ → Tree → Members → Members → Result (Logged T) AllocError → Type 0
  MergesAt k v before after r = MatchResult r (MergesPair k v before after) (λ e. after ≡ before)

  -- the value was merged into that of the text before
  pub record MergesValue (k : List ℕ) (v before after : Tree) (x : Logged T) : Type 0 where
    pub finish : (ms : Members) → find_member k ms ≡ Some after → finished_one x ms ≡ put k (merged (Some before) v) ms
    pub undo : (ms : Members) → find_member k ms ≡ Some after → undone_one x ms ≡ put k before ms
    pub apart : (l : List ℕ) → l ≢ k → Passes l (finished_one x)

  abbrev pub ChangesValue : List ℕ → Tree → Tree → Tree → Result (Logged T) AllocError → Type 0
  ChangesValue k v before after r = MatchResult r (MergesValue k v before after) (λ e. after ≡ before)
