-- A merge, pair by pair.
use Rattle.std.proofs.Common.{◌≡◌, ℕ, true, false, List, Option, Some, None, is_some, refl, ap}
use Rattle.sj_text_core.specs.Tree.{Tree, null, boolean, int, text, list, obj, Members, no_members}
use Rattle.sj_text_core.specs.Find.{find_member}
use Rattle.sj_text_core.specs.Edits.{put, cut}
use Rattle.sj_text_core.specs.Nulls.{as_nothing}
use Rattle.sj_text_core.specs.Reads.{as_members}
use Rattle.sj_merge.specs.Merge.{is_null, target_members, merged}
use Rattle.sj_merge.specs.inner.Merge.{merged_pair}

-- a value that is no null goes to the text
pub merged_pair-put : (k : List ℕ) (v : Tree) (ms : Members) → is_null v ≡ false → merged_pair k v ms ≡ put k (merged (find_member k ms) v) ms
merged_pair-put k null ms e = cc
merged_pair-put k (boolean b) ms e = refl
merged_pair-put k (int n c) ms e = refl
merged_pair-put k (text s) ms e = refl
merged_pair-put k (list is) ms e = refl
merged_pair-put k (obj ps) ms e = refl

-- a null takes the member out
pub merged_pair-cut : (k : List ℕ) (v : Tree) (ms : Members) → v ≡ null → merged_pair k v ms ≡ cut k ms
merged_pair-cut k v ms e = ap (λ v. merged_pair k v ms) e

-- a null as target is none
pub merged-none : (v : Tree) → merged (Some null) v ≡ merged None v
merged-none null = refl
merged-none (boolean b) = refl
merged-none (int n c) = refl
merged-none (text s) = refl
merged-none (list is) = refl
merged-none (obj ps) = refl

pub null_of : (v : Tree) → is_some (as_nothing v) ≡ true → v ≡ null
null_of null e = refl
null_of (boolean b) e = cc
null_of (int n c) e = cc
null_of (text s) e = cc
null_of (list is) e = cc
null_of (obj ps) e = cc

pub no_null : (v : Tree) → is_some (as_nothing v) ≡ false → is_null v ≡ false
no_null null e = cc
no_null (boolean b) e = refl
no_null (int n c) e = refl
no_null (text s) e = refl
no_null (list is) e = refl
no_null (obj ps) e = refl

pub no_members_in : (v : Tree) → is_some (as_members v) ≡ false → target_members (Some v) ≡ no_members
no_members_in null e = refl
no_members_in (boolean b) e = refl
no_members_in (int n c) e = refl
no_members_in (text s) e = refl
no_members_in (list is) e = refl
no_members_in (obj ps) e = cc

-- what is no object takes the target's place
pub merged_whole : (o : Option Tree) (v : Tree) → is_some (as_members v) ≡ false → v ≡ merged o v
merged_whole o null e = refl
merged_whole o (boolean b) e = refl
merged_whole o (int n c) e = refl
merged_whole o (text s) e = refl
merged_whole o (list is) e = refl
merged_whole o (obj ps) e = cc
