-- What a lazy value ends as, where a call lends a part of its document, if there is one.
use Rattle.std.specs.Prelude.{◌≡◌, Option, Some, Result, Ok, Err, IfOk, OnSome, MatchResult}
use Rattle.std.specs.Borrow.{MutBor, Fml, GName, RattleType, follows_so}
use mathlib.Core.Option as maybe
use Rattle.std.specs.Option.{ghost_name_of}
use Rattle.std.specs.declared.alloc.AllocError.{AllocError}
use Rattle.sj_text_core.specs.Tree.{Tree}
use Rattle.sj_object.specs.Lends.{KeyMembers}
use Rattle.sj_lazy.specs.Value.{owned}
use Rattle.sj_lazy.specs.Rows.{lazy_row}

-- the reference that is found, if one is
abbrev pub found_name : {A E : Type 0} → Result (Option (MutBor A)) E → maybe.Option GName
found_name (Ok found) = ghost_name_of found
found_name (Err e) = maybe.none

-- v ends owned: with the tree that `left` makes of the last value behind what is found and of u, and as u where nothing is found; refused, as it was
module _ (P B T : RattleType) (key : KeyMembers T.Denot) (X : RattleType) where
  abbrev pub LendsPart : MutBor (lazy_row P B T key).Denot → Result (Option (MutBor X.Denot)) AllocError → (X.Denot → Tree → Tree) → Tree → Fml
  LendsPart v r left u = follows_so (lazy_row P B T key) X v.ghost_name (found_name r)
      (λ w n. IfOk r (λ found. OnSome found (owned key.text_of n ≡ Some (left w u))))
      (λ n. MatchResult r (λ _. owned key.text_of n ≡ Some u) (λ _. n ≡ v.now))
