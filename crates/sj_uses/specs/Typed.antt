-- When a tree is read as a value, and written as one.
use Rattle.std.specs.Prelude.{◌≡◌, ℕ, List, Option, Some, None, MatchOption, string_bytes}
use Rattle.std.specs.declared.string.String.{String}
use Rattle.std.specs.declared.vec.Vec.{Vec}
use Rattle.std.specs.Global.{Global}
use Rattle.sj_text_core.specs.Tree.{Tree, listed}
use Rattle.sj_text_core.specs.Find.{find}
use Rattle.sj_text_core.specs.Nulls.{as_nothing}
use Rattle.sj_text_core.specs.Reads.{as_text, as_items, as_unsigned}
use Rattle.sj_document.specs.SameWith.{SameEach}

-- a number below 2^bits, whatever its carrier
abbrev pub MeansNumber : ℕ → Tree → ℕ → Type 0
MeansNumber bits t n = as_unsigned bits t ≡ Some n

abbrev pub MeansText : Tree → String Global → Type 0
MeansText t s = as_text t ≡ Some (string_bytes s)

module _ {X : Type 0} (R : Tree → X → Type 0) where
  -- a null is none
  abbrev pub MeansOption : Tree → Option X → Type 0
  MeansOption t None = as_nothing t ≡ Some tt
  MeansOption t (Some x) = R t x

  -- a list, item by item
  abbrev pub MeansList : Tree → Vec X Global → Type 0
  MeansList t xs = MatchOption (as_items t) ⊥ (λ is. SameEach R (listed is) xs.items)

  -- an object with the member
  abbrev pub HasMember : List ℕ → Tree → X → Type 0
  HasMember k t x = MatchOption (find k t) ⊥ (λ u. R u x)

  -- the member may be absent, or a null: then there is none
  abbrev pub HasOptional : List ℕ → Tree → Option X → Type 0
  HasOptional k t x = MatchOption (find k t) (x ≡ None) (λ u. MeansOption u x)
