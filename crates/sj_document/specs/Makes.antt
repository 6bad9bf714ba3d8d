-- What a document is made of, where that takes memory.
use Rattle.std.specs.Prelude.{◌≡◌, ℕ, List, map, string_bytes}
use Rattle.std.specs.Global.{Global}
use Rattle.std.specs.List.Sorted.{IsPermutation, IsSortedBy}
use Rattle.std.specs.Ordering.{is_lt}
use Rattle.std.specs.String.{string_cmp}
use Rattle.std.specs.declared.string.String.{String}
use Rattle.sj_text_core.specs.Tree.{Tree, list, obj, items_from, no_members}
use Rattle.sj_document.specs.Document.{document_tree, put_pairs}
use Rattle.sj_document.specs.SameWith.{SameEach}
use Rattle.sj_document.specs.declared.value.Document.{Document}

-- a list of what each value becomes, in order
abbrev pub IsArrayOf : {T X : Type 0} → (T → List ℕ) → (X → Document T → Type 0) → List X → Tree → Type 0
IsArrayOf {T} t becomes xs u = (ds : List (Document T)) × SameEach (λ d x. becomes x d) ds xs × (u ≡ list (items_from (map (document_tree t) ds)))

abbrev pub Pair : Type 0
Pair = String Global × Document (String Global)

-- no key is below the one before it, byte by byte
abbrev pub IsInByteOrder : List Pair → Type 0
IsInByteOrder = IsSortedBy (λ (p q : Pair). is_lt (string_cmp p.0 q.0))

-- an object of the pairs, in the byte order of their keys
abbrev pub IsObjectInByteOrder : List Pair → Tree → Type 0
IsObjectInByteOrder ps u = (qs : List Pair) × IsPermutation ps qs × IsInByteOrder qs × (u ≡ obj (put_pairs string_bytes (document_tree string_bytes) no_members qs))
