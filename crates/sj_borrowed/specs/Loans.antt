-- What a map or a document ends as, where a known key lends one of its values.
use mathlib.Core.List.{[]}
use mir.Syntax.{erased}
use Rattle.std.specs.Prelude.{◌≡◌, ℕ, List, Option, Result, MatchOption, bytes_eq}
use Rattle.std.specs.Borrow.{LendsSoOk, MutBor, Fml, RattleType}
use Rattle.std.specs.Cow.{cow_str_bytes}
use Rattle.std.specs.declared.alloc.AllocError.{AllocError}
use Rattle.std.specs.declared.alloc.Global.{Global}
use Rattle.std.specs.declared.borrow.CowStr.{CowStr}
use Rattle.std.specs.contracts.alloc.Global as heap
use Rattle.std.specs.contracts.borrow.CowStr as cow
use Rattle.std.specs.contracts.impls.GlobalAllocator.TheImpl as allocator
use Rattle.sj_object.specs.HashMap.{Contents}
use Rattle.sj_object.specs.Edits.{lookup, with_value, with_entry}
use Rattle.sj_object.specs.Lends.{KeyMembers, LendsValue, map_row}
use Rattle.sj_object.specs.declared.hasher.NotSoRandomState.{NotSoRandomState}
use Rattle.sj_object.specs.contracts.hasher.NotSoRandomState as state
use Rattle.sj_object.specs.contracts.hasher.NotSoRandomStateKeyHasher.TheImpl as hasher
use Rattle.sj_document.specs.Document.{document_tree, with_member}
use Rattle.sj_document.specs.Rows.{document_row}
use Rattle.sj_document.specs.declared.value.Document.{Document}
use Rattle.sj_borrowed.specs.declared.known_key.error.Error.{Error}

-- n is m with the value w at the text k: in its place, or last with a key that is such a copy
abbrev pub IsInserted : {K V S : Type 0} → (K → Type 0) → List ℕ → Contents K V S → Contents K V S → V → Type 0
IsInserted {K} Copied k m n w = MatchOption (lookup k m.entries) ((copy : K) × Copied copy × (n ≡ with_entry m (copy, k) w)) (λ _. n ≡ with_value m k w)

module _ (K V : RattleType) (key : KeyMembers K.Denot) where
  abbrev pub Map : Type 0
  Map = Contents K.Denot V.Denot NotSoRandomState

  -- the value at the text is the last one written through r, and at `None` the map stays as it is
  abbrev pub LendsKnown : MutBor Map → List ℕ → Option (MutBor V.Denot) → Fml
  LendsKnown m k r = LendsValue K V state.the_row key hasher.ghosts m k r

  -- the last value written through r was inserted, where need be with a copy of the key, and at an `Err` the map stays as it is
  abbrev pub LendsInserted : (K.Denot → Type 0) → MutBor Map → List ℕ → Result (MutBor V.Denot) AllocError → Fml
  LendsInserted Copied m k r = LendsSoOk (map_row K V state.the_row key hasher.ghosts) V m r (λ n w. IsInserted Copied k m.now n w) (λ n. n ≡ m.now)

-- the type of borrowed documents, as the logic names it; what its values are reads no lifetime
abbrev pub borrowed_row : RattleType
borrowed_row = document_row (cow.the_row (record { mir = erased; lft = [] }) heap.the_row allocator.ghosts) (record { eq = λ a b. bytes_eq (cow_str_bytes a) (cow_str_bytes b); text_of = cow_str_bytes })

-- the last value written through r is that of the key, in its place or last, and at an `Err` the tree stays as it is
abbrev pub LendsMember : MutBor (Document (CowStr Global)) → List ℕ → Result (MutBor (Document (CowStr Global))) Error → Fml
LendsMember d k r = LendsSoOk borrowed_row borrowed_row d r (λ n w. document_tree cow_str_bytes n ≡ with_member k (document_tree cow_str_bytes w) (document_tree cow_str_bytes d.now)) (λ n. document_tree cow_str_bytes n ≡ document_tree cow_str_bytes d.now)
