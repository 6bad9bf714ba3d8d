-- What an edit at a pointer answers and leaves.
use Rattle.std.specs.Prelude.{◌≡◌, ◌≢◌, ℕ, List, Option, Some, None, IsSome, option_map, option_and_then, string_bytes, Result}
use Rattle.std.specs.Result.{MatchResult}
use Rattle.std.specs.declared.string.String.{String}
use Rattle.std.specs.declared.alloc.Global.{Global}
use Rattle.sj_text_core.specs.Tree.{Tree}
use Rattle.sj_text_core.specs.Find.{find}
use Rattle.sj_text_core.specs.Reads.{as_items, as_members}
use Rattle.sj_text_core.specs.declared.refused.Refused.{Refused}
use Rattle.sj_document.specs.Document.{document_tree, with_member, without_member, with_item, without_last, last_item}
use Rattle.sj_document.specs.declared.value.Document.{Document}
use Rattle.sj_pointer.specs.Pointed.{pointed, set_pointed}
use Rattle.sj_path.specs.Changes.{changed_at}
use Rattle.sj_path.specs.Made.{set_made}
use Rattle.sj_c.specs.declared.edit.Giving.{Giving}
use Rattle.sj_c.specs.declared.edit.Giving.TheVariants as giving
use Rattle.sj_c.specs.declared.edit.Taking.{Taking}
use Rattle.sj_c.specs.declared.edit.Taking.TheVariants as taking

-- the value that was there, or else what there was before
abbrev pub or_before : Option Tree → Option Tree → Option Tree
or_before None before = before
or_before (Some u) before = Some u

-- the tree that v leaves where it is given at the pointer
abbrev pub given : Giving → List (List ℕ) → Tree → Tree → Option Tree
given (giving.Insert key) p v t = Some (changed_at p (with_member (string_bytes key) v) t)
given giving.Push p v t = Some (changed_at p (with_item v) t)
given giving.Put p v t = Some (set_pointed p v t)
given giving.Set p v t = set_made p v t

-- what stood in its place
abbrev pub value_before : Giving → List (List ℕ) → Tree → Option Tree
value_before (giving.Insert key) p t = option_and_then (find (string_bytes key)) (pointed p t)
value_before giving.Push p t = None
value_before giving.Put p t = pointed p t
value_before giving.Set p t = pointed p t

-- the tree takes v there
abbrev pub IsGiven : Giving → List (List ℕ) → Tree → Tree → Type 0
IsGiven (giving.Insert key) p v t = IsSome (option_and_then as_members (pointed p t))
IsGiven giving.Push p v t = IsSome (option_and_then as_items (pointed p t))
IsGiven giving.Put p v t = IsSome (pointed p t)
IsGiven giving.Set p v t = IsSome (set_made p v t)

-- the tree takes no v there, and the status says why
abbrev pub IsNotGiven : Giving → List (List ℕ) → Tree → Tree → ℕ → Type 0
IsNotGiven (giving.Insert key) p v t code = (code ≡ 5) × (option_and_then as_members (pointed p t) ≡ None)
IsNotGiven giving.Push p v t code = (code ≡ 6) × (option_and_then as_items (pointed p t) ≡ None)
IsNotGiven giving.Put p v t code = (code ≡ 4) × (pointed p t ≡ None)
IsNotGiven giving.Set p v t code = (code ≡ 5) × (set_made p v t ≡ None)

-- the tree that is left where something is taken at the pointer
abbrev pub left : Taking → List (List ℕ) → Tree → Tree
left (taking.Remove key) p t = changed_at p (without_member (string_bytes key)) t
left taking.Pop p t = changed_at p without_last t

-- what is taken
abbrev pub value_taken : Taking → List (List ℕ) → Tree → Option Tree
value_taken (taking.Remove key) p t = option_and_then (find (string_bytes key)) (pointed p t)
value_taken taking.Pop p t = option_and_then last_item (pointed p t)

-- it can be taken there
abbrev pub IsTaken : Taking → List (List ℕ) → Tree → Type 0
IsTaken (taking.Remove key) p t = IsSome (option_and_then as_members (pointed p t))
IsTaken taking.Pop p t = IsSome (option_and_then as_items (pointed p t))

-- it cannot, and the status says why
abbrev pub IsNotTaken : Taking → List (List ℕ) → Tree → ℕ → Type 0
IsNotTaken (taking.Remove key) p t code = (code ≡ 5) × (option_and_then as_members (pointed p t) ≡ None)
IsNotTaken taking.Pop p t code = (code ≡ 6) × (option_and_then as_items (pointed p t) ≡ None)

-- the value was given, and what stood in its place is answered
pub record Gave (g : Giving) (p : List (List ℕ)) (v before after : Tree) (found : Option Tree) : Type 0 where
  pub is : IsGiven g p v before
  pub made : Some after ≡ given g p v before
  pub old : found ≡ value_before g p before

pub record NotGave (g : Giving) (p : List (List ℕ)) (v before after : Tree) (code : ℕ) : Type 0 where
  pub fault : (code ≢ 0) × (code ≢ 3) × (code ≢ 7) × (code ≢ 8)
  pub why : code ≢ 1 → IsNotGiven g p v before code
  pub stays : after ≡ before

-- given a value, which comes back where it is refused
abbrev pub GivesAt : Giving → List (List ℕ) → Document (String Global) → Tree → Tree → Result (Option (Document (String Global))) (Refused ℕ (Document (String Global))) → Type 0
GivesAt g p v before after r = MatchResult r (λ old. Gave g p (document_tree string_bytes v) before after (option_map (document_tree string_bytes) old)) (λ e. NotGave g p (document_tree string_bytes v) before after e.why × (e.value ≡ v))

pub record Took (g : Taking) (p : List (List ℕ)) (before after : Tree) (found : Option Tree) : Type 0 where
  pub is : IsTaken g p before
  pub made : after ≡ left g p before
  pub old : found ≡ value_taken g p before

pub record NotTook (g : Taking) (p : List (List ℕ)) (before after : Tree) (code : ℕ) : Type 0 where
  pub fault : (code ≢ 0) × (code ≢ 3) × (code ≢ 7) × (code ≢ 8)
  pub why : code ≢ 1 → IsNotTaken g p before code
  pub stays : after ≡ before

abbrev pub TakesAt : Taking → List (List ℕ) → Tree → Tree → Result (Option (Document (String Global))) ℕ → Type 0
TakesAt g p before after r = MatchResult r (λ old. Took g p before after (option_map (document_tree string_bytes) old)) (λ code. NotTook g p before after code)
