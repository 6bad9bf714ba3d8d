-- What patches of the documents of handles answer.
use Rattle.std.specs.Prelude.{◌≡◌, ◌⊎◌, ◌<◌, ℕ, List, [], Ok, Err}
use Rattle.sj_text_core.specs.Tree.{Tree, list, depth}
use Rattle.sj_text_core.specs.Same.{Same}
use Rattle.sj_text_core.specs.declared.patch_fault.ItemFault.{ItemFault}
use Rattle.sj_text_core.specs.declared.patch_fault.ItemFault.TheVariants as flaw
use Rattle.sj_text_core.specs.declared.patch_fault.OperationFault.{OperationFault}
use Rattle.sj_text_core.specs.declared.patch_fault.OperationFault.TheVariants as operation
use Rattle.sj_text_core.specs.declared.patch_fault.PatchReadFault.TheVariants.{NotAnArray, Item}
use Rattle.sj_patch.specs.Patch.{PlainOperation, patched}
use Rattle.sj_patch.specs.Operations.{patch_in}
use Rattle.sj_patch.specs.Listed.{listed_all}
use Rattle.sj_patch.specs.Diff.{Becomes}

-- the document p lists operations by which t becomes u
pub record Patches (p t u : Tree) : Type 0 where
  pub operations : List PlainOperation
  pub listed : patch_in p ≡ Ok operations
  pub done : patched operations t ≡ Ok u

abbrev pub item_status : ItemFault → ℕ
item_status flaw.NotAnObject = 33
item_status flaw.Op = 34
item_status flaw.Path = 35
item_status flaw.From = 36
item_status flaw.Value = 37

abbrev pub operation_status : OperationFault → ℕ
operation_status operation.Missing = 48
operation_status operation.NoPlace = 49
operation_status operation.Whole = 50
operation_status operation.IntoItself = 51
operation_status operation.Differs = 52

-- p is no array
abbrev pub IsNoList : Tree → ℕ → Type 0
IsNoList p code = (code ≡ 32) × (patch_in p ≡ Err NotAnArray)

-- the item with that number is no operation
abbrev pub HasNoOperation : Tree → ℕ → ℕ → Type 0
HasNoOperation p code at = (w : ItemFault) × (code ≡ item_status w) × (patch_in p ≡ Err (Item at w))

-- the operations of p were not read: for want of memory, or since it has none
abbrev pub NotRead : Tree → ℕ → ℕ → Type 0
NotRead p code at = (code ≡ 1) ⊎ IsNoList p code ⊎ HasNoOperation p code at

-- the operation with that number has no result
abbrev pub Fails : Tree → Tree → ℕ → ℕ → Type 0
Fails p t code at = (os : List PlainOperation) × (w : OperationFault) × (code ≡ operation_status w) × (patch_in p ≡ Ok os) × (patched os t ≡ Err (at, w))

-- why the patch p was not done to t: the status, and the number of the item or the operation
pub record NotPatched (p t : Tree) (code at : ℕ) : Type 0 where
  pub why : NotRead p code at ⊎ ((code ≡ 21) × (1024 < depth p)) ⊎ Fails p t code at

-- p lists operations by which t becomes the same as u, none where they are the same
pub record IsDifference (p t u : Tree) : Type 0 where
  pub operations : List PlainOperation
  pub listed : p ≡ list (listed_all operations)
  pub becomes : Becomes operations t u
  pub none : Same t u → operations ≡ []
