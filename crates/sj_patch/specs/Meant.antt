-- The operations and the faults of the code, as the definitions have them.
use Rattle.std.specs.Prelude.{◌≡◌, ℕ, List, Result, Err, ⊤}
use Rattle.sj_text_core.specs.Tree.{Tree}
use Rattle.sj_document.specs.Document.{document_tree}
use Rattle.sj_patch.specs.Patch.{PlainOperation, add, remove, replace, move, copy, test}
use Rattle.sj_text_core.specs.declared.patch_fault.OperationFault.{OperationFault}
use Rattle.sj_text_core.specs.declared.patch_fault.PatchFault.{PatchFault}
use Rattle.sj_text_core.specs.declared.patch_fault.PatchFault.TheVariants as fault
use Rattle.sj_patch.specs.declared.operation.Operation.{Operation}
use Rattle.sj_patch.specs.declared.operation.Operation.TheVariants as operation

-- which operation has no result, and why; of want of memory nothing is said
abbrev pub IsFaultOf : PatchFault → Result Tree (ℕ × OperationFault) → Type 0
IsFaultOf fault.OutOfMemory r = ⊤
IsFaultOf (fault.Failed i w) r = r ≡ Err (i, w)

module _ {T : Type 0} (t : T → List ℕ) where
  abbrev pub meant : Operation T → PlainOperation
  meant (operation.Add path value) = add path (document_tree t value)
  meant (operation.Remove path) = remove path
  meant (operation.Replace path value) = replace path (document_tree t value)
  meant (operation.Move from path) = move from path
  meant (operation.Copy from path) = copy from path
  meant (operation.Test path value) = test path (document_tree t value)
