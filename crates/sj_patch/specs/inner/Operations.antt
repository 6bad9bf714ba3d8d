-- What private clauses alone cite beside Operations.
use Rattle.std.specs.Prelude.{◌≡◌, ℕ, Result, Err, ⊤}
use Rattle.sj_text_core.specs.declared.patch_fault.ItemFault.{ItemFault}
use Rattle.sj_text_core.specs.declared.patch_fault.PatchReadFault.{PatchReadFault}
use Rattle.sj_text_core.specs.declared.patch_fault.PatchReadFault.TheVariants as fault
use Rattle.sj_patch.specs.declared.error.Unread.{Unread}
use Rattle.sj_patch.specs.declared.error.Unread.TheVariants as unread

-- what is wrong with an item; of want of memory nothing is said
abbrev pub IsFlawIn : {A : Type 0} → Unread → Result A ItemFault → Type 0
IsFlawIn unread.OutOfMemory r = ⊤
IsFlawIn (unread.Flaw w) r = r ≡ Err w

-- the fault of the item with that number
abbrev pub of_item : ℕ → Unread → PatchReadFault
of_item n unread.OutOfMemory = fault.OutOfMemory
of_item n (unread.Flaw w) = fault.Item n w
