-- Operations read one after another.
use Rattle.std.proofs.Common.{◌≡◌, ℕ, suc, ◌+◌, ◌<◌, List, [], ◌∷◌, ◌++◌, Result, Ok, Err, length, get_or, drop, map, refl, sym, ap, subst, ◌∙◌, append_assoc, add-one}
use Rattle.std.proofs.lemmas.List.{at_drop_more}
use Rattle.sj_text_core.specs.Tree.{Items, item, items_from}
use Rattle.sj_document.specs.Document.{document_tree}
use Rattle.sj_document.specs.declared.value.Document.{Document}
use Rattle.sj_patch.specs.Patch.{PlainOperation}
use Rattle.sj_patch.specs.Operations.{onto_operations, operation_in, operations_from, IsFaultIn}
use Rattle.sj_patch.specs.inner.Operations.{of_item, IsFlawIn}
use Rattle.sj_text_core.specs.declared.patch_fault.ItemFault.{ItemFault}
use Rattle.sj_text_core.specs.declared.patch_fault.PatchReadFault.{PatchReadFault}
use Rattle.sj_text_core.specs.declared.patch_fault.PatchReadFault.TheVariants as fault
use Rattle.sj_patch.specs.declared.error.Unread.{Unread}
use Rattle.sj_patch.specs.declared.error.Unread.TheVariants as unread

-- the operations in front of those that the rest is read as
abbrev pub behind : List PlainOperation → Result (List PlainOperation) PatchReadFault → Result (List PlainOperation) PatchReadFault
behind xs (Err e) = Err e
behind xs (Ok ys) = Ok (xs ++ ys)

behind-more : (xs : List PlainOperation) (n : ℕ) (o : PlainOperation) (r : Result (List PlainOperation) PatchReadFault) → behind (xs ++ o ∷ []) r ≡ behind xs (onto_operations n (Ok o) r)
behind-more xs n o (Err e) = refl
behind-more xs n o (Ok ys) = ap Ok (append_assoc xs (o ∷ []) ys)

module _ {T : Type 0} (t : T → List ℕ) where
  abbrev pub seen : List (Document T) → Items
  seen vs = items_from (map (document_tree t) vs)

  seen-drop : (vs : List (Document T)) (i : ℕ) (v : Document T) → i < length vs → v ≡ get_or vs i v → seen (drop i vs) ≡ item (document_tree t v) (seen (drop (i + 1) vs))
  seen-drop vs i v h e = at_drop_more seen vs i v h ∙ ap (λ x. item (document_tree t x) (seen (drop (i + 1) vs))) (sym e)

  -- an item that is an operation
  pub behind-turn : (vs : List (Document T)) (i : ℕ) (v : Document T) (xs : List PlainOperation) (o : PlainOperation)
      → i < length vs → v ≡ get_or vs i v → operation_in (document_tree t v) ≡ Ok o
      → behind (xs ++ o ∷ []) (operations_from (i + 1) (seen (drop (i + 1) vs))) ≡ behind xs (operations_from i (seen (drop i vs)))
  behind-turn vs i v xs o h e ok =
      let rest = seen (drop (i + 1) vs) in
      behind-more xs i o (operations_from (i + 1) rest)
      ∙ ap (λ n. behind xs (onto_operations i (Ok o) (operations_from n rest))) (add-one i)
      ∙ ap (λ r. behind xs (onto_operations i r (operations_from (suc i) rest))) (sym ok)
      ∙ ap (λ is. behind xs (operations_from i is)) (sym (seen-drop vs i v h e))

  behind-stop : (vs : List (Document T)) (i : ℕ) (v : Document T) (xs : List PlainOperation) (w : ItemFault)
      → i < length vs → v ≡ get_or vs i v → operation_in (document_tree t v) ≡ Err w
      → behind xs (operations_from i (seen (drop i vs))) ≡ Err (fault.Item i w)
  behind-stop vs i v xs w h e flaw =
      let rest = seen (drop (i + 1) vs) in
      ap (λ is. behind xs (operations_from i is)) (seen-drop vs i v h e)
      ∙ ap (λ r. behind xs (onto_operations i r (operations_from (suc i) rest))) flaw

  fault_is : (vs : List (Document T)) (i : ℕ) (v : Document T) (xs : List PlainOperation) (e : Unread) (all : Result (List PlainOperation) PatchReadFault)
      → i < length vs → v ≡ get_or vs i v → IsFlawIn e (operation_in (document_tree t v))
      → behind xs (operations_from i (seen (drop i vs))) ≡ all → IsFaultIn (of_item i e) all
  fault_is vs i v xs unread.OutOfMemory all h is f inv = tt
  fault_is vs i v xs (unread.Flaw w) all h is f inv = sym inv ∙ behind-stop vs i v xs w h is f

  -- an item that is none
  pub behind-fault : (vs : List (Document T)) (i : ℕ) (v : Document T) (xs : List PlainOperation) (e : Unread) (all : Result (List PlainOperation) PatchReadFault) (found : PatchReadFault)
      → i < length vs → v ≡ get_or vs i v → IsFlawIn e (operation_in (document_tree t v))
      → behind xs (operations_from i (seen (drop i vs))) ≡ all → found ≡ of_item i e → IsFaultIn found all
  behind-fault vs i v xs e all found h is f inv q = subst (λ r. IsFaultIn r all) (sym q) (fault_is vs i v xs e all h is f inv)
