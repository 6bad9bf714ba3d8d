-- What lists operations is read as them.
use Rattle.std.proofs.Common.{◌≡◌, ℕ, suc, List, [], ◌∷◌, map, Option, Some, Result, Ok, refl, ap, ap₂, ◌∙◌, true, Bool, ◌&&◌, if◌then◌else◌, None}
use Rattle.sj_pointer.specs.Syntax.{is_begun, is_escaped}
use Rattle.sj_pointer.specs.Tokens.{tokens_of}
use Rattle.sj_pointer.specs.Shown.{pointer_text}
use Rattle.sj_pointer.proofs.Written.{written_read}
use Rattle.sj_text_core.specs.Tree.{Tree, item, items_from}
use Rattle.sj_patch.specs.Meant.{meant}
use Rattle.sj_patch.specs.declared.operation.Operation.{Operation}
use Rattle.sj_patch.specs.Patch.{PlainOperation, add, remove, replace, move, copy, test}
use Rattle.sj_patch.specs.declared.reading.Kind.{Kind}
use Rattle.sj_patch.specs.declared.reading.Kind.TheVariants as kind
use Rattle.sj_text_core.specs.declared.patch_fault.ItemFault.{ItemFault}
use Rattle.sj_text_core.specs.declared.patch_fault.ItemFault.TheVariants.{Path, From}
use Rattle.sj_patch.specs.Operations.{tokens_in, or_flaw, read_on, operation_of, operation_in, operations_from, onto_operations}
use Rattle.sj_patch.specs.Listed.{listed_operation, listed_all}

tokens_by : (b e : Bool) (ks ls : List (List ℕ)) → b ≡ true → e ≡ true → ks ≡ ls → (if b && e then Some ks else None) ≡ Some ls
tokens_by b e ks ls p q h = (ap (λ x. if x && e then Some ks else None) p ∙ ap (λ x. if x then Some ks else None) q) ∙ ap Some h

tokens_in-shown : (ks : List (List ℕ)) → tokens_in (pointer_text ks) ≡ Some ks
tokens_in-shown ks =
    let r = written_read ks in
    tokens_by (is_begun (pointer_text ks)) (is_escaped (pointer_text ks)) (tokens_of (pointer_text ks)) ks r.0 r.1 r.2

abbrev at_path : Kind → Tree → Option (List (List ℕ)) → Result PlainOperation ItemFault
at_path k t found = read_on (or_flaw Path found) (λ path. operation_of k path t)

abbrev from_to : (List (List ℕ) → List (List ℕ) → PlainOperation) → Option (List (List ℕ)) → Option (List (List ℕ)) → Result PlainOperation ItemFault
from_to made found from = read_on (or_flaw Path found) (λ path. read_on (or_flaw From from) (λ source. Ok (made source path)))

listed_one : (o : PlainOperation) → operation_in (listed_operation o) ≡ Ok o
listed_one (add path v) = ap (at_path kind.Add (listed_operation (add path v))) (tokens_in-shown path)
listed_one (remove path) = ap (at_path kind.Remove (listed_operation (remove path))) (tokens_in-shown path)
listed_one (replace path v) = ap (at_path kind.Replace (listed_operation (replace path v))) (tokens_in-shown path)
listed_one (move from path) = ap₂ (from_to move) (tokens_in-shown path) (tokens_in-shown from)
listed_one (copy from path) = ap₂ (from_to copy) (tokens_in-shown path) (tokens_in-shown from)
listed_one (test path v) = ap (at_path kind.Test (listed_operation (test path v))) (tokens_in-shown path)

pub listed_read : (n : ℕ) (os : List PlainOperation) → operations_from n (listed_all os) ≡ Ok os
listed_read n [] = refl
listed_read n (o ∷ os) = ap₂ (onto_operations n) (listed_one o) (listed_read (suc n) os)

module _ {T : Type 0} (t : T → List ℕ) where
  pub listed_items : (os : List (Operation T)) → items_from (map (λ o. listed_operation (meant t o)) os) ≡ listed_all (map (meant t) os)
  listed_items [] = refl
  listed_items (o ∷ os) = ap (item (listed_operation (meant t o))) (listed_items os)
