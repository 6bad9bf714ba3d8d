-- Steps of an upgrade.
use Rattle.std.proofs.Common.{◌≡◌, Some, sym}
use Rattle.sj_text_core.specs.Keep.{keep}
use Rattle.sj_document.specs.declared.value.Document.{Document}
use Rattle.sj_document.proofs.Kept.{tree_kept}
use Rattle.std.specs.Borrow.{Bor}
use Rattle.std.specs.Cow.{cow_str_bytes}
use Rattle.sj_lazy.specs.Value.{Text, lent_tree, shared_tree}
use Rattle.sj_lazy.specs.declared.value.Shared.{Shared}
use Rattle.sj_lazy.specs.declared.value.Shared.TheVariants.{Borrowed, Owned}

pub some_is : {A : Type 0} (x u : A) → Some x ≡ Some u → x ≡ u
some_is x u e = cc

-- a document, lent or owned, is kept
pub shared_kept : (c : Shared (Bor (Document Text)) Text) → shared_tree lent_tree cow_str_bytes c ≡ keep (shared_tree lent_tree cow_str_bytes c)
shared_kept (Borrowed x) = sym (tree_kept cow_str_bytes x.now)
shared_kept (Owned v) = sym (tree_kept cow_str_bytes v)
