-- How many items or members a value has, told of an equal tree.
use Rattle.std.proofs.Common.{◌≡◌, ℕ, sym, subst}
use Rattle.std.specs.Prelude.{IfSome}
use Rattle.sj_text_core.specs.Tree.{Tree, Items, Members, list, obj, items_len, members_len}
use Rattle.sj_text_core.specs.Reads.{as_items, as_members}

pub items_told : (t : Tree) (is : Items) (n : ℕ) → t ≡ list is → n ≡ items_len is → IfSome (as_items t) (λ is. n ≡ items_len is)
items_told t is n e f = subst (λ (u : Tree). IfSome (as_items u) (λ is. n ≡ items_len is)) (sym e) f

pub members_told : (t : Tree) (ms : Members) (n : ℕ) → t ≡ obj ms → n ≡ members_len ms → IfSome (as_members t) (λ ms. n ≡ members_len ms)
members_told t ms n e f = subst (λ (u : Tree). IfSome (as_members u) (λ ms. n ≡ members_len ms)) (sym e) f
