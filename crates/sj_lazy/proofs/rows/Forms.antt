-- The three forms, with trees in the place of parts and of lent documents.
use Rattle.std.proofs.Common.{◌≡◌, ℕ, List, pos, refl, codes, None, true, false}
use Rattle.sj_text_core.specs.Tree.{u64, Tree, int, obj, no_members, member}
use Rattle.sj_text_core.specs.Keep.{keep}
use Rattle.sj_lazy.specs.declared.value.Lazy.{Lazy}
use Rattle.sj_lazy.specs.declared.value.Lazy.TheVariants.{Tape, Value}
use Rattle.sj_lazy.specs.declared.value.Shared.TheVariants.{Borrowed}
use Rattle.sj_lazy.specs.Value.{of_tape, of_lent, lazy_tree, lazy_kept, owned, on_tape, form}

abbrev n : ℕ → Tree
n m = int (pos m) u64

-- {"a":1,"a":2}
abbrev aa : Tree
aa = obj (member (codes "a") (n 1) (member (codes "a") (n 2) no_members))

abbrev Any : Type 0
Any = Lazy Tree Tree (List ℕ)

abbrev part : Any
part = Tape aa

abbrev lent : Any
lent = Value (Borrowed (n 3))

abbrev text : List ℕ → List ℕ
text s = s

abbrev whole : Tree → Tree
whole t = t

part-tree : lazy_tree whole whole text part ≡ aa
part-tree = refl

-- written, it has the first member of each key
part-kept : lazy_kept keep whole text part ≡ obj (member (codes "a") (n 1) no_members)
part-kept = refl

part-owned : owned text part ≡ None
part-owned = refl

part-form : form part ≡ of_tape
part-form = refl

part-on_tape : on_tape part ≡ true
part-on_tape = refl

lent-tree : lazy_tree whole whole text lent ≡ n 3
lent-tree = refl

-- a document is kept as it is
lent-kept : lazy_kept keep whole text lent ≡ n 3
lent-kept = refl

lent-owned : owned text lent ≡ None
lent-owned = refl

lent-form : form lent ≡ of_lent
lent-form = refl

lent-on_tape : on_tape lent ≡ false
lent-on_tape = refl
