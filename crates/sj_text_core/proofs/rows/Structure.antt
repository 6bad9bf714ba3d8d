-- Texts that spell nothing, for their structure.
use Rattle.std.proofs.Common.{◌≡◌, ℕ, zero, suc, List, [], refl, sym, ◌∙◌, codes, None, arith}
use Rattle.std.proofs.lemmas.Option.{none-some}
use Rattle.sj_text_core.specs.Tree.{Tree, depth}
use Rattle.sj_text_core.specs.Grammar.{Spells}
use Rattle.sj_text_core.specs.inner.Parse.{read_tree, read_value, parts_at, text_from}
use Rattle.sj_text_core.proofs.parse.One.{complete}

-- what is not read at any depth is not spelled
spells_nothing : (b : List ℕ) → ((n : ℕ) → read_tree n b ≡ None) → (t : Tree) → Spells b t → ⊥
spells_nothing b h t s = none-some t (sym (h (depth t)) ∙ complete (depth t) b t s (omega arith))

unread-nothing : (n : ℕ) → read_tree n [] ≡ None
unfolding read_value
unread-nothing zero = refl
unread-nothing (suc n) = refl

not_spelled-nothing : (t : Tree) → Spells [] t → ⊥
not_spelled-nothing t s = spells_nothing [] unread-nothing t s

unread-comma : (n : ℕ) → read_tree n (codes "[1,]") ≡ None
unfolding read_value parts_at
unread-comma zero = refl
unread-comma (suc zero) = refl
unread-comma (suc (suc n)) = refl

-- a comma before the end
not_spelled-comma : (t : Tree) → Spells (codes "[1,]") t → ⊥
not_spelled-comma t s = spells_nothing (codes "[1,]") unread-comma t s

unread-no_comma : (n : ℕ) → read_tree n (codes "[1 2]") ≡ None
unfolding read_value parts_at
unread-no_comma zero = refl
unread-no_comma (suc zero) = refl
unread-no_comma (suc (suc n)) = refl

-- no comma between two items
not_spelled-no_comma : (t : Tree) → Spells (codes "[1 2]") t → ⊥
not_spelled-no_comma t s = spells_nothing (codes "[1 2]") unread-no_comma t s

unread-no_value : (n : ℕ) → read_tree n (codes "{\"a\"}") ≡ None
unfolding read_value parts_at text_from
unread-no_value zero = refl
unread-no_value (suc n) = refl

-- a key without a value
not_spelled-no_value : (t : Tree) → Spells (codes "{\"a\"}") t → ⊥
not_spelled-no_value t s = spells_nothing (codes "{\"a\"}") unread-no_value t s

unread-two : (n : ℕ) → read_tree n (codes "null null") ≡ None
unfolding read_value
unread-two zero = refl
unread-two (suc n) = refl

-- two values
not_spelled-two : (t : Tree) → Spells (codes "null null") t → ⊥
not_spelled-two t s = spells_nothing (codes "null null") unread-two t s
