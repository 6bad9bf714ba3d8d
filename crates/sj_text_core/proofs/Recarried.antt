-- Carriers are not printed.
use Rattle.std.proofs.Common.{◌≡◌, ℕ, ◌+◌, true, false, [], ◌∷◌, ◌++◌, refl, sym, ap, ◌∙◌, codes}
use Rattle.sj_text_core.specs.Tree.{Tree, null, boolean, int, text, list, obj, Items, no_items, item, Members, no_members, member}
use Rattle.sj_text_core.specs.Print.{quoted, compact, compact_items, compact_members, new_line, pretty, pretty_items, pretty_members, recarry, recarry_items, recarry_members}

mutual
  compact-recarry : (t : Tree) → compact (recarry t) ≡ compact t
  compact-recarry null = refl
  compact-recarry (boolean true) = refl
  compact-recarry (boolean false) = refl
  compact-recarry (int n c) = refl
  compact-recarry (text s) = refl
  compact-recarry (list no_items) = refl
  compact-recarry (list (item t is)) = λ i. 91 ∷ ((compact-recarry t i ++ compact_items-recarry is i) ++ 93 ∷ [])
  compact-recarry (obj no_members) = refl
  compact-recarry (obj (member k t ms)) = λ i. 123 ∷ (quoted k ++ (58 ∷ ((compact-recarry t i ++ compact_members-recarry ms i) ++ 125 ∷ [])))

  compact_items-recarry : (is : Items) → compact_items (recarry_items is) ≡ compact_items is
  compact_items-recarry no_items = refl
  compact_items-recarry (item t is) = λ i. 44 ∷ (compact-recarry t i ++ compact_items-recarry is i)

  compact_members-recarry : (ms : Members) → compact_members (recarry_members ms) ≡ compact_members ms
  compact_members-recarry no_members = refl
  compact_members-recarry (member k t ms) = λ i. 44 ∷ (quoted k ++ (58 ∷ (compact-recarry t i ++ compact_members-recarry ms i)))

mutual
  pretty-recarry : (t : Tree) (level : ℕ) → pretty level (recarry t) ≡ pretty level t
  pretty-recarry null level = refl
  pretty-recarry (boolean true) level = refl
  pretty-recarry (boolean false) level = refl
  pretty-recarry (int n c) level = refl
  pretty-recarry (text s) level = refl
  pretty-recarry (list no_items) level = refl
  pretty-recarry (list (item t is)) level =
      λ i. 91 ∷ ((((new_line (level + 1) ++ pretty-recarry t (level + 1) i) ++ pretty_items-recarry is (level + 1) i) ++ new_line level) ++ 93 ∷ [])
  pretty-recarry (obj no_members) level = refl
  pretty-recarry (obj (member k t ms)) level =
      λ i. 123 ∷ ((((((new_line (level + 1) ++ quoted k) ++ codes ": ") ++ pretty-recarry t (level + 1) i) ++ pretty_members-recarry ms (level + 1) i) ++ new_line level) ++ 125 ∷ [])

  pretty_items-recarry : (is : Items) (level : ℕ) → pretty_items level (recarry_items is) ≡ pretty_items level is
  pretty_items-recarry no_items level = refl
  pretty_items-recarry (item t is) level = λ i. 44 ∷ ((new_line level ++ pretty-recarry t level i) ++ pretty_items-recarry is level i)

  pretty_members-recarry : (ms : Members) (level : ℕ) → pretty_members level (recarry_members ms) ≡ pretty_members level ms
  pretty_members-recarry no_members level = refl
  pretty_members-recarry (member k t ms) level = λ i. 44 ∷ ((((new_line level ++ quoted k) ++ codes ": ") ++ pretty-recarry t level i) ++ pretty_members-recarry ms level i)

-- carriers are not printed
pub compact-same : (t u : Tree) → recarry t ≡ recarry u → compact t ≡ compact u
compact-same t u e = sym (compact-recarry t) ∙ ap compact e ∙ compact-recarry u

pub pretty-same : (t u : Tree) (level : ℕ) → recarry t ≡ recarry u → pretty level t ≡ pretty level u
pretty-same t u level e = sym (pretty-recarry t level) ∙ ap (pretty level) e ∙ pretty-recarry u level
