-- The grammar, where a string is what the reader takes for one: its characters are grouped later.
use Rattle.std.proofs.Common.{◌≡◌, ℕ, true, false, List, [], ◌∷◌, ◌++◌, Some, codes}
use Rattle.sj_text_core.specs.Tree.{Tree, null, boolean, int, text, list, obj, Items, no_items, item, Members, no_members, member}
use Rattle.sj_text_core.specs.Grammar.{IsBlank, Spaced, IsNumber}
use Rattle.sj_text_core.specs.inner.Parse.{read_text}

pub record IsString (b : List ℕ) (s : List ℕ) : Type 0 where
  pub inside : List ℕ
  pub rest : List ℕ
  pub is : b ≡ 34 ∷ (inside ++ 34 ∷ [])
  pub was : read_text (inside ++ (34 ∷ rest)) ≡ Some (s, rest)

-- sections 3 to 5
abbrev mutual
  -- b is a spelling of t, with no whitespace around it
  pub Spelling : Tree → List ℕ → Type 0
  Spelling null b = b ≡ codes "null"
  Spelling (boolean true) b = b ≡ codes "true"
  Spelling (boolean false) b = b ≡ codes "false"
  Spelling (int n c) b = IsNumber b (int n c)
  Spelling (text s) b = IsString b s
  Spelling (list is) b = (inside : List ℕ) × (b ≡ 91 ∷ (inside ++ 93 ∷ [])) × SpellsItems is inside
  Spelling (obj ms) b = (inside : List ℕ) × (b ≡ 123 ∷ (inside ++ 125 ∷ [])) × SpellsMembers ms inside

  -- the items, with `,` between each two
  pub SpellsItems : Items → List ℕ → Type 0
  SpellsItems no_items b = IsBlank b
  SpellsItems (item t is) b = (first : List ℕ) × (rest : List ℕ) × (b ≡ first ++ rest) × Spaced (λ w. Spelling t w) first × MoreItems is rest

  pub MoreItems : Items → List ℕ → Type 0
  MoreItems no_items b = b ≡ []
  MoreItems (item t is) b = (first : List ℕ) × (rest : List ℕ) × (b ≡ 44 ∷ (first ++ rest)) × Spaced (λ w. Spelling t w) first × MoreItems is rest

  -- the members, each a string, `:` and a value
  pub SpellsMembers : Members → List ℕ → Type 0
  SpellsMembers no_members b = IsBlank b
  SpellsMembers (member k t ms) b = (key : List ℕ) × (first : List ℕ) × (rest : List ℕ) × (b ≡ key ++ (58 ∷ (first ++ rest)))
      × Spaced (λ w. IsString w k) key × Spaced (λ w. Spelling t w) first × MoreMembers ms rest

  pub MoreMembers : Members → List ℕ → Type 0
  MoreMembers no_members b = b ≡ []
  MoreMembers (member k t ms) b = (key : List ℕ) × (first : List ℕ) × (rest : List ℕ) × (b ≡ 44 ∷ (key ++ (58 ∷ (first ++ rest))))
      × Spaced (λ w. IsString w k) key × Spaced (λ w. Spelling t w) first × MoreMembers ms rest
