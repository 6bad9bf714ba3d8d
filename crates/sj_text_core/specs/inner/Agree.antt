-- What private clauses alone cite beside Agree.
use Rattle.std.specs.Prelude.{◌≡◌, ℕ, true, List, Option, Some, None, MatchOption}
use Rattle.sj_text_core.specs.Tree.{Tree, members_from}
use Rattle.sj_text_core.specs.Find.{find_member}
use Rattle.sj_text_core.specs.Keep.{is_seen}
use Rattle.sj_text_core.specs.Same.{Same}
use Rattle.sj_text_core.specs.Agree.{pair_keys, is_seen_before}

-- both absent, or both there and the same
abbrev pub SameFound : Option Tree → Option Tree → Type 0
SameFound None found = found ≡ None
SameFound (Some t) found = MatchOption found ⊥ (λ u. Same t u)

-- the texts of the first n pairs have the same in both
abbrev pub Agree : ℕ → List (List ℕ × Tree) → List (List ℕ × Tree) → Type 0
Agree n ps qs = (k : List ℕ) → is_seen_before n k ps ≡ true → SameFound (find_member k (members_from ps)) (find_member k (members_from qs))

-- the first pairs have every text of the second
abbrev pub HasTexts : List (List ℕ × Tree) → List (List ℕ × Tree) → Type 0
HasTexts ps qs = (k : List ℕ) → is_seen k (pair_keys qs) ≡ true → is_seen k (pair_keys ps) ≡ true
