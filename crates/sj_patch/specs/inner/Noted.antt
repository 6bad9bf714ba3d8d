-- What a walk over two documents notes: words of private clauses alone.
use Rattle.std.specs.Prelude.{◌≡◌, ℕ, suc, List, [], ◌∷◌, ◌++◌, map, take, drop, replicate, Option, None, Some}
use Rattle.std.specs.Fmt.{decimal}
use Rattle.std.specs.List.{AllByRecursion}
use Rattle.sj_text_core.specs.Tree.{Tree, list, obj, items_from, members_from}
use Rattle.sj_text_core.specs.Find.{find_member}
use Rattle.sj_text_core.specs.Same.{Same}
use Rattle.sj_text_core.specs.Keep.{IsSingle}
use Rattle.sj_patch.specs.Patch.{PlainOperation, add, remove}
use Rattle.sj_patch.specs.Laws.{HasSingleValue}
use Rattle.sj_patch.specs.Locality.{under, IsBelow}
use Rattle.sj_patch.specs.Meant.{meant}
use Rattle.sj_patch.specs.Diff.{Becomes}
use Rattle.sj_patch.specs.declared.differences.Differences.{Differences}
use Rattle.sj_patch.specs.declared.token.Token.{Token}
use Rattle.sj_patch.specs.declared.token.Token.TheVariants.{Key, Position}

-- the text of a token: a key, or the decimal of a position
abbrev pub token_meant : Token → List ℕ
token_meant (Key k) = k.now
token_meant (Position n) = decimal n

-- the tokens that lead to where a walk is
abbrev pub noted_path : {T : Type 0} → Differences T → List (List ℕ)
noted_path d = map token_meant d.place.items

-- the operations that a walk has noted, where t gives the text of a key or a string
abbrev pub noted_by : {T : Type 0} → (T → List ℕ) → Differences T → List PlainOperation
noted_by t d = map (meant t) d.operations.items

-- where no text names two members, t becomes u by operations that can be put below a pointer
pub record Leads (ops : List PlainOperation) (t u : Tree) : Type 0 where
  pub values : AllByRecursion HasSingleValue ops
  pub below : AllByRecursion IsBelow ops
  pub single : IsSingle t
  pub to_single : IsSingle u
  pub becomes : Becomes ops t u

-- what was noted at a place leads from t to v; it is nothing where t is the same as u
pub record Notes (place : List (List ℕ)) (before after : List PlainOperation) (t u v : Tree) : Type 0 where
  pub ops : List PlainOperation
  pub noted : after ≡ before ++ map (under place) ops
  pub leads : Leads ops t v
  pub none : Same t u → ops ≡ []

-- an array of items
abbrev pub array : List Tree → Tree
array ts = list (items_from ts)

-- the first items of the one, then those of the other up to a position, and behind it those of the one
abbrev pub between : ℕ → ℕ → List Tree → List Tree → List Tree
between first end ts us = take first ts ++ drop first (take end us) ++ drop end ts

-- at a position, so many items go
abbrev pub removals_at : ℕ → ℕ → List PlainOperation
removals_at n count = replicate count (remove (decimal n ∷ []))

-- from a position on, items come
abbrev pub additions : ℕ → List Tree → List PlainOperation
additions n [] = []
additions n (t ∷ ts) = add (decimal n ∷ []) t ∷ additions (suc n) ts

-- the texts of members with their values
abbrev pub Pairs : Type 0
Pairs = List (List ℕ × Tree)

-- an object of pairs
abbrev pub object : Pairs → Tree
object ps = obj (members_from ps)

abbrev pub new_first : Option Tree → List ℕ × Tree → Pairs → Pairs
new_first None q qs = q ∷ qs
new_first (Some t) q qs = qs

-- the pairs of the second whose texts the first have not
abbrev pub unmatched : Pairs → Pairs → Pairs
unmatched ps [] = []
unmatched ps (q ∷ qs) = new_first (find_member q.0 (members_from ps)) q (unmatched ps qs)

-- members come
abbrev pub new_members : Pairs → List PlainOperation
new_members ps = map (λ p. add (p.0 ∷ []) p.1) ps
