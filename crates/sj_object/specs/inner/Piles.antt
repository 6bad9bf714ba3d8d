-- The pile of the containers that were made of the nodes behind, the nearest on top. Only private clauses cite it.
use Rattle.std.specs.Prelude.{◌≡◌, ℕ, zero, suc, ◌<◌, ◌≤◌, if◌then◌else◌, List, [], ◌∷◌, ◌++◌, map, length, drop, ⊤, bytes_eq}
use Rattle.sj_text_core.specs.Tree.{Tree, null, boolean, int, text, list, obj, items_from, members_from}
use Rattle.sj_text_core.specs.Nodes.{Mark, nothing, truth, number, string, array, object, width, first_tree}
use Rattle.sj_text_core.specs.Keep.{is_seen}
use Rattle.sj_text_core.specs.declared.repeats.Repeats.{Repeats}
use Rattle.sj_text_core.specs.declared.repeats.Repeats.TheVariants.{First, Last}
use Rattle.sj_object.specs.Entries.{Entry}

abbrev pub pile_onto : {V : Type 0} → (V → Tree) → List Tree → List V → List Tree
pile_onto tree below [] = below
pile_onto tree below (v ∷ vs) = pile_onto tree (tree v ∷ below) vs

abbrev pub pile : {V : Type 0} → (V → Tree) → List V → List Tree
pile tree vs = pile_onto tree [] vs

-- ---- one tree

-- the tree of a node: a container's lies on the pile
abbrev pub made_of : Mark → List Tree → Tree
made_of nothing ps = null
made_of (truth b) ps = boolean b
made_of (number n c) ps = int n c
made_of (string s) ps = text s
made_of (array len count) ps = first_tree ps
made_of (object len count) ps = first_tree ps

-- the pile without it
abbrev pub left_of : Mark → List Tree → List Tree
left_of (array len count) ps = drop 1 ps
left_of (object len count) ps = drop 1 ps
left_of _ ps = ps

-- it lies there
abbrev pub IsThere : Mark → List Tree → Type 0
IsThere (array len count) ps = 0 < length ps
IsThere (object len count) ps = 0 < length ps
IsThere _ ps = ⊤

abbrev pub first_mark : List Mark → Mark
first_mark [] = nothing
first_mark (m ∷ ns) = m

-- what stands behind the first tree
abbrev pub behind : List Mark → List Mark
behind ns = drop (width (first_mark ns)) ns

-- a tree begins here, which can be made
abbrev pub CanTake : List Mark → List Tree → Type 0
CanTake ns ps = (0 < length ns) × (width (first_mark ns) ≤ length ns) × IsThere (first_mark ns) ps

-- ---- items

-- the first n trees
abbrev pub taken : ℕ → List Mark → List Tree → List Tree
taken zero ns ps = []
taken (suc n) ns ps = made_of (first_mark ns) ps ∷ taken n (behind ns) (left_of (first_mark ns) ps)

abbrev pub trees_left : ℕ → List Mark → List Tree → List Tree
trees_left zero ns ps = ps
trees_left (suc n) ns ps = trees_left n (behind ns) (left_of (first_mark ns) ps)

abbrev pub CanTakeItems : ℕ → List Mark → List Tree → Type 0
CanTakeItems zero ns ps = ⊤
CanTakeItems (suc n) ns ps = CanTake ns ps × CanTakeItems n (behind ns) (left_of (first_mark ns) ps)

-- ---- members

abbrev pub key_of_mark : Mark → List ℕ
key_of_mark (string s) = s
key_of_mark _ = []

-- the first n members, a text before each value
abbrev pub taken_pairs : ℕ → List Mark → List Tree → List (List ℕ × Tree)
taken_pairs zero ns ps = []
taken_pairs (suc n) ns ps = (key_of_mark (first_mark ns), made_of (first_mark (drop 1 ns)) ps) ∷ taken_pairs n (behind (drop 1 ns)) (left_of (first_mark (drop 1 ns)) ps)

abbrev pub left_pairs : ℕ → List Mark → List Tree → List Tree
left_pairs zero ns ps = ps
left_pairs (suc n) ns ps = left_pairs n (behind (drop 1 ns)) (left_of (first_mark (drop 1 ns)) ps)

abbrev pub CanTakePairs : ℕ → List Mark → List Tree → Type 0
CanTakePairs zero ns ps = ⊤
CanTakePairs (suc n) ns ps = (0 < length ns) × (first_mark ns ≡ string (key_of_mark (first_mark ns))) × CanTake (drop 1 ns) ps × CanTakePairs n (behind (drop 1 ns)) (left_of (first_mark (drop 1 ns)) ps)

-- ---- the members that count

abbrev pub pair_texts : List (List ℕ × Tree) → List (List ℕ)
pair_texts ps = map (λ p. p.0) ps

-- the pairs put behind those that are done, unless their text is there
abbrev pub kept_pairs : List (List ℕ × Tree) → List (List ℕ × Tree) → List (List ℕ × Tree)
kept_pairs done [] = done
kept_pairs done (p ∷ ps) = kept_pairs (if is_seen p.0 (pair_texts done) then done else done ++ p ∷ []) ps

-- the first pair with the text has the value t, in its place; where there is none, the pair goes last
abbrev pub put_pair : List ℕ → Tree → List (List ℕ × Tree) → List (List ℕ × Tree)
put_pair k t [] = (k, t) ∷ []
put_pair k t (p ∷ ps) = if bytes_eq k p.0 then (p.0, t) ∷ ps else p ∷ put_pair k t ps

-- the pairs put in turn
abbrev pub put_in_turn : List (List ℕ × Tree) → List (List ℕ × Tree) → List (List ℕ × Tree)
put_in_turn done [] = done
put_in_turn done (p ∷ ps) = put_in_turn (put_pair p.0 p.1 done) ps

-- the pairs behind those that are done, of each text the one that counts
abbrev pub kept_by : Repeats → List (List ℕ × Tree) → List (List ℕ × Tree) → List (List ℕ × Tree)
kept_by First done ps = kept_pairs done ps
kept_by Last done ps = put_in_turn done ps

-- the entries of a map, each key as its text and each value as its tree
abbrev pub entry_pairs : {K V : Type 0} → (V → Tree) → List (Entry K V) → List (List ℕ × Tree)
entry_pairs {K} {V} tree es = map (λ (e : Entry K V). (e.0.1, tree e.1)) es

-- ---- one node

-- what a node takes off the pile lies there
abbrev pub Needs : List Mark → List Tree → Type 0
Needs [] ps = ⊥
Needs (array len count ∷ ns) ps = CanTakeItems len ns ps
Needs (object len count ∷ ns) ps = CanTakePairs len ns ps
Needs (_ ∷ ns) ps = ⊤

-- the pile after a node
abbrev pub grown : Repeats → List Mark → List Tree → List Tree
grown c (array len count ∷ ns) ps = list (items_from (taken len ns ps)) ∷ trees_left len ns ps
grown c (object len count ∷ ns) ps = obj (members_from (kept_by c [] (taken_pairs len ns ps))) ∷ left_pairs len ns ps
grown c _ ps = ps
