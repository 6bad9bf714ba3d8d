-- Lists of nodes that are no preorder.
use Rattle.std.proofs.Common.{[], ◌∷◌, codes}
use Rattle.sj_text_core.specs.Nodes.{nothing, string, array, object, IsPreorder}

-- no node, and two trees
not_preorder-nothing : IsPreorder [] → ⊥
not_preorder-nothing h = cc h

not_preorder-two : IsPreorder (nothing ∷ nothing ∷ []) → ⊥
not_preorder-two h = cc h

-- an item that is not there, and one that is not counted
not_preorder-too_few : IsPreorder (array 1 0 ∷ []) → ⊥
not_preorder-too_few h = cc h

not_preorder-too_many : IsPreorder (array 0 1 ∷ nothing ∷ []) → ⊥
not_preorder-too_many h = cc h

-- a count of nodes that is not theirs
not_preorder-count : IsPreorder (array 1 2 ∷ nothing ∷ []) → ⊥
not_preorder-count h = cc h

-- a key that is no text, and a member without a value
not_preorder-key : IsPreorder (object 1 2 ∷ nothing ∷ nothing ∷ []) → ⊥
not_preorder-key h = cc h

not_preorder-member : IsPreorder (object 1 1 ∷ string (codes "k") ∷ []) → ⊥
not_preorder-member h = cc h
