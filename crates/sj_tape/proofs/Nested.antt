-- Trees and arrays that stand among the nodes of a tree.
use Rattle.std.proofs.Common.{◌≡◌, Some, ℕ, zero, suc, ◌+◌, ◌<◌, ◌≤◌, List, [], ◌∷◌, length, take, drop, get_or, sym, ap, ◌∙◌, subst, arith}
use Rattle.std.proofs.lemmas.List.{get_or-drop, get_or-take, drop-drop}
use Rattle.sj_text_core.specs.Tree.{items_len, members_len}
use Rattle.sj_text_core.specs.Nodes.{Mark, nothing, width, members_in, IsPreorder}
use Rattle.sj_text_core.specs.inner.Nodes.{AreMembers}
use Rattle.sj_tape.specs.inner.Fronts.{BeginsTree, AllBegin}
use Rattle.sj_tape.specs.inner.Marks.{array_len, object_len}
use Rattle.sj_tape.specs.Parts.{items_in}
use Rattle.sj_tape.specs.inner.Parts.{AreItemNodes}
use Rattle.sj_tape.proofs.Containers.{array_of, object_of}
use Rattle.sj_tape.proofs.Preorders.{AllBegin-preorder}
use Rattle.sj_tape.proofs.Splits.{tree_at, some_width}

begins_at : (ns : List Mark) → AllBegin ns → (at : ℕ) → at < length ns → BeginsTree (drop at ns)
begins_at [] a at l = absurd (omega (arith, l))
begins_at (m ∷ ns) a zero l = a.0
begins_at (m ∷ ns) a (suc at) l = begins_at ns a.1 at (omega (arith, l))

-- the tree that begins at a node
pub record TreeIn (ns : List Mark) (at : ℕ) : Type 0 where
  pub wide : 1 ≤ width (get_or ns at nothing)
  pub fits : at + width (get_or ns at nothing) ≤ length ns
  pub whole : IsPreorder (drop at (take (at + width (get_or ns at nothing)) ns))

pub tree_in : (ns : List Mark) (at : ℕ) → IsPreorder ns → at < length ns → TreeIn ns at
tree_in ns at p l = let tree = tree_at at ns (begins_at ns (AllBegin-preorder ns p) at l) in record { wide = some_width (get_or ns at nothing); fits = tree.fits; whole = tree.whole }

-- a tree among the nodes, and those behind its first node
pub record PartAt (ns : List Mark) (at w : ℕ) : Type 0 where
  pub whole : IsPreorder (drop at (take (at + w) ns))
  pub first : get_or (drop at (take (at + w) ns)) 0 nothing ≡ get_or ns at nothing
  pub behind : drop (at + 1) (take (at + w) ns) ≡ drop 1 (drop at (take (at + w) ns))

part_at : (ns : List Mark) (at w : ℕ) → TreeIn ns at → w ≡ width (get_or ns at nothing) → PartAt ns at w
part_at ns at w tree wide = record {
  whole = subst (λ n. IsPreorder (drop at (take (at + n) ns))) (sym wide) tree.whole;
  first = get_or-drop at (take (at + w) ns) 0 nothing ∙ ap (λ k. get_or (take (at + w) ns) k nothing) (omega arith) ∙ get_or-take (at + w) ns at nothing (omega (arith, wide, tree.wide));
  behind = ap (λ k. drop k (take (at + w) ns)) (omega arith) ∙ sym (drop-drop 1 at (take (at + w) ns));
}

-- what stands behind an array's node among others
pub record ArrayAt (ns : List Mark) (at w len : ℕ) : Type 0 where
  pub are : AreItemNodes (drop (at + 1) (take (at + w) ns))
  pub counted : len ≡ items_len (items_in (drop (at + 1) (take (at + w) ns)))

pub array_there : (ns : List Mark) (at w len : ℕ) → TreeIn ns at → w ≡ width (get_or ns at nothing) → Some len ≡ array_len (get_or ns at nothing) → ArrayAt ns at w len
array_there ns at w len tree wide e =
    let part = part_at ns at w tree wide in
    let of = array_of (drop at (take (at + w) ns)) (drop (at + 1) (take (at + w) ns)) len part.whole (e ∙ ap array_len (sym part.first)) part.behind in
    record { are = of.are; counted = of.counted }

-- what stands behind an object's node among others
pub record ObjectAt (ns : List Mark) (at w len : ℕ) : Type 0 where
  pub are : AreMembers (drop (at + 1) (take (at + w) ns))
  pub counted : len ≡ members_len (members_in (drop (at + 1) (take (at + w) ns)))

pub object_there : (ns : List Mark) (at w len : ℕ) → TreeIn ns at → w ≡ width (get_or ns at nothing) → Some len ≡ object_len (get_or ns at nothing) → ObjectAt ns at w len
object_there ns at w len tree wide e =
    let part = part_at ns at w tree wide in
    let of = object_of (drop at (take (at + w) ns)) (drop (at + 1) (take (at + w) ns)) len part.whole (e ∙ ap object_len (sym part.first)) part.behind in
    record { are = of.are; counted = of.counted }
