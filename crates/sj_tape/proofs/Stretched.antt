-- Stretches of nodes, by where they begin and end.
use Rattle.std.proofs.Common.{◌≡◌, ℕ, zero, suc, ◌+◌, ◌-◌, ◌^◌, ◌<◌, ◌≤◌, List, [], ◌∷◌, take, drop, length, refl, sym, ap, ◌∙◌, arith}
use Rattle.std.proofs.lemmas.List.{length-take-le, length-drop, take-take, drop-take, drop-drop}
use Rattle.sj_text_core.specs.Nodes.{Mark, nothing, tree_of}
use Rattle.sj_text_core.specs.Tree.{null}
use Rattle.sj_tape.specs.Stretches.{nodes_in}
use Rattle.sj_tape.specs.Whole.{all_nodes}
use Rattle.sj_tape.specs.declared.nodes.Nodes.{Nodes}

pub long : (ns : List Mark) (from end : ℕ) → end ≤ length ns → length (drop from (take end ns)) ≡ end - from
long ns from end h = length-drop from (take end ns) ∙ ap (λ n. n - from) (length-take-le end ns h)

-- of a stretch of a stretch
pub inner : (ns : List Mark) (from end i n : ℕ) → from + n ≤ end → drop (from + i) (take (from + n) ns) ≡ drop i (take n (drop from (take end ns)))
inner ns from end i n h =
    sym (drop-drop i from (take (from + n) ns)) ∙ ap (λ l. drop i (drop from l)) (sym (take-take (from + n) end ns h)) ∙ ap (λ l. drop i l) (drop-take from n (take end ns))

-- the nodes of a stretch are few enough to be counted
pub few : (ns : Nodes) → length (nodes_in ns) < 2 ^ 64
unfolding nodes_in
few ns = omega (arith, long (all_nodes ns.lists.now) ns.from ns.end ns.within, ns.fits)

nil_take : (n : ℕ) → take {A = Mark} n [] ≡ []
nil_take zero = refl
nil_take (suc n) = refl

nil_drop : (n : ℕ) → drop {A = Mark} n [] ≡ []
nil_drop zero = refl
nil_drop (suc n) = refl

null_in : (from end : ℕ) → tree_of (drop from (take end (nothing ∷ []))) ≡ null
null_in from zero = ap (λ l. tree_of l) (nil_drop from)
null_in zero (suc end) = ap (λ l. tree_of (nothing ∷ l)) (nil_take end)
null_in (suc from) (suc end) = ap (λ l. tree_of (drop from l)) (nil_take end) ∙ ap (λ l. tree_of l) (nil_drop from)

-- a stretch of the one node of a null is a null
pub null_alone : (ns : Nodes) → all_nodes ns.lists.now ≡ nothing ∷ [] → tree_of (nodes_in ns) ≡ null
unfolding nodes_in
null_alone ns alone = ap (λ l. tree_of (drop ns.from (take ns.end l))) alone ∙ null_in ns.from ns.end
