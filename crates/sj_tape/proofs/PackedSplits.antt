-- Packed nodes and the trees, items and members at their front.
use Rattle.std.proofs.Common.{◌≡◌, ◌<◌, ◌≤◌, Bool, false, nat_eq, List, take, length, get_or, sym, ap, ◌∙◌, subst, arith}
use Rattle.std.proofs.lemmas.List.{take-map, length-map, get_or_default}
use Rattle.std.proofs.Math.ListN.{get_or-map}
use Rattle.sj_text_core.specs.Nodes.{nothing, IsPreorder, width}
use Rattle.sj_tape.specs.Marks.{packed_mark, packed_marks}
use Rattle.sj_tape.specs.inner.Fronts.{BeginsTree}
use Rattle.sj_tape.specs.declared.packed.Packed.{Packed}
use Rattle.sj_tape.specs.declared.packed.Packed.TheVariants.{Null}
use Rattle.sj_tape.proofs.Splits.{some_first, first_width}

-- packed nodes that are some
pub some_packed : (ps : List Packed) (b : Bool) → b ≡ nat_eq (length ps) 0 → b ≡ false → 0 < length (packed_marks ps)
some_packed ps b e f = omega (arith, some_first ps b e f, length-map ps packed_mark)

-- a tree has a node
pub begins_some : (ps : List Packed) → BeginsTree (packed_marks ps) → 0 < length ps
begins_some ps b = omega (arith, (first_width (packed_marks ps) b).some, length-map ps packed_mark)

-- what the first node tells where a tree begins
pub record PackedFirst (ps : List Packed) (first : Packed) : Type 0 where
  pub fits : width (packed_mark first) ≤ length ps
  pub whole : IsPreorder (packed_marks (take (width (packed_mark first)) ps))

pub packed_first : (ps : List Packed) (first : Packed) → first ≡ get_or ps 0 first → BeginsTree (packed_marks ps) → PackedFirst ps first
packed_first ps first is b =
    let f = first_width (packed_marks ps) b in
    let same : get_or ps 0 Null ≡ first = get_or_default ps 0 Null first (begins_some ps b) ∙ sym is in
    let w : width (get_or (packed_marks ps) 0 nothing) ≡ width (packed_mark first) = ap (λ m. width m) (get_or-map packed_mark ps 0 Null ∙ ap (λ n. packed_mark n) same) in
    record {
      fits = omega (arith, f.fits, length-map ps packed_mark, w);
      whole = subst (λ l. IsPreorder l) (ap (λ n. take n (packed_marks ps)) w ∙ take-map packed_mark (width (packed_mark first)) ps) f.whole;
    }
