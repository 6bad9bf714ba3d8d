-- What packed nodes add to a compact print.
use Rattle.std.proofs.Common.{◌≡◌, Bool, false, ℕ, ◌+◌, ◌<◌, ◌≤◌, List, [], ◌∷◌, ◌++◌, suc, take, length, get_or, refl, sym, ap, ◌∙◌, subst, arith}
use Rattle.std.proofs.Math.ListN.{get_or-map}
use Rattle.std.proofs.lemmas.List.{length-append, length-map}
use Rattle.std.proofs.lemmas.List.Sums.{sum_by_more, sum_by-take-le}
use Rattle.sj_text_core.specs.Nodes.{Mark, flat}
use Rattle.std.specs.List.{prefix_len}
use Rattle.sj_text_core.specs.Print.{quoted, compact}
use Rattle.sj_text_core.specs.Scalars.{static_tree}
use Rattle.sj_text_core.specs.Tree.{Tree}
use Rattle.sj_text_core.specs.declared.static_node.StaticNode.{StaticNode}
use Rattle.sj_text_core.specs.declared.static_node.StaticNode.TheVariants.{Null, Bool as Truth, I64, U64, I128, U128}
use Rattle.sj_print.specs.Printed.{Counts}
use Rattle.sj_print.specs.inner.Printed.{mark_len, marks_len}
use Rattle.sj_print.specs.Layouts.{laid, top}
use Rattle.sj_print.specs.Outputs.{AppendsText}
use Rattle.sj_print.specs.declared.output.count.Count.{Count}
use Rattle.sj_print.specs.inner.Runs.{is_plain}
use Rattle.sj_print.proofs.Ends.{counts, counted}
use Rattle.sj_print.proofs.Escapes.{escaped_all_plain}
use Rattle.sj_print.proofs.Printed.{compact_len}
use Rattle.sj_tape.specs.Marks.{static_mark, packed_mark, packed_marks}
use Rattle.sj_tape.specs.declared.packed.Packed.{Packed}

pub static_len : (s : StaticNode) → mark_len (static_mark s) ≡ length (compact (static_tree s))
static_len Null = refl
static_len (Truth b) = refl
static_len (I64 n) = refl
static_len (U64 n) = refl
static_len (I128 n) = refl
static_len (U128 n) = refl

-- a text that was put is counted
pub counts_text : (a b : Count) (m : Mark) (part : List ℕ) → AppendsText counts a b part → mark_len m ≡ length part → Counts (mark_len m) a b
counts_text a b m part f e = subst (λ n. Counts n a b) (sym e) (counted a b a.total part f refl)

-- one node more
pub marks_len_more : (ps : List Packed) (i : ℕ) (d : Packed) → i < length ps → marks_len (take (i + 1) (packed_marks ps)) ≡ marks_len (take i (packed_marks ps)) + mark_len (packed_mark (get_or ps i d))
marks_len_more ps i d h =
    let more : marks_len (take (i + 1) (packed_marks ps)) ≡ marks_len (take i (packed_marks ps)) + mark_len (get_or (packed_marks ps) i (packed_mark d)) =
    sum_by_more mark_len (packed_marks ps) i (packed_mark d) (omega (arith, h, length-map ps packed_mark)) in
    more ∙ ap (λ m. marks_len (take i (packed_marks ps)) + mark_len m) (get_or-map packed_mark ps i d)

-- a text that needs no escape is longer by its quotes
pub plain_len : (text : List ℕ) → prefix_len is_plain text ≡ length text → length (quoted text) ≡ length text + 2
plain_len text all = ap (λ l. suc (length (l ++ 34 ∷ []))) (escaped_all_plain text all) ∙ omega (arith, length-append text (34 ∷ []))

pub marks_len_within : (ps : List Packed) (i : ℕ) → marks_len (take i (packed_marks ps)) ≤ marks_len (packed_marks ps)
marks_len_within ps i = sum_by-take-le mark_len (packed_marks ps) i

-- a compact print is as long as its nodes tell
pub printed_len : (pretty : Bool) (t : Tree) (ns : List Mark) → pretty ≡ false → ns ≡ flat t → marks_len ns ≡ length (laid (top pretty) t)
printed_len pretty t ns p e = ap (λ l. marks_len l) e ∙ (sym (compact_len t) ∙ ap (λ (b : Bool). length (laid (top b) t)) (sym p))
