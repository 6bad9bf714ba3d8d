use Rattle.std.proofs.Common.{◌≡◌, nat_cmp, IsUtf8}
use Rattle.std.specs.Cmp.Lexicographic.{slice_cmp}
use Rattle.std.specs.Str.Iter.{chars_rest}
use Rattle.sj_canonical.specs.Canonical.{units}
use Rattle.sj_canonical.proofs.order.compare_units.Given as goal

abbrev pub invariant-loop-one : goal.invariant-loop-one
invariant-loop-one l = record {
  first : IsUtf8 (chars_rest l.first);
  second : IsUtf8 (chars_rest l.second);
  same : slice_cmp nat_cmp (units (chars_rest l.first)) (units (chars_rest l.second)) ≡ slice_cmp nat_cmp (units l.fn.left) (units l.fn.right);
}
