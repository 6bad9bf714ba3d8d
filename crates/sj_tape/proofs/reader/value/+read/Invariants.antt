use Rattle.std.proofs.Common.{◌*◌, ◌+◌, ◌-◌, ◌≤◌, length}
use Rattle.sj_tape.specs.inner.Gives.{EndsUtf8}
use Rattle.sj_tape.specs.Marks.{packed_marks}
use Rattle.sj_text_core.specs.inner.Parse.{parts_at, read_value, read_member}
use Rattle.sj_tape.proofs.Parts.{Progress, item_flats, member_flats}
use Rattle.sj_tape.proofs.reader.value.+read.Given as goal

abbrev pub decreases-value : goal.decreases-value
decreases-value l = 5 * l.depth + 1

abbrev pub decreases-other_value : goal.decreases-other_value
decreases-other_value l = 5 * l.depth

abbrev pub decreases-array : goal.decreases-array
decreases-array l = 5 * l.depth + 4

abbrev pub decreases-object : goal.decreases-object
decreases-object l = 5 * l.depth + 4

abbrev pub decreases-items : goal.decreases-items
decreases-items l = 5 * l.depth + 3

abbrev pub decreases-members : goal.decreases-members
decreases-members l = 5 * l.depth + 3

abbrev pub decreases-member : goal.decreases-member
decreases-member l = 5 * l.depth + 2

abbrev pub invariant-items-loop-after : goal.invariant-items-loop-after
invariant-items-loop-after l = record {
  room : length l.rest + l.len ≤ length l.fn.bytes;
  ends : EndsUtf8 l.rest;
  progress : Progress item_flats (parts_at 93 (read_value l.depth) (length l.fn.bytes - l.len) l.rest)
      (parts_at 93 (read_value l.depth) (length l.fn.bytes) l.fn.bytes)
      (packed_marks l.initial.nodes.items) (packed_marks l.nodes.items) l.len;
}

abbrev pub decreases-items-loop-after : goal.decreases-items-loop-after
decreases-items-loop-after l = length l.rest

abbrev pub invariant-members-loop-after : goal.invariant-members-loop-after
invariant-members-loop-after l = record {
  room : length l.rest + l.len ≤ length l.fn.bytes;
  ends : EndsUtf8 l.rest;
  progress : Progress member_flats (parts_at 125 (read_member (read_value l.depth)) (length l.fn.bytes - l.len) l.rest)
      (parts_at 125 (read_member (read_value l.depth)) (length l.fn.bytes) l.fn.bytes)
      (packed_marks l.initial.nodes.items) (packed_marks l.nodes.items) l.len;
}

abbrev pub decreases-members-loop-after : goal.decreases-members-loop-after
decreases-members-loop-after l = length l.rest
