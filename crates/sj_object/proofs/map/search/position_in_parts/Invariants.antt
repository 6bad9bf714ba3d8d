use Rattle.std.proofs.Common.{◌≡◌, ◌+◌, ◌-◌, ◌%◌, ◌≤◌, ◌^◌, ◌++◌, ℕ, drop, length}
use Rattle.sj_object.specs.Entries.{entry_texts, entries_of}
use Rattle.sj_object.specs.Holes.{raised_by}
use Rattle.sj_object.specs.inner.Holes.{lowered_by}
use Rattle.sj_object.specs.Index.{hashes_in}
use Rattle.sj_object.proofs.Walked.{IsAt, count}
use Rattle.sj_object.proofs.map.search.position_in_parts.Given as goal

-- the walk stands at a place of a member that is there, no member behind has the text, and those of the bucket behind were counted. The holes that were passed are behind the place
abbrev pub invariant-loop-place : goal.invariant-loop-place
invariant-loop-place g l = record {
  within : l.place ≤ length l.table.hashes.items;
  passed : l.passed ≤ length l.table.holes.items;
  beside : (p : ℕ) → p ≤ l.place → lowered_by (drop l.passed l.table.holes.items) p ≡ lowered_by l.table.holes.items p;
  there : l.place ≡ raised_by l.table.holes.items (lowered_by l.table.holes.items l.place);
  stands : IsAt (2 ^ l.table.bits) (l.hash % 2 ^ l.table.bits) l.text (hashes_in l.table) (entry_texts (entries_of g.K.KeyText.text_of (l.front ++ l.back))) (lowered_by l.table.holes.items l.place - l.table.gone);
  counted : l.steps ≡ l.fn.steps + count (2 ^ l.table.bits) (l.hash % 2 ^ l.table.bits) (hashes_in l.table) (lowered_by l.table.holes.items l.place - l.table.gone);
}

abbrev pub decreases-loop-place : goal.decreases-loop-place
decreases-loop-place g l = l.place
