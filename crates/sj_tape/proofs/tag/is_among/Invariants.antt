use Rattle.std.proofs.Common.{◌≡◌, ◌||◌, drop}
use Rattle.sj_tape.specs.inner.Tags.{has_tag}
use Rattle.sj_tape.proofs.tag.is_among.Given as goal

abbrev pub invariant-loop-other : goal.invariant-loop-other
invariant-loop-other l = l.among || has_tag l.tag (drop l.other-index l.tags) ≡ has_tag l.tag l.tags
