use Rattle.std.proofs.Common.{Some, refl, ap}
use Rattle.sj_lazy.proofs.value.Lazy.own.Goals as goal
use Rattle.sj_lazy.proofs.value.Lazy.own.Goals.{in-Tape+in_ok-value-in-Tape, in-Value-Borrowed+in_ok-value-in-Value-Borrowed}

pub returns-in-Value-Owned-clause-kept : goal.returns-in-Value-Owned-clause-kept
returns-in-Value-Owned-clause-kept g c = rw (c.in-Value-Owned.is, c.in-Value-Owned.field-0-is) refl

pub returns-clause-kept : goal.returns-clause-kept
returns-clause-kept g c = ap Some (elim c.match-self.branch [
  | in-Tape+in_ok-value-in-Tape w ↦ rw (w.in-Tape.is, w.value-is) w.in_ok-value-in-Tape.ensures
  | in-Value-Borrowed+in_ok-value-in-Value-Borrowed w ↦ rw (w.in-Value-Borrowed.is, w.in-Value-Borrowed.field-0-is, w.value-is) w.in_ok-value-in-Value-Borrowed.ensures
])
