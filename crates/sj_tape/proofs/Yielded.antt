-- What an iterator over parts gives, by the trees alone.
use Rattle.std.proofs.Common.{ℕ, List, Option, Some, None, Bor}
use Rattle.core.specs.Iterator.{YieldsFirstBy}
use Rattle.sj_tape.specs.Value.{tape_tree, tape_part}
use Rattle.sj_tape.specs.declared.value.Value.{Value}
use Rattle.sj_tape.specs.declared.array.Iter.{Iter}
use Rattle.sj_tape.specs.declared.object.Iter.{Iter as MemberIter}
use Rattle.sj_tape.specs.Items.{items_ahead, items_parts_ahead}
use Rattle.sj_tape.specs.Members.{members_ahead, members_parts_ahead}
use Rattle.sj_tape.proofs.Chosen.{item_step, items_end, member_step, members_end}

pub item_yields : (s : Iter) (r : Option Value) (t : Iter) → YieldsFirstBy tape_part items_parts_ahead s r t → YieldsFirstBy tape_tree items_ahead s r t
item_yields s None t h = (items_end s.repeats (items_ahead s) h.0, items_end t.repeats (items_ahead t) h.1)
item_yields s (Some v) t h = item_step s.repeats t.repeats (tape_part v) (items_ahead s) (items_ahead t) h

pub member_yields : (s : MemberIter) (r : Option (Bor (List ℕ) × Value)) (t : MemberIter) → YieldsFirstBy (λ (p : Bor (List ℕ) × Value). (p.0.now, tape_part p.1)) members_parts_ahead s r t → YieldsFirstBy (λ (p : Bor (List ℕ) × Value). (p.0.now, tape_tree p.1)) members_ahead s r t
member_yields s None t h = (members_end s.repeats (members_ahead s) h.0, members_end t.repeats (members_ahead t) h.1)
member_yields s (Some p) t h = member_step s.repeats t.repeats p.0.now (tape_part p.1) (members_ahead s) (members_ahead t) h
