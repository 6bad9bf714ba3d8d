-- One member of a walk over an object of a tape.
use Rattle.std.proofs.Common.{◌≡◌, ℕ, ◌+◌, ◌≤◌, List, ◌∷◌, drop, sym, ◌∙◌, arith}
use Rattle.sj_text_core.specs.Tree.{depth, Members, members_depth, members_len, paired}
use Rattle.sj_text_core.specs.declared.repeats.Repeats.{Repeats}
use Rattle.sj_tape.specs.Members.{members_ahead, members_parts_ahead, chosen_pairs}
use Rattle.sj_tape.specs.Value.{tape_tree, tape_choice, tape_part}
use Rattle.sj_tape.specs.declared.object.Iter.{Iter}
use Rattle.sj_tape.specs.declared.value.Value.{Value}
use Rattle.sj_tape.proofs.Chosen.{member_step}
use Rattle.sj_tape.proofs.Compared.{drop_next, length-paired, pair_within, place_within}
use Rattle.sj_tape.proofs.Counted.{member_choice}

-- the member at the place n, which the iterator gives on its way from `it` to `new`
pub record Walked (c : Repeats) (ms : Members) (n : ℕ) (k : List ℕ) (v : Value) (it new : Iter) : Type 0 where
  pub step : members_ahead it ≡ (k, tape_tree v) ∷ members_ahead new
  pub rest : drop (n + 1) (paired ms) ≡ members_ahead new
  pub choice : tape_choice v ≡ c
  pub mine : members_parts_ahead new ≡ chosen_pairs c (members_ahead new)
  pub within : depth (tape_tree v) ≤ members_depth ms
  pub fits : n + 1 ≤ members_len ms

pub walked : (c : Repeats) (ms : Members) (n : ℕ) (k : List ℕ) (v : Value) (it new : Iter) → drop n (paired ms) ≡ members_ahead it → members_parts_ahead it ≡ chosen_pairs c (members_ahead it)
    → members_parts_ahead it ≡ (k, tape_part v) ∷ members_parts_ahead new → Walked c ms n k v it new
walked c ms n k v it new at mine steps =
    let step = member_step it.repeats new.repeats k (tape_part v) (members_ahead it) (members_ahead new) steps in
    let own = member_choice c k (tape_part v) (members_parts_ahead new) (members_ahead it) (members_ahead new) (sym mine ∙ steps) step in
    record {
      step = step;
      rest = drop_next n (paired ms) _ _ (at ∙ step);
      choice = own.0;
      mine = own.1;
      within = pair_within n ms k (tape_tree v) (members_ahead new) (at ∙ step);
      fits = omega (arith, place_within n (paired ms) _ (members_ahead new) (at ∙ step), length-paired ms);
    }
