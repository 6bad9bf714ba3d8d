use Rattle.std.proofs.Common.{◌∷◌, ℕ, List, map, sym, ap, ◌∙◌}
use Rattle.sj_text_core.specs.Tree.{Tree}
use Rattle.sj_text_core.specs.declared.repeats.Repeats.{Repeats}
use Rattle.sj_tape.specs.Members.{members_ahead}
use Rattle.sj_tape.proofs.Lookups.{keys-chosen}
use Rattle.sj_tape.proofs.object.KeysIterator.next.Goals as goal

pub returns-clause-steps : goal.returns-clause-steps
returns-clause-steps c =
    let s = c.args.self.now.members in
    sym (keys-chosen s.repeats (members_ahead s)) ∙ ap (map (λ (p : List ℕ × (Repeats × Tree)). p.0)) c.in_ok-key.ensures.steps
    ∙ ap (λ l. c.in_ok-key.key.now ∷ l) (keys-chosen c.next.new.self.repeats (members_ahead c.next.new.self))
