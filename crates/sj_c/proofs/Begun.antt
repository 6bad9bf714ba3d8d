-- Lines that are answered into an output that had nothing.
use Rattle.std.proofs.Common.{◌≡◌, ℕ, List, [], length, subst}
use Rattle.sj_text_core.specs.Tree.{Tree}
use Rattle.sj_text_core.specs.declared.repeats.Repeats.{Repeats}
use Rattle.sj_run.specs.Answered.{AnswersLines, PassesLines}
use Rattle.sj_c.specs.Lines.{PassesAlone}

pub answers_alone : (d u : Repeats × Tree) (ls : List (List ℕ)) (old new : List ℕ) → old ≡ [] → AnswersLines d ls u old new → AnswersLines d ls u [] new
answers_alone d u ls old new none a = subst (λ bytes. AnswersLines d ls u bytes new) none a

pub passes_alone : (d : Repeats × Tree) (ls : List (List ℕ)) (old : List ℕ) → old ≡ [] → PassesLines d ls (length old) → PassesAlone d ls
passes_alone d ls old none p = record { passes = subst (λ bytes. PassesLines d ls (length bytes)) none p }
