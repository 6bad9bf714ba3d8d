use Rattle.std.proofs.Common.{[], ◌∷◌, sym, subst}
use Rattle.sj_document.specs.Document.{document_tree}
use Rattle.sj_patch.specs.inner.Changed.{Does}
use Rattle.sj_patch.specs.declared.change.Change.TheVariants.{Swap}
use Rattle.sj_patch.specs.declared.change.Done.{Done}
use Rattle.sj_patch.specs.declared.reversal.Reversal.TheVariants as reversal
use Rattle.sj_patch.proofs.Reverting.{swapped_back}
use Rattle.sj_patch.proofs.change.change_in.Goals as goal

pub returns-in-Ok-swap : goal.returns-in-Ok-swap
returns-in-Ok-swap g c =
    let t = g.T.KeyText.text_of in
    let k = c.args.token.now in
    let v = c.in-Swap.value in
    let before = document_tree t c.args.holder.now in
    let after = document_tree t c.swap.new.holder in
    let done : Done g.row.T.Denot = record { undo = reversal.Swap; taken = c.in-Ok-swap.taken } in
    let h = c.in-Ok-swap.ensures in
    let does : Does t (Swap v) (k ∷ []) before after done = record {
      made = h.0;
      undo = swapped_back k (document_tree t v) (document_tree t c.in-Ok-swap.taken) before after h.0 h.1;
      answer = tt;
    } in
    subst (λ x. Does t x (k ∷ []) before after done) (sym c.in-Swap.is) does
