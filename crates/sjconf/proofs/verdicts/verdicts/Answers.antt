use Rattle.std.proofs.Common.{◌≡◌, ◌+◌, take, Bool, List, [], ◌∷◌, ◌++◌, sym, ap, ◌∙◌, subst, rules, arith, string_bytes}
use Rattle.std.proofs.lemmas.List.{take_more}
use Rattle.std.specs.Prelude.{◌↔◌, IsTrue}
use Rattle.sj_text_core.specs.Tree.{Tree}
use Rattle.sj_document.specs.Document.{document_tree}
use Rattle.sjconf.specs.Demands.{Judged, IsMet}
use Rattle.sjconf.specs.declared.demand.Demand.{Demand}
use Rattle.sjconf.proofs.verdicts.verdicts.Goals as goal

judged-append : (t : Tree) (ds : List Demand) (bs : List Bool) (d : Demand) (b : Bool) → Judged t ds bs → (IsTrue b ↔ IsMet d t) → Judged t (ds ++ d ∷ []) (bs ++ b ∷ [])
judged-append t [] [] d b js j = (j, tt)
judged-append t [] (x ∷ bs) d b js j = absurd js
judged-append t (x ∷ ds) [] d b js j = absurd js
judged-append t (x ∷ ds) (y ∷ bs) d b js j = (js.0, judged-append t ds bs d b js.1 j)

pub loop-demand-preserved : goal.loop-demand-preserved
loop-demand-preserved c =
    let t = document_tree string_bytes c.args.document.now in
    let i = c.loop-demand.demand-index in
    let ds = c.args.demands.now in
    let d = c.demand-item.result in
    let more : take (i + 1) ds ≡ take i ds ++ d ∷ [] =
    take_more ds i d (search rules) ∙ ap (λ (x : Demand). take i ds ++ x ∷ []) (sym (search (rules, c.demand-item.is))) in
    let pushed : c.push.new.self.items ≡ c.loop-demand.verdicts.items ++ c.is_met.result ∷ [] = search (rules, c.in_ok-push.ensures) in
    subst (λ (xs : List Demand). Judged t xs c.push.new.self.items) (sym more)
    (subst (λ (bs : List Bool). Judged t (take i ds ++ d ∷ []) bs) (sym pushed)
    (judged-append t (take i ds) c.loop-demand.verdicts.items d c.is_met.result c.loop-demand.invariant c.is_met.ensures))
