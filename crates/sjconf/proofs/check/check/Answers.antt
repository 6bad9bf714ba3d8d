use Rattle.std.proofs.Common.{rules, ◌≡◌, Bool, true, false, List, [], ◌∷◌, refl, string_bytes}
use Rattle.sj_text_core.specs.Tree.{Tree}
use Rattle.sj_document.specs.Document.{document_tree}
use Rattle.std.specs.List.{list_all}
use Rattle.sjconf.specs.Demands.{AllMet, Judged}
use Rattle.sjconf.specs.declared.demand.Demand.{Demand}
use Rattle.sjconf.proofs.check.check.Goals as goal

all-met : (t : Tree) (ds : List Demand) (bs : List Bool) → Judged t ds bs → list_all (λ b. b) bs ≡ true → AllMet t ds
all-met t [] [] js e = tt
all-met t [] (b ∷ bs) js e = absurd js
all-met t (d ∷ ds) [] js e = absurd js
all-met t (d ∷ ds) (true ∷ bs) js e = (js.0.0 refl, all-met t ds bs js.1 e)
all-met t (d ∷ ds) (false ∷ bs) js e = cc

pub returns : goal.returns
returns c =
    let all : list_all (λ b. b) c.in_ok-verdicts.verdicts.items ≡ true = search (rules, c.are_true.ensures, c.deref.ensures, c.if-not-are_true.false) in
    all-met (document_tree string_bytes c.args.made.whole.now) c.args.demands.now c.in_ok-verdicts.verdicts.items c.in_ok-verdicts.ensures all
