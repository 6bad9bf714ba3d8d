use Rattle.std.proofs.Common.{◌++◌, ◌∷◌, [], sym, ap, ◌∙◌, append_assoc}
use Rattle.std.specs.Vec.Iter.{into_iter_items}
use Rattle.sj_document.proofs.Makes.{each_more}
use Rattle.sj_document.proofs.value.make.all_into.Goals as goal

pub loop-value-preserved : goal.loop-value-preserved
loop-value-preserved g c =
    let before = c.loop-value.yielded in
    record {
      made = each_more (λ d x. g.X.Into.converts x d) c.loop-value.items.items c.push.new.self.items before c.into.result c.in-Some.value c.loop-value.invariant.made c.into.ensures c.in_ok-push.ensures.items;
      all = c.loop-value.invariant.all ∙ ap (λ r. before ++ r) c.in-Some.ensures.steps.0 ∙ sym (append_assoc before (c.in-Some.value ∷ []) (into_iter_items c.next.new.self));
    }
