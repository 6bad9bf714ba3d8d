use Rattle.std.proofs.Common.{ap, is_lt}
use Rattle.std.specs.String.{string_cmp_total}
use Rattle.std.proofs.lemmas.List.MinMax.{ranks_by}
use Rattle.std.proofs.lemmas.List.Sorted.{answers_always}
use Rattle.sj_document.specs.Makes.{Pair}
use Rattle.sj_document.proofs.value.make.in_order.Goals as goal

pub returns-clause-sorted : goal.returns-clause-sorted
returns-clause-sorted g c = c.in_ok-sort_by.ensures.sorted _ (ranks_by string_cmp_total (λ (p : Pair). p.0)) (answers_always _ _ _ (λ f a r f' k. ap is_lt k.met))
