use Rattle.std.proofs.Common.{refl}
use Rattle.sj_document.proofs.Arrays.{get_nth}
use Rattle.sj_document.proofs.value.Document.item_of.Goals as goal

pub returns : goal.returns
returns g c = (
  refl,
  record {
    writes_back = tt;
    value = get_nth g.T.KeyText.text_of (λ v. v.now) c.args.items.now.items c.args.index c.get_mut.result c.get_mut.ensures.item.3;
  },
)
