use Rattle.std.proofs.Common.{map, ap}
use Rattle.sj_patch.specs.Meant.{meant}
use Rattle.sj_patch.specs.inner.Noted.{token_meant}
use Rattle.sj_patch.proofs.Noting.{becomes-noted, none-noted, map-none}
use Rattle.sj_patch.proofs.differences.Differences.between.Goals as goal

pub returns-clause-becomes : goal.returns-clause-becomes
returns-clause-becomes g c = becomes-noted _ _ _ _ _ (ap (map token_meant) c.new.ensures.items) (ap (map (meant g.T.KeyText.text_of)) c.new-2.ensures.items) c.in_ok-compare.ensures.notes

pub returns-clause-none : goal.returns-clause-none
returns-clause-none g c = λ s. map-none (meant g.T.KeyText.text_of) _ (none-noted _ _ _ _ _ (ap (map token_meant) c.new.ensures.items) (ap (map (meant g.T.KeyText.text_of)) c.new-2.ensures.items) c.in_ok-compare.ensures.notes s)
