-- Some readable text begins with no bytes.
use Rattle.std.proofs.Common.{[], refl, codes, lit≤}
use Rattle.sj_text_core.specs.Tree.{null}
use Rattle.sj_text_core.specs.Grammar.{Spells}
use Rattle.sj_fault.specs.Begin.{IsBegin}

pub begin-none : IsBegin []
begin-none =
    let spaced : Spells (codes "null") null = record { before = []; word = codes "null"; after = []; is = refl; blank_before = tt; spelled = refl; blank_after = tt } in
    (codes "null", (null, spaced, lit≤ tt))
