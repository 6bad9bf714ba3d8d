-- Bytes that go on, and go on once more.
use Rattle.std.proofs.Common.{◌≡◌, ℕ, List, ◌++◌, ap, ◌∙◌, append_assoc}
use Rattle.sj_text_core.specs.inner.Begun.{IsBegunBy}

pub begun : (old more new : List ℕ) → new ≡ old ++ more → IsBegunBy old new
begun old more new e = record { more = more; goes_on = e }

pub begun-on : (old mid new : List ℕ) → IsBegunBy old mid → IsBegunBy mid new → IsBegunBy old new
begun-on old mid new a b = record { more = a.more ++ b.more; goes_on = b.goes_on ∙ ap (λ l. l ++ b.more) a.goes_on ∙ append_assoc old a.more b.more }
