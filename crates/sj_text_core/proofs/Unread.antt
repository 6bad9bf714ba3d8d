-- What is not read is not readable.
use Rattle.std.proofs.Common.{◌≢◌, ℕ, List, IsUtf8, Err, refl}
use Rattle.std.specs.Prelude.{IsErrOf, ◌↔◌}
use Rattle.sj_text_core.specs.Grammar.{IsReadable}
use Rattle.sj_text_core.specs.declared.error.ErrorKind.{ErrorKind}
use Rattle.sj_text_core.specs.declared.error.ErrorKind.TheVariants.{InvalidUtf8, Syntax, LoneSurrogate, Float, NumberTooLarge, TooDeep, OutOfMemory}
use Rattle.sj_text_core.proofs.Proper.{spells_utf8}

pub unreadable : {A : Type 0} (k : ErrorKind) (b : List ℕ) → (IsErrOf {T = A} (Err k) InvalidUtf8 ↔ (IsUtf8 b → ⊥))
    → (k ≢ InvalidUtf8 → k ≢ OutOfMemory → IsReadable b → ⊥) → k ≢ OutOfMemory → IsReadable b → ⊥
unreadable InvalidUtf8 b u h n r = u.0 refl (spells_utf8 b r.0 r.1)
unreadable Syntax b u h n r = h (λ e. cc) n r
unreadable LoneSurrogate b u h n r = h (λ e. cc) n r
unreadable Float b u h n r = h (λ e. cc) n r
unreadable NumberTooLarge b u h n r = h (λ e. cc) n r
unreadable TooDeep b u h n r = h (λ e. cc) n r
unreadable OutOfMemory b u h n r = absurd (n refl)
