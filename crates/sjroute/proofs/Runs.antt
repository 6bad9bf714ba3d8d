-- Lines routed one after another.
use Rattle.std.proofs.Common.{◌≡◌, ◌≢◌, ℕ, Bool, true, List, ◌∷◌, Option, Some, None, Result, Ok, Err, IsUtf8, refl, sym, ap, ◌∙◌, subst, inl, inr}
use Rattle.std.specs.Prelude.{◌⊎◌, ◌↔◌, IsTrue}
use Rattle.std.proofs.lemmas.Option.{same_Some}
use Rattle.sj_text_core.specs.Tree.{Tree, IsWithin}
use Rattle.sj_text_core.specs.Grammar.{IsReadable, Spells}
use Rattle.sj_text_core.specs.declared.error.ErrorKind.{ErrorKind}
use Rattle.sj_text_core.specs.declared.error.ErrorKind.TheVariants.{InvalidUtf8, Syntax, LoneSurrogate, Float, NumberTooLarge, TooDeep, OutOfMemory}
use Rattle.sj_text_core.proofs.Proper.{spells_utf8}
use Rattle.sj_stream.specs.Answers.{IsRead, answer_line}
use Rattle.sj_stream.specs.Places.{IsPlaced}
use Rattle.sj_stream.specs.Stream.{Steps, current, text_kept, tells, waiting}
use Rattle.sj_stream.specs.declared.stream.Stream.{Stream}
use Rattle.sj_stream.specs.declared.unread.Unread.{Unread}
use Rattle.sjroute.specs.Routed.{AllTaken, IsBroken, IsMessage, IsUnread, MeetsAny, Routed, TakesMessage, line_to, text_to}
use Rattle.sjroute.specs.declared.routing.Route.{Route}

-- what was routed of all texts, so that what is ahead routed too makes all
abbrev pub GoesOn : List (ℕ × List ℕ) → List Route → List (ℕ × List ℕ) → List Route → Type 0
GoesOn all first ahead now = (last : List Route) → Routed ahead now last → Routed all first last

pub goes-on : (all : List (ℕ × List ℕ)) (first : List Route) (p : ℕ × List ℕ) (old new : List (ℕ × List ℕ)) (rs ms : List Route) → GoesOn all first old rs
    → old ≡ p ∷ new → IsMessage p.1 rs ms ⊎ IsBroken p.1 rs ms → GoesOn all first new ms
goes-on all first p old new rs ms g e one = λ last h. g last (subst (λ (ps : List (ℕ × List ℕ)). Routed ps rs last) (sym e) (ms, one, h))

some_text-is : (x y : List ℕ) → Some x ≡ Some y → x ≡ y
some_text-is x y e = ap (λ (o : Option (List ℕ)). elim o [ Some v ↦ v | None ↦ x ]) e

some-none : (x : List ℕ) → Some x ≡ None → ⊥
some-none x e = cc

kept-text : (x text : List ℕ) (a : Result ℕ Unread) (k : Option (List ℕ)) → Some text ≡ k → IsPlaced true x a k → x ≡ text
kept-text x text (Ok n) k e h = sym (some_text-is text x (e ∙ h))
kept-text x text (Err u) k e (h, inl g) = sym (some_text-is text x (e ∙ g))
kept-text x text (Err u) k e (h, inr g) = absurd (some-none text (e ∙ g.0))

-- the text that is kept is the one that was taken off
pub taken-text : (old new : Stream) (text : List ℕ) (a : Result ℕ Unread) → tells old ≡ true → Some text ≡ text_kept new → Steps old a new
    → (waiting old ≡ (answer_line a, text) ∷ waiting new) × IsRead text a (current new)
taken-text old new text a told e s =
    let same : s.0 ≡ text = kept-text s.0 text a (text_kept new) e (subst (λ (b : Bool). IsPlaced b s.0 a (text_kept new)) told s.3) in (
      s.1 ∙ ap (λ (x : List ℕ). (answer_line a, x) ∷ waiting new) same,
      subst (λ (x : List ℕ). IsRead x a (current new)) same s.2,
    )

-- a line that was read is a message
pub is-message : (s : List ℕ) (n : ℕ) (o : Option Tree) (t : Tree) (rs ms : List Route) (met : Bool) → IsRead s (Ok n) o → Some t ≡ o → (IsTrue met ↔ MeetsAny t rs)
    → AllTaken (TakesMessage met t) (line_to s t) rs ms → IsMessage s rs ms
is-message s n o t rs ms met r e any taken =
    let same = same_Some t r.0 (e ∙ r.1) in
    (t, subst (λ (u : Tree). Spells s u) (sym same) r.2, subst (λ (u : Tree). IsWithin u) (sym same) r.3, (met, any, taken))

unreadable : (k : ErrorKind) (b : List ℕ) → (k ≡ InvalidUtf8 ↔ (IsUtf8 b → ⊥)) → (k ≢ InvalidUtf8 → k ≢ OutOfMemory → IsReadable b → ⊥) → k ≢ OutOfMemory → IsReadable b → ⊥
unreadable InvalidUtf8 b u h n r = u.0 refl (spells_utf8 b r.0 r.1)
unreadable Syntax b u h n r = h (λ e. cc) n r
unreadable LoneSurrogate b u h n r = h (λ e. cc) n r
unreadable Float b u h n r = h (λ e. cc) n r
unreadable NumberTooLarge b u h n r = h (λ e. cc) n r
unreadable TooDeep b u h n r = h (λ e. cc) n r
unreadable OutOfMemory b u h n r = absurd (n refl)

-- a line that was refused, but for want of memory, is broken
pub is-broken : (s : List ℕ) (u : Unread) (o : Option Tree) (rs ms : List Route) → IsRead s (Err u) o → u.why ≢ OutOfMemory → AllTaken IsUnread (text_to s) rs ms → IsBroken s rs ms
is-broken s u o rs ms r n taken = (λ readable. unreadable u.why s r.1 r.2 n readable, taken)
