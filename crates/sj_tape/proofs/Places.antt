-- A text read from a place of the bytes on.
use Rattle.std.proofs.Common.{◌≡◌, ℕ, ◌+◌, ◌-◌, ◌<◌, ◌≤◌, List, [], ◌∷◌, length, drop, get_or, option_and_then, Some, None, ap, ◌∙◌, arith, append-nil}
use Rattle.std.specs.Char.{encode_utf8}
use Rattle.std.proofs.lemmas.List.{drop_more, drop_all, drop-drop}
use Rattle.sj_text_core.specs.inner.Parse.{escape_at, with_front, read_text}
use Rattle.sj_text_core.proofs.parse.Escapes.{text_skip, text_nil, text_quote, text_backslash, text_control, with_escape}

pub at_byte : (b : List ℕ) (i c : ℕ) → i < length b → get_or b i 0 ≡ c → drop i b ≡ c ∷ drop (i + 1) b
at_byte b i c h e = drop_more b i 0 h ∙ ap (λ x. x ∷ drop (i + 1) b) e

-- no text past the end
pub place_end : (b : List ℕ) (i : ℕ) → length b ≤ i → read_text (drop i b) ≡ None
place_end b i h = ap (λ l. read_text l) (drop_all i b h) ∙ text_nil 0

-- the quote at a place
pub place_quote : (b : List ℕ) (i : ℕ) → i < length b → get_or b i 0 ≡ 34 → read_text (drop i b) ≡ Some ([], drop (i + 1) b)
place_quote b i h e = ap (λ l. read_text l) (at_byte b i 34 h e) ∙ text_quote (drop (i + 1) b)

-- a control byte at a place
pub place_control : (b : List ℕ) (i : ℕ) → i < length b → get_or b i 0 < 32 → read_text (drop i b) ≡ None
place_control b i h p = ap (λ l. read_text l) (drop_more b i 0 h) ∙ text_control (get_or b i 0) (drop (i + 1) b) p

-- an escape at a place
pub place_escape : (b : List ℕ) (i c next : ℕ) → i < length b → get_or b i 0 ≡ 92 → i + 1 < next → escape_at (drop (i + 1) b) ≡ Some (c, next - (i + 1)) → read_text (drop i b) ≡ with_front (encode_utf8 c) (read_text (drop next b))
place_escape b i c next h e l k =
    ap (λ l. read_text l) (at_byte b i 92 h e)
    ∙ (text_backslash (drop (i + 1) b) ∙ (ap (λ o. option_and_then (λ e. with_escape (drop (i + 1) b) e) o) k
    ∙ ap (λ o. with_front (encode_utf8 c) o) (text_skip (next - (i + 1)) (drop (i + 1) b) ∙ ap (λ l. read_text l) (drop-drop (next - (i + 1)) (i + 1) b ∙ ap (λ n. drop n b) (omega (arith, l))))))

-- a bad escape at a place
pub place_bad : (b : List ℕ) (i : ℕ) → i < length b → get_or b i 0 ≡ 92 → escape_at (drop (i + 1) b) ≡ None → read_text (drop i b) ≡ None
place_bad b i h e k = ap (λ l. read_text l) (at_byte b i 92 h e) ∙ (text_backslash (drop (i + 1) b) ∙ ap (λ o. option_and_then (λ e. with_escape (drop (i + 1) b) e) o) k)

-- what was read so far, and what follows
abbrev pub SoFar : List ℕ → List ℕ → ℕ → ℕ → Type 0
SoFar front b at place = read_text (drop at b) ≡ with_front front (read_text (drop place b))

-- what fails further on fails
pub so_far_none : (front b : List ℕ) (at place : ℕ) → SoFar front b at place → read_text (drop place b) ≡ None → read_text (drop at b) ≡ None
so_far_none front b at place s e = s ∙ ap (λ o. with_front front o) e

-- the text up to the quote
pub so_far_quote : (front b : List ℕ) (at place : ℕ) → SoFar front b at place → place < length b → get_or b place 0 ≡ 34 → read_text (drop at b) ≡ Some (front, drop (place + 1) b)
so_far_quote front b at place s h e = s ∙ (ap (λ o. with_front front o) (place_quote b place h e) ∙ ap (λ l. Some (l, drop (place + 1) b)) (append-nil front))
