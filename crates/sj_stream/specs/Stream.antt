-- What is ahead in a stream, and what a step answers.
use Rattle.std.specs.Prelude.{◌≡◌, ℕ, List, ◌∷◌, Bool, Option, Result}
use Rattle.sj_text_core.specs.Tree.{Tree}
use Rattle.sj_lines.specs.Ahead.{ahead}
use Rattle.sj_stream.specs.declared.stream.Stream.{Stream}
use Rattle.sj_stream.specs.declared.unread.Unread.{Unread}
use Rattle.sj_stream.specs.Answers.{answer_line, IsRead}
use Rattle.sj_stream.specs.Places.{IsPlaced}
use Rattle.sj_stream.specs.Reader.{tree_read, tells_places, line_kept}

-- the texts ahead of a stream
abbrev pub waiting : Stream → List (ℕ × List ℕ)
waiting s = ahead s.lines

-- the tree of the line that was read last, where it was read
abbrev pub current : Stream → Option Tree
current s = tree_read s.reader

-- whether the places of faults are told
abbrev pub tells : Stream → Bool
tells s = tells_places s.reader

-- the text of the line that was read last, where it is kept
abbrev pub text_kept : Stream → Option (List ℕ)
text_kept s = line_kept s.reader

-- one text was taken off the front of those ahead, and this is its answer, with its tree and its place
abbrev pub Steps : Stream → Result ℕ Unread → Stream → Type 0
Steps old a new = (s : List ℕ) × (waiting old ≡ (answer_line a, s) ∷ waiting new) × IsRead s a (current new) × IsPlaced (tells old) s a (text_kept new)
