-- The line and the column behind some bytes, each from 1 on.
use Rattle.std.specs.Prelude.{List, ℕ, ◌+◌, ◌==◌, fold, if◌then◌else◌}
use Rattle.sj_text_core.specs.Ascii.{line_feed}

-- one more than the line feeds
abbrev pub line_of : List ℕ → ℕ
line_of b = fold (λ n c. if c == line_feed then n + 1 else n) 1 b

-- one more than the bytes behind the last line feed
abbrev pub column_of : List ℕ → ℕ
column_of b = fold (λ n c. if c == line_feed then 1 else n + 1) 1 b
