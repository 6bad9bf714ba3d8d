-- Both prints of a tree, by one word.
use Rattle.std.specs.Prelude.{◌≡◌, Bool, true, false, ℕ, ◌+◌, ◌-◌, ◌*◌, ◌^◌, min, List, [], Option, Some, None, ⊤}
use Rattle.sj_text_core.specs.Tree.{Tree}
use Rattle.sj_text_core.specs.Print.{compact, pretty, new_line}
use Rattle.sj_print.specs.declared.layout.Layout.{Layout}
use Rattle.sj_print.specs.declared.layout.Layout.TheVariants.{Compact, Pretty}

-- compact (None), or pretty at a level
abbrev pub laid : Option ℕ → Tree → List ℕ
laid None t = compact t
laid (Some level) t = pretty level t

abbrev pub deeper : Option ℕ → Option ℕ
deeper None = None
deeper (Some level) = Some (level + 1)

-- what stands between tokens
abbrev pub gap : Option ℕ → List ℕ
gap None = []
gap (Some level) = new_line level

-- the layout of the code is this one
abbrev pub IsLayout : Layout → Option ℕ → Type 0
IsLayout Compact None = ⊤
IsLayout Compact (Some level) = ⊥
IsLayout (Pretty spaces) None = ⊥
IsLayout (Pretty spaces) (Some level) = spaces ≡ min (2 * level) (2 ^ 64 - 1)

-- the layout of a whole print
abbrev pub top : Bool → Option ℕ
top false = None
top true = Some 0
