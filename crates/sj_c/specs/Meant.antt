-- What handles mean.
use Rattle.std.specs.Prelude.{ℕ, List, Bool, true, false, Option, option_map, string_bytes}
use Rattle.sj_text_core.specs.Tree.{Tree}
use Rattle.sj_text_core.specs.Print.{compact, pretty}
use Rattle.sj_text_core.specs.declared.repeats.Repeats.{Repeats}
use Rattle.sj_text_core.specs.declared.repeats.Repeats.TheVariants.{First, Last}
use Rattle.sj_document.specs.Document.{document_tree}
use Rattle.sj_c.specs.declared.held.Held.{Held}
use Rattle.sj_c.specs.declared.held.Printed.{Printed}

-- the tree of the document, where there is one
abbrev pub held_tree : Option Held → Option Tree
held_tree h = option_map (λ d. document_tree string_bytes d.value) h

-- the bytes of the print, where there is one
abbrev pub print_of : Option Printed → Option (List ℕ)
print_of h = option_map (λ p. p.bytes.items) h

-- which member of several with one key counts
abbrev pub choice : Bool → Repeats
choice true = Last
choice false = First

-- the pretty or the compact text
abbrev pub print_by : Bool → Tree → List ℕ
print_by true t = pretty 0 t
print_by false t = compact t
