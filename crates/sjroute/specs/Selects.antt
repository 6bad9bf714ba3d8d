-- What a rule selects.
use Rattle.std.specs.Prelude.{◌≡◌, Option, Some, None, ⊤, string_bytes}
use Rattle.sj_text_core.specs.Tree.{Tree}
use Rattle.sj_text_core.specs.Reads.{kind_of}
use Rattle.sj_text_core.specs.Same.{Same}
use Rattle.sj_kinds.specs.Kinds.{kind_in}
use Rattle.sj_document.specs.Document.{document_tree}
use Rattle.sj_pointer.specs.Pointed.{pointed}
use Rattle.sjroute.specs.declared.rule.Test.{Test}
use Rattle.sjroute.specs.declared.rule.Test.TheVariants as test
use Rattle.sjroute.specs.declared.rule.Rule.{Rule}

-- the tree is what the test asks for
abbrev pub Meets : Test → Tree → Type 0
Meets test.There t = ⊤
Meets (test.Same v) t = Same t (document_tree string_bytes v)
Meets (test.Kind k) t = kind_in (kind_of t) ≡ k

abbrev pub FoundMeets : Test → Option Tree → Type 0
FoundMeets p None = ⊥
FoundMeets p (Some t) = Meets p t

-- something stands at the rule's place, by the first member of each key, and is what the rule asks for
abbrev pub Selects : Rule → Tree → Type 0
Selects r t = FoundMeets r.test (pointed r.place t)
