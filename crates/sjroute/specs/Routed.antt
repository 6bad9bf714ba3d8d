-- What an output takes of a message.
use Rattle.std.specs.Prelude.{◌≡◌, ◌↔◌, ℕ, List, [], ◌∷◌, ◌++◌, Bool, false, Option, Some, None, IsTrue, ⊤, ◌⊎◌, if◌then◌else◌, string_bytes}
use Rattle.std.specs.declared.string.String.{String}
use Rattle.std.specs.declared.alloc.Global.{Global}
use Rattle.sj_text_core.specs.Ascii.{line_feed}
use Rattle.sj_text_core.specs.Tree.{Tree, IsWithin}
use Rattle.sj_text_core.specs.Grammar.{IsReadable, Spells}
use Rattle.sj_text_core.specs.Keep.{keep}
use Rattle.sj_text_core.specs.Print.{compact}
use Rattle.sj_merge.specs.Merge.{merged}
use Rattle.sj_document.specs.Document.{document_tree}
use Rattle.sj_document.specs.declared.value.Document.{Document}
use Rattle.sjroute.specs.Selects.{Selects}
use Rattle.sjroute.specs.declared.routing.Takes.{Takes}
use Rattle.sjroute.specs.declared.routing.Takes.TheVariants.{Met, Unmet, Unread}
use Rattle.sjroute.specs.declared.routing.Route.{Route}

-- what is written of a message: its text as it came, or the print of what the merge patch makes of the message, with the first member of each key
abbrev pub written_line : Option (Document (String Global)) → List ℕ → Tree → List ℕ
written_line None s t = s ++ line_feed ∷ []
written_line (Some p) s t = compact (merged (Some (keep t)) (document_tree string_bytes p)) ++ line_feed ∷ []

-- the same to an output
abbrev pub line_to : List ℕ → Tree → Route → List ℕ
line_to s t r = written_line r.merge s t

-- a text as it came, to any output
abbrev pub text_to : List ℕ → Route → List ℕ
text_to s r = s ++ line_feed ∷ []

-- an output has a rule that selects the message
abbrev pub MeetsRule : Tree → Takes → Type 0
MeetsRule t (Met r) = Selects r t
MeetsRule t Unmet = ⊥
MeetsRule t Unread = ⊥

abbrev pub IsUnmet : Takes → Type 0
IsUnmet (Met r) = ⊥
IsUnmet Unmet = ⊤
IsUnmet Unread = ⊥

abbrev pub IsUnread : Takes → Type 0
IsUnread (Met r) = ⊥
IsUnread Unmet = ⊥
IsUnread Unread = ⊤

-- an output takes a message: by its rule, or those that met none, by whether the message met one
abbrev pub TakesMessage : Bool → Tree → Takes → Type 0
TakesMessage met t (Met r) = Selects r t
TakesMessage met t Unmet = met ≡ false
TakesMessage met t Unread = ⊥

-- some rule selects the message
abbrev pub MeetsAny : Tree → List Route → Type 0
MeetsAny t [] = ⊥
MeetsAny t (r ∷ rs) = MeetsRule t r.takes ⊎ MeetsAny t rs

-- the route with these bytes behind those that wait
abbrev pub Grown : List ℕ → Route → Route → Type 0
Grown more r s = (s.output ≡ r.output) × (s.takes ≡ r.takes) × (s.merge ≡ r.merge) × (s.waiting.items ≡ r.waiting.items ++ more)

-- the output's line waits behind the others exactly where P holds of what it takes
abbrev pub Taken : (Takes → Type 0) → (Route → List ℕ) → Route → Route → Type 0
Taken P line r q = (w : Bool) × (IsTrue w ↔ P r.takes) × Grown (if w then line r else []) r q

-- the same of each output, in order
abbrev pub AllTaken : (Takes → Type 0) → (Route → List ℕ) → List Route → List Route → Type 0
AllTaken P line [] [] = ⊤
AllTaken P line [] (q ∷ qs) = ⊥
AllTaken P line (r ∷ rs) [] = ⊥
AllTaken P line (r ∷ rs) (q ∷ qs) = Taken P line r q × AllTaken P line rs qs

-- the text of a message: each output that takes the message has its line
abbrev pub IsMessage : List ℕ → List Route → List Route → Type 0
IsMessage s rs qs = (t : Tree) × Spells s t × IsWithin t × ((met : Bool) × (IsTrue met ↔ MeetsAny t rs) × AllTaken (TakesMessage met t) (line_to s t) rs qs)

-- a text that is not readable: each output that takes those has it
abbrev pub IsBroken : List ℕ → List Route → List Route → Type 0
IsBroken s rs qs = ¬ (IsReadable s) × AllTaken IsUnread (text_to s) rs qs

-- each text in turn is one or the other
abbrev pub Routed : List (ℕ × List ℕ) → List Route → List Route → Type 0
Routed [] rs qs = qs ≡ rs
Routed (p ∷ ps) rs qs = (ms : List Route) × (IsMessage p.1 rs ms ⊎ IsBroken p.1 rs ms) × Routed ps ms qs
