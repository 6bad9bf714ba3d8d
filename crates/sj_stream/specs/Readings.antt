-- A reading of all texts of an input, to the end of its stream.
use Rattle.std.specs.Prelude.{◌≡◌, ℕ, List, [], ◌∷◌, Option, Result, Ok, Err, ⊤}
use Rattle.sj_text_core.specs.Tree.{Tree}
use Rattle.sj_stream.specs.declared.unread.Unread.{Unread}
use Rattle.sj_stream.specs.Answers.{answer_line, IsRead}

-- what a step answers, and the tree that it reads
abbrev pub Answer : Type 0
Answer = Result ℕ Unread × Option Tree

-- each text has its answer, in order
abbrev pub EachIsRead : List (ℕ × List ℕ) → List Answer → Type 0
EachIsRead [] [] = ⊤
EachIsRead [] (a ∷ rs) = ⊥
EachIsRead (p ∷ ps) [] = ⊥
EachIsRead (p ∷ ps) (a ∷ rs) = (p.0 ≡ answer_line a.0) × IsRead p.1 a.0 a.1 × EachIsRead ps rs

abbrev pub onto_refusals : Result ℕ Unread → List Unread → List Unread
onto_refusals (Ok n) us = us
onto_refusals (Err u) us = u ∷ us

-- the refusals among answers, in order
abbrev pub refusals : List Answer → List Unread
refusals [] = []
refusals (a ∷ rs) = onto_refusals a.0 (refusals rs)

-- these are the refusals of a reading of all texts
abbrev pub AreRefusals : List (ℕ × List ℕ) → List Unread → Type 0
AreRefusals ps us = (rs : List Answer) × EachIsRead ps rs × (refusals rs ≡ us)
