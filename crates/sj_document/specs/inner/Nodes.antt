-- How many nodes a document has, and what is left to do while it is let go. Only private clauses cite it.
use Rattle.std.specs.Prelude.{ℕ, ◌+◌, ◌*◌, List, Option, Some, None}
use Rattle.std.specs.List.{sum_by}
use Rattle.sj_object.specs.Entries.{Entry}
use Rattle.sj_document.specs.declared.value.Document.{Document, fold-Document}
use Rattle.sj_document.specs.declared.value.Document.TheOpen.{Document-F}

-- one level, whose parts are seen as how many nodes they have
abbrev pub level_nodes : {T : Type 0} → Document-F T ℕ → ℕ
level_nodes (Document-F.Static s) = 1
level_nodes (Document-F.String s) = 1
level_nodes (Document-F.Array v) = sum_by (λ n. n) v.value.items + 1
level_nodes (Document-F.Object m) = sum_by (λ e. e.1) m.value.entries + 1

abbrev pub nodes : {T : Type 0} → Document T → ℕ
nodes {T} = fold-Document T ℕ level_nodes

abbrev pub nodes_of : {T : Type 0} → Option (Document T) → ℕ
nodes_of None = 0
nodes_of (Some d) = nodes d

-- of the values of all members
abbrev pub entry_nodes : {T : Type 0} → List (Entry T (Document T)) → ℕ
entry_nodes {T} entries = sum_by (λ (e : Entry T (Document T)). nodes e.1) entries

-- falls with each node that goes, and with each step down while none goes
abbrev pub work : ℕ → ℕ → ℕ
work whole part = (whole + part) * (whole + part + 1) + part
