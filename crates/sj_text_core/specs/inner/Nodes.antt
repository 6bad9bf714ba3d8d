-- What private clauses alone cite beside Nodes.
use Rattle.std.specs.Prelude.{◌≡◌, List}
use Rattle.sj_text_core.specs.Nodes.{Mark, flat_members, members_in}

-- the nodes are those of an object's members
abbrev pub AreMembers : List Mark → Type 0
AreMembers ns = ns ≡ flat_members (members_in ns)
