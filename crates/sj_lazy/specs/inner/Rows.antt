-- What private clauses alone cite beside Rows.
use Rattle.std.specs.Borrow.{RattleType}
use Rattle.sj_object.specs.Lends.{KeyMembers}
use Rattle.sj_lazy.specs.contracts.value.Shared as shared

module _ (B T : RattleType) (key : KeyMembers T.Denot) where
  abbrev pub shared_row : RattleType
  shared_row = shared.the_row B T (record { text_of = key.text_of }) (record { eq = key.eq })
