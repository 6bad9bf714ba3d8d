-- The types of what lends a document, as the logic names them.
use Rattle.std.specs.Borrow.{RattleType}
use Rattle.sj_object.specs.Lends.{KeyMembers}
use Rattle.sj_lazy.specs.contracts.value.Lazy.{the_row}

module _ (P B T : RattleType) (key : KeyMembers T.Denot) where
  abbrev pub lazy_row : RattleType
  lazy_row = the_row P B T (record { text_of = key.text_of }) (record { eq = key.eq })
