use Rattle.sj_object.proofs.map.search.position_here.Given as goal

abbrev pub ghosts-position_blank : goal.ghosts-position_blank
ghosts-position_blank g a = record { name = a.blank.name; parts = a.blank.parts }
