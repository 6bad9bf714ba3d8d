use Rattle.sj_object.proofs.map.search.has_key.Given as goal

abbrev pub ghosts-has_key_blank : goal.ghosts-has_key_blank
ghosts-has_key_blank g a = record { name = a.blank.name; parts = a.blank.parts }
