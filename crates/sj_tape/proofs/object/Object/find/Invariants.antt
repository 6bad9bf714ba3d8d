use Rattle.sj_tape.proofs.object.Object.find.Given as goal

abbrev pub ghosts-find_blank : goal.ghosts-find_blank
ghosts-find_blank a = record { name = a.blank.name; parts = a.blank.parts }
