use Rattle.sj_tests_tape.proofs.tape.values.counted_lookups.Given as goal

abbrev pub ghosts-counted : goal.ghosts-counted
ghosts-counted g a = record { name = a.blank.name; parts = a.blank.parts }
