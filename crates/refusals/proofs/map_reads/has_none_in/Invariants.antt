use Rattle.refusals.proofs.map_reads.has_none_in.Given as goal

abbrev pub ghosts-has_none : goal.ghosts-has_none
ghosts-has_none a = record { name = a.blank.name; parts = a.blank.parts }
