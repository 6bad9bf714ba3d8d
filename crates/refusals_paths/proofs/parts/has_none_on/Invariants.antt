use Rattle.refusals_paths.proofs.parts.has_none_on.Given as goal

abbrev pub ghosts-has_no_member : goal.ghosts-has_no_member
ghosts-has_no_member a = record { name = a.blank.name; parts = a.blank.parts }
