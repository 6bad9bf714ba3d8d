-- How many hashes a table has.
use Rattle.std.proofs.Common.{◌≡◌, ◌+◌, length, refl, arith}
use Rattle.std.proofs.lemmas.List.{length-drop}
use Rattle.sj_object.specs.declared.map.index.Table.{Table}
use Rattle.sj_object.specs.Index.{IsTable, hashes_in, hashes_beside}
use Rattle.sj_object.proofs.Holes.{length-without}

module _ (t : Table) (h : IsTable t) where
  pub length-beside : length (hashes_beside t) + length t.holes.items ≡ length t.hashes.items
  length-beside = length-without t.gone t.holes.items t.hashes.items (length t.hashes.items) refl h.holes

  pub length-in : length (hashes_in t) + (t.gone + length t.holes.items) ≡ length t.hashes.items
  length-in = omega (arith, length-beside, length-drop t.gone (hashes_beside t), h.gone)
