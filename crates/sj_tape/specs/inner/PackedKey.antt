-- What keys in packed nodes mean.
use Rattle.std.specs.Prelude.{ℕ, List}
use Rattle.sj_tape.specs.declared.value.packed_key.PackedKey.{PackedKey}
use Rattle.sj_tape.specs.declared.value.packed_key.PackedKey.TheVariants.{Text, Plain}

-- the bytes of a key
abbrev pub packed_key : PackedKey → List ℕ
packed_key (Text s) = s.now
packed_key (Plain p) = p.text.now
