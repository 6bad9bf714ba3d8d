-- What is known of keys beside their texts.
use Rattle.std.specs.Prelude.{Bool, true, false}
use Rattle.std.specs.declared.borrow.CowStr.{CowStr}
use Rattle.std.specs.declared.borrow.CowStr.TheVariants.{Borrowed, Owned}

-- whether a text is lent, and takes no memory of its own
abbrev pub is_borrowed : {A : Type 0} → CowStr A → Bool
is_borrowed (Borrowed s) = true
is_borrowed (Owned s) = false
