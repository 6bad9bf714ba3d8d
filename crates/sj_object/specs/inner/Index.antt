-- What private clauses alone cite beside Index.
use Rattle.std.specs.Prelude.{ℕ, Option, Some, None}
use denote.Struct.Props.{props}
use Rattle.sj_object.specs.Index.{HasRoom}

pub HasRoom-prop : (members : ℕ) (o : Option ℕ) → IsProp (HasRoom members o)
HasRoom-prop members None = hlevel props
HasRoom-prop members (Some n) = hlevel props
