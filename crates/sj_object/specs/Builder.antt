-- What is known of the parts that documents are made of.
use Rattle.std.specs.Prelude.{Bool, IsTrue, List, All}
use Rattle.sj_object.specs.Entries.{Entry}

-- each key passes the test, and each value has the property
abbrev pub AreMade : {K V : Type 0} → (K → Bool) → (V → Type 0) → List (Entry K V) → Type 0
AreMade {K} {V} is_made built es = All (λ (e : Entry K V). IsTrue (is_made e.0.0) × built e.1) es
