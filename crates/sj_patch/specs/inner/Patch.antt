-- What private clauses alone cite beside Patch.
use Rattle.std.specs.Prelude.{ℕ, List, Result, Ok}
use Rattle.sj_text_core.specs.Tree.{Tree}
use Rattle.sj_text_core.specs.Paths.{by_token, set_found}
use Rattle.sj_text_core.specs.declared.repeats.Repeats.TheVariants.{First}
use Rattle.sj_pointer.specs.Pointed.{token_into}
use Rattle.sj_text_core.specs.declared.patch_fault.OperationFault.{OperationFault}
use Rattle.sj_patch.specs.Patch.{or_missing, onwards}

-- section 4.3, in the container: the value in the place of what stands at the token
abbrev pub swapped_in : Tree → List ℕ → Tree → Result Tree OperationFault
swapped_in v k t = onwards (or_missing (token_into First k t)) (λ _. Ok (set_found (by_token k) v t))
