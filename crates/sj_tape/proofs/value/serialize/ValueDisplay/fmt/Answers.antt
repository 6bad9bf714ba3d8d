use Rattle.std.proofs.Common.{Option, Some, None, sym, ap, ◌∙◌, subst}
use Rattle.std.specs.Option.{option_map}
use Rattle.sj_text_core.specs.Tree.{Tree}
use Rattle.sj_text_core.specs.Scalars.{static_tree}
use Rattle.sj_tape.specs.Value.{as_scalar}
use Rattle.sj_tape.proofs.Stretched.{null_alone}
use Rattle.sj_tape.proofs.value.serialize.ValueDisplay.fmt.Goals as goal

-- a scalar is told
abbrev tells : Option Tree → Type 0
tells None = ⊥
tells (Some t) = Unit {0}

pub unreachable-requires : goal.unreachable-requires
unreachable-requires g c =
    let none = sym (ap (λ r. option_map static_tree r) c.in_default.is) ∙ c.as_static.ensures ∙ ap as_scalar (null_alone c.args.self.now.nodes c.in_default-allocator.ensures) in
    subst tells (sym none) (tt {0})
