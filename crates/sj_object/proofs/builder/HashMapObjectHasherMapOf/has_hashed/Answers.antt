use Rattle.std.proofs.Common.{◌≡◌, is_some, rules, ◌∙◌}
use Rattle.sj_object.specs.Edits.{lookup}
use Rattle.sj_object.proofs.Position.{is_some-lookup}
use Rattle.sj_object.proofs.Hashed.{needs_where_some}
use Rattle.sj_object.proofs.builder.HashMapObjectHasherMapOf.has_hashed.Goals as goal

pub find-requires : goal.find-requires
find-requires g c = λ s. c.requires (needs_where_some _ c.args.self.now.buckets s)

pub returns : goal.returns
returns g c =
    let e : c.is_some.result ≡ is_some (lookup c.args.key.now c.args.self.now.entries) = search rules in
    e ∙ is_some-lookup c.args.key.now c.args.self.now.entries
