use Rattle.std.proofs.Common.{◌≡◌, Some, None, IsSome, length, refl, sym, ap, ◌∙◌, arith, subst, true≢false}
use Rattle.sj_object.specs.Entries.{entries_of}
use Rattle.sj_object.specs.HashMap.{same_contents}
use Rattle.sj_object.specs.Edits.{lookup, put_entry, nth_value, set_value_at}
use Rattle.sj_object.specs.Index.{NeedsHash, buckets_for}
use Rattle.sj_object.specs.Stored.{pairs_of, buckets_of}
use Rattle.sj_object.proofs.Position.{found, absent}
use Rattle.sj_object.proofs.Hashed.{entries-length, needs_where_some, same_inside, buckets_kept}
use Rattle.sj_object.proofs.Added.{there_length, if_none, if_some, not_both}
use Rattle.sj_object.proofs.Lent.{lent_same}
use Rattle.sj_object.proofs.map.HashMap.find_or_append.Goals as goal

pub position_of-requires-clause-hash : goal.position_of-requires-clause-hash
position_of-requires-clause-hash g c = λ l.
    let t = g.K.KeyText.text_of in
    let m = c.self.inside in
    c.requires.hash (subst (λ v. NeedsHash (length v.entries) v.buckets) c.self.view_is (needs_where_some (length (entries_of t (pairs_of m.store))) (buckets_of m.store) l))
    ∙ (λ j. g.S.KeyHasher.hash_of (sym c.self.view_is j).hasher (sym c.text.ensures j))

pub same-self : goal.same-self
same-self g c = same_inside c.self.inside _ _

pub value_at_mut-requires : goal.value_at_mut-requires
value_at_mut-requires g c =
    let t = g.K.KeyText.text_of in
    let f = found t (t c.args.key) c.in-Some.is c.position_of.ensures c.text.ensures refl in
    let n : length (entries_of t (pairs_of c.self.inside.store)) ≡ length c.args.self.now.entries = ap (λ v. length v.entries) c.self.view_is in
    omega (arith, f.within, n, entries-length t (pairs_of c.self.inside.store))

pub returns-in-Some : goal.returns-in-Some
returns-in-Some g c =
    let t = g.K.KeyText.text_of in
    let k = c.args.key in
    let m = c.self.inside in
    let i = c.in-Some.i in
    let ps = (pairs_of c.self.inside.store) in
    let f = found t (t k) c.in-Some.is c.position_of.ensures c.text.ensures refl in
    let at : Some c.value_at_mut.result.now ≡ lookup (t k) c.args.self.now.entries =
    sym c.value_at_mut.ensures.value ∙ ap (λ v. nth_value i v.entries) (sym c.self.view_is) ∙ f.value_there ∙ ap (λ v. lookup (t k) v.entries) c.self.view_is in (
      lent_same _ _ _ (λ w. same_contents _ _ (λ j. (
        (ap (λ v. set_value_at i w v.entries) (sym c.self.view_is) ∙ f.there w k refl ∙ ap (λ v. put_entry (k, t k) w v.entries) c.self.view_is) j,
        (c.args.self.now.hasher, (ap (λ v. v.buckets) (sym c.self.view_is) ∙ buckets_kept (length (entries_of t ps)) (length (put_entry (k, t k) w (entries_of t ps))) (buckets_of m.store) (there_length t ps i k w f) m.room ∙ ap (λ v. buckets_for (length (put_entry (k, t k) w v.entries)) v.buckets) c.self.view_is) j),
      ))),
      record { writes_back = tt; found = if_some _ _ c.value_at_mut.result.now at refl; made = λ e. absurd (not_both _ c.value_at_mut.result.now (sym at) e); succeeds = λ s. refl },
    )

pub same-self-in_default : goal.same-self-in_default
same-self-in_default g c = same_inside c.self.inside _ _

pub append_hashed_with-requires-clause-absent : goal.append_hashed_with-requires-clause-absent
append_hashed_with-requires-clause-absent g c =
    let k = g.K.KeyText.text_of c.args.key in
    let a = absent g.K.KeyText.text_of k c.in_default.is c.position_of.ensures c.text.ensures refl in
    ap (λ m. lookup k m.entries) (sym c.self.view_is) ∙ a.lookup_none

pub append_hashed_with-requires-clause-with : goal.append_hashed_with-requires-clause-with
append_hashed_with-requires-clause-with g c =
    let k = g.K.KeyText.text_of c.args.key in
    let a = absent g.K.KeyText.text_of k c.in_default.is c.position_of.ensures c.text.ensures refl in
    c.requires.with (ap (λ m. lookup k m.entries) (sym c.self.view_is) ∙ a.lookup_none)

pub returns : goal.returns
returns g c =
    let k = g.K.KeyText.text_of c.args.key in
    let a = absent g.K.KeyText.text_of k c.in_default.is c.position_of.ensures c.text.ensures refl in
    let none : lookup k c.args.self.now.entries ≡ None = ap (λ m. lookup k m.entries) (sym c.self.view_is) ∙ a.lookup_none in (
      refl,
      record { writes_back = tt; found = if_none _ _ none; made = λ e. c.append_hashed_with.ensures.made; succeeds = λ s. absurd (true≢false (sym (subst (λ o. IsSome o) none s))) },
    )
