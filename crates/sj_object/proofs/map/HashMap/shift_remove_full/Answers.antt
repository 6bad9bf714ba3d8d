use Rattle.std.proofs.Common.{◌≡◌, ◌≤◌, ℕ, None, option_map, sym, ap, ◌∙◌, refl, arith, rules, subst, length}
use Rattle.std.specs.List.{insert, remove}
use Rattle.sj_object.specs.Texts.{no_repeats}
use Rattle.sj_object.specs.Entries.{entry_texts, entries_of}
use Rattle.sj_object.specs.Edits.{lookup, position, cut_entry}
use Rattle.sj_object.specs.Index.{HasRoom}
use Rattle.sj_object.specs.Stored.{pairs_of, IsIndexOf, buckets_of}
use Rattle.sj_object.proofs.Hashed.{hashes, hashes-length, hashes-remove, same_inside, entries-length, room_fewer}
use Rattle.std.proofs.lemmas.List.Edits.{length-remove}
use Rattle.sj_object.proofs.Repeats.{no_repeats-cut}
use Rattle.sj_object.proofs.Position.{found, absent}
use Rattle.sj_object.proofs.Stored.{indexed}
use Rattle.sj_object.proofs.Places.{position-pairs}
use Rattle.sj_object.proofs.Inserted.{entries-insert, insert-removed}
use Rattle.sj_object.proofs.map.HashMap.shift_remove_full.Goals as goal

pub remove-requires-clause-within : goal.remove-requires-clause-within
remove-requires-clause-within g c =
    let f = found g.K.KeyText.text_of c.args.key.now c.in_ok-i.was c.position_of.ensures refl refl in
    f.within

pub remove-requires-clause-indexed : goal.remove-requires-clause-indexed
remove-requires-clause-indexed g c = indexed g.K.KeyText.text_of (g.S.KeyHasher.hash_of c.self.inside.hasher) c.self.inside.store c.self.invariant

pub invariant_of-self-inside-2 : goal.invariant_of-self-inside-2
invariant_of-self-inside-2 g c =
    let t = g.K.KeyText.text_of in
    let k = c.args.key.now in
    let f = found t k c.in_ok-i.was c.position_of.ensures refl refl in
    let m = c.self.inside in
    let ps = pairs_of c.self.inside.store in
    let qs = pairs_of c.remove.new.self in
    let n : length (entries_of t qs) ≤ length (entries_of t ps) = omega (arith, entries-length t qs, entries-length t ps, ap length c.remove.ensures.pairs, length-remove ps c.in_ok-i.i f.within) in (
      ap (λ es. no_repeats (entry_texts es)) (ap (entries_of t) c.remove.ensures.pairs ∙ f.cut_at) ∙ no_repeats-cut k (entries_of t (pairs_of c.self.inside.store)) c.self.inside.distinct,
      (subst (HasRoom (length (entries_of t qs))) (sym c.remove.ensures.buckets) (room_fewer (length (entries_of t qs)) (length (entries_of t ps)) (buckets_of m.store) n m.room), tt),
    )

pub returns-clause-answer : goal.returns-clause-answer
returns-clause-answer g c =
    let f = found g.K.KeyText.text_of c.args.key.now c.in_ok-i.was c.position_of.ensures refl refl in
    sym (f.lookup_at _ c.in_ok-stored.ensures.pair) ∙ ap (λ m. lookup c.args.key.now m.entries) c.self.view_is

pub returns-clause-entries : goal.returns-clause-entries
returns-clause-entries g c =
    let t = g.K.KeyText.text_of in
    let f = found t c.args.key.now c.in_ok-i.was c.position_of.ensures refl refl in
    ap (entries_of t) c.remove.ensures.pairs ∙ f.cut_at ∙ ap (λ m. cut_entry c.args.key.now m.entries) c.self.view_is

pub returns-clause-index : goal.returns-clause-index
returns-clause-index g c =
    let t = g.K.KeyText.text_of in
    let k = c.args.key.now in
    sym c.in_ok-i.was ∙ c.position_of.ensures ∙ position-pairs t k (pairs_of c.self.inside.store) ∙ ap (λ m. position k m.entries) c.self.view_is

pub returns-clause-within : goal.returns-clause-within
returns-clause-within g c =
    let t = g.K.KeyText.text_of in
    let f = found t c.args.key.now c.in_ok-i.was c.position_of.ensures refl refl in
    let ps = pairs_of c.self.inside.store in
    omega (arith, f.within, entries-length t (pairs_of c.remove.new.self), ap length c.remove.ensures.pairs, length-remove ps c.in_ok-i.i f.within)

pub returns-clause-back : goal.returns-clause-back
returns-clause-back g c =
    let t = g.K.KeyText.text_of in
    let f = found t c.args.key.now c.in_ok-i.was c.position_of.ensures refl refl in
    let ps = pairs_of c.self.inside.store in
    let i = c.in_ok-i.i in
    let p : g.row.K.Denot × g.row.V.Denot = (c.in_ok-stored.stored, c.in_ok-stored.value) in
    ap (λ qs. insert (entries_of t qs) i ((p.0, t p.0), p.1)) c.remove.ensures.pairs ∙ sym (entries-insert t (remove ps i) i p) ∙ ap (entries_of t) (insert-removed ps i p f.within c.in_ok-stored.ensures.pair)
    ∙ ap (λ m. m.entries) c.self.view_is

pub returns-in_err-i-clause-index : goal.returns-in_err-i-clause-index
returns-in_err-i-clause-index g c =
    let t = g.K.KeyText.text_of in
    let k = c.args.key.now in
    let none : c.from_residual.result ≡ None = search rules in
    ap (option_map (λ (x : ℕ × g.row.K.Denot × g.row.V.Denot). x.0)) none ∙ sym c.in_err-i.was ∙ c.position_of.ensures ∙ position-pairs t k (pairs_of c.self.inside.store) ∙ ap (λ m. position k m.entries) c.self.view_is

pub returns-in_err-i-clause-answer : goal.returns-in_err-i-clause-answer
returns-in_err-i-clause-answer g c =
    let a = absent g.K.KeyText.text_of c.args.key.now c.in_err-i.was c.position_of.ensures refl refl in
    let none : c.from_residual.result ≡ None = search rules in
    ap (option_map (λ (x : ℕ × g.row.K.Denot × g.row.V.Denot). x.2)) none ∙ sym a.lookup_none ∙ ap (λ m. lookup c.args.key.now m.entries) c.self.view_is

pub returns-in_err-i-clause-entries : goal.returns-in_err-i-clause-entries
returns-in_err-i-clause-entries g c =
    let a = absent g.K.KeyText.text_of c.args.key.now c.in_err-i.was c.position_of.ensures refl refl in
    ap (λ m. m.entries) (sym c.self.view_is) ∙ sym a.cut_none ∙ ap (λ m. cut_entry c.args.key.now m.entries) c.self.view_is

pub same-self : goal.same-self
same-self g c = same_inside c.self.inside _ _

pub invariant_of-self-2 : goal.invariant_of-self-2
invariant_of-self-2 g c =
    let t = g.K.KeyText.text_of in
    let H = g.S.KeyHasher.hash_of c.self.inside.hasher in
    let ps = pairs_of c.self.inside.store in
    let i = c.in_ok-i.i in
    let f = found t c.args.key.now c.in_ok-i.was c.position_of.ensures refl refl in
    let r = c.remove.ensures.index (hashes t H ps) (hashes-length t H ps) c.self.invariant in
    subst (λ hs. IsIndexOf hs c.remove.new.self) (sym (ap (hashes t H) c.remove.ensures.pairs ∙ hashes-remove t H ps i)) r
