use Rattle.std.proofs.Common.{◌≡◌, get_or, ◌++◌, ◌∷◌, [], Some, sym, ap, ◌∙◌, refl, subst, length, true≢false, IsSome}
use Rattle.std.proofs.lemmas.List.{get_or_default}
use Rattle.sj_object.specs.Entries.{entries_of}
use Rattle.sj_object.specs.Edits.{lookup, put_entry}
use Rattle.sj_object.proofs.Repeats.{entries_of-append}
use Rattle.sj_object.specs.Index.{NeedsHash}
use Rattle.sj_object.specs.Stored.{pairs_of, buckets_of}
use Rattle.sj_object.proofs.Hashed.{needs_where_some, same_inside}
use Rattle.sj_object.proofs.Position.{found, absent}
use Rattle.sj_object.proofs.Stored.{IsChanged, distinct_kept, room_kept, index_kept}
use Rattle.sj_object.proofs.map.HashMap.put.Goals as goal

pub append_hashed-requires-clause-absent : goal.append_hashed-requires-clause-absent
append_hashed-requires-clause-absent g c =
    let t = g.K.KeyText.text_of in
    let a = absent t (t c.args.key) c.in-None.is c.position_of.ensures c.text.ensures refl in
    ap (λ m. lookup (t c.args.key) m.entries) (sym c.self.view_is) ∙ a.lookup_none

pub returns-in_ok-append_hashed-in-None-clause-answer : goal.returns-in_ok-append_hashed-in-None-clause-answer
returns-in_ok-append_hashed-in-None-clause-answer g c =
    let t = g.K.KeyText.text_of in
    let a = absent t (t c.args.key) c.in-None.is c.position_of.ensures c.text.ensures refl in
    sym a.lookup_none ∙ ap (λ m. lookup (t c.args.key) m.entries) c.self.view_is

pub returns-in_ok-append_hashed-in-None-clause-entries : goal.returns-in_ok-append_hashed-in-None-clause-entries
returns-in_ok-append_hashed-in-None-clause-entries g c =
    let t = g.K.KeyText.text_of in
    let k = t c.args.key in
    let v = c.args.value in
    let a = absent t k c.in-None.is c.position_of.ensures c.text.ensures refl in
    c.in_ok-append_hashed-in-None.ensures.entries ∙ ap (λ m. m.entries ++ ((c.args.key, k), v) ∷ []) (sym c.self.view_is)
    ∙ sym (entries_of-append t (pairs_of c.self.inside.store) ((c.args.key, v) ∷ [])) ∙ a.put_last c.args.key v refl ∙ ap (λ m. put_entry (c.args.key, k) v m.entries) c.self.view_is

pub returns-in_err-append_hashed-in-None-clause-succeeds : goal.returns-in_err-append_hashed-in-None-clause-succeeds
returns-in_err-append_hashed-in-None-clause-succeeds g c =
    let t = g.K.KeyText.text_of in
    let a = absent t (t c.args.key) c.in-None.is c.position_of.ensures c.text.ensures refl in
    λ s. absurd (true≢false (sym (subst (λ o. IsSome o) (ap (λ m. lookup (t c.args.key) m.entries) (sym c.self.view_is) ∙ a.lookup_none) s)))

pub position_of-requires-clause-hash : goal.position_of-requires-clause-hash
position_of-requires-clause-hash g c = λ l.
    let t = g.K.KeyText.text_of in
    let m = c.self.inside in
    c.requires (subst (λ v. NeedsHash (length v.entries) v.buckets) c.self.view_is (needs_where_some (length (entries_of t (pairs_of m.store))) (buckets_of m.store) l))
    ∙ (λ j. g.S.KeyHasher.hash_of (sym c.self.view_is j).hasher (sym c.text.ensures j))

pub same-self : goal.same-self
same-self g c = same_inside c.self.inside _ _

pub replace-requires : goal.replace-requires
replace-requires g c = (found g.K.KeyText.text_of (g.K.KeyText.text_of c.args.key) c.in-Some.is c.position_of.ensures c.text.ensures refl).within

pub invariant_of-self-inside : goal.invariant_of-self-inside
invariant_of-self-inside g c =
    let t = g.K.KeyText.text_of in
    let m = c.self.inside in
    let f = found t (t c.args.key) c.in-Some.is c.position_of.ensures c.text.ensures refl in
    let x = get_or (pairs_of m.store) c.in-Some.i (c.args.key, c.args.value) in
    let q : x ≡ get_or (pairs_of m.store) c.in-Some.i x = get_or_default (pairs_of m.store) c.in-Some.i _ _ f.within in
    let h : IsChanged m.store c.replace.new.self c.in-Some.i x c.args.value = record { pairs = c.replace.ensures.pairs x q; buckets = c.replace.ensures.buckets; index = c.replace.ensures.index } in
    (distinct_kept t h q m.distinct, (room_kept t h q m.room, tt))

pub invariant_of-self : goal.invariant_of-self
invariant_of-self g c =
    let t = g.K.KeyText.text_of in
    let m = c.self.inside in
    let f = found t (t c.args.key) c.in-Some.is c.position_of.ensures c.text.ensures refl in
    let x = get_or (pairs_of m.store) c.in-Some.i (c.args.key, c.args.value) in
    let q : x ≡ get_or (pairs_of m.store) c.in-Some.i x = get_or_default (pairs_of m.store) c.in-Some.i _ _ f.within in
    let h : IsChanged m.store c.replace.new.self c.in-Some.i x c.args.value = record { pairs = c.replace.ensures.pairs x q; buckets = c.replace.ensures.buckets; index = c.replace.ensures.index } in
    index_kept t h q (g.S.KeyHasher.hash_of m.hasher) c.self.invariant

pub returns-in-Some-clause-answer : goal.returns-in-Some-clause-answer
returns-in-Some-clause-answer g c =
    let t = g.K.KeyText.text_of in
    let k = t c.args.key in
    let ps = pairs_of c.self.inside.store in
    let f = found t k c.in-Some.is c.position_of.ensures c.text.ensures refl in
    let x = get_or ps c.in-Some.i (c.args.key, c.args.value) in
    let q : x ≡ get_or ps c.in-Some.i x = get_or_default ps c.in-Some.i _ _ f.within in
    ap (λ v. Some v) (c.replace.ensures.before x q) ∙ sym (f.lookup_at x q) ∙ ap (λ m. lookup k m.entries) c.self.view_is

pub returns-in-Some-clause-entries : goal.returns-in-Some-clause-entries
returns-in-Some-clause-entries g c =
    let t = g.K.KeyText.text_of in
    let k = t c.args.key in
    let ps = pairs_of c.self.inside.store in
    let f = found t k c.in-Some.is c.position_of.ensures c.text.ensures refl in
    let x = get_or ps c.in-Some.i (c.args.key, c.args.value) in
    let q : x ≡ get_or ps c.in-Some.i x = get_or_default ps c.in-Some.i _ _ f.within in
    ap (entries_of t) (c.replace.ensures.pairs x q) ∙ f.put_at x c.args.key c.args.value q refl ∙ ap (λ m. put_entry (c.args.key, k) c.args.value m.entries) c.self.view_is
