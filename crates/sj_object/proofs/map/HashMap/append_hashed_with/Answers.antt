use Rattle.std.proofs.Common.{◌≡◌, ◌+◌, ◌-◌, ◌++◌, ◌∷◌, [], true, length, sym, ap, ◌∙◌, arith, subst, inr}
use Rattle.std.proofs.lemmas.List.{length_push}
use Rattle.sj_text_core.specs.Keep.{is_seen}
use Rattle.sj_object.specs.Entries.{entries_of, entry_texts}
use Rattle.sj_object.specs.HashMap.{same_contents}
use Rattle.sj_object.specs.Edits.{put_entry}
use Rattle.sj_object.specs.Index.{NeedsHash, buckets_for}
use Rattle.sj_object.specs.Stored.{pairs_of, IsIndexOf, buckets_of}
use Rattle.sj_object.proofs.Repeats.{no_repeats-push}
use Rattle.sj_object.proofs.Position.{absent_at, unseen_where_none}
use Rattle.sj_object.proofs.Hashed.{hashes, hashes-last, hashes-length, IsIndexOf-read, room_of}
use Rattle.sj_object.proofs.Added.{made_entries, made_value, made_length}
use Rattle.sj_object.proofs.Lent.{lent_same}
use Rattle.sj_object.proofs.map.HashMap.append_hashed_with.Goals as goal

pub returns-in-Err : goal.returns-in-Err
returns-in-Err g c =
    let t = g.K.KeyText.text_of in
    let m = c.self.inside in (
      ap inr (same_contents _ _ (λ i. (entries_of t (c.in-Err.ensures.pairs i), (m.hasher, c.in-Err.ensures.refused_buckets i))) ∙ c.self.view_is),
      record { writes_back = tt; made = tt },
    )

pub invariant_of-self-inside-2 : goal.invariant_of-self-inside-2
invariant_of-self-inside-2 g c =
    let t = g.K.KeyText.text_of in
    let a = absent_at t (t c.args.key) (pairs_of c.self.inside.store) (ap (λ m. is_seen (t c.args.key) (entry_texts m.entries)) c.self.view_is ∙ unseen_where_none (g.K.KeyText.text_of c.args.key) c.args.self.now.entries c.requires.absent) in
    let e = c.push_reserved.ensures.pairs ∙ ap (λ l. l ++ (c.args.key, c.with-value.result) ∷ []) c.make_room.ensures.pairs in
    let H = g.S.KeyHasher.hash_of c.self.inside.hasher in
    let ps = (pairs_of c.self.inside.store) in
    let n = length_push (hashes t H ps) c.args.hash ∙ ap (λ m. m + 1) (hashes-length t H ps) ∙ sym (ap length e ∙ length_push ps (c.args.key, c.with-value.result)) in (
      no_repeats-push t (pairs_of c.self.inside.store) (pairs_of c.push_reserved.new.self) true c.args.key c.with-value.result c.self.inside.distinct a.unseen e,
      (room_of t (pairs_of c.push_reserved.new.self) _ c.push_reserved.new.self (c.push_reserved.ensures.index _ c.in_default.ensures.ok) n, tt),
    )

pub invariant_of-self-2 : goal.invariant_of-self-2
invariant_of-self-2 g c =
    let t = g.K.KeyText.text_of in
    let H = g.S.KeyHasher.hash_of c.self.inside.hasher in
    let ps = (pairs_of c.self.inside.store) in
    let b = c.make_room.new.store in
    let read = IsIndexOf-read t H c.self.inside.store b c.args.hash (H (t c.args.key)) c.in_default.ensures.ok c.in_default.ensures.buckets (λ z. c.requires.hash (subst (λ m. NeedsHash (length m.entries) m.buckets) c.self.view_is z) ∙ ap (λ m. g.S.KeyHasher.hash_of m.hasher (t c.args.key)) (sym c.self.view_is)) in
    let e = ap (hashes t H) (c.push_reserved.ensures.pairs ∙ ap (λ l. l ++ (c.args.key, c.with-value.result) ∷ []) c.make_room.ensures.pairs) ∙ hashes-last t H ps (c.args.key, c.with-value.result) in
    c.push_reserved.ensures.index _ (subst (λ hs. IsIndexOf hs b) (sym e) read)

pub returns : goal.returns
returns g c =
    let t = g.K.KeyText.text_of in
    let k = c.args.key in
    let v = c.with-value.result in
    let m = c.self.inside in
    let ps = (pairs_of c.self.inside.store) in
    let qs = (pairs_of c.push_reserved.new.self) in
    let n = c.len-last.result - 1 in
    let a = absent_at t (t k) ps (ap (λ m. is_seen (t k) (entry_texts m.entries)) c.self.view_is ∙ unseen_where_none (g.K.KeyText.text_of c.args.key) c.args.self.now.entries c.requires.absent) in
    let e : qs ≡ ps ++ (k, v) ∷ [] = c.push_reserved.ensures.pairs ∙ ap (λ l. l ++ (k, v) ∷ []) c.make_room.ensures.pairs in
    let q : n ≡ length ps = omega (arith, c.len-last.ensures, ap length e, length_push ps (k, v)) in (
      lent_same _ _ _ (λ w. same_contents _ _ (λ j. (
        (made_entries t ps qs k v n e q w a ∙ ap (λ x. put_entry (k, t k) w x.entries) c.self.view_is) j,
        ((ap (λ x. x.hasher) c.self.view_is) j, (c.push_reserved.ensures.buckets ∙ c.in_default.ensures.buckets ∙ ap (λ l. buckets_for l (buckets_of m.store)) (made_length t ps k w a) ∙ ap (λ x. buckets_for (length (put_entry (k, t k) w x.entries)) x.buckets) c.self.view_is) j),
      ))),
      record { writes_back = tt; made = subst (λ y. g.F.FnOnce.post c.args.with tt y) (made_value t ps qs k v n e q c.value_at_mut.result.now c.value_at_mut.ensures.value) c.with-value.ensures },
    )
