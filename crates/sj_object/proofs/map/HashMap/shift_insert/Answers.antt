use Rattle.std.proofs.Common.{◌≡◌, ◌≤◌, length, false, sym, ap, ◌∙◌, arith, subst}
use Rattle.std.specs.List.{insert}
use Rattle.std.proofs.lemmas.List.Edits.{length-insert}
use Rattle.sj_text_core.specs.Keep.{is_seen}
use Rattle.sj_object.specs.Texts.{no_repeats}
use Rattle.sj_object.specs.Entries.{entry_texts, entries_of}
use Rattle.sj_object.specs.HashMap.{same_contents}
use Rattle.sj_object.specs.Index.{NeedsHash}
use Rattle.sj_object.specs.Stored.{pairs_of, buckets_of, IsIndexOf}
use Rattle.sj_object.proofs.Position.{unseen_where_none}
use Rattle.sj_object.proofs.Hashed.{hashes, hashes-length, entries-length, IsIndexOf-read, room_of}
use Rattle.sj_object.proofs.Stored.{indexed_ahead}
use Rattle.sj_object.proofs.Inserted.{distinct-insert, entries-insert, hashes-insert}
use Rattle.sj_object.proofs.map.HashMap.shift_insert.Goals as goal

pub insert_reserved-requires-clause-indexed : goal.insert_reserved-requires-clause-indexed
insert_reserved-requires-clause-indexed g c =
    indexed_ahead g.K.KeyText.text_of (g.S.KeyHasher.hash_of c.self.inside.hasher) c.hash_for-hash.result c.make_room.new.store (pairs_of c.self.inside.store) c.in-Ok.ensures.pairs c.in-Ok.ensures.ok

pub invariant_of-self-inside : goal.invariant_of-self-inside
invariant_of-self-inside g c =
    let t = g.K.KeyText.text_of in
    let H = g.S.KeyHasher.hash_of c.self.inside.hasher in
    let ps = pairs_of c.self.inside.store in
    let place = c.args.index in
    let pair : g.row.K.Denot × g.row.V.Denot = (c.args.key, c.args.value) in
    let qs = pairs_of c.insert_reserved.new.self in
    let e : qs ≡ insert ps place pair = c.insert_reserved.ensures.pairs ∙ ap (λ l. insert l place pair) c.in-Ok.ensures.pairs in
    let u : is_seen (t c.args.key) (entry_texts (entries_of t ps)) ≡ false = ap (λ m. is_seen (t c.args.key) (entry_texts m.entries)) c.self.view_is ∙ unseen_where_none (t c.args.key) c.args.self.now.entries c.requires.absent in
    let within : place ≤ length ps = omega (arith, c.requires.within, ap (λ m. length m.entries) c.self.view_is, entries-length t ps) in
    let size : length (hashes t H ps) ≡ length (pairs_of c.make_room.new.store) = hashes-length t H ps ∙ sym (ap length c.in-Ok.ensures.pairs) in
    let index = c.insert_reserved.ensures.index (hashes t H ps) c.hash_for-hash.result size c.in-Ok.ensures.ok in
    let n : length (insert (hashes t H ps) place c.hash_for-hash.result) ≡ length qs =
    omega (arith, length-insert (hashes t H ps) place c.hash_for-hash.result (omega (arith, within, hashes-length t H ps)), hashes-length t H ps, ap length e, length-insert ps place pair within) in (
      ap (λ l. no_repeats (entry_texts (entries_of t l))) e ∙ distinct-insert t ps place pair c.self.inside.distinct u,
      (room_of t qs _ c.insert_reserved.new.self index n, tt),
    )

pub invariant_of-self : goal.invariant_of-self
invariant_of-self g c =
    let t = g.K.KeyText.text_of in
    let H = g.S.KeyHasher.hash_of c.self.inside.hasher in
    let ps = pairs_of c.self.inside.store in
    let b = c.make_room.new.store in
    let place = c.args.index in
    let pair : g.row.K.Denot × g.row.V.Denot = (c.args.key, c.args.value) in
    let e = c.insert_reserved.ensures.pairs ∙ ap (λ l. insert l place pair) c.in-Ok.ensures.pairs in
    let known : NeedsHash (length (entries_of t ps)) (buckets_of c.self.inside.store) → c.hash_for-hash.result ≡ H (t c.args.key) = λ z. c.hash_for-hash.ensures (subst (λ m. NeedsHash (length m.entries) m.buckets) c.self.view_is z) ∙ ap (λ m. g.S.KeyHasher.hash_of m.hasher c.text.result.now) (sym c.self.view_is) ∙ ap H c.text.ensures in
    let read = IsIndexOf-read t H c.self.inside.store b c.hash_for-hash.result (H (t c.args.key)) c.in-Ok.ensures.ok c.in-Ok.ensures.buckets known in
    let size : length (hashes t H ps) ≡ length (pairs_of b) = hashes-length t H ps ∙ sym (ap length c.in-Ok.ensures.pairs) in
    subst (λ hs. IsIndexOf hs c.insert_reserved.new.self) (sym (ap (hashes t H) e ∙ hashes-insert t H ps place pair)) (c.insert_reserved.ensures.index (hashes t H ps) (H (t c.args.key)) size read)

pub returns-in-Ok-clause-entries : goal.returns-in-Ok-clause-entries
returns-in-Ok-clause-entries g c =
    let t = g.K.KeyText.text_of in
    let ps = pairs_of c.self.inside.store in
    let place = c.args.index in
    let pair : g.row.K.Denot × g.row.V.Denot = (c.args.key, c.args.value) in
    ap (entries_of t) (c.insert_reserved.ensures.pairs ∙ ap (λ l. insert l place pair) c.in-Ok.ensures.pairs) ∙ entries-insert t ps place pair ∙ ap (λ m. insert m.entries place ((c.args.key, t c.args.key), c.args.value)) c.self.view_is

pub returns-in-Err-clause-refused : goal.returns-in-Err-clause-refused
returns-in-Err-clause-refused g c =
    let m = c.self.inside in
    same_contents _ _ (λ i. (entries_of g.K.KeyText.text_of (c.in-Err.ensures.pairs i), (m.hasher, c.in-Err.ensures.refused_buckets i))) ∙ c.self.view_is
