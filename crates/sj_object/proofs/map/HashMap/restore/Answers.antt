use Rattle.std.proofs.Common.{◌≡◌, ◌≤◌, false, length, sym, ap, ◌∙◌, arith}
use Rattle.std.specs.List.{insert}
use Rattle.std.proofs.lemmas.List.Edits.{length-insert}
use Rattle.sj_text_core.specs.Keep.{is_seen}
use Rattle.sj_object.specs.Texts.{no_repeats}
use Rattle.sj_object.specs.Entries.{entry_texts, entries_of}
use Rattle.sj_object.specs.Stored.{pairs_of}
use Rattle.sj_object.proofs.Position.{unseen_where_none}
use Rattle.sj_object.proofs.Hashed.{hashes, hashes-length, entries-length, room_of}
use Rattle.sj_object.proofs.Inserted.{inserted, distinct-insert, entries-insert}
use Rattle.sj_object.proofs.map.HashMap.restore.Goals as goal

pub take-requires-clause-places : goal.take-requires-clause-places
take-requires-clause-places g c =
    let t = g.K.KeyText.text_of in
    let ps = c.move_into.new.pairs.items in
    let place = c.args.index in
    let pair : g.row.K.Denot × g.row.V.Denot = (c.args.key, c.args.value) in
    let put = inserted c.move_into.new.pairs.items c.insert.new.self.items place pair c.insert.result c.unwrap.result c.insert.ensures.items c.unwrap.ensures in
    let before : length ps ≡ length c.args.self.now.entries = sym (entries-length t ps) ∙ ap (λ l. length (entries_of t l)) c.move_into.ensures.pairs ∙ ap (λ m. length m.entries) c.self.view_is in
    let among : place ≤ length ps = omega (arith, before, c.requires.within) in
    omega (arith, ap length put, length-insert ps place pair among, before, c.requires.places)

pub invariant_of-self-inside : goal.invariant_of-self-inside
invariant_of-self-inside g c =
    let t = g.K.KeyText.text_of in
    let H = g.S.KeyHasher.hash_of c.self.inside.hasher in
    let ps = pairs_of c.self.inside.store in
    let place = c.args.index in
    let pair : g.row.K.Denot × g.row.V.Denot = (c.args.key, c.args.value) in
    let store = c.take.new.self in
    let put = inserted c.move_into.new.pairs.items c.insert.new.self.items place pair c.insert.result c.unwrap.result c.insert.ensures.items c.unwrap.ensures in
    let whole : pairs_of store ≡ insert ps place pair = c.take.ensures.pairs ∙ put ∙ ap (λ l. insert l place pair) c.move_into.ensures.pairs in
    let absent : is_seen (t c.args.key) (entry_texts (entries_of t ps)) ≡ false = ap (λ m. is_seen (t c.args.key) (entry_texts m.entries)) c.self.view_is ∙ unseen_where_none (t c.args.key) c.args.self.now.entries c.requires.absent in (
      ap (λ l. no_repeats (entry_texts (entries_of t l))) whole ∙ distinct-insert t ps place pair c.self.inside.distinct absent,
      (room_of t (pairs_of store) (hashes t H (pairs_of store)) store c.take.ensures.index (hashes-length t H (pairs_of store)), tt),
    )

pub returns-clause-entries : goal.returns-clause-entries
returns-clause-entries g c =
    let t = g.K.KeyText.text_of in
    let ps = pairs_of c.self.inside.store in
    let place = c.args.index in
    let pair : g.row.K.Denot × g.row.V.Denot = (c.args.key, c.args.value) in
    let put = inserted c.move_into.new.pairs.items c.insert.new.self.items place pair c.insert.result c.unwrap.result c.insert.ensures.items c.unwrap.ensures in
    ap (entries_of t) (c.take.ensures.pairs ∙ put ∙ ap (λ l. insert l place pair) c.move_into.ensures.pairs) ∙ entries-insert t ps place pair
    ∙ ap (λ m. insert m.entries place ((c.args.key, t c.args.key), c.args.value)) c.self.view_is
