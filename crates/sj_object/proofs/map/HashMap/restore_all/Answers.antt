use Rattle.std.proofs.Common.{◌≡◌, ◌≤◌, true, length, sym, ap, ◌∙◌, arith}
use Rattle.sj_object.specs.Texts.{no_repeats}
use Rattle.sj_object.specs.Entries.{entry_texts, entries_of}
use Rattle.sj_object.specs.Rooms.{places}
use Rattle.sj_object.specs.Stored.{pairs_of}
use Rattle.sj_object.proofs.Hashed.{hashes, hashes-length, entries-length, room_of}
use Rattle.sj_object.proofs.Restored.{restored_all-within, restored_all-distinct, restored_all-full}
use Rattle.sj_object.proofs.map.HashMap.restore_all.Goals as goal

pub returns-then-most-len-clause-entries : goal.returns-then-most-len-clause-entries
returns-then-most-len-clause-entries g c =
    let es = c.args.self.now.entries in
    let full : places c.args.room ≤ length es = omega (arith, c.places-most.ensures, c.len.ensures, c.if-most-len.true) in
    sym (restored_all-full g.K.KeyText.text_of (places c.args.room) c.args.taken.items es full)

pub take-requires-clause-places : goal.take-requires-clause-places
take-requires-clause-places g c =
    let t = g.K.KeyText.text_of in
    let ps = c.move_into.new.pairs.items in
    let qs = c.put_back.new.pairs.items in
    let before : length ps ≡ c.len.result = sym (entries-length t ps) ∙ ap (λ l. length (entries_of t l)) c.move_into.ensures.pairs ∙ ap (λ m. length m.entries) c.self.view_is ∙ sym c.len.ensures in
    let few : length (entries_of t ps) ≤ c.places-most.result = omega (arith, before, entries-length t ps, c.if-most-len.false) in
    let after : length qs ≤ c.places-most.result = omega (arith, entries-length t qs, ap length c.put_back.ensures, restored_all-within t c.places-most.result c.args.taken.items (entries_of t ps) few) in
    omega (arith, after, c.places-most.ensures)

pub invariant_of-self-inside : goal.invariant_of-self-inside
invariant_of-self-inside g c =
    let t = g.K.KeyText.text_of in
    let H = g.S.KeyHasher.hash_of c.self.inside.hasher in
    let ps = c.move_into.new.pairs.items in
    let store = c.take.new.self in
    let before : no_repeats (entry_texts (entries_of t ps)) ≡ true = ap (λ l. no_repeats (entry_texts (entries_of t l))) c.move_into.ensures.pairs ∙ c.self.inside.distinct in
    let after = restored_all-distinct t c.places-most.result c.args.taken.items (entries_of t ps) before in (
      ap (λ l. no_repeats (entry_texts (entries_of t l))) c.take.ensures.pairs ∙ ap (λ es. no_repeats (entry_texts es)) c.put_back.ensures ∙ after,
      (room_of t (pairs_of store) (hashes t H (pairs_of store)) store c.take.ensures.index (hashes-length t H (pairs_of store)), tt),
    )
