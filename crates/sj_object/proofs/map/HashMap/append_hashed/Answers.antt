use Rattle.std.proofs.Common.{◌+◌, ◌++◌, ◌∷◌, [], true, length, sym, ap, ◌∙◌, subst}
use Rattle.std.proofs.lemmas.List.{length_push}
use Rattle.sj_text_core.specs.Keep.{is_seen}
use Rattle.sj_object.specs.Entries.{entry_texts, entries_of}
use Rattle.sj_object.specs.HashMap.{same_contents}
use Rattle.sj_object.specs.Index.{NeedsHash}
use Rattle.sj_object.specs.Stored.{pairs_of, IsIndexOf}
use Rattle.sj_object.proofs.Repeats.{no_repeats-push}
use Rattle.sj_object.proofs.Position.{unseen_where_none}
use Rattle.sj_object.proofs.Hashed.{hashes, hashes-last, hashes-length, IsIndexOf-read, room_of}
use Rattle.sj_object.proofs.map.HashMap.append_hashed.Goals as goal

pub invariant_of-self-inside : goal.invariant_of-self-inside
invariant_of-self-inside g c =
    let t = g.K.KeyText.text_of in
    let e = c.push_reserved.ensures.pairs ∙ ap (λ l. l ++ (c.args.key, c.args.value) ∷ []) c.in-Ok.ensures.pairs in
    let H = g.S.KeyHasher.hash_of c.self.inside.hasher in
    let ps = (pairs_of c.self.inside.store) in
    let n = length_push (hashes t H ps) c.args.hash ∙ ap (λ m. m + 1) (hashes-length t H ps) ∙ sym (ap length e ∙ length_push ps (c.args.key, c.args.value)) in (
      no_repeats-push t (pairs_of c.self.inside.store) (pairs_of c.push_reserved.new.self) true c.args.key c.args.value c.self.inside.distinct (ap (λ m. is_seen (t c.args.key) (entry_texts m.entries)) c.self.view_is ∙ unseen_where_none (g.K.KeyText.text_of c.args.key) c.args.self.now.entries c.requires.absent) e,
      (room_of t (pairs_of c.push_reserved.new.self) _ c.push_reserved.new.self (c.push_reserved.ensures.index _ c.in-Ok.ensures.ok) n, tt),
    )

pub invariant_of-self : goal.invariant_of-self
invariant_of-self g c =
    let t = g.K.KeyText.text_of in
    let H = g.S.KeyHasher.hash_of c.self.inside.hasher in
    let ps = (pairs_of c.self.inside.store) in
    let i = c.self.inside.store in
    let b = c.make_room.new.store in
    let read = IsIndexOf-read t H i b c.args.hash (H (t c.args.key)) c.in-Ok.ensures.ok c.in-Ok.ensures.buckets (λ z. c.requires.hash (subst (λ m. NeedsHash (length m.entries) m.buckets) c.self.view_is z) ∙ ap (λ m. g.S.KeyHasher.hash_of m.hasher (t c.args.key)) (sym c.self.view_is)) in
    let e = ap (hashes t H) (c.push_reserved.ensures.pairs ∙ ap (λ l. l ++ (c.args.key, c.args.value) ∷ []) c.in-Ok.ensures.pairs) ∙ hashes-last t H ps (c.args.key, c.args.value) in
    c.push_reserved.ensures.index _ (subst (λ hs. IsIndexOf hs b) (sym e) read)

pub returns-in-Err-clause-refused : goal.returns-in-Err-clause-refused
returns-in-Err-clause-refused g c =
    let m = c.self.inside in
    same_contents _ _ (λ i. (entries_of g.K.KeyText.text_of (c.in-Err.ensures.pairs i), (m.hasher, c.in-Err.ensures.refused_buckets i))) ∙ c.self.view_is
