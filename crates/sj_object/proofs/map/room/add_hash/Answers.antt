use Rattle.std.proofs.Common.{◌≡◌, ◌+◌, ◌++◌, ◌∷◌, [], ℕ, List, length, Some, Result, Ok, Err, OnOk, Box, Global, sym, ap, ◌∙◌, subst}
use Rattle.std.proofs.lemmas.List.{length_push}
use Rattle.std.proofs.lemmas.Result.{on_ok_weaker, on_err_weaker}
use Rattle.sj_object.specs.Index.{IsTableOf, buckets_for}
use Rattle.sj_object.specs.Stored.{pairs_of, buckets_of, IsIndexOf}
use Rattle.sj_object.specs.declared.map.store.Store.{Store}
use Rattle.sj_object.specs.declared.map.store.Store.TheVariants.{Hashed}
use Rattle.sj_object.specs.declared.map.store.Hashed.{Hashed as Members}
use Rattle.sj_object.proofs.Hashed.{hashes, hashes-length}
use Rattle.sj_object.proofs.map.room.add_hash.Goals as goal

on_ok_both : {T E P Q R : Type 0} (r : Result T E) → (P → Q → R) → OnOk r P → OnOk r Q → OnOk r R
on_ok_both (Ok x) f p q = f p q
on_ok_both (Err e) f p q = tt

module _ {K V : Type 0} {hs : List ℕ} {s : Store K V} {b : Box (Members K V) Global} {h : Members K V} where
  its_index : IsIndexOf hs s → s ≡ Hashed b → h ≡ b.value → IsTableOf hs h.table
  its_index i is e = subst (λ (m : Members K V). IsTableOf hs m.table) (sym e) (subst (IsIndexOf hs) is i)

pub push-requires : goal.push-requires
push-requires g c = (its_index c.requires.index c.in-Hashed.is c.deref_mut.ensures.value).table

pub returns-in-Hashed-clause-ok : goal.returns-in-Hashed-clause-ok
returns-in-Hashed-clause-ok g c =
    let hs = hashes g.K.KeyText.text_of (g.S.KeyHasher.hash_of c.args.hasher.now) (pairs_of c.args.store.now) in
    let i = its_index c.requires.index c.in-Hashed.is c.deref_mut.ensures.value in
    on_ok_weaker c.push.result (λ e. record { same = e ∙ ap (λ l. l ++ c.args.hash ∷ []) i.same; table = c.push.ensures.table }) c.push.ensures.hashes

pub returns-in-Hashed-clause-refused : goal.returns-in-Hashed-clause-refused
returns-in-Hashed-clause-refused g c =
    let hs = hashes g.K.KeyText.text_of (g.S.KeyHasher.hash_of c.args.hasher.now) (pairs_of c.args.store.now) in
    let i = its_index c.requires.index c.in-Hashed.is c.deref_mut.ensures.value in
    on_err_weaker c.push.result (λ e. record { same = e ∙ i.same; table = c.push.ensures.table }) c.push.ensures.refused

pub returns-in-Hashed-clause-buckets : goal.returns-in-Hashed-clause-buckets
returns-in-Hashed-clause-buckets g c =
    let t = g.K.KeyText.text_of in
    let H = g.S.KeyHasher.hash_of c.args.hasher.now in
    let ps = pairs_of c.args.store.now in
    let hs = hashes t H ps in
    let i = its_index c.requires.index c.in-Hashed.is c.deref_mut.ensures.value in
    let o : buckets_of c.args.store.now ≡ Some (length c.deref_mut.result.now.table.heads.items) =
    ap buckets_of c.in-Hashed.is ∙ ap (λ (h : Members g.row.K.Denot g.row.V.Denot). Some (length h.table.heads.items)) (sym c.deref_mut.ensures.value) in
    on_ok_both c.push.result (λ e b. b ∙ ap (λ m. buckets_for m (Some (length c.deref_mut.result.now.table.heads.items))) (ap length e ∙ ap (λ l. length (l ++ c.args.hash ∷ [])) i.same ∙ length_push hs c.args.hash ∙ ap (λ m. m + 1) (hashes-length t H ps)) ∙ ap (buckets_for (length ps + 1)) (sym o)) c.push.ensures.hashes c.push.ensures.buckets

pub returns-clause-ok : goal.returns-clause-ok
returns-clause-ok g c =
    let t = g.K.KeyText.text_of in
    let H = g.S.KeyHasher.hash_of c.args.hasher.now in
    let hs = hashes t H (pairs_of c.args.store.now) ++ c.args.hash ∷ [] in
    let e = c.in_ok-of_hashes.ensures.hashes ∙ c.in_ok-hashes.ensures.hashes in
    c.put_beside.ensures.index hs (record { same = e; table = c.in_ok-of_hashes.ensures.table })
