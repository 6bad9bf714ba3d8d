use Rattle.std.proofs.Common.{sym, ◌∙◌, arith}
use Rattle.std.specs.Map.Calls.{CalledAtPair}
use Rattle.sj_object.specs.Stored.{stored_members}
use Rattle.sj_object.proofs.Retained.{retained_hashes}
use Rattle.sj_object.proofs.map.store.Hashed.retain.Goals as goal

pub returns-else-len-before-clause-table : goal.returns-else-len-before-clause-table
returns-else-len-before-clause-table g c =
    let H = g.S.KeyHasher.hash_of c.args.hasher.now in
    let e = retained_hashes (CalledAtPair g.F.FnMut) g.K.KeyText.text_of H c.args.keep (stored_members c.args.self.now.members) (stored_members c.retain.new.self) c.retain.ensures (omega (arith, c.if-len-before.false, c.len-before.ensures, c.len.ensures)) in
    record { same = c.requires.table.same ∙ sym e; table = c.requires.table.table }
