use Rattle.std.proofs.Common.{◌≡◌, List, IfOk, map, string_bytes, subst}
use Rattle.sj_text_core.specs.Paths.{Step, by_token, tree_at, set_at}
use Rattle.sj_document.specs.Document.{ChangesFound}
use Rattle.sj_pointer.specs.Pointed.{path_of}
use Rattle.sj_path.proofs.Tokens.{tokens-path}
use Rattle.sj_path.proofs.write.update_in.Goals as goal

pub returns : goal.returns
returns g c =
    let t = g.T.KeyText.text_of in
    let ks = c.args.tokens.now in
    let q : map (λ s. by_token (string_bytes s)) ks ≡ path_of (map string_bytes ks) = tokens-path ks in
    record {
      changed = subst (λ (p : List Step). IfOk c.update_at.result (ChangesFound t (g.C.Change.makes c.args.change) (tree_at p) (set_at p) c.args.value.now c.update_at.new.value)) q c.update_at.ensures.changed;
      absent = rw (← q) c.update_at.ensures.absent;
    }
