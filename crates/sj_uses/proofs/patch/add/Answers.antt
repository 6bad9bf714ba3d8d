use Rattle.std.proofs.Common.{string_bytes}
use Rattle.std.proofs.lemmas.Result.{on_err_weaker}
use Rattle.sj_document.specs.Document.{document_tree}
use Rattle.sj_path.proofs.Changed.{put_back}
use Rattle.sj_uses.proofs.patch.add.Goals as goal

pub returns-in-Ok-clause-kept : goal.returns-in-Ok-clause-kept
returns-in-Ok-clause-kept c =
    let h = c.in-Ok.ensures.changed in
    on_err_weaker c.in-Ok.answer (put_back c.args.place.parent (document_tree string_bytes h.0) (document_tree string_bytes h.1) (document_tree string_bytes c.args.document.now) (document_tree string_bytes c.update.new.value) h.2 h.4) h.3.1
