use Rattle.std.proofs.Common.{string_bytes, true}
use Rattle.sj_text_core.specs.Tree.{boolean}
use Rattle.sj_document.specs.Document.{document_tree}
use Rattle.sj_uses.proofs.Edits.{found_after}
use Rattle.sj_uses.proofs.settings.set_found.Goals as goal

pub returns : goal.returns
returns c =
    found_after c.insert.result (string_bytes c.args.key) (boolean true) (document_tree string_bytes c.from.result) (document_tree string_bytes c.args.settings.now) (document_tree string_bytes c.insert.new.self)
    c.from.ensures c.insert.ensures.after c.insert.ensures.object
