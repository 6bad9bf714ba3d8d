use Rattle.std.proofs.Common.{◌≡◌, drop, string_bytes}
use Rattle.sj_document.specs.Document.{document_tree}
use Rattle.sjconf.specs.Settings.{all_set}
use Rattle.sjconf.proofs.setting.set_all.Given as goal

abbrev pub invariant-loop-index : goal.invariant-loop-index
invariant-loop-index l = all_set (drop l.index l.settings) (document_tree string_bytes l.document) ≡ all_set l.settings (document_tree string_bytes l.initial.document)
