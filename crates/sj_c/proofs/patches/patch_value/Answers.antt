use Rattle.std.proofs.Common.{◌≡◌, inr, map, string_bytes, subst}
use Rattle.std.specs.Prelude.{Err}
use Rattle.sj_document.specs.Document.{document_tree}
use Rattle.sj_patch.specs.Meant.{meant, IsFaultOf}
use Rattle.sj_patch.specs.Patch.{patched}
use Rattle.sj_c.proofs.patches.patch_value.Goals as goal

pub returns-in-Err-Failed-clause-fault : goal.returns-in-Err-Failed-clause-fault
returns-in-Err-Failed-clause-fault c =
    let t = document_tree string_bytes c.args.document.now in
    let faults = subst (λ e. IsFaultOf e (patched (map (meant string_bytes) c.as_slice.result.now) t)) c.in-Err-Failed.field-0-is c.in-Err-Failed.ensures.fault in
    let failed = subst (λ os. patched (map (meant string_bytes) os) t ≡ Err (c.in-Err-Failed.number, c.in-Err-Failed.fault)) c.as_slice.ensures.value faults in
    λ _. record { why = inr (inr (map (meant string_bytes) c.in-Ok.operations.items, c.in-Err-Failed.fault, c.code_of_operation.ensures.status, c.in-Ok.ensures.ok, failed)) }
