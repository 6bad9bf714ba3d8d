use Rattle.std.proofs.Common.{◌+◌, ◌*◌, length}
use Rattle.sj_run.proofs.change.edit.+edit.Given as goal

abbrev pub decreases-edit_near : goal.decreases-edit_near
decreases-edit_near g l = 4 * length l.path.now

abbrev pub decreases-edit_step : goal.decreases-edit_step
decreases-edit_step g l = 4 * length l.rest.now + 3

abbrev pub decreases-edit_token : goal.decreases-edit_token
decreases-edit_token g l = 4 * length l.rest.now + 2

abbrev pub decreases-edit_member : goal.decreases-edit_member
decreases-edit_member g l = 4 * length l.rest.now + 1

abbrev pub decreases-edit_item : goal.decreases-edit_item
decreases-edit_item g l = 4 * length l.rest.now + 1
