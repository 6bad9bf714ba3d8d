use Rattle.std.proofs.Common.{length}
use Rattle.sj_lines.specs.Ahead.{ahead}
use Rattle.bench_jobs.proofs.router.route.Given as goal

abbrev pub decreases-loop-line : goal.decreases-loop-line
decreases-loop-line l = length (ahead l.lines)
