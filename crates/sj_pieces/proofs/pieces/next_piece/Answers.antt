use Rattle.std.proofs.Common.{rules, ◌≡◌, ℕ, List, take, ap, ◌∙◌, sym, subst, arith}
use Rattle.std.proofs.lemmas.List.{with_items_is, places}
use Rattle.std.specs.Io.KnownBytes.{Consumes}
use Rattle.sj_pieces.specs.Pieces.{SplitsLines}
use Rattle.sj_pieces.proofs.Joins.{read-through, read-full, read-none, last-byte}
use Rattle.sj_pieces.proofs.pieces.next_piece.Goals.{then-count-gt0+then-index-ne10+in_ok-read_until, else-count-gt0, else-count-gt0-via-then-count-gt0+else-index-ne10, else-count-gt0-via-else-count-gt0}
use Rattle.sj_pieces.proofs.pieces.next_piece.Goals as goal

pub returns-clause-lines : goal.returns-clause-lines
returns-clause-lines g c =
    let remaining = g.R.Read.remaining in
    let old = remaining c.args.reader.now in
    let mid = remaining c.read.new.self in
    let piece = c.truncate.new.self.items in
    let cut : piece ≡ take c.in_ok-count.count c.read.new.buf = c.truncate.ensures.items ∙ ap (take c.in_ok-count.count) (with_items_is c.resize.new.self c.read.new.buf (search (rules, places))) in
    let got : Consumes old mid piece = subst (λ (b : List ℕ). Consumes old mid b) (sym cut) c.in_ok-count.ensures.bytes.0 in
    elim c.if-count-gt0.branch [
      | then-count-gt0+then-index-ne10+in_ok-read_until w ↦
          let u = w.in_ok-read_until.ensures in
          let split = read-through old mid (remaining w.read_until.new.self) piece w.read_until.new.buf.items got u.bytes u.rest in
          subst (λ r. SplitsLines old (remaining r) c.if-count-gt0.piece.items) (sym w.reader-is) (subst (λ v. SplitsLines old (remaining w.read_until.new.self) v.items) (sym w.piece-is) split)
      | else-count-gt0 w ↦
          elim w.else-count-gt0.branch [
            | else-count-gt0-via-then-count-gt0+else-index-ne10 v ↦
                let u = last-byte piece c.in_ok-count.count v.index.result.now v.if-count-gt0.true (search (arith, rules)) (sym v.index.ensures ∙ v.if-index-ne10.false) in
                let split = read-full old mid piece u.0 got u.1 in
                subst (λ r. SplitsLines old (remaining r) c.if-count-gt0.piece.items) (sym w.reader-is) (subst (λ q. SplitsLines old mid q.items) (sym w.piece-is) split)
            | else-count-gt0-via-else-count-gt0 v ↦
                let none : c.in_ok-count.count ≡ 0 = omega (arith, v.if-count-gt0.false) in
                let split = read-none old mid piece got (cut ∙ ap (λ (n : ℕ). take n c.read.new.buf) none) in
                subst (λ r. SplitsLines old (remaining r) c.if-count-gt0.piece.items) (sym w.reader-is) (subst (λ q. SplitsLines old mid q.items) (sym w.piece-is) split)
          ]
    ]
