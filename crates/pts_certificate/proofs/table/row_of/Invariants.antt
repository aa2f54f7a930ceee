use Rattle.std.proofs.Common.{◌≡◌, map, drop}
use Rattle.pts_certificate.specs.Rows.{row_of}
use Rattle.pts_certificate.proofs.table.row_of.Given as goal

abbrev pub invariant-loop-name : goal.invariant-loop-name
invariant-loop-name g l = row_of (map (λ row. (row.0.now, row.1)) (drop l.name-index l.rows)) l.word ≡ row_of (map (λ row. (row.0.now, row.1)) l.rows) l.word
