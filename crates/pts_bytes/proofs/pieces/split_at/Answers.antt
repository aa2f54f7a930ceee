use Rattle.std.proofs.Common.{arith}
use Rattle.pts_bytes.proofs.Cuts.{pieces-none, pieces-first}
use Rattle.pts_bytes.proofs.pieces.split_at.Goals as goal

pub returns-then-found-byte-clause-pieces : goal.returns-then-found-byte-clause-pieces
returns-then-found-byte-clause-pieces c = pieces-first _ _ _ (omega arith) c.loop-place.invariant c.if-found-byte.true

pub returns-clause-pieces : goal.returns-clause-pieces
returns-clause-pieces c = pieces-none _ _ (λ k below. c.loop-place.invariant k (omega arith))
