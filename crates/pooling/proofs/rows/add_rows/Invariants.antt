use Rattle.std.proofs.Common.{◌+◌, length}
use Rattle.scheme.proofs.InPlace.{Filled}
use Rattle.scheme.proofs.Rows.{Filling}
use Rattle.primus_reduce.specs.Ring.{size_of}
use Rattle.pooling_rows.specs.Rows.{add_tags}
use Rattle.pooling.proofs.Places.{sum_at}
use Rattle.pooling.proofs.rows.add_rows.Given as goal

abbrev pub invariant-loop-i : goal.invariant-loop-i
invariant-loop-i l =
    Filling (sum_at (size_of l.params.modulus) (l.params.dimension.0 + 1) l.bytes l.initial.total) (l.params.dimension.0 + 1) (length l.initial.tags)
    l.initial.total l.total l.i
    × Filled (add_tags l.initial.tags l.bytes) l.initial.tags l.tags l.i
