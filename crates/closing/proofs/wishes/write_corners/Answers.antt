use Rattle.std.proofs.Common.{◌≢◌, ◌<◌, length, arith, get_or-set_other, get_or-set_same, below_more}
use Rattle.closing.proofs.wishes.write_corners.Goals as goal

pub loop-s-preserved : goal.loop-s-preserved
loop-s-preserved c =
    below_more _ _
    (λ t h. let ne : t ≢ c.loop-s.s = omega arith in rw get_or-set_other (c.loop-s.invariant t h))
    (let lt : c.loop-s.s < length c.loop-s.corners = omega arith in rw get_or-set_same c.corner.ensures)
