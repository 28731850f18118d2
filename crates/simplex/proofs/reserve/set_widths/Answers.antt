use Rattle.std.proofs.Common.{arith}
use Rattle.simplex.proofs.Rows.{wide_more, hold_grown}
use Rattle.simplex.proofs.reserve.set_widths.Goals as goal

pub loop-place-preserved : goal.loop-place-preserved
loop-place-preserved c = record {
  wide = wide_more c.loop-place.rows c.loop-place.place c.args.width _ (omega arith) c.loop-place.invariant.wide c.set_width.ensures.width;
  hold = λ most h. hold_grown most c.loop-place.rows c.loop-place.place c.index-rows-place.result _ (c.loop-place.invariant.hold most h) c.set_width.ensures.room;
}
