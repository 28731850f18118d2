use Rattle.hsvi_draw.specs.Draws.{seeded}
use Rattle.hsvi_draw.proofs.Draw.new.Goals as goal

pub returns : goal.returns
unfolding seeded
returns c = c.seed_from_u64.ensures
