use Rattle.std.specs.Int.{w128}
use Rattle.std.proofs.Common.{rules, ◌≡◌, to_z, of_z}
use Rattle.std.proofs.Math.Facts.{to_z-of_z}
use Rattle.osposg_cli.proofs.solve.exported.Goals as goal

pub returns-clause-stands : goal.returns-clause-stands
returns-clause-stands c =
    let times : to_z w128 (of_z w128 c.args.solved.now.multiple) ≡ c.args.solved.now.multiple = to_z-of_z {w = w128} (search rules) in
    c.export.ensures.stands (rw (c.deref.ensures.value, times) c.requires.stand)
