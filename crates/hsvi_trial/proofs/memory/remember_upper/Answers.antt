use Rattle.std.proofs.Common.{List, Option, subst, sym}
use Rattle.std.specs.Prelude.{ℤ, IfSome}
use Rattle.point_set.specs.Members.{point_data}
use Rattle.point_set.specs.declared.points.Point.{Point}
use Rattle.stage_game.specs.Data.{upper_data}
use Rattle.hsvi_trial.specs.Remembered.{IsUpperMade}
use Rattle.hsvi_trial.proofs.Remembering.{upper-remembered}
use Rattle.hsvi_trial.proofs.memory.remember_upper.Goals as goal

pub returns-then-i-len : goal.returns-then-i-len
returns-then-i-len c =
    let left : IsUpperMade c.args._game.now c.args.points.now.members c.args.belief.now (upper_data c.args.advice) (point_data c.in-Some.point) =
    subst (λ (o : Option Point). IfSome o (λ (x : Point). IsUpperMade c.args._game.now c.args.points.now.members c.args.belief.now (upper_data c.args.advice) (point_data x))) c.in-Some.is c.requires.left in
    let made : IsUpperMade c.args._game.now c.args.points.now.members c.copied.result (upper_data c.args.advice) (point_data c.in-Some.point) =
    subst (λ (b : List ℤ). IsUpperMade c.args._game.now c.args.points.now.members b (upper_data c.args.advice) (point_data c.in-Some.point)) (sym c.copied.ensures) left in
    upper-remembered c.args._game.now c.args.points.now.members c.args.sides.now.items c.args.depth
    (record { belief = c.copied.result; count = c.len-then-i-len.result; advice = c.args.advice; point = c.in-Some.point })
    c.requires.sides c.len-then-i-len.ensures.count made
