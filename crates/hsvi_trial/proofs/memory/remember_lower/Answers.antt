use Rattle.std.proofs.Common.{List, Option, subst, sym}
use Rattle.std.specs.Prelude.{ℤ, IfSome}
use Rattle.alpha_set.specs.Members.{node_data}
use Rattle.alpha_set.specs.declared.nodes.Node.{Node}
use Rattle.stage_game.specs.Data.{lower_data}
use Rattle.hsvi_trial.specs.Remembered.{IsLowerMade}
use Rattle.hsvi_trial.proofs.Remembering.{lower-remembered}
use Rattle.hsvi_trial.proofs.memory.remember_lower.Goals as goal

pub returns-then-i-len : goal.returns-then-i-len
returns-then-i-len c =
    let left : IsLowerMade c.args._game.now c.args.nodes.now.members c.args.belief.now (lower_data c.args.advice) (node_data c.in-Some.node) =
    subst (λ (o : Option Node). IfSome o (λ (x : Node). IsLowerMade c.args._game.now c.args.nodes.now.members c.args.belief.now (lower_data c.args.advice) (node_data x))) c.in-Some.is c.requires.left in
    let made : IsLowerMade c.args._game.now c.args.nodes.now.members c.copied.result (lower_data c.args.advice) (node_data c.in-Some.node) =
    subst (λ (b : List ℤ). IsLowerMade c.args._game.now c.args.nodes.now.members b (lower_data c.args.advice) (node_data c.in-Some.node)) (sym c.copied.ensures) left in
    lower-remembered c.args._game.now c.args.nodes.now.members c.args.sides.now.items c.args.depth
    (record { belief = c.copied.result; count = c.len-then-i-len.result; advice = c.args.advice; node = c.in-Some.node })
    c.requires.sides c.len-then-i-len.ensures.count made
