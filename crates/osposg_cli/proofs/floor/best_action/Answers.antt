use Rattle.std.specs.Int.{w128}
use Rattle.std.proofs.Common.{rules, ◌+◌, ◌≡◌, arith, sym, subst, to_z, of_z}
use Rattle.std.proofs.Math.Facts.{to_z-of_z}
use Rattle.std.proofs.lemmas.Int.{ints}
use Rattle.osposg_cli.specs.Floor.{IsSeedProduct}
use Rattle.osposg_cli.specs.declared.floor.Floor.{Floor}
use Rattle.osposg_cli.proofs.Choice.{IsBest, first-best, kept-best, new-best, whole-best}
use Rattle.osposg_cli.proofs.floor.best_action.Goals as goal
use Rattle.osposg_cli.proofs.floor.best_action.Goals.{then-lower-best, else-lower-best}

pub seed_product-requires : goal.seed_product-requires
seed_product-requires c = c.law_game.ensures.accepted.shape.own_actions.0

pub loop-action-init : goal.loop-action-init
loop-action-init c = subst (IsBest c.args.game.now 1 0) (sym (to_z-of_z {w = w128} (search rules))) (first-best c.args.game.now _ c.seed_product.ensures)

pub loop-action-preserved : goal.loop-action-preserved
loop-action-preserved c =
    let g = c.args.game.now in
    let best = λ (floor : Floor). IsBest g (c.loop-action.action + 1) floor.action floor.lower in
    let same : to_z w128 (of_z w128 c.seed_product-lower.result) ≡ c.seed_product-lower.result = to_z-of_z {w = w128} (search rules) in
    let kept : to_z w128 (of_z w128 c.loop-action.best.lower) ≡ c.loop-action.best.lower = to_z-of_z {w = w128} (search rules) in
    elim c.if-lower-best.branch [
      | then-lower-best w ↦ subst best (sym w.best-is) (new-best g _ _ _ _ c.loop-action.invariant (subst (IsSeedProduct g c.loop-action.action) (sym same) c.seed_product-lower.ensures) (grind (arith, ints, same, kept, w.if-lower-best.true)))
      | else-lower-best w ↦ subst best (sym w.best-is) (kept-best g _ _ _ _ c.loop-action.invariant c.seed_product-lower.ensures (grind (arith, ints, same, kept, w.if-lower-best.false)))
    ]

pub returns : goal.returns
returns c = whole-best c.args.game.now _ _ _ (search rules) c.loop-action.invariant
