use Rattle.std.proofs.Common.{ℕ, ◌<◌, List, add-one, subst}
use Rattle.std.specs.Prelude.{ℤ, pos, slice_index_or}
use Rattle.game_model.specs.Game.{GameData, numbers}
use Rattle.game_model.specs.Seeds.{IsLeastFloor}
use Rattle.game_model.proofs.seeds.settle.Goals as goal

pub loop-round-preserved : goal.loop-round-preserved
loop-round-preserved c =
    let g : GameData = c.args.game.now in
    let new : List ℤ = c.round.new.new in
    let floors = subst (λ (old : List ℤ). (s : ℕ) → s < g.shape.states → IsLeastFloor (numbers g) c.args.a (λ t. slice_index_or old t (pos 0)) s (slice_index_or new s (pos 0)))
    c.copy_from_slice.ensures.after c.round.ensures.floors in
    record {
      seed = rw (add-one c.loop-round._round) ((λ s. slice_index_or c.loop-round.out s (pos 0)), c.loop-round.invariant.seed, floors);
      bounded = c.round.ensures.bounded;
    }
