use Rattle.std.proofs.Common.{ℕ, ◌<◌, List, add-one, subst}
use Rattle.std.specs.Prelude.{ℤ, slice_index_or}
use Rattle.scaled_num.specs.Share.{at}
use Rattle.game_model.specs.Game.{GameData, numbers}
use Rattle.backup.specs.Seeds.{IsReply}
use Rattle.backup.proofs.corners.settle.Goals as goal

pub loop-round-preserved : goal.loop-round-preserved
loop-round-preserved c =
    let g : GameData = c.args.game.now in
    let new : List ℤ = c.round.new.new in
    let replies : List ℕ = c.round.new.replies in
    let replied = subst (λ (old : List ℤ). (s : ℕ) → s < g.shape.states → IsReply (numbers g) (at old) s (slice_index_or replies s 0) (at new s))
    c.copy_from_slice.ensures.after c.round.ensures.replied in
    record {
      corners = rw (add-one c.loop-round._round) (at c.loop-round.values, c.loop-round.invariant.corners, λ s ls. (slice_index_or replies s 0, replied s ls));
      bounded = c.round.ensures.bounded;
    }
