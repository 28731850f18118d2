use Rattle.std.proofs.Common.{ℕ, ◌≡◌, ◌<◌, ◌∙◌, List, length, subst}
use Rattle.std.specs.Prelude.{ℤ, slice_index_or}
use Rattle.scaled_num.specs.Share.{at}
use Rattle.game_model.specs.Game.{GameData, numbers, span}
use Rattle.backup.specs.Seeds.{AreCornersAfter, IsReply}
use Rattle.backup.proofs.corners.settle_corners.Goals as goal
use Rattle.scaled_num.proofs.Each.{each-by-place}

pub returns : goal.returns
returns c =
    let g : GameData = c.args.game.now in
    let new : List ℤ = c.round.new.new in
    let replies : List ℕ = c.round.new.replies in
    let count : length replies ≡ g.shape.states = c.round.auto.replies ∙ c.settle.auto.replies ∙ c.requires.replies in
    let replied = subst (λ (old : List ℤ). (s : ℕ) → s < g.shape.states → IsReply (numbers g) (at old) s (slice_index_or replies s 0) (at new s))
    c.copy_from_slice.ensures.after c.round.ensures.replied in
    let before : AreCornersAfter (numbers g) (span g) 255 (at c.settle.new.values) = assumption c.settle.ensures.corners in
    record {
      accepted = c.law_game.ensures.accepted;
      long = c.round.ensures.bounded.long;
      count = count;
      informed = each-by-place (λ d. d < g.shape.informed_actions) 0 replies (λ s l. (replied s (subst (λ (n : ℕ). s < n) count l)).informed);
      corners = record { old = at c.settle.new.values; before = before; last = replied };
    }
