use Rattle.std.proofs.Common.{arith, subst, sym}
use Rattle.std.specs.Prelude.{ℕ}
use Rattle.belief.specs.Beliefs.{corner_of}
use Rattle.belief.proofs.Parts.{corner-parts}
use Rattle.game_model.specs.Game.{IsBelief}
use Rattle.stage_game.specs.Asked.{BeliefFits}
use Rattle.worked_rows.proofs.stages.lower_at_corner.Goals as goal

pub lower_candidates-requires-clause-belief : goal.lower_candidates-requires-clause-belief
lower_candidates-requires-clause-belief c =
    let parts = corner-parts 2 0 (omega arith) (omega arith) in
    subst (BeliefFits c.args.game.now) (sym c.corner.ensures) (record {
      right = subst (λ (n : ℕ). IsBelief n (corner_of 2 0)) (sym c.requires.states) parts.belief;
      coprime = parts.coprime;
    })
