use Rattle.std.proofs.Common.{rules, arith, ◌∙◌, ◌<◌, length}
use Rattle.std.specs.Prelude.{pos, FitsSigned}
use Rattle.std.specs.Int.{w128}
use Rattle.std.proofs.lemmas.Int.{to_z-of_z}
use Rattle.scaled_num.specs.Share.{at}
use Rattle.game_model.specs.Bounds.{IsWithinSpan}
use Rattle.game_model.specs.Game.{GameData, numbers}
use Rattle.game_model.proofs.Least.{written}
use Rattle.backup.specs.Seeds.{IsReply}
use Rattle.backup.proofs.Places.{written-two}
use Rattle.backup.proofs.corners.round.Goals as goal
use Rattle.scaled_num.proofs.Each.{each-by-place}

pub loop-s-preserved : goal.loop-s-preserved
loop-s-preserved c =
    let g : GameData = c.args.game.now in
    let fits : FitsSigned w128 c.reply-value.result.0 = search rules in
    let inside : c.loop-s.s < length c.loop-s.new = search (rules, arith) in
    let inside_too : c.loop-s.s < length c.loop-s.replies = search (rules, arith) in
    simp to_z-of_z (record {
      replied = written-two (λ k c' x. IsReply (numbers g) (at c.args.old.now) k c' x) c.loop-s.replies c.loop-s.new c.loop-s.s c.reply-value.result.1 c.reply-value.result.0 inside_too inside c.loop-s.invariant.replied c.reply-value.ensures.reply;
      within = written (λ k x. IsWithinSpan g x) c.loop-s.new c.loop-s.s c.reply-value.result.0 inside c.loop-s.invariant.within c.reply-value.ensures.bounded;
    })

pub returns-clause-bounded : goal.returns-clause-bounded
returns-clause-bounded c =
    let g : GameData = c.args.game.now in
    record {
      long = c.loop-s.auto.new ∙ c.requires.states;
      each = each-by-place (IsWithinSpan g) (pos 0) c.loop-s.new (λ i l. c.loop-s.invariant.within i (omega arith));
    }
