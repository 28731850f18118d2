use Rattle.std.proofs.Common.{◌≡◌, ℕ, ◌+◌, ◌*◌, length, sym, ap, subst, ◌∙◌, arith}
use Rattle.rand_pcg.specs.Lcg.{Lcg}
use Rattle.hsvi_draw.specs.Draws.{after_draws}
use Rattle.hsvi_draw.proofs.Positions.{after_draws-zero}
use Rattle.game_model.specs.Game.{GameData, triples}
use Rattle.game_model.specs.Build.{IsLastRowFull}
use Rattle.game_gen.specs.Rows.{reward_drawn, row_drawn, with_row}
use Rattle.game_gen.specs.Generated.{game_drawn}
use Rattle.game_gen.proofs.Drawing.{after_draws-more}
use Rattle.game_gen.proofs.Games.{counted, game_drawn-more, last_full}
use Rattle.game_gen.proofs.generate.add_rows.Goals as goal

pub loop-init : goal.loop-init
loop-init c = record { built = c.requires.empty; drawn = sym (after_draws-zero c.args.draw.now) }

pub add_row-requires-clause-room : goal.add_row-requires-clause-room
add_row-requires-clause-room c =
    let built = c.loop.invariant.built in
    omega (
      arith,
      ap (λ (g : GameData). length g.rewards) built,
      ap (λ (g : GameData). triples g.shape) built,
      counted c.args.shape.now c.args.builder.now.first c.args.draw.now c.loop.counter,
    )

pub add_row-requires-clause-full : goal.add_row-requires-clause-full
add_row-requires-clause-full c =
    subst IsLastRowFull (sym c.loop.invariant.built) (last_full c.args.shape.now c.args.builder.now.first c.args.draw.now c.loop.counter c.requires.serves)

pub loop-preserved : goal.loop-preserved
loop-preserved c =
    let shape = c.args.shape.now in
    let first = c.args.builder.now.first in
    let g = c.args.draw.now in
    let n = c.loop.counter in
    let draw = c.loop.draw in
    let nine : 9 * n + 9 ≡ 9 * (n + 1) = omega arith in
    record {
      built =
          c.in_ok-add_row.ensures.added
          ∙ ap (λ (b : GameData). with_row b (reward_drawn draw) (row_drawn shape draw)) c.loop.invariant.built
          ∙ ap (λ (d : Lcg). with_row (game_drawn shape first g n) (reward_drawn d) (row_drawn shape d)) c.loop.invariant.drawn
          ∙ game_drawn-more shape first g n;
      drawn =
          after_draws-more (9 * n) 9 g draw c.add_row.new.draw c.loop.invariant.drawn c.add_row.ensures.moved
          ∙ ap (λ (k : ℕ). after_draws k g) nine;
    }
