use Rattle.std.proofs.Common.{◌≡◌, ◌*◌}
use Rattle.hsvi_draw.specs.Draws.{after_draws}
use Rattle.game_gen.specs.Generated.{game_drawn}
use Rattle.game_gen.proofs.generate.add_rows.Given as goal

abbrev pub invariant-loop : goal.invariant-loop
invariant-loop l = record {
  built : l.builder ≡ game_drawn l.shape l.initial.builder.first l.initial.draw l.counter;
  drawn : l.draw ≡ after_draws (9 * l.counter) l.initial.draw;
}
