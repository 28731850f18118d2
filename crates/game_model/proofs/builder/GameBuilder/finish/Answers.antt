use Rattle.std.proofs.Common.{rules, ◌≡◌, length, subst, sym, arith}
use Rattle.game_model.specs.Build.{IsGameFront, IsLastRowFull, HasRoom}
use Rattle.game_model.specs.Game.{IsGame, triples}
use Rattle.game_model.proofs.Front.{full-game}
use Rattle.game_model.proofs.builder.GameBuilder.finish.Goals as goal

pub of_parts-requires : goal.of_parts-requires
of_parts-requires c =
    let g = c.args.self in
    let front : IsGameFront g = subst IsGameFront c.self.view_is c.self.invariant.front in
    let none : ¬ (HasRoom g) = search rules in
    let last : IsLastRowFull g = search rules in
    let all : length g.rewards ≡ triples g.shape = omega (arith, front.most) in
    subst IsGame (sym c.self.view_is) (full-game g front all last)
