use Rattle.std.proofs.Common.{◌<◌, ℕ, length, subst, sym}
use Rattle.game_model.specs.Game.{GameData, triple}
use Rattle.game_model.proofs.Games.{place-lt}
use Rattle.game_model.proofs.accepted.Game.place.Goals as goal

pub returns-clause-within : goal.returns-clause-within
returns-clause-within c =
    let place : ℕ = triple c.self.inside.shape c.args.s c.args.a c.args.c in
    let within = λ (g : GameData). c.args.s < g.shape.states → c.args.a < g.shape.own_actions → c.args.c < g.shape.informed_actions → place < length g.rows in
    subst within c.self.view_is (λ ls la lc.
    subst (λ (n : ℕ). place < n) (sym c.self.invariant.game.rows_count) (place-lt c.self.inside.shape c.args.s c.args.a c.args.c ls la lc))
    c.requires.state c.requires.own c.requires.informed
