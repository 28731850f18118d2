use Rattle.std.proofs.Common.{◌≡◌, ℕ, ◌<◌, arith, true}
use Rattle.game_model.specs.Game.{GameData, numbers}
use Rattle.scaled_num.proofs.First.{all-map, first-map}
use Rattle.alpha_set.specs.Members.{HoldsBy, node_data}
use Rattle.alpha_set.specs.Nodes.{node_of}
use Rattle.alpha_set.proofs.stands.first_in.Goals as goal

pub returns-then-not-holds-clause-first : goal.returns-then-not-holds-clause-first
returns-then-not-holds-clause-first c =
    let g : GameData = c.args.game.now in
    first-map (λ (place : ℕ × ℕ). HoldsBy (numbers g) (node_of (node_data c.args.node.now)) c.args.table.now place.0 place.1) (λ (d : ℕ). (c.args.s, d)) g.shape.informed_actions c.loop-c.c
    (omega (arith, c.informed_actions-c-end.ensures)) c.loop-c.invariant (λ h. let yes : c.holds.result ≡ true = c.holds.ensures.1 h in cc)

pub returns-clause-none : goal.returns-clause-none
returns-clause-none c = λ none.
    let g : GameData = c.args.game.now in
    all-map (λ (place : ℕ × ℕ). HoldsBy (numbers g) (node_of (node_data c.args.node.now)) c.args.table.now place.0 place.1) (λ (d : ℕ). (c.args.s, d)) g.shape.informed_actions
    (λ d ld. c.loop-c.invariant d (omega (arith, c.informed_actions-c-end.ensures)))
