use Rattle.std.proofs.Common.{◌≡◌, ℕ, ◌*◌, ◌<◌, max, List, length, get_or, take_all, arith, rules, ap, ◌∙◌}
use Rattle.std.specs.Prelude.{ℤ, pos, fold, unsigned_abs}
use Rattle.std.specs.Int.{w128}
use Rattle.std.proofs.Math.Facts.{to_z-of_z}
use Rattle.std.proofs.lemmas.List.Sums.{fold_more}
use Rattle.game_model.specs.Game.{GameData}
use Rattle.simulate.proofs.Lengths.{has-limits, is-triple}
use Rattle.simulate.proofs.gains.greatest_reward.Goals as goal

pub loop-triple-preserved : goal.loop-triple-preserved
loop-triple-preserved c =
    let g : GameData = c.args.game.now in
    let i : ℕ = c.loop-triple.triple in
    let test : i < g.shape.states * g.shape.own_actions * g.shape.informed_actions = rw (c.states.ensures, c.own_actions-own.ensures, c.informed_actions-informed.ensures) at c.loop-triple-test.true in
    let is = is-triple g.shape.states g.shape.own_actions g.shape.informed_actions i c.law_game.ensures.accepted.shape.own_actions.0 c.law_game.ensures.accepted.shape.informed_actions.0 test in
    let inside : i < length g.rewards = omega (arith, c.law_game.ensures.accepted.rewards_count) in
    let more = fold_more (λ (most : ℕ) (reward : ℤ). max most (unsigned_abs reward)) 0 g.rewards i (pos 0) inside in
    let reward = rw (c.own_actions-own.ensures, c.informed_actions-informed.ensures) at c.reward-reward.ensures in
    let here = ap (λ (n : ℕ). get_or g.rewards n (pos 0)) is.is in
    let size : c.unsigned_abs.result ≡ unsigned_abs (get_or g.rewards i (pos 0)) =
    c.unsigned_abs.ensures.value ∙ ap unsigned_abs (to_z-of_z {w = w128} (search rules) ∙ reward ∙ here) in
    omega (arith, c.max-most.ensures, c.loop-triple.invariant, more, size)

pub returns-clause-greatest : goal.returns-clause-greatest
returns-clause-greatest c =
    let g : GameData = c.args.game.now in
    let test = rw (c.states.ensures, c.own_actions-own.ensures, c.informed_actions-informed.ensures) at c.loop-triple-test.false in
    let all = c.law_game.ensures.accepted.rewards_count in
    let whole = take_all c.loop-triple.triple g.rewards (omega (arith, test, all)) in
    c.loop-triple.invariant ∙ ap (λ (rewards : List ℤ). fold (λ (most : ℕ) (reward : ℤ). max most (unsigned_abs reward)) 0 rewards) whole

pub returns-clause-small : goal.returns-clause-small
returns-clause-small c =
    let limits = has-limits c.args.game.now c.law_game.ensures.accepted in
    let reward = limits.reward in
    let g : GameData = c.args.game.now in
    let test = rw (c.states.ensures, c.own_actions-own.ensures, c.informed_actions-informed.ensures) at c.loop-triple-test.false in
    let all = c.law_game.ensures.accepted.rewards_count in
    let whole = take_all c.loop-triple.triple g.rewards (omega (arith, test, all)) in
    let is = c.loop-triple.invariant ∙ ap (λ (rewards : List ℤ). fold (λ (most : ℕ) (reward : ℤ). max most (unsigned_abs reward)) 0 rewards) whole in
    omega (arith, is, reward)
