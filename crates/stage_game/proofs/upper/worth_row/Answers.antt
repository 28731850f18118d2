use Rattle.std.proofs.Common.{◌≡◌, ◌∙◌, ◌++◌, ℕ, List, ap, cond, ◌==◌, flat_map, get_or, map, subst, sym, take}
use Rattle.std.specs.Prelude.{ℤ, pos, neg_ℤ}
use Rattle.std.specs.List.{AllByRecursion}
use Rattle.scaled_num.specs.Sums.{below}
use Rattle.scaled_num.proofs.Sums.{each-at}
use Rattle.game_model.specs.Game.{GameData}
use Rattle.stage_game.specs.UpperProgram.{state_brings, upper_worth_row}
use Rattle.stage_game.specs.Scaling.{ceil_of, paid_above, pay_width}
use Rattle.stage_game.proofs.Appends.{IsInside, block-more, pairs-inside}
use Rattle.stage_game.proofs.RowLists.{row-made}
use Rattle.stage_game.proofs.upper.worth_row.Goals as goal

pub push_block-requires-clause-own : goal.push_block-requires-clause-own
push_block-requires-clause-own c =
    let g : GameData = c.args.game.now in
    let all : AllByRecursion (IsInside g.shape.own_actions g.shape.observations) c.args.after.now = subst (AllByRecursion (IsInside g.shape.own_actions g.shape.observations)) (sym c.requires.after) (pairs-inside g.shape.own_actions g.shape.observations) in
    (each-at (IsInside g.shape.own_actions g.shape.observations) (0, 0) c.args.after.now c.loop-pair.pair-index all c.loop-pair-test.true).0

pub push_block-requires-clause-observation : goal.push_block-requires-clause-observation
push_block-requires-clause-observation c =
    let g : GameData = c.args.game.now in
    let all : AllByRecursion (IsInside g.shape.own_actions g.shape.observations) c.args.after.now = subst (AllByRecursion (IsInside g.shape.own_actions g.shape.observations)) (sym c.requires.after) (pairs-inside g.shape.own_actions g.shape.observations) in
    (each-at (IsInside g.shape.own_actions g.shape.observations) (0, 0) c.args.after.now c.loop-pair.pair-index all c.loop-pair-test.true).1

pub loop-pair-preserved : goal.loop-pair-preserved
loop-pair-preserved c =
    let brought : ℕ × ℕ → List ℤ = λ (p : ℕ × ℕ). map (λ t. neg_ℤ (state_brings c.args.game.now c.args.bits c.args.s p.0 c.args.c p.1 t)) (below c.args.game.now.shape.states) in
    c.in_ok-push_block.ensures
    ∙ ap (λ (xs : List ℤ). xs ++ brought (get_or c.args.after.now c.loop-pair.pair-index (0, 0))) c.loop-pair.invariant
    ∙ block-more brought c.push_pays.new.row.items c.args.after.now c.loop-pair.pair-index (0, 0) c.loop-pair-test.true

pub returns : goal.returns
returns c =
    let g : GameData = c.args.game.now in
    let brought : ℕ × ℕ → List ℤ = λ (p : ℕ × ℕ). map (λ t. neg_ℤ (state_brings g c.args.bits c.args.s p.0 c.args.c p.1 t)) (below g.shape.states) in
    let unit : List ℤ = map (λ t. cond (t == c.args.s) (pos 1) (pos 0)) (below g.shape.states) in
    let pays : List ℤ = map (λ a. neg_ℤ (ceil_of (paid_above g c.args.bits c.args.s a c.args.c) (pay_width g))) (below g.shape.own_actions) in
    let first : c.push_unit.new.row.items ≡ unit =
    c.in_ok-push_unit.ensures ∙ ap (λ (xs : List ℤ). xs ++ map (λ t. cond (t == c.args.s) (pos 1) (pos 0)) (below c.states-2.result)) c.in_ok-row.ensures.items ∙ ap (λ (n : ℕ). map (λ t. cond (t == c.args.s) (pos 1) (pos 0)) (below n)) c.states-2.ensures in
    let both : c.push_pays.new.row.items ≡ unit ++ pays = c.in_ok-push_pays.ensures ∙ ap (λ (xs : List ℤ). xs ++ pays) first in
    row-made (upper_worth_row g c.args.bits c.args.s c.args.c) g (below g.shape.states) c.loop-pair.row.items c.args.after.now c.loop-pair.pair-index c.requires.after c.loop-pair-test.false
    (c.loop-pair.invariant ∙ ap (λ (xs : List ℤ). xs ++ flat_map brought (take c.loop-pair.pair-index c.args.after.now)) both)
