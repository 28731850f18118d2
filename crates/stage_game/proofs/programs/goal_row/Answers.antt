use Rattle.std.proofs.Common.{◌≡◌, ◌∙◌, ◌+◌, ◌*◌, ◌++◌, ◌∷◌, [], ℕ, List, ap, arith, length, map, rules, sym}
use Rattle.std.specs.Prelude.{ℤ, FitsSigned}
use Rattle.std.specs.Int.{w128}
use Rattle.std.proofs.lemmas.Int.{to_z-of_z}
use Rattle.scaled_num.specs.Sums.{below}
use Rattle.stage_game.specs.Scaling.{goal_at}
use Rattle.stage_game.specs.Variables.{WorthOf}
use Rattle.stage_game.proofs.Appends.{number-more}
use Rattle.stage_game.proofs.Resized.{goal-steps}
use Rattle.stage_game.proofs.programs.goal_row.Goals as goal

pub loop-s-preserved : goal.loop-s-preserved
loop-s-preserved c =
    let fits : FitsSigned w128 c.goal_of.result = search rules in
    let pushed : c.push.new.self.items ≡ c.loop-s.row.items ++ c.goal_of.result ∷ [] = simp to_z-of_z at c.in_ok-push.ensures.items in
    pushed
    ∙ ap (λ (x : ℤ). c.loop-s.row.items ++ x ∷ []) c.goal_of.ensures
    ∙ ap (λ (xs : List ℤ). xs ++ goal_at c.args.belief.now c.args.bits (WorthOf c.loop-s.s) ∷ []) c.loop-s.invariant
    ∙ number-more (λ s. goal_at c.args.belief.now c.args.bits (WorthOf s)) [] c.loop-s.s

pub returns : goal.returns
returns c = λ members long.
    let all : c.loop-s.s ≡ c.args.game.now.shape.states = search (rules, arith) in
    let row : c.loop-s.row.items ≡ map (λ s. goal_at c.args.belief.now c.args.bits (WorthOf s)) (below c.args.game.now.shape.states) =
    c.loop-s.invariant ∙ ap (λ (n : ℕ). map (λ s. goal_at c.args.belief.now c.args.bits (WorthOf s)) (below n)) all in
    let count : c.loop-s.row.len ≡ length c.loop-s.row.items = search rules in
    goal-steps c.args.game.now c.args.belief.now c.args.bits members c.loop-s.row.items c.resize.new.self.items c.variable_count-width.result c.loop-s.row.len
    (c.variable_count-width.ensures ∙ ap (λ (n : ℕ). c.args.game.now.shape.states + c.args.game.now.shape.own_actions + c.args.game.now.shape.own_actions * c.args.game.now.shape.observations * n) (sym long))
    row count c.in_ok-resize.ensures.items
