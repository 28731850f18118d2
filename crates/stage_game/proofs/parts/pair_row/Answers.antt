use Rattle.std.proofs.Common.{ℕ, ◌≡◌, ◌+◌, ◌*◌, ◌∷◌, [], ◌++◌, ap, arith, length}
use Rattle.std.specs.Prelude.{FitsSigned}
use Rattle.std.specs.Int.{w128}
use Rattle.std.proofs.lemmas.Int.{to_z-of_z}
use Rattle.stage_game.proofs.Resized.{pair_row-steps}
use Rattle.stage_game.proofs.parts.pair_row.Goals as goal

pub returns : goal.returns
returns c = λ number ends long is.
    let fits : FitsSigned w128 c.args.own = c.ranges.own in
    let pushed : c.push.new.self.items ≡ c.resize.new.self.items ++ c.args.own ∷ [] = simp to_z-of_z at c.in_ok-push.ensures.items in
    pair_row-steps number c.args.game.now c.args.a c.args.o c.args.own ends c.args.block.now
    (c.states-states.result + c.args.a) (c.states-states.result + c.own_actions.result + (c.args.a * c.observations.result + c.args.o) * length c.args.block.now) c.variable_count-width.result
    c.in_ok-row.row.len c.push.new.self.len c.extend_from_slice.new.self.len
    c.in_ok-row.row.items c.resize.new.self.items c.push.new.self.items c.resize-2.new.self.items c.extend_from_slice.new.self.items c.resize-3.new.self.items
    c.requires.action c.requires.observation long is
    (ap (λ (n : ℕ). n + c.args.a) c.states-states.ensures)
    (omega (arith, c.states-states.ensures, c.own_actions.ensures, ap (λ (n : ℕ). (c.args.a * n + c.args.o) * length c.args.block.now) c.observations.ensures))
    c.variable_count-width.ensures
    c.in_ok-row.ensures.items c.in_ok-row.ensures.len
    (omega (arith, c.in_ok-push.ensures.len, c.in_ok-resize.ensures.len))
    (omega (arith, c.in_ok-extend_from_slice.ensures.len, c.in_ok-resize-2.ensures.len))
    c.in_ok-resize.ensures.items pushed c.in_ok-resize-2.ensures.items c.in_ok-extend_from_slice.ensures.items c.in_ok-resize-3.ensures.items
