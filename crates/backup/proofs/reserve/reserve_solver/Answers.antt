use Rattle.std.proofs.Common.{ℕ, subst, sym, ◌≤◌}
use Rattle.backup.proofs.Rooms.{rooms-size}
use Rattle.backup.proofs.reserve.reserve_solver.Goals as goal

pub reserve-requires-clause-size : goal.reserve-requires-clause-size
reserve-requires-clause-size c =
    let s = c.law_game.ensures.accepted.shape in
    rooms-size c.states-states.result c.own_actions-own.result c.informed_actions-informed.result c.observations-seen.result
    (subst (λ (n : ℕ). n ≤ 16) (sym c.states-states.ensures) s.states.1)
    (subst (λ (n : ℕ). n ≤ 6) (sym c.own_actions-own.ensures) s.own_actions.1)
    (subst (λ (n : ℕ). n ≤ 6) (sym c.informed_actions-informed.ensures) s.informed_actions.1)
    (subst (λ (n : ℕ). n ≤ 8) (sym c.observations-seen.ensures) s.observations.1)
