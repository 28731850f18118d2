-- A solver's room for the programs of every visit of a game.
use Rattle.std.proofs.Common.{◌≡◌, ℕ, ◌+◌, ◌*◌, ◌^◌, ◌≤◌, List, length, arith}
use Rattle.std.proofs.Math.Nat.{mul-le-mul, mul-le-mul_left}
use Rattle.alpha_set.specs.Nodes.{NodeData}
use Rattle.game_model.specs.Game.{GameData, IsGame}
use Rattle.point_set.specs.Points.{PointData}
use Rattle.simplex.specs.Solver.{State}
use Rattle.stage_game.specs.Asked.{HasRoomForLower, HasRoomForLowers, HasRoomForUpper, HasRoomForUppers}
use Rattle.backup.specs.Rooms.{HasRooms}
use Rattle.stage_game.proofs.FewPoints.{few-candidates}

pub lower-rooms : (solver : State) (g : GameData) (nodes : List NodeData) → IsGame g → HasRoomForLower solver g 16 → HasRoomForLowers solver g nodes
lower-rooms solver g nodes game room candidates ends =
    let more : g.shape.own_actions * g.shape.observations * length candidates ≤ g.shape.own_actions * g.shape.observations * 16 = mul-le-mul_left (g.shape.own_actions * g.shape.observations) ends.few in
    let some = game.shape.states.0 in
    record { some_row = room.some_row; rows_fit = room.rows_fit; some_variable = omega arith; variables_fit = omega (arith, room.variables_fit) }

pub upper-rooms : (solver : State) (g : GameData) (points : List PointData) → IsGame g → HasRoomForUpper solver g (g.shape.states + 8) → HasRoomForUppers solver g points
upper-rooms solver g points game room candidates ends =
    let few : length candidates ≤ g.shape.states + 8 = few-candidates g points candidates ends in
    let more : g.shape.own_actions * g.shape.observations * length candidates ≤ g.shape.own_actions * g.shape.observations * (g.shape.states + 8) = mul-le-mul_left (g.shape.own_actions * g.shape.observations) few in
    record { some_row = omega arith; rows_fit = omega (arith, room.rows_fit); some_variable = room.some_variable; variables_fit = room.variables_fit }

pub upper-moved : (old new : State) (g : GameData) → new.most_rows ≡ old.most_rows → new.most_variables ≡ old.most_variables → HasRoomForUpper old g (g.shape.states + 8) → HasRoomForUpper new g (g.shape.states + 8)
upper-moved old new g rows variables room =
    record { some_row = room.some_row; rows_fit = omega (arith, room.rows_fit, rows); some_variable = room.some_variable; variables_fit = omega (arith, room.variables_fit, variables) }

pub rooms-moved : (old new : State) (g : GameData) → new.most_rows ≡ old.most_rows → new.most_variables ≡ old.most_variables → HasRooms g old → HasRooms g new
rooms-moved old new g rows variables rooms = record {
  lower = record { some_row = rooms.lower.some_row; rows_fit = omega (arith, rooms.lower.rows_fit, rows); some_variable = rooms.lower.some_variable; variables_fit = omega (arith, rooms.lower.variables_fit, variables) };
  upper = upper-moved old new g rows variables rooms.upper;
}

pub rooms-size : (S A C O : ℕ) → S ≤ 16 → A ≤ 6 → C ≤ 6 → O ≤ 8 → (S * C + A * O * (S + 8) + 1 + 1) * (S + A + A * O * 16 + 2) ≤ 2 ^ 24
rooms-size S A C O s a c o =
    let pays : S * C ≤ 16 * 6 = mul-le-mul {n₁ = S} s c in
    let pairs : A * O ≤ 6 * 8 = mul-le-mul {n₁ = A} a o in
    let more : S + 8 ≤ 24 = omega arith in
    let splits : A * O * (S + 8) ≤ 48 * 24 = mul-le-mul {n₁ = A * O} pairs more in
    let rows : S * C + A * O * (S + 8) + 1 + 1 ≤ 1250 = omega arith in
    let variables : S + A + A * O * 16 + 2 ≤ 792 = omega arith in
    let all : (S * C + A * O * (S + 8) + 1 + 1) * (S + A + A * O * 16 + 2) ≤ 1250 * 792 = mul-le-mul {n₁ = S * C + A * O * (S + 8) + 1 + 1} {m₁ = S + A + A * O * 16 + 2} rows variables in
    omega arith
