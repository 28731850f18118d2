use Rattle.std.proofs.Common.{◌≡◌, ◌∙◌, ◌++◌, ◌∷◌, [], ℕ, List, ap, get_or, map, rules}
use Rattle.std.specs.Prelude.{ℤ, pos, FitsSigned}
use Rattle.std.specs.Int.{w128}
use Rattle.std.proofs.lemmas.Int.{to_z-of_z}
use Rattle.std.proofs.lemmas.List.{map-append}
use Rattle.game_model.specs.Branches.{Branch, branch_of}
use Rattle.game_model.specs.declared.branches.Branch.{Branch as Share}
use Rattle.stage_game.specs.AdviceData.{listed_one}
use Rattle.stage_game.proofs.Written.{place-more}
use Rattle.stage_game.proofs.wanted.push_wanted.Goals as goal

pub loop-place-preserved : goal.loop-place-preserved
loop-place-preserved c =
    let place : ℕ = c.loop-place.place in
    let weight : ℤ = get_or c.args.weights.now place (pos 0) in
    let one : ℕ → Branch = listed_one c.args.a c.args.o c.args.candidates.now c.args.weights.now in
    let fits : FitsSigned w128 weight = search rules in
    let share : Share = record { a = c.args.a; o = c.args.o; k = get_or c.args.candidates.now place 0; weight = weight } in
    let pushed : c.push.new.self.items ≡ c.loop-place.wanted.items ++ share ∷ [] = simp to_z-of_z at c.in_ok-push.ensures.items in
    place-more one place (map branch_of c.args.wanted.now.items) (map branch_of c.loop-place.wanted.items) (map branch_of c.push.new.self.items) c.loop-place.invariant
    (ap (λ (shares : List Share). map branch_of shares) pushed ∙ map-append branch_of c.loop-place.wanted.items (share ∷ []))
