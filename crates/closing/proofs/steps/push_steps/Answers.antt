use Rattle.std.proofs.Common.{of_z, rules, ◌≡◌, ◌∙◌, ◌++◌, ◌∷◌, [], ℕ, List, ap, get_or}
use Rattle.std.specs.Prelude.{ℤ, pos, FitsSigned, map}
use Rattle.std.specs.Int.{w128}
use Rattle.std.proofs.lemmas.Int.{to_z-of_z}
use Rattle.std.proofs.lemmas.List.{map-append}
use Rattle.game_model.specs.Branches.{Branch, branch_of}
use Rattle.game_model.specs.declared.branches.Branch.{Branch as Step}
use Rattle.stage_game.proofs.Written.{step-kept, step-left, weighs, weighs-not}
use Rattle.closing.specs.Plans.{numbered_one}
use Rattle.closing.proofs.steps.push_steps.Goals as goal
use Rattle.closing.proofs.steps.push_steps.Goals.{then-weighs+in_ok-push, else-weighs}

pub loop-place-preserved : goal.loop-place-preserved
loop-place-preserved c =
    let place : ℕ = c.loop-place.place in
    let weight : ℤ = get_or c.args.shares.now place (pos 0) in
    let one : ℕ → Branch = numbered_one c.args.a c.args.o c.args.shares.now in
    let old : List Branch = map branch_of c.args.next.now.items in
    let middle : List Branch = map branch_of c.loop-place.next.items in
    let fits : FitsSigned w128 weight = search rules in
    elim c.if-weighs.branch [
      | then-weighs+in_ok-push w ↦
          let test : of_z w128 weight ≡ 0 → ⊥ = assumption w.if-weighs.true in
          let step : Step = record { a = c.args.a; o = c.args.o; k = place; weight = weight } in
          let pushed : w.push.new.self.items ≡ c.loop-place.next.items ++ step ∷ [] = simp to_z-of_z at w.in_ok-push.ensures.items in
          step-kept one place old middle (map branch_of c.if-weighs.next.items) c.loop-place.invariant (weighs weight test)
          (ap (λ (steps : List Step). map branch_of steps) (ap (λ v. v.items) w.next-is ∙ pushed) ∙ map-append branch_of c.loop-place.next.items (step ∷ []))
      | else-weighs w ↦
          let test : of_z w128 weight ≡ 0 = cc (w.if-weighs.false) in
          ap (λ (steps : List Step). map branch_of steps) (ap (λ v. v.items) w.next-is) ∙ step-left one place old middle c.loop-place.invariant (weighs-not weight fits test)
    ]
