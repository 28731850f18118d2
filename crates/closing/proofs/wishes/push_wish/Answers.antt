use Rattle.std.proofs.Common.{◌≡◌, ◌∙◌, ◌++◌, ◌∷◌, [], List, ap, map, rules, refl, FitsSigned, to_z-of_z, arith}
use Rattle.std.specs.Int.{w128}
use Rattle.std.proofs.lemmas.List.{map-append}
use Rattle.game_model.specs.Branches.{branch_of}
use Rattle.game_model.specs.declared.branches.Branch.{Branch as Share}
use Rattle.closing.proofs.Wishing.{some-others, takes-corner, takes-none, takes-other}
use Rattle.closing.proofs.wishes.push_wish.Goals as goal

pub returns-then-k-gt0-clause-wish : goal.returns-then-k-gt0-clause-wish
returns-then-k-gt0-clause-wish c = takes-none c.args.corners.now c.args.a c.args.o c.args.k c.args.others (map branch_of c.args.wishes.now.items) c.if-k-gt0.true

pub returns-then-is_current-clause-wish : goal.returns-then-is_current-clause-wish
returns-then-is_current-clause-wish c =
    let fits : FitsSigned w128 c.args.weight = search rules in
    let share : Share = record { a = c.args.a; o = c.args.o; k = c.args.k; weight = c.args.weight } in
    let pushed : c.push.new.self.items ≡ c.args.wishes.now.items ++ share ∷ [] = simp to_z-of_z at c.in_ok-push.ensures.items in
    takes-corner c.args.corners.now c.args.a c.args.o c.args.k c.args.others (map branch_of c.args.wishes.now.items) (map branch_of c.push.new.self.items) (branch_of share) refl refl refl
    c.requires.weight (c.is_current.ensures c.if-is_current.true)
    (ap (λ (shares : List Share). map branch_of shares) pushed ∙ map-append branch_of c.args.wishes.now.items (share ∷ []))

pub returns-then-others-ge-MOST_OTHERS-clause-wish : goal.returns-then-others-ge-MOST_OTHERS-clause-wish
returns-then-others-ge-MOST_OTHERS-clause-wish c =
    takes-none c.args.corners.now c.args.a c.args.o c.args.k c.args.others (map branch_of c.args.wishes.now.items) (some-others c.args.k c.args.others c.requires.first c.if-others-ge-MOST_OTHERS.true)

pub returns-clause-wish : goal.returns-clause-wish
returns-clause-wish c =
    let fits : FitsSigned w128 c.args.weight = search rules in
    let share : Share = record { a = c.args.a; o = c.args.o; k = c.args.k; weight = c.args.weight } in
    let pushed : c.push-2.new.self.items ≡ c.args.wishes.now.items ++ share ∷ [] = simp to_z-of_z at c.in_ok-push-2.ensures.items in
    takes-other c.args.corners.now c.args.a c.args.o c.args.k c.args.others (map branch_of c.args.wishes.now.items) (map branch_of c.push-2.new.self.items) (branch_of share) refl refl refl
    c.requires.weight (omega (arith, c.if-others-ge-MOST_OTHERS.false))
    (ap (λ (shares : List Share). map branch_of shares) pushed ∙ map-append branch_of c.args.wishes.now.items (share ∷ []))
