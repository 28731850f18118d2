use Rattle.std.proofs.Common.{of_z, rules, ◌≡◌, ◌∙◌, ◌++◌, ◌∷◌, [], ℕ, List, ap, get_or, refl}
use Rattle.std.specs.Prelude.{ℤ, pos, FitsSigned, map}
use Rattle.std.specs.Int.{w128}
use Rattle.std.proofs.lemmas.Int.{to_z-of_z}
use Rattle.scaled_num.specs.Share.{at}
use Rattle.game_model.specs.Branches.{Branch, branch_of}
use Rattle.game_model.specs.declared.branches.Branch.{Branch as Share}
use Rattle.backup.proofs.ShareLists.{row-left, row-taken, weighs, weighs-not}
use Rattle.backup.proofs.shares.add_row.Goals as goal
use Rattle.backup.proofs.shares.add_row.Goals.{then-weighs+in_ok-push, else-weighs}

pub loop-t-preserved : goal.loop-t-preserved
loop-t-preserved c =
    let a = c.args.a in
    let o = c.args.o in
    let t : ℕ = c.loop-t.t in
    let weight : ℤ = get_or c.args.masses.now t (pos 0) in
    let old : List Branch = map branch_of c.args.shares.now.items in
    let fits : FitsSigned w128 weight = search rules in
    elim c.if-weighs.branch [
      | then-weighs+in_ok-push w ↦
          let test : of_z w128 weight ≡ 0 → ⊥ = assumption w.if-weighs.true in
          let share : Share = record { a = a; o = o; k = t; weight = weight } in
          let pushed : w.push.new.self.items ≡ c.loop-t.shares.items ++ share ∷ [] = simp to_z-of_z at w.in_ok-push.ensures.items in
          row-taken (at c.args.masses.now) a o t old c.loop-t.shares.items c.if-weighs.shares.items share
          (ap (λ v. v.items) w.shares-is ∙ pushed) refl (weighs weight test) c.loop-t.invariant
      | else-weighs w ↦
          let test : of_z w128 weight ≡ 0 = cc (w.if-weighs.false) in
          row-left (at c.args.masses.now) a o t old c.loop-t.shares.items c.if-weighs.shares.items
          (ap (λ v. v.items) w.shares-is) (weighs-not weight fits test) c.loop-t.invariant
    ]
