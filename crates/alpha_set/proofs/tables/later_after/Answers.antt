use Rattle.std.proofs.Common.{◌≡◌, ◌≤◌, ◌*◌, ◌^◌, ℕ, List, take, sum_by, to_z, arith, subst, sym, ap, refl, ◌∙◌}
use Rattle.std.specs.Prelude.{unsigned_abs}
use Rattle.std.specs.List.{AllByRecursion}
use Rattle.std.specs.Int.{w128}
use Rattle.std.proofs.lemmas.Int.{to_z-of_z}
use Rattle.std.proofs.lemmas.List.{take_all}
use Rattle.scaled_num.specs.Sums.{total}
use Rattle.game_model.specs.Game.{GameData, IsLanding, row_at}
use Rattle.game_model.specs.declared.parts.Landing.{Landing}
use Rattle.game_model.proofs.Games.{row-in, row-weights}
use Rattle.alpha_set.specs.Members.{entry_at}
use Rattle.alpha_set.proofs.Rows.{NextLanding, most, next-landing, row-sum, size, term, weights-small}
use Rattle.alpha_set.proofs.tables.later_after.Goals as goal

next : (c : goal.After-sum-in-loop-landing-1) → NextLanding c.args.game.now c.row-row.result.now c.args.table.now c.args.a c.loop-landing.landing-index (to_z w128 c.loop-landing.sum-bits)
next c =
    let g : GameData = c.args.game.now in
    let row : List Landing = row_at g c.args.s c.args.a c.args.c in
    next-landing g c.law_game.ensures.accepted c.row-row.result.now c.args.table.now c.args.a c.loop-landing.landing-index (to_z w128 c.loop-landing.sum-bits) c.requires.table c.requires.own c.loop-landing-test.true
    (subst (λ (ls : List Landing). AllByRecursion (IsLanding g.shape) ls) (sym c.row-row.ensures) (row-in g c.law_game.ensures.accepted c.args.s c.args.a c.args.c c.requires.state c.requires.own c.requires.informed).each)
    (subst (λ (ls : List Landing). sum_by size ls ≤ 2 ^ 30) (sym c.row-row.ensures) (weights-small g c.law_game.ensures.accepted c.args.s c.args.a c.args.c c.requires.state c.requires.own c.requires.informed))
    c.loop-landing.invariant

pub loop-landing-init : goal.loop-landing-init
loop-landing-init c = record { is = refl; bounded = omega arith }

pub overflow_mul-sum : goal.overflow_mul-sum
overflow_mul-sum c =
    let n = next c in
    let weight_fits = n.weight_fits in
    let entry_fits = n.entry_fits in
    simp (c.index.ensures.index, to_z-of_z) n.product_fits

pub overflow_add-sum : goal.overflow_add-sum
overflow_add-sum c =
    let n = next c in
    let weight_fits = n.weight_fits in
    let entry_fits = n.entry_fits in
    let product_fits = n.product_fits in
    simp (c.index.ensures.index, to_z-of_z) n.sum_fits

pub loop-landing-preserved : goal.loop-landing-preserved
loop-landing-preserved c =
    let n = next c in
    let weight_fits = n.weight_fits in
    let entry_fits = n.entry_fits in
    let product_fits = n.product_fits in
    let sum_fits = n.sum_fits in
    simp (c.index.ensures.index, to_z-of_z) n.so_far

whole : (c : goal.After-loop-landing) → take c.loop-landing.landing-index c.row-row.result.now ≡ row_at c.args.game.now c.args.s c.args.a c.args.c
whole c = take_all c.loop-landing.landing-index c.row-row.result.now (omega arith) ∙ c.row-row.ensures

pub returns-clause-exact : goal.returns-clause-exact
returns-clause-exact c =
    let g : GameData = c.args.game.now in
    c.loop-landing.invariant.is
    ∙ ap (total (term c.args.table.now c.args.a)) (whole c)
    ∙ sym (row-sum g c.law_game.ensures.accepted c.args.s c.args.a c.args.c c.requires.state c.requires.own c.requires.informed (λ o t. entry_at c.args.table.now c.args.a o t))

pub returns-clause-small : goal.returns-clause-small
returns-clause-small c =
    let g : GameData = c.args.game.now in
    let row = row-in g c.law_game.ensures.accepted c.args.s c.args.a c.args.c c.requires.state c.requires.own c.requires.informed in
    subst (λ (n : ℕ). unsigned_abs (to_z w128 c.loop-landing.sum-bits) ≤ n * most g)
    (ap (sum_by size) (whole c) ∙ row-weights g.shape (row_at g c.args.s c.args.a c.args.c) row) c.loop-landing.invariant.bounded
