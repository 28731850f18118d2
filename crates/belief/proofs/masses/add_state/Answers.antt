use Rattle.std.proofs.Common.{rules, ◌≡◌, ◌<◌, ◌≤◌, ◌*◌, ◌^◌, ◌∙◌, ℕ, List, ap, length, subst, sym, get_or, arith}
use Rattle.std.specs.Prelude.{ℤ, pos, ◌+ℤ◌, ◌*ℤ◌, FitsSigned, sum_by, unsigned_abs}
use Rattle.std.specs.Int.{w128}
use Rattle.std.proofs.lemmas.Int.{ints, to_z-of_z, fits_signed_from_abs, unsigned_abs-mul}
use Rattle.std.proofs.lemmas.Nat.{mul-le}
use Rattle.scaled_num.specs.Sums.{below}
use Rattle.game_model.specs.Game.{GameData, row_at, weight_in}
use Rattle.game_model.specs.declared.parts.Landing.{Landing}
use Rattle.belief.specs.Beliefs.{mix_weight}
use Rattle.belief.specs.Masses.{AreLandings}
use Rattle.belief.specs.Mixes.{MixesData}
use Rattle.belief.proofs.Landings.{row-landings}
use Rattle.belief.proofs.Sums.{from-none, from_state-small, grown, magnitude-small, mix-small, next-action}
use Rattle.belief.proofs.masses.add_state.Goals as goal
use Rattle.scaled_num.proofs.Products.{magnitude-is}

pub returns-then-weight-eq0 : goal.returns-then-weight-eq0
returns-then-weight-eq0 c =
    let none : c.args.weight ≡ pos 0 = search rules in
    λ t l. rw (ap unsigned_abs none, from-none c.args.game.now c.args.mixes.now c.args.s c.args.a c.args.o t) (omega (arith, ints))

pub overflow_mul-weight : goal.overflow_mul-weight
overflow_mul-weight c =
    let fits : FitsSigned w128 c.args.weight = c.ranges.weight in
    let mix_fits : FitsSigned w128 c.get.result = search rules in
    let size : unsigned_abs (c.args.weight *ℤ c.get.result) ≤ 2 ^ 36 = rw (unsigned_abs-mul c.args.weight c.get.result)
    (mul-le (unsigned_abs c.args.weight) (unsigned_abs c.get.result) (2 ^ 20) 65536 (magnitude-small c.args.weight (2 ^ 20) c.requires.weight) (magnitude-small c.get.result 65536 c.get.ensures.small)) in
    simp to_z-of_z (fits_signed_from_abs w128 (c.args.weight *ℤ c.get.result) (omega arith))

pub add_row-requires-clause-landings : goal.add_row-requires-clause-landings
add_row-requires-clause-landings c =
    let g : GameData = c.args.game.now in
    let long : g.shape.states ≡ length c.loop-c.out = sym (c.loop-c.auto.out ∙ c.requires.places) in
    subst (λ (n : ℕ). AreLandings n c.row.result.now) long (subst (AreLandings g.shape.states) (sym c.row.ensures)
    (row-landings g c.law_game.ensures.accepted c.args.s c.args.a c.loop-c.c c.requires.state c.requires.own (search (rules, arith))))

pub add_row-requires-clause-factor : goal.add_row-requires-clause-factor
add_row-requires-clause-factor c =
    let fits : FitsSigned w128 c.args.weight = c.ranges.weight in
    let mix_fits : FitsSigned w128 c.get.result = search rules in
    let product : c.args.weight *ℤ c.get.result ≡ pos (unsigned_abs c.args.weight * unsigned_abs c.get.result) =
    ap (λ (z : ℤ). z *ℤ c.get.result) (magnitude-is c.args.weight c.requires.weight.0) ∙ ap (λ (z : ℤ). pos (unsigned_abs c.args.weight) *ℤ z) (magnitude-is c.get.result c.get.ensures.small.0) in
    let size : unsigned_abs c.args.weight * unsigned_abs c.get.result ≤ 2 ^ 36 =
    mul-le (unsigned_abs c.args.weight) (unsigned_abs c.get.result) (2 ^ 20) 65536 (magnitude-small c.args.weight (2 ^ 20) c.requires.weight) (magnitude-small c.get.result 65536 c.get.ensures.small) in
    let product_fits : FitsSigned w128 (c.args.weight *ℤ c.get.result) = rw product (fits_signed_from_abs w128 (pos (unsigned_abs c.args.weight * unsigned_abs c.get.result)) (omega arith)) in
    simp to_z-of_z (rw product (omega (arith, ints), omega (arith, ints)))

pub add_row-requires-clause-room : goal.add_row-requires-clause-room
add_row-requires-clause-room c =
    let fits : FitsSigned w128 c.args.weight = c.ranges.weight in
    let g : GameData = c.args.game.now in
    let mixes : MixesData = c.args.mixes.now in
    let before = simp to_z-of_z at c.loop-c.invariant in
    grown c.args.out.now c.loop-c.out (λ t. sum_by (λ k. unsigned_abs c.args.weight * mix_weight mixes c.args.s k * weight_in (row_at g c.args.s c.args.a k) c.args.o t) (below c.loop-c.c))
    (2 ^ 90) (6 * 2 ^ 66) (2 ^ 100) c.loop-c.auto.out c.requires.room before
    (λ t. from_state-small g c.law_game.ensures.accepted mixes (unsigned_abs c.args.weight) c.args.s c.args.a c.args.o t c.loop-c.c (magnitude-small c.args.weight (2 ^ 20) c.requires.weight) c.requires.state c.requires.own (search (rules, arith))
    (λ k l. mix-small mixes c.actions-c-end.ensures.kept.right c.args.s k (search (rules, arith)) (search (rules, arith))))
    (omega arith)

pub loop-c-preserved : goal.loop-c-preserved
loop-c-preserved c =
    let fits : FitsSigned w128 c.args.weight = c.ranges.weight in
    let mix_fits : FitsSigned w128 c.get.result = search rules in
    let g : GameData = c.args.game.now in
    let mixes : MixesData = c.args.mixes.now in
    let w : ℕ = unsigned_abs c.args.weight in
    let m : ℕ = unsigned_abs c.get.result in
    let size : unsigned_abs (c.args.weight *ℤ c.get.result) ≤ 2 ^ 36 = rw (unsigned_abs-mul c.args.weight c.get.result)
    (mul-le w m (2 ^ 20) 65536 (magnitude-small c.args.weight (2 ^ 20) c.requires.weight) (magnitude-small c.get.result 65536 c.get.ensures.small)) in
    let product_fits : FitsSigned w128 (c.args.weight *ℤ c.get.result) = fits_signed_from_abs w128 (c.args.weight *ℤ c.get.result) (omega arith) in
    let before = simp to_z-of_z at c.loop-c.invariant in
    let added = simp to_z-of_z at c.add_row.ensures in
    let f : ℕ → ℕ → ℕ = λ t k. w * mix_weight mixes c.args.s k * weight_in (row_at g c.args.s c.args.a k) c.args.o t in
    simp to_z-of_z (λ t l.
    let lt : t < length c.loop-c.out = search (rules, arith) in
    added t lt
    ∙ ap (λ (n : ℕ). get_or c.loop-c.out t (pos 0) +ℤ pos (n * weight_in c.row.result.now c.args.o t)) (unsigned_abs-mul c.args.weight c.get.result)
    ∙ ap (λ (z : ℤ). z +ℤ pos (w * m * weight_in c.row.result.now c.args.o t)) (before t lt)
    ∙ next-action (get_or c.args.out.now t (pos 0)) (f t) c.loop-c.c w m (weight_in c.row.result.now c.args.o t)
    (sym (ap (λ (n : ℕ). w * n * weight_in c.row.result.now c.args.o t) (ap unsigned_abs c.get.ensures.weight) ∙ ap (λ (ls : List Landing). w * mix_weight mixes c.args.s c.loop-c.c * weight_in ls c.args.o t) c.row.ensures)))

pub returns : goal.returns
returns c =
    let fits : FitsSigned w128 c.args.weight = c.ranges.weight in
    let g : GameData = c.args.game.now in
    let before = simp to_z-of_z at c.loop-c.invariant in
    let all : c.loop-c.c ≡ g.shape.informed_actions = search (rules, arith) in
    λ t l. before t (search (rules, arith)) ∙ ap (λ (n : ℕ). get_or c.args.out.now t (pos 0) +ℤ pos (sum_by (λ k. unsigned_abs c.args.weight * mix_weight c.args.mixes.now c.args.s k * weight_in (row_at g c.args.s c.args.a k) c.args.o t) (below n))) all
