use Rattle.std.proofs.Common.{◌≡◌, ◌<◌, ◌≤◌, ◌^◌, ℕ, get_or, to_z, arith, ap, ◌∙◌}
use Rattle.std.specs.Prelude.{ℤ, pos, unsigned_abs, FitsSigned, ◌*ℤ◌}
use Rattle.std.specs.Int.{w128}
use Rattle.std.proofs.lemmas.Int.{fits_signed_from_abs, ints, to_z-of_z, unsigned_abs-mul}
use Rattle.std.proofs.lemmas.Nat.{mul-le}
use Rattle.scaled_num.proofs.Sums.{each-at, total-below}
use Rattle.scaled_num.specs.Sums.{below, total}
use Rattle.game_model.specs.Game.{GameData, IsWithin, reward_at}
use Rattle.game_model.proofs.Games.{reward-in}
use Rattle.game_model.proofs.Width.{reward_small}
use Rattle.alpha_set.proofs.Totals.{Next, next}
use Rattle.alpha_set.proofs.stages.at_once.Goals as goal
use Rattle.scaled_num.proofs.Products.{magnitude-is}

record Fits (c : goal.After-reward) : Type 0 where
  weight : FitsSigned w128 (get_or c.args.mix.now c.loop-a.a (pos 0))
  reward : FitsSigned w128 (reward_at c.args.game.now c.args.s c.loop-a.a c.args.c)
  after : Next (λ a. get_or c.args.mix.now a (pos 0) *ℤ reward_at c.args.game.now c.args.s a c.args.c) (2 ^ 46) c.loop-a.a (to_z w128 c.loop-a.sum-bits)

small-weight : (x : ℤ) → IsWithin (pos 0) (pos 65536) x → unsigned_abs x ≤ 2 ^ 16
small-weight x h = let low = h.0 in let high = h.1 in omega (arith, ints)

fits : (c : goal.After-reward) → Fits c
fits c =
    let g : GameData = c.args.game.now in
    let right = c.law_game.ensures.accepted in
    let few = right.shape.own_actions.1 in
    let own : c.loop-a.a < g.shape.own_actions = omega arith in
    let x : ℤ = get_or c.args.mix.now c.loop-a.a (pos 0) in
    let r : ℤ = reward_at g c.args.s c.loop-a.a c.args.c in
    let light : unsigned_abs x ≤ 2 ^ 16 = small-weight x (each-at (IsWithin (pos 0) (pos 65536)) (pos 0) c.args.mix.now c.loop-a.a c.requires.mix.each (omega (arith, c.requires.mix.long))) in
    let paid : unsigned_abs r ≤ 2 ^ 30 = reward_small r (reward-in g right c.args.s c.loop-a.a c.args.c c.requires.state own c.requires.informed).0 in
    record {
      weight = fits_signed_from_abs w128 x (omega arith);
      reward = fits_signed_from_abs w128 r (omega arith);
      after = next (λ a. get_or c.args.mix.now a (pos 0) *ℤ reward_at g c.args.s a c.args.c) (2 ^ 46) c.loop-a.a (to_z w128 c.loop-a.sum-bits)
          (rw (unsigned_abs-mul x r) (mul-le (unsigned_abs x) (unsigned_abs r) (2 ^ 16) (2 ^ 30) light paid)) (omega arith) (omega arith) c.loop-a.invariant;
    }

pub overflow_mul-sum : goal.overflow_mul-sum
overflow_mul-sum c =
    let n = fits c in
    let weight_fits = n.weight in
    let reward_fits = n.reward in
    simp (c.reward.ensures, to_z-of_z) n.after.term_fits

pub overflow_add-sum : goal.overflow_add-sum
overflow_add-sum c =
    let n = fits c in
    let weight_fits = n.weight in
    let reward_fits = n.reward in
    let term_fits = n.after.term_fits in
    simp (c.reward.ensures, to_z-of_z) n.after.sum_fits

pub loop-a-preserved : goal.loop-a-preserved
loop-a-preserved c =
    let n = fits c in
    let weight_fits = n.weight in
    let reward_fits = n.reward in
    let term_fits = n.after.term_fits in
    let sum_fits = n.after.sum_fits in
    simp (c.reward.ensures, to_z-of_z) n.after.so_far

pub returns-clause-exact : goal.returns-clause-exact
returns-clause-exact c =
    let g : GameData = c.args.game.now in
    let whole : c.loop-a.a ≡ g.shape.own_actions = omega arith in
    c.loop-a.invariant.is
    ∙ ap (λ (n : ℕ). total (λ a. get_or c.args.mix.now a (pos 0) *ℤ reward_at g c.args.s a c.args.c) (below n)) whole
    ∙ total-below g.shape.own_actions (λ a. get_or c.args.mix.now a (pos 0) *ℤ reward_at g c.args.s a c.args.c) (λ a. pos (unsigned_abs (get_or c.args.mix.now a (pos 0))) *ℤ reward_at g c.args.s a c.args.c)
    (λ a l. ap (λ (z : ℤ). z *ℤ reward_at g c.args.s a c.args.c)
    (magnitude-is (get_or c.args.mix.now a (pos 0)) (each-at (IsWithin (pos 0) (pos 65536)) (pos 0) c.args.mix.now a c.requires.mix.each (omega (arith, c.requires.mix.long))).0))
