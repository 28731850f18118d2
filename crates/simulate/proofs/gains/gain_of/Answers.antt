use Rattle.std.proofs.Common.{◌≡◌, ℕ, suc, ◌+◌, ◌-◌, ◌*◌, ◌^◌, ◌<◌, ◌≤◌, max, length, arith, rules, ap, sym, ◌∙◌}
use Rattle.std.specs.Prelude.{pos}
use Rattle.std.specs.Int.{w128}
use Rattle.std.proofs.Math.Facts.{to_z-of_z}
use Rattle.std.proofs.lemmas.Int.{fits_signed_from_abs, ints, to_z_pos}
use Rattle.std.proofs.lemmas.Nat.{mul-le}
use Rattle.game_model.specs.Game.{GameData, greatest_reward, numbers}
use Rattle.simulate.specs.declared.parts.Played.{Played}
use Rattle.simulate.proofs.GainLimit.{gain-next, later-fits, power-fits, power-small, power-some}
use Rattle.simulate.proofs.Lengths.{power}
use Rattle.simulate.proofs.gains.gain_of.Goals as goal

abbrev none : Played
none = record { state = 0; own = 0; informed = 0; seen = 0; to = 0 }

-- the power of one stage more
next-power : (c : goal.In-loop-done) → c.loop-done.power * c.denominator-under.result ≡ (numbers c.args.game.now).discount_under ^ suc c.loop-done.done
next-power c = rw (c.denominator-under.ensures.under, c.loop-done.invariant.power) (sym (power (numbers c.args.game.now).discount_under c.loop-done.done))

pub overflow_mul-power : goal.overflow_mul-power
overflow_mul-power c =
    let g : GameData = c.args.game.now in
    let p : ℕ = (numbers g).discount_under ^ suc c.loop-done.done in
    let R : ℕ = max 1 (greatest_reward g) in
    let fits = power-fits g c.loop-done.done (length c.args.steps.now) c.law_game.ensures.accepted c.requires.short c.loop-done-test.true in
    let whole : 1 * p ≤ R * p = mul-le 1 p R p (omega arith) (omega arith) in
    let small : p ≤ 2 ^ 120 = omega (arith, fits, whole) in
    rw (next-power c) (omega (arith, small))

pub with_stage-gain-requires-clause-power : goal.with_stage-gain-requires-clause-power
with_stage-gain-requires-clause-power c =
    rw (next-power c) (power-fits c.args.game.now c.loop-done.done (length c.args.steps.now) c.law_game.ensures.accepted c.requires.short c.loop-done-test.true)

pub with_stage-gain-requires-clause-later : goal.with_stage-gain-requires-clause-later
with_stage-gain-requires-clause-later c =
    rw c.loop-done.invariant.gain (later-fits c.args.game.now c.args.steps.now c.loop-done.done c.law_game.ensures.accepted c.requires.each c.requires.short c.loop-done-test.true)

pub loop-done-preserved : goal.loop-done-preserved
loop-done-preserved c =
    let g : GameData = c.args.game.now in
    let next : c.loop-done.power * c.denominator-under.result ≡ (numbers g).discount_under ^ suc c.loop-done.done =
    rw (c.denominator-under.ensures.under, c.loop-done.invariant.power) (sym (power (numbers g).discount_under c.loop-done.done)) in
    let is = rw (next, c.loop-done.invariant.gain) at c.with_stage-gain.ensures in
    let one : c.loop-done.done + 1 ≡ suc c.loop-done.done = omega arith in
    record {
      gain = to_z-of_z {w = w128} (search rules) ∙ is ∙ sym (gain-next g c.args.steps.now c.loop-done.done none c.loop-done-test.true);
      power = next ∙ ap (λ (n : ℕ). (numbers g).discount_under ^ n) (sym one);
    }

pub overflow_cast-result : goal.overflow_cast-result
overflow_cast-result c =
    let g : GameData = c.args.game.now in
    let end : c.loop-done.done ≡ length c.args.steps.now = omega arith in
    let small = power-small g (length c.args.steps.now) c.law_game.ensures.accepted c.requires.short in
    let is = rw end at c.loop-done.invariant.power in
    fits_signed_from_abs w128 (pos c.loop-done.power) (omega (arith, is, small))

pub invariant_of-result : goal.invariant_of-result
invariant_of-result c =
    let g : GameData = c.args.game.now in
    let end : c.loop-done.done ≡ length c.args.steps.now = omega arith in
    let small = power-small g (length c.args.steps.now) c.law_game.ensures.accepted c.requires.short in
    let some = power-some g (length c.args.steps.now) c.law_game.ensures.accepted in
    let is = rw end at c.loop-done.invariant.power in
    let inside : c.loop-done.power < 2 ^ 127 = omega (arith, is, small) in
    record { positive = simp to_z_pos (omega (arith, ints, is, some)) }

pub returns : goal.returns
returns c =
    let g : GameData = c.args.game.now in
    let end : c.loop-done.done ≡ length c.args.steps.now = omega arith in
    let small = power-small g (length c.args.steps.now) c.law_game.ensures.accepted c.requires.short in
    let is = rw end at c.loop-done.invariant.power in
    let inside : c.loop-done.power < 2 ^ 127 = omega (arith, is, small) in
    let all : length c.args.steps.now - c.loop-done.done ≡ 0 = omega arith in
    record {
      gain = rw all at c.loop-done.invariant.gain;
      scale = to_z_pos w128 c.loop-done.power inside ∙ ap pos is;
    }
