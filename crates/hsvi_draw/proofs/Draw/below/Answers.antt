use Rattle.std.proofs.Common.{◌≡◌, ℕ, ◌+◌, ◌*◌, ◌%◌, ◌^◌, ◌<◌, ap, sym, ◌∙◌, arith, bit_or}
use Rattle.std.proofs.lemmas.Nat.{or_shifted}
use Rattle.rand_pcg.specs.Lcg.{Lcg}
use Rattle.hsvi_draw.specs.Draws.{after_draws, number_at}
use Rattle.hsvi_draw.proofs.Positions.{after_draws-one, number_at-zero}
use Rattle.hsvi_draw.proofs.Draw.below.Goals as goal

-- two words side by side
joined : (high low a b : ℕ) → high ≡ a → low ≡ b → a < 2 ^ 64 → b < 2 ^ 64 → bit_or (high * 2 ^ 64 % 2 ^ 128) low ≡ a * 2 ^ 64 + b
joined high low a b e f first second =
    let whole : high * 2 ^ 64 % 2 ^ 128 ≡ a * 2 ^ 64 = omega (arith, e, first) in
    ap (λ (x : ℕ). bit_or x low) whole ∙ ap (λ (x : ℕ). bit_or (a * 2 ^ 64) x) f ∙ or_shifted a 64 b second

pub returns-clause-drawn : goal.returns-clause-drawn
returns-clause-drawn c =
    let first = c.next_word in
    let second = c.next_word-2 in
    ap (λ (x : ℕ). x % c.args.total)
    (joined _ _ first.result second.result c.from-high.ensures c.from-low.ensures first.type_inv second.type_inv
    ∙ sym (number_at-zero c.self.inside.generator first.new.self second.new.self first.result second.result first.ensures second.ensures)
    ∙ ap (λ (g : Lcg). number_at g 0) c.self.view_is)

pub returns-clause-moved : goal.returns-clause-moved
returns-clause-moved c =
    let first = c.next_word in
    let second = c.next_word-2 in
    sym (after_draws-one c.self.inside.generator first.new.self second.new.self first.result second.result first.ensures second.ensures)
    ∙ ap (after_draws 1) c.self.view_is
