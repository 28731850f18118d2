-- Draws after other draws are later draws.
use Rattle.std.proofs.Common.{◌≡◌, ℕ, zero, suc, ◌+◌, ◌*◌, ◌^◌, refl, ap, sym, ◌∙◌, arith}
use Rattle.rand_pcg.specs.Lcg.{Lcg, advance, next_state, state_after}
use Rattle.rand_pcg.specs.Pcg.{multiplier_128, pcg64}
use Rattle.hsvi_draw.specs.Draws.{after_draws, number_at, word_at}

-- steps after steps are one row of steps
state_after-state_after : (w m p k n s : ℕ) → state_after w m p n (state_after w m p k s) ≡ state_after w m p (k + n) s
unfolding state_after
state_after-state_after w m p zero n s =
    let none_more : n ≡ zero + n = omega arith in
    ap (λ (i : ℕ). state_after w m p i s) none_more
state_after-state_after w m p (suc k) n s =
    let one_more : suc (k + n) ≡ suc k + n = omega arith in
    state_after-state_after w m p k n (next_state w m p s) ∙ ap (λ (i : ℕ). state_after w m p i s) one_more

advance-advance : (k n : ℕ) (g : Lcg)
    → advance 128 multiplier_128 n (advance 128 multiplier_128 k g) ≡ advance 128 multiplier_128 (k + n) g
advance-advance k n g =
    ap (λ (s : ℕ). record g { state = s }) (state_after-state_after 128 multiplier_128 g.increment k n g.state)

-- no draws leave a generator as it is
pub after_draws-zero : (g : Lcg) → after_draws 0 g ≡ g
unfolding after_draws state_after
after_draws-zero g = refl

pub after_draws-after_draws : (k n : ℕ) (g : Lcg) → after_draws n (after_draws k g) ≡ after_draws (k + n) g
unfolding after_draws
after_draws-after_draws k n g =
    let twice : 2 * k + 2 * n ≡ 2 * (k + n) = omega arith in
    advance-advance (2 * k) (2 * n) g ∙ ap (λ (i : ℕ). advance 128 multiplier_128 i g) twice

word_at-after_draws : (k i : ℕ) (g : Lcg) → word_at (after_draws k g) i ≡ word_at g (2 * k + i)
unfolding after_draws word_at
word_at-after_draws k i g = ap (λ (h : Lcg). (pcg64 h).0) (advance-advance (2 * k) i g)

pub number_at-after_draws : (k n : ℕ) (g : Lcg) → number_at (after_draws k g) n ≡ number_at g (k + n)
unfolding number_at
number_at-after_draws k n g =
    let high : 2 * k + 2 * n ≡ 2 * (k + n) = omega arith in
    let low : 2 * k + (2 * n + 1) ≡ 2 * (k + n) + 1 = omega arith in
    ap (λ (w : ℕ). w * 2 ^ 64 + word_at (after_draws k g) (2 * n + 1))
    (word_at-after_draws k (2 * n) g ∙ ap (word_at g) high)
    ∙ ap (λ (w : ℕ). word_at g (2 * (k + n)) * 2 ^ 64 + w) (word_at-after_draws k (2 * n + 1) g ∙ ap (word_at g) low)

-- the number of two words, one after the other
pub number_at-zero : (g h k : Lcg) (high low : ℕ) → (high, h) ≡ pcg64 g → (low, k) ≡ pcg64 h
    → number_at g 0 ≡ high * 2 ^ 64 + low
unfolding number_at word_at state_after
number_at-zero g h k high low first second =
    let same : (pcg64 g).1 ≡ h = sym (ap (λ (p : ℕ × Lcg). p.1) first) in
    ap (λ (w : ℕ). w * 2 ^ 64 + (pcg64 (pcg64 g).1).0) (sym (ap (λ (p : ℕ × Lcg). p.0) first))
    ∙ ap (λ (x : Lcg). high * 2 ^ 64 + (pcg64 x).0) same
    ∙ ap (λ (w : ℕ). high * 2 ^ 64 + w) (sym (ap (λ (p : ℕ × Lcg). p.0) second))

pub after_draws-one : (g h k : Lcg) (high low : ℕ) → (high, h) ≡ pcg64 g → (low, k) ≡ pcg64 h → after_draws 1 g ≡ k
unfolding after_draws state_after
after_draws-one g h k high low first second =
    let same : (pcg64 g).1 ≡ h = sym (ap (λ (p : ℕ × Lcg). p.1) first) in
    ap (λ (x : Lcg). (pcg64 x).1) same ∙ sym (ap (λ (p : ℕ × Lcg). p.1) second)
