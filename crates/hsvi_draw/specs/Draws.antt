-- The words of a seed, and the numbers that are drawn from them.
use Rattle.std.specs.Prelude.{ℕ, ◌+◌, ◌*◌, ◌%◌, ◌^◌}
use Rattle.rand_core.specs.Pcg32Seed.{pcg32_seed}
use Rattle.rand_pcg.specs.Lcg.{Lcg, advance}
use Rattle.rand_pcg.specs.Pcg.{multiplier_128, pcg64, pcg64_of_seed}

-- the generator of a seed, before its first word
unfoldable pub seeded : ℕ → Lcg
seeded seed = pcg64_of_seed (pcg32_seed 32 seed)

-- the word of a generator that comes after i others
unfoldable pub word_at : Lcg → ℕ → ℕ
word_at g i = (pcg64 (advance 128 multiplier_128 i g)).0

-- the number of a generator that comes after k others: each takes two words, the first as its high half
unfoldable pub number_at : Lcg → ℕ → ℕ
number_at g k = word_at g (2 * k) * 2 ^ 64 + word_at g (2 * k + 1)

-- what is drawn below a total after k other draws
abbrev pub draw_at : Lcg → ℕ → ℕ → ℕ
draw_at g k total = number_at g k % total

-- a generator after k draws
unfoldable pub after_draws : ℕ → Lcg → Lcg
after_draws k g = advance 128 multiplier_128 (2 * k) g
