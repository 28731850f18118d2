-- The game of a number and a size, triple by triple, and that it keeps every limit.
use Rattle.std.proofs.Common.{◌≡◌, ℕ, zero, suc, ◌+◌, ◌-◌, ◌*◌, ◌/◌, ◌<◌, ◌≤◌, List, [], ◌∷◌, ◌++◌, length, max, min, refl, ap, sym, ◌∙◌, arith}
use Rattle.std.specs.Prelude.{ℤ, pos, ◌≤ℤ◌, ◌*ℤ◌, ◌-ℤ◌, slice_index_or, unsigned_abs}
use Rattle.std.proofs.lemmas.Int.{ints}
use Rattle.std.proofs.lemmas.List.{get_or_at, length_push}
use Rattle.std.proofs.lemmas.List.FromFn.{length-map-range_with_len, map-range_with_len_more}
use Rattle.std.proofs.lemmas.Nat.{mod_below, mul-le}
use Rattle.rand_pcg.specs.Lcg.{Lcg}
use Rattle.hsvi_draw.specs.Draws.{after_draws, draw_at, number_at, seeded}
use Rattle.scaled_num.specs.Sums.{below}
use Rattle.scaled_num.proofs.Sums.{below-each, each-map}
use Rattle.game_model.specs.declared.parts.Shape.{Shape}
use Rattle.game_model.specs.declared.parts.Landing.{Landing}
use Rattle.game_model.specs.Game.{GameData, IsGame, IsNarrow, IsRewardInRange, IsRow, row_sum, triples}
use Rattle.game_model.specs.Limits.{most_width}
use Rattle.game_model.specs.Build.{IsLastRowFull}
use Rattle.game_gen.specs.Rows.{ArePairs, Serves, pairs_from, reward_drawn, row_drawn, with_row}
use Rattle.game_gen.specs.Generated.{game_drawn, game_of, rows_drawn, shape_of}
use Rattle.game_gen.proofs.Places.{is_row}
use Rattle.game_gen.proofs.Ones.{ones_belief, ones_coprime}

abbrev pub game_from : Shape → List ℤ → List ℤ → List (List Landing) → GameData
game_from shape first rewards rows = record { shape = shape; first = first; rewards = rewards; rows = rows }

pub serves_of : (size : ℕ) → 1 ≤ size → size ≤ 16 → Serves (shape_of size)
serves_of size least most = record {
  limits = record {
    states = (least, most);
    own_actions = (omega arith, omega arith);
    informed_actions = (omega arith, omega arith);
    observations = (omega arith, omega arith);
    row_total = (omega (arith, ints), omega (arith, ints));
    discount = (omega (arith, ints), omega (arith, ints), omega (arith, ints));
  };
  total = refl;
  under = refl;
}

draw_below : (g : Lcg) (k total : ℕ) → 1 ≤ total → draw_at g k total < total
draw_below g k total some = mod_below (number_at g k) total (omega arith)

pairs_right : (shape : Shape) (g : Lcg) (k : ℕ) → Serves shape → ArePairs shape (pairs_from shape g k)
pairs_right shape g k serves =
    let O = shape.observations in
    let S = shape.states in
    let seen = serves.limits.observations.0 in
    let to = serves.limits.states.0 in
    let pair : (n : ℕ) → (draw_at g n O < O) × (draw_at g (n + 1) S < S) = λ n. (draw_below g n O seen, draw_below g (n + 1) S to) in
    record { four = refl; each = (pair k, (pair (k + 2), (pair (k + 4), (pair (k + 6), tt)))) }

pub row_right : (shape : Shape) (g : Lcg) → Serves shape → IsRow shape (row_drawn shape g)
row_right shape g serves = is_row shape (pairs_from shape g 1) serves (pairs_right shape g 1 serves)

-- rewards are small
small : (n : ℕ) → n < 19 → max 1 (unsigned_abs (pos n -ℤ pos 9)) ≤ 9
small n lt = omega (arith, ints)

in_range : (n : ℕ) → n < 19 → IsRewardInRange (pos n -ℤ pos 9)
in_range n lt = (omega (arith, ints), omega (arith, ints))

narrow : (total under : ℤ) (m : ℕ) → total ≡ pos 100 → under ≡ pos 20 → m ≤ 9 → (total *ℤ under *ℤ under *ℤ pos m) ≤ℤ pos most_width
narrow total under m e f le = rw (e, f) (omega (arith, ints))

reward_right : (shape : Shape) (g : Lcg) → Serves shape → IsRewardInRange (reward_drawn g) × IsNarrow shape (reward_drawn g)
reward_right shape g serves =
    let lt = draw_below g 0 19 (omega arith) in
    (in_range (draw_at g 0 19) lt, narrow shape.row_total shape.discount.1 _ serves.total serves.under (small (draw_at g 0 19) lt))

-- the first triples, and one more
same_game : (shape : Shape) (first xs ys : List ℤ) (rows others : List (List Landing)) → xs ≡ ys → rows ≡ others → game_from shape first xs rows ≡ game_from shape first ys others
same_game shape first xs ys rows others e f = cc

pub game_drawn-more : (shape : Shape) (first : List ℤ) (g : Lcg) (n : ℕ) →
    with_row (game_drawn shape first g n) (reward_drawn (after_draws (9 * n) g)) (row_drawn shape (after_draws (9 * n) g)) ≡ game_drawn shape first g (n + 1)
game_drawn-more shape first g n =
    same_game shape first _ _ _ _
    (sym (map-range_with_len_more (λ i. reward_drawn (after_draws (9 * i) g)) 0 n n (omega arith)))
    (sym (map-range_with_len_more (λ i. row_drawn shape (after_draws (9 * i) g)) 0 n n (omega arith)))

-- the last of some rows
ends : (rows front : List (List Landing)) (row : List Landing) → rows ≡ front ++ row ∷ [] → slice_index_or rows (length rows - 1) [] ≡ row
ends rows front row e =
    let n : length (front ++ row ∷ []) - 1 ≡ length front = omega (arith, length_push front row) in
    ap (λ (r : List (List Landing)). slice_index_or r (length r - 1) []) e
    ∙ ap (λ (k : ℕ). slice_index_or (front ++ row ∷ []) k []) n
    ∙ get_or_at front row [] [] (length front) refl

pub last_full : (shape : Shape) (first : List ℤ) (g : Lcg) (n : ℕ) → Serves shape → IsLastRowFull (game_drawn shape first g n)
last_full shape first g zero serves = λ begun. absurd (omega arith)
last_full shape first g (suc n) serves = λ begun.
    let one_more : suc n ≡ n + 1 = omega arith in
    let rows : rows_drawn shape g (suc n) ≡ rows_drawn shape g n ++ row_drawn shape (after_draws (9 * n) g) ∷ [] =
    ap (rows_drawn shape g) one_more ∙ map-range_with_len_more (λ i. row_drawn shape (after_draws (9 * i) g)) 0 n n (omega arith) in
    ap row_sum (ends (rows_drawn shape g (suc n)) (rows_drawn shape g n) (row_drawn shape (after_draws (9 * n) g)) rows)
    ∙ (row_right shape (after_draws (9 * n) g) serves).sums

pub counted : (shape : Shape) (first : List ℤ) (g : Lcg) (n : ℕ) → length (game_drawn shape first g n).rewards ≡ n
counted shape first g n = length-map-range_with_len (λ i. reward_drawn (after_draws (9 * i) g)) 0 n

pub is_game : (number size : ℕ) → 1 ≤ size → size ≤ 16 → IsGame (game_of number size)
is_game number size least most =
    let shape = shape_of size in
    let serves = serves_of size least most in
    let g = seeded number in
    record {
      shape = serves.limits;
      first = ones_belief size least most;
      coprime = ones_coprime size least;
      rewards_count = length-map-range_with_len (λ i. reward_drawn (after_draws (9 * i) g)) 0 (triples shape);
      rows_count = length-map-range_with_len (λ i. row_drawn shape (after_draws (9 * i) g)) 0 (triples shape);
      rewards =
          each-map (λ r. IsRewardInRange r × IsNarrow shape r) (λ i. reward_drawn (after_draws (9 * i) g)) (below (triples shape))
          (below-each (λ i. IsRewardInRange (reward_drawn (after_draws (9 * i) g)) × IsNarrow shape (reward_drawn (after_draws (9 * i) g))) (triples shape)
          (λ i lt. reward_right shape (after_draws (9 * i) g) serves));
      rows =
          each-map (IsRow shape) (λ i. row_drawn shape (after_draws (9 * i) g)) (below (triples shape))
          (below-each (λ i. IsRow shape (row_drawn shape (after_draws (9 * i) g))) (triples shape) (λ i lt. row_right shape (after_draws (9 * i) g) serves));
    }

pub few_triples : (size : ℕ) → size ≤ 16 → triples (shape_of size) ≤ 256
few_triples size most =
    let actions : ℕ = min 4 (1 + size / 3) in
    let few : actions ≤ 4 = omega arith in
    mul-le (size * actions) actions 64 4 (mul-le size actions 16 4 most few) few
