-- Sums over the rows of a game of weights times the entries of a table, and how large they are.
use Rattle.std.proofs.Common.{◌≡◌, ℕ, ◌+◌, ◌*◌, ◌^◌, ◌<◌, ◌≤◌, List, length, get_or, take, ap, arith, sym, subst, ◌∙◌}
use Rattle.std.specs.Prelude.{ℤ, pos, ◌+ℤ◌, ◌*ℤ◌, unsigned_abs, FitsSigned, sum_by}
use Rattle.std.specs.List.{AllByRecursion}
use Rattle.std.specs.Int.{w128}
use Rattle.std.proofs.Math.Nat.{mul-le-mul_left}
use Rattle.std.proofs.lemmas.Int.{fits_signed_from_abs, unsigned_abs-mul}
use Rattle.std.proofs.lemmas.Nat.{mul-le}
use Rattle.std.proofs.lemmas.List.Sums.{sum_by_more, sum_by_more_le}
use Rattle.scaled_num.specs.Sums.{total}
use Rattle.scaled_num.proofs.Sums.{each-at, total-same}
use Rattle.game_model.specs.Branches.{mix_total}
use Rattle.game_model.specs.Game.{GameData, IsGame, IsLanding, numbers, row_at, span}
use Rattle.game_model.specs.Numbers.{over_row}
use Rattle.game_model.specs.Build.{landing_of}
use Rattle.game_model.specs.declared.parts.Landing.{Landing}
use Rattle.game_model.proofs.Games.{row-in, row-weights, weight-abs}
use Rattle.game_model.proofs.Pay.{each-from}
use Rattle.game_model.proofs.Rows.{row-landings}
use Rattle.game_model.proofs.Sizes.{total-more}
use Rattle.game_model.proofs.Worth.{span-small}
use Rattle.alpha_set.specs.Members.{IsTable, entry_at, table_index}
use Rattle.alpha_set.proofs.Totals.{abs-within}
use Rattle.scaled_num.proofs.Products.{abs-add}

abbrev pub none : Landing
none = landing_of 0 0 (pos 0)

abbrev pub size : Landing → ℕ
size l = unsigned_abs l.weight

abbrev pub term : List ℤ → ℕ → Landing → ℤ
term table a l = l.weight *ℤ entry_at table a l.seen l.to

-- the greatest entry of a table
abbrev pub most : GameData → ℕ
most g = mix_total * span g

pub most-small : (g : GameData) → IsGame g → most g ≤ 2 ^ 82
most-small g h = omega (arith, span-small g h)

-- the sum over the first landings of a row
pub record RowSoFar (g : GameData) (row : List Landing) (table : List ℤ) (a i : ℕ) (sum : ℤ) : Type 0 where
  pub is : sum ≡ total (term table a) (take i row)
  pub bounded : unsigned_abs sum ≤ sum_by size (take i row) * most g

pub record NextLanding (g : GameData) (row : List Landing) (table : List ℤ) (a i : ℕ) (sum : ℤ) : Type 0 where
  pub seen : (get_or row i none).seen < 8
  pub to : (get_or row i none).to < 16
  pub inside : table_index a (get_or row i none).seen (get_or row i none).to < length table
  pub weight_fits : FitsSigned w128 (get_or row i none).weight
  pub entry_fits : FitsSigned w128 (entry_at table a (get_or row i none).seen (get_or row i none).to)
  pub product_fits : FitsSigned w128 (term table a (get_or row i none))
  pub sum_fits : FitsSigned w128 (sum +ℤ term table a (get_or row i none))
  pub so_far : RowSoFar g row table a (i + 1) (sum +ℤ term table a (get_or row i none))

pub next-landing : (g : GameData) → IsGame g → (row : List Landing) (table : List ℤ) (a i : ℕ) (sum : ℤ) → IsTable g table → a < g.shape.own_actions → i < length row →
    AllByRecursion (IsLanding g.shape) row → sum_by size row ≤ 2 ^ 30 → RowSoFar g row table a i sum → NextLanding g row table a i sum
next-landing g h row table a i sum right la l each weights so_far =
    let landing : Landing = get_or row i none in
    let x : ℤ = entry_at table a landing.seen landing.to in
    let in_range = each-at (IsLanding g.shape) none row i each l in
    let few_seen = h.shape.observations.1 in
    let few_to = h.shape.states.1 in
    let few_own = h.shape.own_actions.1 in
    let small : unsigned_abs x ≤ most g = right.small a landing.seen landing.to la in_range.seen in_range.to in
    let more : sum_by size (take i row) + size landing ≤ sum_by size row = sum_by_more_le size row i none l in
    let light : size landing ≤ 2 ^ 30 = omega arith in
    let high : most g ≤ 2 ^ 82 = most-small g h in
    let product : unsigned_abs (term table a landing) ≤ size landing * most g = rw (unsigned_abs-mul landing.weight x) (mul-le-mul_left (size landing) small) in
    let all : (sum_by size (take i row) + size landing) * most g ≤ 2 ^ 112 = mul-le (sum_by size (take i row) + size landing) (most g) (2 ^ 30) (2 ^ 82) (omega arith) high in
    let one : size landing * most g ≤ 2 ^ 112 = mul-le (size landing) (most g) (2 ^ 30) (2 ^ 82) light high in
    let upto : unsigned_abs (sum +ℤ term table a landing) ≤ (sum_by size (take i row) + size landing) * most g = omega (arith, abs-add sum (term table a landing), so_far.bounded) in
    let seen : landing.seen < 8 = omega (arith, in_range.seen) in
    let to : landing.to < 16 = omega (arith, in_range.to) in
    record {
      seen = seen;
      to = to;
      inside = omega (arith, right.long);
      weight_fits = fits_signed_from_abs w128 landing.weight (omega arith);
      entry_fits = fits_signed_from_abs w128 x (omega arith);
      product_fits = fits_signed_from_abs w128 (term table a landing) (omega arith);
      sum_fits = fits_signed_from_abs w128 (sum +ℤ term table a landing) (omega arith);
      so_far = record {
        is = ap (λ z. z +ℤ term table a landing) so_far.is ∙ sym (total-more (term table a) row i none l);
        bounded = rw (sum_by_more size row i none l) upto;
      };
    }

-- a sum over a row is a sum over its landings
pub row-sum : (g : GameData) → IsGame g → (s a c : ℕ) → s < g.shape.states → a < g.shape.own_actions → c < g.shape.informed_actions → (f : ℕ → ℕ → ℤ) →
    over_row (numbers g) s a c f ≡ total (λ (l : Landing). l.weight *ℤ f l.seen l.to) (row_at g s a c)
row-sum g h s a c ls la lc f =
    let row = row-in g h s a c ls la lc in
    row-landings (λ (l : Landing). l.seen) (λ (l : Landing). l.to) (λ (l : Landing). unsigned_abs l.weight) g.shape.states g.shape.observations (row_at g s a c) f
    (each-from (IsLanding g.shape) _ (row_at g s a c) (λ l i. (i.seen, i.to)) row.each)
    ∙ total-same (λ (l : Landing). pos (unsigned_abs l.weight) *ℤ f l.seen l.to) (λ (l : Landing). l.weight *ℤ f l.seen l.to) (row_at g s a c)
    (each-from (IsLanding g.shape) _ (row_at g s a c) (λ l i. ap (λ (z : ℤ). z *ℤ f l.seen l.to) (sym (weight-abs l.weight i.weight.0))) row.each)

pub weights-small : (g : GameData) → IsGame g → (s a c : ℕ) → s < g.shape.states → a < g.shape.own_actions → c < g.shape.informed_actions → sum_by size (row_at g s a c) ≤ 2 ^ 30
weights-small g h s a c ls la lc =
    let row = row-in g h s a c ls la lc in
    subst (λ (n : ℕ). n ≤ 2 ^ 30) (sym (row-weights g.shape (row_at g s a c) row)) (abs-within g.shape.row_total (2 ^ 30) h.shape.row_total)
