-- Sums over the landings of a row with one observation.
use Rattle.std.proofs.Common.{◌≡◌, ℕ, ◌+◌, ◌*◌, ◌<◌, ◌≤◌, List, [], ◌∷◌, cond, ◌==◌, filter, length, ap, arith, sym, ◌∙◌}
use Rattle.std.specs.Prelude.{ℤ, pos, neg_ℤ, ◌+ℤ◌, ◌*ℤ◌, ◌≤ℤ◌, sum_by, unsigned_abs}
use Rattle.std.specs.List.{AllByRecursion}
use Rattle.std.proofs.lemmas.Int.{ints}
use Rattle.std.proofs.lemmas.List.Sums.{sum_by-cons}
use Rattle.std.proofs.Math.Nat.{mul-le-mul_left}
use Rattle.scaled_num.specs.Share.{at}
use Rattle.scaled_num.specs.Sums.{below, total}
use Rattle.scaled_num.proofs.Products.{magnitude-is}
use Rattle.scaled_num.proofs.Sums.{each-at, total-below, total-same}
use Rattle.game_model.specs.Game.{IsWithin, weight_in}
use Rattle.game_model.specs.declared.parts.Landing.{Landing}
use Rattle.game_model.proofs.Rows.{row-landings}
use Rattle.belief.specs.Masses.{AreLandings, IsSeen}
use Rattle.belief.proofs.Landings.{landed-seen, landings-seen}

-- the sum over the landings of a row with an observation is the sum over the next states
pub seen-sum : (n : ℕ) (row : List Landing) (o : ℕ) (f : ℕ → ℤ) → AreLandings n row →
    total (λ (l : Landing). l.weight *ℤ f l.to) (filter (IsSeen o) row) ≡ total (λ t. pos (weight_in row o t) *ℤ f t) (below n)
seen-sum n row o f h =
    let ls : List Landing = filter (IsSeen o) row in
    let seen = landings-seen n row o h in
    total-same (λ (l : Landing). l.weight *ℤ f l.to) (λ (l : Landing). pos (unsigned_abs l.weight) *ℤ f l.to) ls (weights ls seen.positive)
    ∙ sym (row-landings (λ (l : Landing). 0) (λ (l : Landing). l.to) (λ (l : Landing). unsigned_abs l.weight) n 1 ls (λ _ t. f t) (places ls seen.inside))
    ∙ one (total (λ t. pos (sum_by (λ (l : Landing). cond (l.to == t) (unsigned_abs l.weight) 0) ls) *ℤ f t) (below n))
    ∙ total-below n _ (λ t. pos (weight_in row o t) *ℤ f t) (λ t l. ap (λ (k : ℕ). pos k *ℤ f t) (landed-seen row o t))
  where
    one : (z : ℤ) → z +ℤ pos 0 ≡ z
    one z = omega (arith, ints)

    weights : (ls : List Landing) → AllByRecursion (λ (l : Landing). pos 0 ≤ℤ l.weight) ls → AllByRecursion (λ (l : Landing). l.weight *ℤ f l.to ≡ pos (unsigned_abs l.weight) *ℤ f l.to) ls
    weights [] h = tt
    weights (x ∷ xs) h = (ap (λ (z : ℤ). z *ℤ f x.to) (magnitude-is x.weight h.0), weights xs h.1)

    places : (ls : List Landing) → AllByRecursion (λ (l : Landing). l.to < n) ls → AllByRecursion (λ (l : Landing). (0 < 1) × (l.to < n)) ls
    places [] h = tt
    places (x ∷ xs) h = ((omega arith, h.0), places xs h.1)

-- entries within the span, raised by it, are 0 to twice the span
pub record IsRaised (most : ℕ) (sum : ℤ) : Type 0 where
  pub low : pos 0 ≤ℤ sum
  pub high : unsigned_abs sum ≤ most

pub raised-bounds : (v : ℕ) (vector : List ℤ) (ls : List Landing) → AllByRecursion (IsWithin (neg_ℤ (pos v)) (pos v)) vector →
    AllByRecursion (λ (l : Landing). l.to < length vector) ls → AllByRecursion (λ (l : Landing). pos 0 ≤ℤ l.weight) ls →
    IsRaised (sum_by (λ (l : Landing). unsigned_abs l.weight) ls * (2 * v)) (total (λ (l : Landing). l.weight *ℤ (at vector l.to +ℤ pos v)) ls)
raised-bounds v vector [] entries inside positive = record { low = omega (arith, ints); high = omega arith }
raised-bounds v vector (x ∷ xs) entries inside positive =
    let rest = raised-bounds v vector xs entries inside.1 positive.1 in
    let within = each-at (IsWithin (neg_ℤ (pos v)) (pos v)) (pos 0) vector x.to entries inside.0 in
    let y : ℤ = at vector x.to +ℤ pos v in
    let low : pos 0 ≤ℤ y = raise-low (at vector x.to) v within.0 in
    let high : unsigned_abs y ≤ 2 * v = raise-high (at vector x.to) v within.0 within.1 in
    let w : ℕ = unsigned_abs x.weight in
    let is : x.weight *ℤ y ≡ pos (w * unsigned_abs y) = ap (λ (z : ℤ). z *ℤ y) (magnitude-is x.weight positive.0) ∙ ap (λ (z : ℤ). pos w *ℤ z) (magnitude-is y low) in
    let size : w * unsigned_abs y ≤ w * (2 * v) = mul-le-mul_left w high in
    let rest_low = rest.low in
    let rest_high = rest.high in
    let cons = sum_by-cons (λ (l : Landing). unsigned_abs l.weight) x xs in
    let f : Landing → ℤ = λ l. l.weight *ℤ (at vector l.to +ℤ pos v) in
    record {
      low = sum-low (f x) (total f xs) (w * unsigned_abs y) is rest_low;
      high = rw cons (sum-high (f x) (total f xs) (w * unsigned_abs y) w (sum_by (λ (l : Landing). unsigned_abs l.weight) xs) (2 * v) is size rest_low rest_high);
    }
  where
    raise-low : (z : ℤ) (v : ℕ) → (neg_ℤ (pos v)) ≤ℤ z → pos 0 ≤ℤ (z +ℤ pos v)
    raise-low z v h = omega (arith, ints)

    raise-high : (z : ℤ) (v : ℕ) → (neg_ℤ (pos v)) ≤ℤ z → z ≤ℤ (pos v) → unsigned_abs (z +ℤ pos v) ≤ 2 * v
    raise-high z v h k = omega (arith, ints)

    sum-low : (a b : ℤ) (n : ℕ) → a ≡ pos n → pos 0 ≤ℤ b → pos 0 ≤ℤ (a +ℤ b)
    sum-low a b n e h = omega (arith, ints)

    sum-high : (a b : ℤ) (n w s m : ℕ) → a ≡ pos n → n ≤ w * m → pos 0 ≤ℤ b → unsigned_abs b ≤ s * m → unsigned_abs (a +ℤ b) ≤ (w + s) * m
    sum-high a b n w s m e l low high = omega (arith, ints)
