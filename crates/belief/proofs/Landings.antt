-- Landings added to masses.
use Rattle.std.proofs.Common.{filter, ◌&&◌, ◌≡◌, ℕ, ◌+◌, ◌*◌, ◌^◌, ◌<◌, ◌≤◌, Bool, true, false, cond, ◌==◌, List, [], ◌∷◌, length, get_or, set, take, refl, ap, arith, sym, subst, ◌∙◌, inl, inr, eq-eqb}
use Rattle.std.specs.Prelude.{ℤ, pos, ◌+ℤ◌, ◌*ℤ◌, ◌≤ℤ◌, unsigned_abs, FitsSigned, sum_by}
use Rattle.std.specs.List.{AllByRecursion}
use Rattle.std.specs.Int.{w128}
use Rattle.std.proofs.lemmas.Int.{ints, fits_signed_from_abs}
use Rattle.std.proofs.lemmas.Nat.{mul-le}
use Rattle.std.proofs.lemmas.List.{get_or-set_same, get_or-set_other, length-set}
use Rattle.std.proofs.lemmas.List.Sums.{get_or-le-sum_by, sum_by-cons, sum_by_more, sum_by-le-sum_by, sum_by-take-le}
use Rattle.std.proofs.lemmas.Bool.Decides.{eqb_tells}
use Rattle.scaled_num.proofs.Sums.{each-at}
use Rattle.game_model.specs.Game.{GameData, IsGame, IsLanding, IsWithin, row_at, weight_in}
use Rattle.game_model.proofs.Games.{row-in, row-weights}
use Rattle.game_model.proofs.Pay.{each-from}
use Rattle.game_model.specs.Build.{landing_of}
use Rattle.game_model.specs.declared.parts.Landing.{Landing}
use Rattle.belief.specs.Masses.{AreBelow, AreLandings, IsSeen, landed}
use Rattle.scaled_num.proofs.Products.{magnitude-is}

abbrev none : Landing
none = landing_of 0 0 (pos 0)

part-le : (b : Bool) (n : ℕ) → cond b n 0 ≤ n
part-le true n = omega arith
part-le false n = omega arith

pub landed-le : (ls : List Landing) (t : ℕ) → landed ls t ≤ sum_by (λ (l : Landing). unsigned_abs l.weight) ls
landed-le ls t = sum_by-le-sum_by (λ (l : Landing). cond (l.to == t) (unsigned_abs l.weight) 0) (λ (l : Landing). unsigned_abs l.weight) ls (λ l. part-le (l.to == t) (unsigned_abs l.weight))

-- what landings times a factor add to old entries
abbrev pub IsAdded : List ℤ → List ℤ → ℤ → List Landing → Type 0
IsAdded old out factor ls = (t : ℕ) → t < length out → get_or out t (pos 0) ≡ get_or old t (pos 0) +ℤ pos (unsigned_abs factor * landed ls t)

pub record NextAdded (ls : List Landing) (i : ℕ) (old out : List ℤ) (factor : ℤ) : Type 0 where
  pub weight_fits : FitsSigned w128 (get_or ls i none).weight
  pub entry_fits : FitsSigned w128 (get_or out (get_or ls i none).to (pos 0))
  pub product_fits : FitsSigned w128 (factor *ℤ (get_or ls i none).weight)
  pub sum_fits : FitsSigned w128 (get_or out (get_or ls i none).to (pos 0) +ℤ factor *ℤ (get_or ls i none).weight)
  pub added : IsAdded old (set out (get_or ls i none).to (get_or out (get_or ls i none).to (pos 0) +ℤ factor *ℤ (get_or ls i none).weight)) factor (take (i + 1) ls)

pub next-added : (ls : List Landing) (i : ℕ) (old out : List ℤ) (factor : ℤ) → i < length ls → length out ≡ length old →
    AllByRecursion (λ (l : Landing). l.to < length old) ls → AllByRecursion (λ (l : Landing). pos 0 ≤ℤ l.weight) ls → sum_by (λ (l : Landing). unsigned_abs l.weight) ls ≤ 2 ^ 30 →
    IsWithin (pos 0) (pos (2 ^ 36)) factor → AreBelow (pos (2 ^ 100)) old → IsAdded old out factor (take i ls) → NextAdded ls i old out factor
next-added ls i old out factor l same inside positive weights limits room so_far =
    let x : Landing = get_or ls i none in
    let w : ℕ = unsigned_abs x.weight in
    let f : ℕ = unsigned_abs factor in
    let to_old : x.to < length old = each-at (λ (y : Landing). y.to < length old) none ls i inside l in
    let to_out : x.to < length out = omega arith in
    let low : pos 0 ≤ℤ x.weight = each-at (λ (y : Landing). pos 0 ≤ℤ y.weight) none ls i positive l in
    let product : factor *ℤ x.weight ≡ pos (f * w) = ap (λ (z : ℤ). z *ℤ x.weight) (magnitude-is factor limits.0) ∙ ap (λ (z : ℤ). pos f *ℤ z) (magnitude-is x.weight low) in
    let more = λ (t : ℕ). sum_by_more (λ (y : Landing). cond (y.to == t) (unsigned_abs y.weight) 0) ls i none l in
    let here : landed (take (i + 1) ls) x.to ≡ landed (take i ls) x.to + w = more x.to ∙ ap (λ (b : Bool). landed (take i ls) x.to + cond b w 0) (eq-eqb x.to x.to refl) in
    let light : landed (take (i + 1) ls) x.to ≤ 2 ^ 30 = omega (arith, landed-le ls x.to, sum_by-take-le (λ (y : Landing). cond (y.to == x.to) (unsigned_abs y.weight) 0) ls (i + 1)) in
    let f_small : f ≤ 2 ^ 36 = let a = limits.0 in let b = limits.1 in omega (arith, ints) in
    let size : f * (landed (take i ls) x.to + w) ≤ 2 ^ 66 = mul-le f (landed (take i ls) x.to + w) (2 ^ 36) (2 ^ 30) f_small (omega arith) in
    let small : f * w ≤ 2 ^ 66 = omega arith in
    let from : get_or out x.to (pos 0) ≡ get_or old x.to (pos 0) +ℤ pos (f * landed (take i ls) x.to) = so_far x.to to_out in
    let old_low = (room x.to to_old).0 in
    let old_high = (room x.to to_old).1 in
    let upto : get_or out x.to (pos 0) +ℤ factor *ℤ x.weight ≡ get_or old x.to (pos 0) +ℤ pos (f * landed (take (i + 1) ls) x.to) =
    ap (λ (z : ℤ). get_or out x.to (pos 0) +ℤ z) product ∙ ap (λ (z : ℤ). z +ℤ pos (f * w)) from ∙ joined (get_or old x.to (pos 0)) f (landed (take i ls) x.to) w
    ∙ ap (λ (n : ℕ). get_or old x.to (pos 0) +ℤ pos (f * n)) (sym here) in
    record {
      weight_fits = fits_signed_from_abs w128 x.weight (omega (arith, ints, get_or-le-sum_by (λ (y : Landing). unsigned_abs y.weight) ls i none l, weights));
      entry_fits = fits_signed_from_abs w128 (get_or out x.to (pos 0)) (omega (arith, ints));
      product_fits = rw product (fits_signed_from_abs w128 (pos (f * w)) (omega (arith, ints)));
      sum_fits = rw upto (fits_signed_from_abs w128 (get_or old x.to (pos 0) +ℤ pos (f * landed (take (i + 1) ls) x.to)) (rw here (omega (arith, ints))));
      added = λ t lt. elim (eqb_tells x.to t) [
        | inl e ↦ subst (λ (k : ℕ). get_or (set out x.to (get_or out x.to (pos 0) +ℤ factor *ℤ x.weight)) k (pos 0) ≡ get_or old k (pos 0) +ℤ pos (f * landed (take (i + 1) ls) k)) e.1 (get_or-set_same out x.to _ (pos 0) to_out ∙ upto)
        | inr e ↦ get_or-set_other out x.to t _ (pos 0) (λ s. e.1 (sym s)) ∙ so_far t (omega (arith, length-set out x.to (get_or out x.to (pos 0) +ℤ factor *ℤ x.weight))) ∙ ap (λ (n : ℕ). get_or old t (pos 0) +ℤ pos (f * n)) (sym (more t ∙ rw e.0 (omega arith)))
      ];
    }
  where
    joined : (z : ℤ) (f m w : ℕ) → z +ℤ pos (f * m) +ℤ pos (f * w) ≡ z +ℤ pos (f * (m + w))
    joined z f m w = omega (arith, ints)

pub each-filter : {X : Type 0} (P : X → Type 0) (q : X → Bool) (xs : List X) → AllByRecursion P xs → AllByRecursion P (filter q xs)
each-filter P q [] h = tt
each-filter P q (x ∷ xs) h =
    elim (q x) as (λ b. AllByRecursion P (cond b (x ∷ filter q xs) (filter q xs))) [ true ↦ (h.0, each-filter P q xs h.1) | false ↦ each-filter P q xs h.1 ]

pub sum-filter : {X : Type 0} (f : X → ℕ) (q : X → Bool) (xs : List X) → sum_by f (filter q xs) ≤ sum_by f xs
sum-filter f q [] = omega arith
sum-filter f q (x ∷ xs) =
    rw (sum_by-cons f x xs) (elim (q x) as (λ b. sum_by f (cond b (x ∷ filter q xs) (filter q xs)) ≤ f x + sum_by f xs) [
      | true ↦ omega (arith, sum_by-cons f x (filter q xs), sum-filter f q xs)
      | false ↦ omega (arith, sum-filter f q xs)
    ])

-- the landings with an observation weigh what the row does there
pub landed-seen : (row : List Landing) (o t : ℕ) → landed (filter (IsSeen o) row) t ≡ weight_in row o t
landed-seen [] o t = refl
landed-seen (x ∷ xs) o t =
    rw (sum_by-cons (λ (l : Landing). cond ((l.seen == o) && (l.to == t)) (unsigned_abs l.weight) 0) x xs)
    (elim (x.seen == o) as (λ b. landed (cond b (x ∷ filter (IsSeen o) xs) (filter (IsSeen o) xs)) t ≡ cond (b && (x.to == t)) (unsigned_abs x.weight) 0 + weight_in xs o t) [
      | true ↦ sum_by-cons (λ (l : Landing). cond (l.to == t) (unsigned_abs l.weight) 0) x (filter (IsSeen o) xs) ∙ ap (λ (n : ℕ). cond (x.to == t) (unsigned_abs x.weight) 0 + n) (landed-seen xs o t)
      | false ↦ omega (arith, landed-seen xs o t)
    ])

pub landings-seen : (states : ℕ) (row : List Landing) (o : ℕ) → AreLandings states row → AreLandings states (filter (IsSeen o) row)
landings-seen states row o h = record {
  inside = each-filter (λ (l : Landing). l.to < states) (IsSeen o) row h.inside;
  positive = each-filter (λ (l : Landing). pos 0 ≤ℤ l.weight) (IsSeen o) row h.positive;
  light = omega (arith, h.light, sum-filter (λ (l : Landing). unsigned_abs l.weight) (IsSeen o) row);
}

-- the landings of a game's row
pub row-landings : (g : GameData) → IsGame g → (s a c : ℕ) → s < g.shape.states → a < g.shape.own_actions → c < g.shape.informed_actions → AreLandings g.shape.states (row_at g s a c)
row-landings g h s a c ls la lc =
    let row = row-in g h s a c ls la lc in
    let low = h.shape.row_total.0 in
    let high = h.shape.row_total.1 in
    record {
      inside = each-from (IsLanding g.shape) (λ (l : Landing). l.to < g.shape.states) (row_at g s a c) (λ l i. i.to) row.each;
      positive = each-from (IsLanding g.shape) (λ (l : Landing). pos 0 ≤ℤ l.weight) (row_at g s a c) (λ l i. let w = i.weight.0 in omega (arith, ints)) row.each;
      light = omega (arith, ints, row-weights g.shape (row_at g s a c) row);
    }

pub weight-light : (g : GameData) → IsGame g → (s a c o t : ℕ) → s < g.shape.states → a < g.shape.own_actions → c < g.shape.informed_actions → weight_in (row_at g s a c) o t ≤ 2 ^ 30
weight-light g h s a c o t ls la lc =
    let light = (row-landings g h s a c ls la lc).light in
    omega (arith, landed-seen (row_at g s a c) o t, landed-le (filter (IsSeen o) (row_at g s a c)) t, sum-filter (λ (l : Landing). unsigned_abs l.weight) (IsSeen o) (row_at g s a c))
