-- The values and the multipliers that are read exist, in lowest terms.
use Rattle.std.proofs.Common.{ℕ, ◌+◌, ◌<◌, ◌≡◌, ℤ, pos, ◌*ℤ◌, ◌<ℤ◌, length, refl, sym, ◌∙◌, inl, inr, arith, int_div, unsigned_abs}
use Rattle.simplex.specs.declared.Program.{Program}
use Rattle.simplex.specs.Program.{row_count, variable_count}
use Rattle.simplex.specs.Reading.{IsLowest, IsPrimal, IsPrice, IsDual, AreRead, KeepsRows, IsOptimum}
use Rattle.simplex.specs.CostForm.{CostForm, IsDictionary, entry}
use Rattle.simplex.specs.CostOptimum as inner
use Rattle.simplex.specs.CostOptimum.{ArePrimal, AreDual}
use Rattle.simplex.specs.Forms.{with_goal}
use Rattle.simplex.specs.Tableau.{IsStanding}
use Rattle.simplex.proofs.Divided.{common_positive}
use Rattle.simplex.proofs.Lowest.{is_lowest, same_fraction}
use Rattle.simplex.proofs.Narrow.{quotient_exact}
use Rattle.simplex.proofs.Read.{Values, there, are_read, goal_lead-with_goal, read_optimum}
use Rattle.simplex.proofs.Optimum.{IsPoint, point}
use Rattle.simplex.proofs.Unique.{Determines}
use Rattle.simplex.proofs.ReadAt.{read_primal, read_nothing, read_price}
use Rattle.simplex.proofs.Run.{gcd_there}
use Rattle.simplex.proofs.Standing.{dual_of}

-- every fraction has lowest terms
fraction : (a b : ℤ) → pos 0 <ℤ b → (num : ℤ) × ((den : ℤ) × (IsLowest num den × (num *ℤ b ≡ a *ℤ den)))
fraction a b h =
    let g = gcd_there (unsigned_abs b) (unsigned_abs a) in
    let some : 0 < g.0 = common_positive b a g.0 h g.1 in
    let num : ℤ = int_div a (pos g.0) in
    let den : ℤ = int_div b (pos g.0) in
    let en : pos g.0 *ℤ num ≡ a = quotient_exact a g.0 g.1.1 in
    let ed : pos g.0 *ℤ den ≡ b = quotient_exact b g.0 g.1.0 in
    (num, (den, (is_lowest a b num den g.0 some h en ed g.1, same_fraction a b num den g.0 en ed)))

values_there : (p : Program) (d : CostForm) → IsDictionary p d → (i : ℕ) → i < variable_count p → (num : ℤ) × ((den : ℤ) × IsPrimal (with_goal d) i num den)
values_there p d id i il =
    let bl : length d.basic ≡ row_count p = id.parted.basic_long in
    elim (id.parted.found i (omega arith)) [
      | inl (k, kl, e) ↦
          (let f = fraction (entry d k 1) (entry d k 0) (id.each k (omega arith)).lead in
          (f.0, (f.1.0, read_primal p d i k f.0 f.1.0 id (omega arith) e f.1.1.0 f.1.1.1)))
      | inr (q, ql, e) ↦ (pos 0, (pos 1, read_nothing d i (λ k kl h. id.parted.apart k q (omega arith) ql (h ∙ sym e))))
    ]

price_there : (p : Program) (d : CostForm) → IsDictionary p d → (i : ℕ) → i < row_count p → (price : ℤ) × IsPrice (with_goal d) i price
price_there p d id i il =
    let bl : length d.basic ≡ row_count p = id.parted.basic_long in
    let ol : length d.out ≡ variable_count p = id.parted.out_long in
    elim (id.parted.found (length d.out + i) (omega arith)) [
      | inl (k, kl, e) ↦ (pos 0, record { basic = λ s sl h. refl; out = λ q ql h. absurd (id.parted.apart k q kl (omega arith) (e ∙ sym h)) })
      | inr (q, ql, e) ↦ (entry d (length d.basic) (q + 2), read_price p d i q (entry d (length d.basic) (q + 2)) id (omega arith) e refl)
    ]

multipliers_there : (p : Program) (d : CostForm) → IsDictionary p d → IsStanding d → (i : ℕ) → i < row_count p → (num : ℤ) × ((den : ℤ) × IsDual (with_goal d) i num den)
multipliers_there p d id s i il =
    let bl : length d.basic ≡ row_count p = id.parted.basic_long in
    let price = price_there p d id i il in
    let f = fraction price.0 (entry d (length d.basic) 0) (id.each (length d.basic) (omega arith)).lead in
    (f.0, (f.1.0, dual_of d i price.0 (entry d (length d.basic) 0) f.0 f.1.0 s (omega arith) price.1 (sym (goal_lead-with_goal d)) f.1.1.0 f.1.1.1))

-- the values that are read keep the rows
pub rows_kept_there : (p : Program) (d : CostForm) → IsDictionary p d → Determines p d.basic → inner.IsFeasible d → KeepsRows p (with_goal d)
rows_kept_there p d id det feasible =
    let w : Values p d = there p d id in
    let ol : length d.out ≡ variable_count p = id.parted.out_long in
    let at_point : IsPoint p w.denominator w.values = point p d w.denominator w.values id det feasible w.primal in
    let read : AreRead (with_goal d) w.denominator (entry d (row_count p) 0) w.values w.multipliers = are_read p d id w in
    record {
      values_there = values_there p d id;
      below = w.denominator;
      x = w.values;
      positive = w.primal.positive;
      values = λ i num den il primal. read.values i num den (omega arith) primal;
      not_negative = λ j jl. at_point.not_negative j (omega arith);
      rows_kept = at_point.rows_kept;
    }

pub optimum_there : (p : Program) (d : CostForm) → IsDictionary p d → IsStanding d
    → ((denominator : ℤ) (values multipliers : ℕ → ℤ) → ArePrimal p d denominator values → AreDual p d multipliers → inner.IsOptimum p (entry d (row_count p) 0) denominator values multipliers)
    → IsOptimum p (with_goal d)
optimum_there p d id s holds = read_optimum p d id holds (values_there p d id) (multipliers_there p d id s)
