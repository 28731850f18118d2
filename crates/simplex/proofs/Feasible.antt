-- The constants stay at least 0, by the least ratio.
use Rattle.std.proofs.Common.{ℕ, ◌+◌, ◌<◌, ◌≤◌, ◌≡◌, ◌≢◌, ℤ, pos, ◌*ℤ◌, ◌-ℤ◌, ◌≤ℤ◌, List, [], ◌∷◌, length, refl, sym, subst, ◌∙◌, inl, inr, arith}
use Rattle.std.proofs.lemmas.Int.{ints, by_lt_z}
use Rattle.std.proofs.lemmas.Bool.{cases_lt}
use Rattle.std.proofs.lemmas.List.{get_or_past}
use Rattle.simplex.specs.declared.Program.{Program}
use Rattle.simplex.specs.Program.{at, row_count, IsProgram}
use Rattle.simplex.specs.CostForm.{CostForm, row_of, entry, Leaves}
use Rattle.simplex.specs.CostOptimum.{IsFeasible}
use Rattle.simplex.specs.Start.{IsFilledFor}
use Rattle.simplex.specs.Tableau.{IsNext}
use Rattle.scaled_num.proofs.Ring.{ring, x, ◌⊗◌}
use Rattle.simplex.proofs.Choice.{times_le}
use Rattle.simplex.proofs.Start.{times_zero}
use Rattle.simplex.proofs.Optimum.{not_negative_factor, not_negative_product}
use Rattle.simplex.proofs.Trade.{eliminated_constant}

flip : (a b : ℤ) → a *ℤ b ≡ b *ℤ a
flip a b = ring (a ∷ b ∷ []) (x 0 ⊗ x 1) (x 1 ⊗ x 0) (omega arith)

above : (a b : ℤ) → b ≤ℤ a → pos 0 ≤ℤ (a -ℤ b)
above a b h = omega (arith, ints)

above_nothing : (a b : ℤ) → pos 0 ≤ℤ a → b ≤ℤ pos 0 → b ≤ℤ a
above_nothing a b h k = omega (arith, ints)

pub next_feasible : (d : CostForm) (r q k : ℕ) (new : List ℤ) → IsFeasible d → Leaves d q r → k < length d.basic → IsNext d r q k new → pos 0 ≤ℤ at new 1
next_feasible d r q k new f leaves kl next =
    let c : ℤ = entry d r (q + 2) in
    let a : ℤ = entry d k (q + 2) in
    let rk : pos 0 ≤ℤ entry d k 1 = f.each k kl in
    let rr : pos 0 ≤ℤ entry d r 1 = f.each r leaves.bounding.0 in
    elim next [
      | inl (e, sw) ↦ subst (λ (y : ℤ). pos 0 ≤ℤ y) (sym sw.constant_is) rr
      | inr other ↦ elim other [
        | inl (ne, z, same) ↦ subst (λ (row : List ℤ). pos 0 ≤ℤ at row 1) (sym same) rk
        | inr (ne, there, (g, div, red)) ↦
            not_negative_factor (pos g) (at new 1) (let i = div.positive in omega (arith, ints))
            (subst (λ (y : ℤ). pos 0 ≤ℤ y) (sym (red.each 1 (long_enough (row_of d k) (entry d k (q + 2)) q there refl) ∙ eliminated_constant (row_of d k) (row_of d r) q))
            (above (c *ℤ entry d k 1) (a *ℤ entry d r 1) (by_lt_z (pos 0) a
            (λ lt. subst (λ (y : ℤ). y ≤ℤ (c *ℤ entry d k 1)) (flip (entry d r 1) a) (subst (λ (y : ℤ). (entry d r 1 *ℤ a) ≤ℤ y) (flip (entry d k 1) c) (leaves.least k (kl, lt))))
            (λ le. above_nothing (c *ℤ entry d k 1) (a *ℤ entry d r 1)
            (not_negative_product c (entry d k 1) (let i = leaves.bounding.1 in omega (arith, ints)) rk)
            (subst (λ (y : ℤ). (a *ℤ entry d r 1) ≤ℤ y) (times_zero (entry d r 1)) (times_le a (pos 0) (entry d r 1) le rr))))))
      ]
    ]
  where
    long_enough : (row : List ℤ) (z : ℤ) (q : ℕ) → z ≢ pos 0 → z ≡ at row (q + 2) → 1 < length row
    long_enough row z q ne e = elim (cases_lt 1 (length row)) [ inl lt ↦ lt | inr ge ↦ absurd (ne (e ∙ get_or_past row (q + 2) (pos 0) (omega arith))) ]

pub next_all_feasible : (d new : CostForm) (r q : ℕ) → IsFeasible d → Leaves d q r → length new.basic ≡ length d.basic → ((k : ℕ) → k ≤ length d.basic → IsNext d r q k (row_of new k)) → IsFeasible new
next_all_feasible d new r q f leaves long next = record { each = λ k kl. next_feasible d r q k (row_of new k) f leaves (omega arith) (next k (omega arith)) }

pub first_feasible : (p : Program) (d : CostForm) → IsProgram p → length d.basic ≡ row_count p → ((k : ℕ) → k ≤ row_count p → IsFilledFor p k (row_of d k)) → IsFeasible d
first_feasible p d ip long each = record { each = λ k kl. subst (λ (y : ℤ). pos 0 ≤ℤ y) (sym ((each k (omega arith)).constant_below (omega arith))) (ip.not_negative k (omega arith)) }
