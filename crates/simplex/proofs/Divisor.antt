-- The greatest common divisor of the first columns, and one column more.
use Rattle.std.proofs.Common.{ℕ, ◌+◌, ◌*◌, ◌<◌, ◌≤◌, ◌≡◌, ◌≢◌, ℤ, pos, ◌*ℤ◌, ◌<ℤ◌, List, length, sym, ap, ◌∙◌, subst, arith, unsigned_abs, inl, inr, mul-pos}
use Rattle.std.specs.Int.{◌∣◌, IsGcd}
use Rattle.std.proofs.Math.Nat.{dvd_trans, dvd-zero, one-dvd, eq-zero_of_zero-dvd}
use Rattle.std.proofs.lemmas.Int.{ints, unsigned_abs-mul}
use Rattle.std.proofs.lemmas.Bool.{cases_eq}
use Rattle.simplex.specs.Program.{at}
use Rattle.simplex.specs.Elimination.{eliminated, IsDivisor}

-- g is the greatest common divisor of the columns below n
pub record DividesSoFar (row pivot : List ℤ) (place g n : ℕ) : Type 0 where
  pub divides : (k : ℕ) → k < n → g ∣ unsigned_abs (eliminated row pivot place k)
  pub greatest : (d : ℕ) → ((k : ℕ) → k < n → d ∣ unsigned_abs (eliminated row pivot place k)) → d ∣ g

pub divides_none : (row pivot : List ℤ) (place : ℕ) → DividesSoFar row pivot place 0 0
divides_none row pivot place = record { divides = λ k lt. absurd (omega arith); greatest = λ d h. dvd-zero d }

pub divides_more : (row pivot : List ℤ) (place g n new value : ℕ) → DividesSoFar row pivot place g n → value ≡ unsigned_abs (eliminated row pivot place n) → IsGcd g value new → DividesSoFar row pivot place new (n + 1)
divides_more row pivot place g n new value so is (one, two, most) =
    record {
      divides = λ k lt. elim (cases_eq k n) [
        | inl same ↦ subst (λ (t : ℕ). new ∣ t) (is ∙ ap (λ (t : ℕ). unsigned_abs (eliminated row pivot place t)) (sym same)) two
        | inr ne ↦ dvd_trans new one (so.divides k (omega arith))
      ];
      greatest = λ d h. most d (so.greatest d (λ k lt. h k (omega arith))) (subst (λ (t : ℕ). d ∣ t) (sym is) (h n (omega arith)));
    }

pub lead_there : (row pivot : List ℤ) (place : ℕ) → eliminated row pivot place 0 ≡ at pivot (place + 2) *ℤ at row 0
lead_there row pivot place = grind (arith, ints)

pub lead_positive : (a b : ℤ) → pos 0 <ℤ a → pos 0 <ℤ b → unsigned_abs (a *ℤ b) ≢ 0
lead_positive a b h k e =
    let both : 0 < unsigned_abs a * unsigned_abs b = mul-pos (omega (arith, ints)) (omega (arith, ints)) in
    let same : unsigned_abs a * unsigned_abs b ≡ 0 = sym (unsigned_abs-mul a b) ∙ e in
    omega arith

pub divides_all : (row pivot : List ℤ) (place g : ℕ) → 0 < length row → pos 0 <ℤ at row 0 → pos 0 <ℤ at pivot (place + 2) → DividesSoFar row pivot place g (length row) → IsDivisor row pivot place g
divides_all row pivot place g some lead pivot_lead so =
    record {
      positive = elim (cases_eq g 0) [
        | inl z ↦ absurd (lead_positive (at pivot (place + 2)) (at row 0) pivot_lead lead
            (sym (ap unsigned_abs (lead_there row pivot place)) ∙ eq-zero_of_zero-dvd (subst (λ (t : ℕ). t ∣ unsigned_abs (eliminated row pivot place 0)) z (so.divides 0 some))))
        | inr ne ↦ omega arith
      ];
      divides = so.divides;
      greatest = so.greatest;
    }

-- where the first columns have only 1 in common, so has the row
pub divides_one : (row pivot : List ℤ) (place g n : ℕ) → n ≤ length row → g ≡ 1 → DividesSoFar row pivot place g n → IsDivisor row pivot place 1
divides_one row pivot place g n le one so =
    record {
      positive = omega arith;
      divides = λ k lt. one-dvd _;
      greatest = λ d h. subst (λ (t : ℕ). d ∣ t) one (so.greatest d (λ k lt. h k (omega arith)));
    }
