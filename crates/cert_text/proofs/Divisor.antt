-- The common divisor of a list is the greatest one.
use Rattle.std.proofs.Common.{◌≡◌, ℕ, zero, suc, ◌%◌, ◌<◌, ◌≤◌, Bool, true, false, eqb, List, [], ◌∷◌, ℤ, refl, subst, arith}
use Rattle.std.specs.Prelude.{unsigned_abs}
use Rattle.std.specs.Int.{◌∣◌, IsGcd}
use Rattle.std.specs.List.{AllByRecursion}
use Rattle.std.proofs.lemmas.Bool.{eqb-true}
use Rattle.std.proofs.lemmas.Bool.Decides.{nat_tests}
use Rattle.std.proofs.lemmas.Nat.Gcd.{IsGcd-from_zero, IsGcd-from_mod, dvd_trans, dvd-zero, dvd_antisymm}
use Rattle.std.proofs.Math.Nat.{mod-lt, eq-one_of_dvd-one}
use Rattle.game_model.specs.Game.{AreCoprime}
use Rattle.cert_text.specs.Forms.{divisor_within, common_divisor}

within_by : (steps a b : ℕ) → b ≤ suc steps → (e : Bool) → eqb b 0 ≡ e → ((c d : ℕ) → d ≤ steps → IsGcd c d (divisor_within steps c d)) → IsGcd a b (divisor_within (suc steps) a b)
unfolding divisor_within
within_by steps a b le true e rest = rw e (IsGcd-from_zero a b (eqb-true b 0 e))
within_by steps a b le false e rest =
    let some : 0 < b = grind (arith, nat_tests, e) in
    rw e (IsGcd-from_mod a b (divisor_within steps b (a % b)) (rest b (a % b) (omega (arith, mod-lt a some, le))))

pub within_is : (steps a b : ℕ) → b ≤ steps → IsGcd a b (divisor_within steps a b)
unfolding divisor_within
within_is zero a b le = IsGcd-from_zero a b (omega arith)
within_is (suc steps) a b le = within_by steps a b le (eqb b 0) refl (within_is steps)

pub gcd_same : (a b x y : ℕ) → IsGcd a b x → IsGcd a b y → x ≡ y
gcd_same a b x y p q = dvd_antisymm (q.2 x p.0 p.1) (p.2 y q.0 q.1)

abbrev pub Divides : ℕ → List ℤ → Type 0
Divides d numbers = AllByRecursion (λ x. d ∣ unsigned_abs x) numbers

divides_on : (d e : ℕ) (numbers : List ℤ) → d ∣ e → Divides e numbers → Divides d numbers
divides_on d e [] h all = tt
divides_on d e (x ∷ numbers) h all = (dvd_trans d h all.0, divides_on d e numbers h all.1)

pub record IsGreatest (numbers : List ℤ) (g : ℕ) : Type 0 where
  pub divides : Divides g numbers
  pub most : (d : ℕ) → Divides d numbers → d ∣ g

pub common_is : (numbers : List ℤ) → IsGreatest numbers (common_divisor numbers)
unfolding common_divisor
common_is [] = record { divides = tt; most = λ d all. dvd-zero d }
common_is (n ∷ numbers) =
    let rest = common_is numbers in
    let c = common_divisor numbers in
    let g = within_is c (unsigned_abs n) c (omega arith) in
    record { divides = (g.0, divides_on (divisor_within c (unsigned_abs n) c) c numbers g.1 rest.divides); most = λ d all. g.2 d all.0 (rest.most d all.1) }

pub greatest_same : (numbers : List ℤ) (g h : ℕ) → IsGreatest numbers g → IsGreatest numbers h → g ≡ h
greatest_same numbers g h p q = dvd_antisymm (q.most g p.divides) (p.most h q.divides)

pub coprime_from : (numbers : List ℤ) → common_divisor numbers ≡ 1 → AreCoprime numbers
coprime_from numbers e d all = eq-one_of_dvd-one (subst (λ (x : ℕ). d ∣ x) e ((common_is numbers).most d all))

pub coprime_to : (numbers : List ℤ) → AreCoprime numbers → common_divisor numbers ≡ 1
coprime_to numbers h = h (common_divisor numbers) (common_is numbers).divides
