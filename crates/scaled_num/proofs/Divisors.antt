-- Where a run of divisions may end, and the greatest common divisor of a list of numbers.
use Rattle.std.proofs.Common.{◌≡◌, ℕ, zero, suc, ◌+◌, ◌%◌, ◌<◌, List, [], ◌∷◌, ◌++◌, length, get_or, take, refl, arith, subst, sym}
use Rattle.std.specs.Prelude.{ℤ, unsigned_abs}
use Rattle.std.specs.List.{AllByRecursion}
use Rattle.std.specs.Int.{IsGcd, ◌∣◌}
use Rattle.std.proofs.lemmas.List.{take_more}
use Rattle.std.proofs.lemmas.Nat.Gcd.{IsGcd-from_zero, IsGcd-from_mod, dvd-zero, dvd_trans}
use Rattle.scaled_num.proofs.Sums.{each-append}
use Rattle.scaled_num.proofs.Each.{each-front, each-back}

pub IsGcd-from_one : (a b : ℕ) → b ≡ 1 → IsGcd a b 1
IsGcd-from_one a b e = subst (λ (n : ℕ). IsGcd a n 1) (sym e) (IsGcd-from_mod a 1 1 (IsGcd-from_zero 1 (a % 1) (omega arith)))

abbrev pub Divides : ℕ → ℤ → Type 0
Divides d x = d ∣ unsigned_abs x

-- the greatest common divisor of the first numbers
pub record DivisorSoFar (numbers : List ℤ) (i divisor : ℕ) : Type 0 where
  pub divides : AllByRecursion (Divides divisor) (take i numbers)
  pub greatest : (d : ℕ) → AllByRecursion (Divides d) (take i numbers) → d ∣ divisor

-- what divides a divisor of all divides all
divides-less : (d e : ℕ) (xs : List ℤ) → d ∣ e → AllByRecursion (Divides e) xs → AllByRecursion (Divides d) xs
divides-less d e [] h all = tt
divides-less d e (x ∷ xs) h all = (dvd_trans d h all.0, divides-less d e xs h all.1)

pub next-divisor : (numbers : List ℤ) (i : ℕ) (x : ℤ) (divisor g : ℕ) → i < length numbers → DivisorSoFar numbers i divisor →
    IsGcd divisor (unsigned_abs (get_or numbers i x)) g → DivisorSoFar numbers (i + 1) g
next-divisor numbers i x divisor g l so_far h =
    let here = get_or numbers i x in
    let front = take i numbers in
    let more : take (i + 1) numbers ≡ front ++ here ∷ [] = take_more numbers i x l in
    record {
      divides = subst (λ (xs : List ℤ). AllByRecursion (Divides g) xs) (sym more)
          (each-append (Divides g) front (here ∷ []) (divides-less g divisor front h.0 so_far.divides) (h.1, tt));
      greatest = λ d all.
          let parts : AllByRecursion (Divides d) (front ++ here ∷ []) = subst (λ (xs : List ℤ). AllByRecursion (Divides d) xs) more all in
          h.2 d (so_far.greatest d (each-front (Divides d) front (here ∷ []) parts)) (each-back (Divides d) front (here ∷ []) parts).0;
    }

-- ---- numbers have a greatest common divisor
gcd-of : (fuel a b : ℕ) → b < fuel → (g : ℕ) × IsGcd a b g
gcd-of zero a b l = absurd (omega arith)
gcd-of (suc fuel) a zero l = (a, IsGcd-from_zero a zero refl)
gcd-of (suc fuel) a (suc b) l =
    let next = gcd-of fuel (suc b) (a % suc b) (omega arith) in
    (next.0, IsGcd-from_mod a (suc b) next.0 next.1)

pub record HasDivisor (numbers : List ℤ) : Type 0 where
  pub divisor : ℕ
  pub divides : AllByRecursion (Divides divisor) numbers
  pub greatest : (d : ℕ) → AllByRecursion (Divides d) numbers → d ∣ divisor

pub divisor-of : (numbers : List ℤ) → HasDivisor numbers
divisor-of [] = record { divisor = 0; divides = tt; greatest = λ d all. dvd-zero d }
divisor-of (x ∷ xs) =
    let rest = divisor-of xs in
    let g = gcd-of (suc rest.divisor) (unsigned_abs x) rest.divisor (omega arith) in
    record {
      divisor = g.0;
      divides = (g.1.0, divides-less g.0 rest.divisor xs g.1.1 rest.divides);
      greatest = λ d all. g.1.2 d all.0 (rest.greatest d all.1);
    }
