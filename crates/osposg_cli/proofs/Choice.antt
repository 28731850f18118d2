-- The first action of the greatest product, among the first ones.
use Rattle.std.proofs.Common.{◌≡◌, ℕ, ◌+◌, ◌<◌, Bool, cond, ◌==◌, refl, sym, ap, arith, subst, inl, inr, eq-eqb, ne_eqb}
use Rattle.std.specs.Prelude.{ℤ, ◌≤ℤ◌, ◌<ℤ◌}
use Rattle.std.proofs.lemmas.Int.{ints}
use Rattle.game_model.specs.Game.{GameData, first_at, numbers, span}
use Rattle.game_model.specs.Numbers.{product}
use Rattle.game_model.specs.Seeds.{IsSeed}
use Rattle.osposg_cli.specs.Floor.{IsFloor, IsSeedProduct}
use Rattle.std.proofs.Math.Nat.{eq-or-lt_of_le}

pub record IsBest (g : GameData) (count a : ℕ) (lower : ℤ) : Type 0 where
  pub vectors : ℕ → ℕ → ℤ
  pub seeds : (b : ℕ) → b < count → IsSeed (numbers g) (span g) b (vectors b)
  pub inside : a < count
  pub value : product (numbers g) (first_at g) (vectors a) ≡ lower
  pub greatest : (b : ℕ) → b < count → product (numbers g) (first_at g) (vectors b) ≤ℤ lower
  pub before : (b : ℕ) → b < a → product (numbers g) (first_at g) (vectors b) <ℤ lower

-- the vectors with one more
abbrev with_vector : (ℕ → ℕ → ℤ) → ℕ → (ℕ → ℤ) → ℕ → ℕ → ℤ
with_vector vectors count vector b = cond (b == count) vector (vectors b)

at-last : (vectors : ℕ → ℕ → ℤ) (count : ℕ) (vector : ℕ → ℤ) → with_vector vectors count vector count ≡ vector
at-last vectors count vector = ap (λ (t : Bool). cond t vector (vectors count)) (eq-eqb count count refl)

at-others : (vectors : ℕ → ℕ → ℤ) (count : ℕ) (vector : ℕ → ℤ) (b : ℕ) → b < count → with_vector vectors count vector b ≡ vectors b
at-others vectors count vector b l = ap (λ (t : Bool). cond t vector (vectors b)) (ne_eqb b count (λ e. absurd (omega (arith, e))))

pub first-best : (g : GameData) (lower : ℤ) → IsSeedProduct g 0 lower → IsBest g 1 0 lower
first-best g lower found = record {
  vectors = λ b. found.0;
  seeds = λ b l. subst (λ (i : ℕ). IsSeed (numbers g) (span g) i found.0) (omega arith) found.1;
  inside = omega arith;
  value = found.2;
  greatest = λ b l. omega (arith, ints, found.2);
  before = λ b l. absurd (omega arith);
}

-- what stands of the first ones and of one more stands of all of them
extend : (P : ℕ → Type 0) (count : ℕ) → ((b : ℕ) → b < count → P b) → P count → (b : ℕ) → b < count + 1 → P b
extend P count h last b l = elim (eq-or-lt_of_le {n = b} {m = count} (omega arith)) [ inl e ↦ subst P (sym e) last | inr e ↦ h b e ]

pub kept-best : (g : GameData) (count a : ℕ) (lower x : ℤ) → IsBest g count a lower → IsSeedProduct g count x → x ≤ℤ lower → IsBest g (count + 1) a lower
kept-best g count a lower x best found less =
    let vectors = with_vector best.vectors count found.0 in
    let at = λ (v : ℕ → ℤ). product (numbers g) (first_at g) v in
    let same = λ (b : ℕ) (l : b < count). sym (at-others best.vectors count found.0 b l) in
    let last = sym (at-last best.vectors count found.0) in
    record {
      vectors = vectors;
      seeds = extend (λ b. IsSeed (numbers g) (span g) b (vectors b)) count (λ b l. subst (IsSeed (numbers g) (span g) b) (same b l) (best.seeds b l)) (subst (IsSeed (numbers g) (span g) count) last found.1);
      inside = let l = best.inside in omega arith;
      value = subst (λ (v : ℕ → ℤ). at v ≡ lower) (same a best.inside) best.value;
      greatest = extend (λ b. at (vectors b) ≤ℤ lower) count (λ b l. subst (λ (v : ℕ → ℤ). at v ≤ℤ lower) (same b l) (best.greatest b l))
          (subst (λ (v : ℕ → ℤ). at v ≤ℤ lower) last (subst (λ (z : ℤ). z ≤ℤ lower) (sym found.2) less));
      before = λ b l. let la = best.inside in subst (λ (v : ℕ → ℤ). at v <ℤ lower) (same b (omega arith)) (best.before b l);
    }

pub new-best : (g : GameData) (count a : ℕ) (lower x : ℤ) → IsBest g count a lower → IsSeedProduct g count x → lower <ℤ x → IsBest g (count + 1) count x
new-best g count a lower x best found more =
    let vectors = with_vector best.vectors count found.0 in
    let at = λ (v : ℕ → ℤ). product (numbers g) (first_at g) v in
    let same = λ (b : ℕ) (l : b < count). sym (at-others best.vectors count found.0 b l) in
    let last = sym (at-last best.vectors count found.0) in
    record {
      vectors = vectors;
      seeds = extend (λ b. IsSeed (numbers g) (span g) b (vectors b)) count (λ b l. subst (IsSeed (numbers g) (span g) b) (same b l) (best.seeds b l)) (subst (IsSeed (numbers g) (span g) count) last found.1);
      inside = omega arith;
      value = subst (λ (v : ℕ → ℤ). at v ≡ x) last found.2;
      greatest = extend (λ b. at (vectors b) ≤ℤ x) count (λ b l. subst (λ (v : ℕ → ℤ). at v ≤ℤ x) (same b l) (trans _ lower x (best.greatest b l) more))
          (subst (λ (v : ℕ → ℤ). at v ≤ℤ x) last (same_le _ x found.2));
      before = λ b l. subst (λ (v : ℕ → ℤ). at v <ℤ x) (same b l) (trans_lt _ lower x (best.greatest b l) more);
    }
  where
    trans : (a b c : ℤ) → a ≤ℤ b → b <ℤ c → a ≤ℤ c
    trans a b c h k = omega (arith, ints)

    trans_lt : (a b c : ℤ) → a ≤ℤ b → b <ℤ c → a <ℤ c
    trans_lt a b c h k = omega (arith, ints)

    same_le : (a b : ℤ) → a ≡ b → a ≤ℤ b
    same_le a b e = omega (arith, ints, e)

pub whole-best : (g : GameData) (count a : ℕ) (lower : ℤ) → count ≡ g.shape.own_actions → IsBest g count a lower → IsFloor g a lower
whole-best g count a lower e best = record {
  vectors = best.vectors;
  seeds = λ b l. best.seeds b (subst (λ (n : ℕ). b < n) (sym e) l);
  inside = subst (λ (n : ℕ). a < n) e best.inside;
  value = best.value;
  greatest = λ b l. best.greatest b (subst (λ (n : ℕ). b < n) (sym e) l);
  before = best.before;
}
