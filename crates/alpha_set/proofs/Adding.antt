-- A vector times a weight, added to a part of a table entry by entry.
use Rattle.std.proofs.Common.{◌≡◌, ℕ, ◌+◌, ◌*◌, ◌^◌, ◌<◌, ◌≤◌, ◌⊎◌, inl, inr, List, length, get_or, set, ap, arith, sym, subst, ◌∙◌}
use Rattle.std.specs.Prelude.{ℤ, pos, ◌+ℤ◌, ◌*ℤ◌, unsigned_abs, FitsSigned}
use Rattle.std.specs.Int.{w128}
use Rattle.std.proofs.lemmas.Int.{ints, fits_signed_from_abs, unsigned_abs-mul}
use Rattle.std.proofs.lemmas.Nat.{mul-le}
use Rattle.std.proofs.lemmas.List.{get_or-set_same, get_or-set_other, length-set}
use Rattle.std.proofs.lemmas.Bool.Decides.{eqb_tells}
use Rattle.alpha_set.specs.Members.{brought, entry_at, table_place}
use Rattle.game_model.specs.declared.branches.Branch.{Branch as StepParts}
use Rattle.scaled_num.proofs.Products.{abs-add}

-- the first entries of the vector were added
pub record Added (old vector table : List ℤ) (start n : ℕ) (w : ℤ) : Type 0 where
  pub long : length table ≡ length old
  pub done : (u : ℕ) → u < n → get_or table (start + u) (pos 0) ≡ get_or old (start + u) (pos 0) +ℤ w *ℤ get_or vector u (pos 0)
  pub left : (k : ℕ) → (k < start) ⊎ (start + n ≤ k) → get_or table k (pos 0) ≡ get_or old k (pos 0)

abbrev pub more : List ℤ → List ℤ → ℕ → ℕ → ℤ → ℤ
more table vector start n w = get_or table (start + n) (pos 0) +ℤ w *ℤ get_or vector n (pos 0)

pub record NextAdded (old vector table : List ℤ) (start n : ℕ) (w : ℤ) : Type 0 where
  pub inside : start + n < length table
  pub weight_fits : FitsSigned w128 w
  pub entry_fits : FitsSigned w128 (get_or vector n (pos 0))
  pub old_fits : FitsSigned w128 (get_or table (start + n) (pos 0))
  pub product_fits : FitsSigned w128 (w *ℤ get_or vector n (pos 0))
  pub sum_fits : FitsSigned w128 (more table vector start n w)
  pub added : Added old vector (set table (start + n) (more table vector start n w)) start (n + 1) w

pub next-added : (old vector table : List ℤ) (start n : ℕ) (w : ℤ) → n < length vector → start + length vector ≤ length old →
    unsigned_abs (get_or old (start + n) (pos 0)) ≤ 2 ^ 82 → unsigned_abs w ≤ 65536 → unsigned_abs (get_or vector n (pos 0)) ≤ 2 ^ 66 →
    Added old vector table start n w → NextAdded old vector table start n w
next-added old vector table start n w l room small light entry so_far =
    let here : ℕ = start + n in
    let x : ℤ = get_or vector n (pos 0) in
    let new : ℤ = more table vector start n w in
    let inside : here < length table = omega (arith, so_far.long) in
    let is_old : get_or table here (pos 0) ≡ get_or old here (pos 0) = so_far.left here (inr (omega arith)) in
    let kept : unsigned_abs (get_or table here (pos 0)) ≤ 2 ^ 82 = subst (λ (z : ℤ). unsigned_abs z ≤ 2 ^ 82) (sym is_old) small in
    let product : unsigned_abs (w *ℤ x) ≤ 2 ^ 82 = rw (unsigned_abs-mul w x) (mul-le (unsigned_abs w) (unsigned_abs x) 65536 (2 ^ 66) light entry) in
    record {
      inside = inside;
      weight_fits = fits_signed_from_abs w128 w (omega arith);
      entry_fits = fits_signed_from_abs w128 x (omega arith);
      old_fits = fits_signed_from_abs w128 (get_or table here (pos 0)) (omega arith);
      product_fits = fits_signed_from_abs w128 (w *ℤ x) (omega arith);
      sum_fits = fits_signed_from_abs w128 new (omega (arith, abs-add (get_or table here (pos 0)) (w *ℤ x)));
      added = record {
        long = length-set table here new ∙ so_far.long;
        done = λ u lu. elim (split u n lu) [
          | inl b ↦ get_or-set_other table here (start + u) new (pos 0) (λ e. omega arith) ∙ so_far.done u b
          | inr e ↦ subst (λ (k : ℕ). get_or (set table here new) (start + k) (pos 0) ≡ get_or old (start + k) (pos 0) +ℤ w *ℤ get_or vector k (pos 0)) (sym e)
              (get_or-set_same table here new (pos 0) inside ∙ ap (λ (z : ℤ). z +ℤ w *ℤ x) is_old)
        ];
        left = λ k away. get_or-set_other table here k new (pos 0) (λ e. apart k away e) ∙ so_far.left k (wider k away);
      };
    }
  where
    split : (u n : ℕ) → u < n + 1 → (u < n) ⊎ (u ≡ n)
    split u n lu = search arith

    apart : (k : ℕ) → (k < start) ⊎ (start + (n + 1) ≤ k) → k ≡ start + n → ⊥
    apart k (inl b) e = omega arith
    apart k (inr b) e = omega arith

    wider : (k : ℕ) → (k < start) ⊎ (start + (n + 1) ≤ k) → (k < start) ⊎ (start + n ≤ k)
    wider k (inl b) = inl b
    wider k (inr b) = inr (omega arith)

-- entries of other places, or of the same place
tri : (x y : ℕ) → (x < y) ⊎ ((x ≡ y) ⊎ (y < x))
tri x y = elim (eqb_tells x y) [ inl e ↦ inr (inl e.1) | inr e ↦ apart x y e.1 ]
  where
    apart : (x y : ℕ) → (x ≡ y → ⊥) → (x < y) ⊎ ((x ≡ y) ⊎ (y < x))
    apart x y ne = search arith

away : (x y t m : ℕ) → t < 16 → m ≤ 16 → (x ≡ y → ⊥) → (x * 16 + t < y * 16 + 0) ⊎ (y * 16 + 0 + m ≤ x * 16 + t)
away x y t m lt lm ne = elim (tri x y) [ inl b ↦ inl (omega arith) | inr r ↦ elim r [ inl e ↦ absurd (ne e) | inr b ↦ inr (omega arith) ] ]

none-added : (z : ℤ) → z ≡ z +ℤ pos 0
none-added z = omega (arith, ints)

pub added-at : (step : StepParts) (old vector table : List ℤ) (start n : ℕ) → start ≡ table_place step.a step.o 0 → length vector ≡ n → length vector ≤ 16 → step.o < 8 →
    Added old vector table start n step.weight → (a o t : ℕ) → o < 8 → t < length vector → entry_at table a o t ≡ entry_at old a o t +ℤ brought step vector a o t
added-at step old vector table start n at same few seen h a o t lo lt =
    elim (eqb_tells step.a a) [
      | inl e ↦ elim (eqb_tells step.o o) [
        | inl f ↦ rw (e.0, f.0) (subst (λ (k : ℕ). get_or table k (pos 0) ≡ get_or old k (pos 0) +ℤ step.weight *ℤ get_or vector t (pos 0)) (here e.1 f.1) (h.done t (omega arith)))
        | inr f ↦ rw (e.0, f.0) (other (λ e'. f.1 (omega (arith, e.1))))
      ]
      | inr e ↦ rw e.0 (other (λ e'. e.1 (omega arith)))
    ]
  where
    here : step.a ≡ a → step.o ≡ o → start + t ≡ table_place a o t
    here e f = omega (arith, at)

    other : (a * 8 + o ≡ step.a * 8 + step.o → ⊥) → entry_at table a o t ≡ entry_at old a o t +ℤ pos 0
    other ne =
        let far : (table_place a o t < table_place step.a step.o 0) ⊎ (table_place step.a step.o 0 + length vector ≤ table_place a o t) =
        away (a * 8 + o) (step.a * 8 + step.o) t (length vector) (omega arith) few ne in
        h.left (table_place a o t) (subst (λ (k : ℕ). (table_place a o t < k) ⊎ (k + n ≤ table_place a o t)) (sym at) (subst (λ (m : ℕ). (table_place a o t < table_place step.a step.o 0) ⊎ (table_place step.a step.o 0 + m ≤ table_place a o t)) same far))
        ∙ none-added (entry_at old a o t)
