-- A value and a price as they are read at a place.
use Rattle.std.proofs.Common.{ℕ, ◌+◌, ◌<◌, ◌≡◌, ◌≢◌, ℤ, pos, neg_ℤ, ◌*ℤ◌, length, slice_index, refl, sym, ap, subst, ◌∙◌, arith}
use Rattle.std.proofs.Math.Nat.{eq-one_of_dvd-one}
use Rattle.std.proofs.lemmas.Int.{ints}
use Rattle.std.proofs.Math.IntN.{neg_ℤ-neg_ℤ}
use Rattle.simplex.specs.declared.Program.{Program}
use Rattle.simplex.specs.Program.{at, row_count, variable_count}
use Rattle.simplex.specs.Dictionary.{AreParted, number}
use Rattle.simplex.specs.Reading.{IsLowest, IsPrimal, IsPrice}
use Rattle.simplex.specs.CostForm.{CostForm, IsDictionary, entry}
use Rattle.simplex.specs.Forms.{with_goal}
use Rattle.simplex.proofs.Read.{number-with_goal, goal-with_goal}

pub read_primal : (p : Program) (d : CostForm) (i k : ℕ) (num den : ℤ) → IsDictionary p d → k < length d.basic → slice_index d.basic k ≡ i → IsLowest num den
    → num *ℤ entry d k 0 ≡ entry d k 1 *ℤ den → IsPrimal (with_goal d) i num den
read_primal p d i k num den id kl at_k low e =
    let parted : AreParted p d.basic d.out = id.parted in
    let bl : length d.basic ≡ row_count p = parted.basic_long in
    let ol : length d.out ≡ variable_count p = parted.out_long in
    record {
      lowest = low;
      basic = λ s sl at_s.
          (let same : s ≡ k = parted.basic_once s k (omega arith) (omega arith) (at_s ∙ sym at_k) in
          subst (λ (t : ℕ). num *ℤ number (with_goal d) t 0 ≡ number (with_goal d) t 1 *ℤ den) (sym same)
          (ap (λ (y : ℤ). num *ℤ y) (number-with_goal d k 0 kl) ∙ e ∙ ap (λ (y : ℤ). y *ℤ den) (sym (number-with_goal d k 1 kl))));
      out = λ q ql at_q. absurd (parted.apart k q (omega arith) (omega arith) (at_k ∙ sym at_q));
    }

none_lowest : IsLowest (pos 0) (pos 1)
none_lowest = record { positive = omega (arith, ints); coprime = λ d h. eq-one_of_dvd-one (h 1 (omega arith)) }

pub read_nothing : (d : CostForm) (i : ℕ) → ((k : ℕ) → k < length d.basic → slice_index d.basic k ≢ i) → IsPrimal (with_goal d) i (pos 0) (pos 1)
read_nothing d i none = record { lowest = none_lowest; basic = λ k kl e. absurd (none k kl e); out = λ q ql e. refl }

pub read_price : (p : Program) (d : CostForm) (row place : ℕ) (cost : ℤ) → IsDictionary p d → place < length d.out → slice_index d.out place ≡ length d.out + row → cost ≡ entry d (length d.basic) (place + 2)
    → IsPrice (with_goal d) row cost
read_price p d row place cost id pl at_place e =
    let parted : AreParted p d.basic d.out = id.parted in
    let bl : length d.basic ≡ row_count p = parted.basic_long in
    let ol : length d.out ≡ variable_count p = parted.out_long in
    record {
      basic = λ k kl at_k. absurd (parted.apart k place (omega arith) (omega arith) (at_k ∙ sym at_place));
      out = λ q ql at_q.
          (let same : q ≡ place = parted.out_once q place (omega arith) (omega arith) (at_q ∙ sym at_place) in
          e ∙ sym (ap neg_ℤ (ap (λ (t : ℕ). at (with_goal d).goal (t + 2)) same ∙ goal-with_goal d place) ∙ neg_ℤ-neg_ℤ (entry d (length d.basic) (place + 2))));
    }
