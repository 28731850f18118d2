-- The rows of going on as rows about one own action and one observation.
use Rattle.std.proofs.Common.{◌≡◌, ℕ, Bool, true, false, cond, ◌==◌, ◌&&◌, inl, inr, List, [], ◌∷◌, length, map, replicate, refl, ap, sym, ◌∙◌}
use Rattle.std.specs.Prelude.{ℤ, pos, neg_ℤ}
use Rattle.std.proofs.lemmas.Bool.Decides.{eqb_tells}
use Rattle.stage_game.specs.LowerProgram.{going_on_row}
use Rattle.stage_game.specs.PairRow.{IsPairRow}

pub same-number : (a : ℕ) → (a == a) ≡ true
same-number a = elim (eqb_tells a a) [ inl e ↦ e.0 | inr e ↦ absurd (e.1 refl) ]

pub other-number : (b a : ℕ) → (b ≡ a → ⊥) → (b == a) ≡ false
other-number b a n = elim (eqb_tells b a) [ inl e ↦ absurd (n e.1) | inr e ↦ e.0 ]

-- not both numbers are those of the pair
pub not-both : (b a p o : ℕ) → (b ≡ a → p ≡ o → ⊥) → ((b == a) && (p == o)) ≡ false
not-both b a p o n = elim (eqb_tells b a) [
  | inl e ↦ rw e.0 (other-number p o (λ h. n e.1 h))
  | inr e ↦ rw e.0 refl
]

pub both-same : (a o : ℕ) → ((a == a) && (o == o)) ≡ true
both-same a o = rw (same-number a) (same-number o)

pub going-is_pair : (a o : ℕ) (ends : List ℕ) (block : List ℤ) → block ≡ replicate (length ends) (pos 1) → IsPairRow (going_on_row a o) a o (neg_ℤ (pos 1)) ends block
going-is_pair a o ends block e = record {
  worth = λ s. refl;
  action = ap (λ (b : Bool). cond b (neg_ℤ (pos 1)) (pos 0)) (same-number a);
  other_actions = λ b n. ap (λ (t : Bool). cond t (neg_ℤ (pos 1)) (pos 0)) (other-number b a n);
  block_is = ones ends ∙ sym e;
  elsewhere = λ b p k n. ap (λ (t : Bool). cond t (pos 1) (pos 0)) (not-both b a p o n);
}
  where
    ones : (ks : List ℕ) → map (λ k. cond ((a == a) && (o == o)) (pos 1) (pos 0)) ks ≡ replicate (length ks) (pos 1)
    ones [] = refl
    ones (k ∷ ks) = ap (λ (b : Bool). cond b (pos 1) (pos 0) ∷ map (λ k. cond ((a == a) && (o == o)) (pos 1) (pos 0)) ks) (both-same a o) ∙ ap (λ (xs : List ℤ). pos 1 ∷ xs) (ones ks)
