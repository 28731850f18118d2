-- The best pair so far, with one more pair.
use Rattle.std.proofs.Common.{◌≡◌, ◌⊎◌, ℕ, ◌+◌, ◌<◌, Option, Some, None, inl, inr, sym, subst, arith}
use Rattle.std.specs.Prelude.{ℤ, pos, ◌≤ℤ◌, ◌<ℤ◌}
use Rattle.std.proofs.lemmas.Int.{ints}
use Rattle.game_model.specs.Game.{GameData}
use Rattle.hsvi_trial.specs.Choices.{IsBestBefore, IsBestPair, best_excess}
use Rattle.hsvi_trial.specs.Excess.{HasExcess, IsChoice, IsGreatest, IsPairBefore, View}
use Rattle.hsvi_trial.specs.declared.choices.Best.{Best}

through : (x y z : ℤ) → x ≤ℤ y → y ≤ℤ z → x ≤ℤ z
through x y z h k = omega (arith, ints)

below-then : (x y z : ℤ) → x ≤ℤ y → y <ℤ z → x <ℤ z
below-then x y z h k = omega (arith, ints)

weaker : (x y : ℤ) → x <ℤ y → x ≤ℤ y
weaker x y h = omega (arith, ints)

same-le : (x y : ℤ) → x ≡ y → x ≤ℤ y
same-le x y e = omega (arith, ints)

-- a pair before the next one is before this one, or is this one
split : (b p a o : ℕ) → IsPairBefore b p a (o + 1) → IsPairBefore b p a o ⊎ ((b ≡ a) × (p ≡ o))
split b p a o (inl l) = inl (inl l)
split b p a o (inr (e, l)) = elim (last p o l) [ inl k ↦ inl (inr (e, k)) | inr k ↦ inr (e, k) ]
  where
    last : (p o : ℕ) → p < o + 1 → (p < o) ⊎ (p ≡ o)
    last p o l = grind arith

-- no excess at this pair is above the best one so far
abbrev pub NoneAbove : GameData → View → ℕ → ℕ → ℤ → Type 0
NoneAbove g view a o most = (other : ℤ) → HasExcess g view a o other → other ≤ℤ most

moved : (g : GameData) (view : View) (a o b p : ℕ) (other : ℤ) → (b ≡ a) × (p ≡ o) → HasExcess g view b p other → HasExcess g view a o other
moved g view a o b p other e h = subst (λ (n : ℕ). HasExcess g view n o other) e.0 (subst (λ (n : ℕ). HasExcess g view b n other) e.1 h)

-- the best one stays
pub pair-stays : (g : GameData) (view : View) (a o : ℕ) (best : Option Best) → IsBestBefore g view a o best → NoneAbove g view a o (best_excess best) → IsBestBefore g view a (o + 1) best
pair-stays g view a o None h none = λ b p other before has. elim (split b p a o before) [
  | inl k ↦ h b p other k has
  | inr e ↦ none other (moved g view a o b p other e has)
]
pair-stays g view a o (Some best) h none = record {
  has = h.has;
  positive = h.positive;
  greatest = λ b p other before has. elim (split b p a o before) [
    | inl k ↦ h.greatest b p other k has
    | inr e ↦ none other (moved g view a o b p other e has)
  ];
  first = h.first;
}

least-so-far : (g : GameData) (view : View) (a o : ℕ) (best : Option Best) → IsBestBefore g view a o best → (b p : ℕ) (other : ℤ) → IsPairBefore b p a o → HasExcess g view b p other → other ≤ℤ best_excess best
least-so-far g view a o None h b p other before has = h b p other before has
least-so-far g view a o (Some best) h b p other before has = h.greatest b p other before has

not-negative : (g : GameData) (view : View) (a o : ℕ) (best : Option Best) → IsBestBefore g view a o best → pos 0 ≤ℤ best_excess best
not-negative g view a o None h = omega (arith, ints)
not-negative g view a o (Some best) h = weaker (pos 0) best.excess h.positive

-- another pair is the best one
pub pair-better : (g : GameData) (view : View) (a o : ℕ) (best : Option Best) (new : Best) → IsBestBefore g view a o best →
    new.own ≡ a → new.seen ≡ o → HasExcess g view a o new.excess → ((other : ℤ) → HasExcess g view a o other → other ≡ new.excess) → best_excess best <ℤ new.excess →
    IsBestPair g view a (o + 1) new
pair-better g view a o best new h own seen has one above = record {
  has = subst (λ (n : ℕ). HasExcess g view n new.seen new.excess) (sym own) (subst (λ (n : ℕ). HasExcess g view a n new.excess) (sym seen) has);
  positive = below-then (pos 0) (best_excess best) new.excess (not-negative g view a o best h) above;
  greatest = λ b p other before here. elim (split b p a o before) [
    | inl k ↦ weaker other new.excess (below-then other (best_excess best) new.excess (least-so-far g view a o best h b p other k here) above)
    | inr e ↦ same-le other new.excess (one other (moved g view a o b p other e here))
  ];
  first = λ b p other before here.
      below-then other (best_excess best) new.excess
      (least-so-far g view a o best h b p other (subst (λ (n : ℕ). IsPairBefore b p n o) own (subst (λ (n : ℕ). IsPairBefore b p new.own n) seen before)) here) above;
}

earlier : (g : GameData) (view : View) (a b p : ℕ) (other : ℤ) → IsPairBefore b p (a + 1) 0 → HasExcess g view b p other → IsPairBefore b p a g.shape.observations
earlier g view a b p other (inl l) has = elim (last b a l) [ inl k ↦ inl k | inr e ↦ inr (e, has.seen) ]
  where
    last : (b a : ℕ) → b < a + 1 → (b < a) ⊎ (b ≡ a)
    last b a l = grind arith
earlier g view a b p other (inr (e, l)) has = absurd (omega arith)

-- after the last observation the next own action comes
pub row-ends : (g : GameData) (view : View) (a : ℕ) (best : Option Best) → IsBestBefore g view a g.shape.observations best → IsBestBefore g view (a + 1) 0 best
row-ends g view a None h = λ b p other before has. h b p other (earlier g view a b p other before has) has
row-ends g view a (Some best) h = record {
  has = h.has;
  positive = h.positive;
  greatest = λ b p other before has. h.greatest b p other (earlier g view a b p other before has) has;
  first = h.first;
}

-- after the last own action the best one is the choice
pub none-chosen : (g : GameData) (view : View) → IsBestBefore g view g.shape.own_actions 0 None → IsChoice g view None
none-chosen g view h b p other has = h b p other (inl has.own) has

pub some-chosen : (g : GameData) (view : View) (best : Best) → IsBestBefore g view g.shape.own_actions 0 (Some best) → IsGreatest g view best.own best.seen
some-chosen g view best h = record {
  excess = best.excess;
  has = h.has;
  positive = h.positive;
  greatest = λ b p other has. h.greatest b p other (inl has.own) has;
  first = h.first;
}

-- before any pair there is no best one
pub none-before : (g : GameData) (view : View) → IsBestBefore g view 0 0 None
none-before g view = λ b p other before has. elim before [ inl l ↦ absurd (omega arith) | inr e ↦ let l = e.1 in absurd (omega arith) ]
