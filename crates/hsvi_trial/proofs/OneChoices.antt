-- A choice is one.
use Rattle.std.proofs.Common.{◌≡◌, ◌⊎◌, ℕ, Option, Some, None, inl, inr, refl, ap, ap₂, arith}
use Rattle.std.specs.Prelude.{ℤ, pos, ◌≤ℤ◌, ◌<ℤ◌}
use Rattle.std.proofs.lemmas.Bool.{cases_order}
use Rattle.std.proofs.lemmas.Int.{ints}
use Rattle.game_model.specs.Game.{GameData}
use Rattle.hsvi_trial.specs.Excess.{IsChoice, IsGreatest, IsPairBefore, View}

apart : (x y : ℤ) → x <ℤ y → y ≤ℤ x → ⊥
apart x y l m = omega (arith, ints)

abbrev together : ℕ → ℕ → ℕ × ℕ
together x y = (x, y)

-- two pairs are the same, or one comes before the other
pairs : (a o b p : ℕ) → (together a o ≡ together b p) ⊎ (IsPairBefore a o b p ⊎ IsPairBefore b p a o)
pairs a o b p = elim (cases_order a b) [
  | inl e ↦ elim (cases_order o p) [
    | inl f ↦ inl (ap₂ together e f)
    | inr l ↦ elim l [ inl l ↦ inr (inl (inr (e, l))) | inr l ↦ inr (inr (inr (back a b e, l))) ]
  ]
  | inr l ↦ elim l [ inl l ↦ inr (inl (inl l)) | inr l ↦ inr (inr (inl l)) ]
]
  where
    back : (a b : ℕ) → a ≡ b → b ≡ a
    back a b e = omega arith

-- of two first pairs of greatest excess none comes before the other
not-before : (g : GameData) (view : View) (a o b p : ℕ) → IsGreatest g view a o → IsGreatest g view b p → IsPairBefore a o b p → ⊥
not-before g view a o b p x y before = apart x.excess y.excess (y.first a o x.excess before x.has) (x.greatest b p y.excess y.has)

none-some : (g : GameData) (view : View) (pair : ℕ × ℕ) → IsChoice g view None → IsGreatest g view pair.0 pair.1 → ⊥
none-some g view pair none some = apart (pos 0) some.excess some.positive (none pair.0 pair.1 some.excess some.has)

pub choice-one : (g : GameData) (view : View) (chosen other : Option (ℕ × ℕ)) → IsChoice g view chosen → IsChoice g view other → chosen ≡ other
choice-one g view None None p q = refl
choice-one g view None (Some y) p q = absurd (none-some g view y p q)
choice-one g view (Some x) None p q = absurd (none-some g view x q p)
choice-one g view (Some x) (Some y) p q = elim (pairs x.0 x.1 y.0 y.1) [
  | inl e ↦ ap Some e
  | inr l ↦ elim l [
    | inl l ↦ absurd (not-before g view x.0 x.1 y.0 y.1 p q l)
    | inr l ↦ absurd (not-before g view y.0 y.1 x.0 x.1 q p l)
  ]
]
