-- The answer of `floor` to an input: there is one, it has a text, and it earns what is printed.
use Rattle.std.proofs.Common.{◌≡◌, ℕ, ◌<◌, List, [], refl, sym, ap, ◌∙◌, subst, arith, inl, inr}
use Rattle.std.specs.Prelude.{ℤ, pos, ◌*ℤ◌, ◌≤ℤ◌, ◌<ℤ◌}
use Rattle.std.proofs.lemmas.Int.{ints}
use Rattle.std.proofs.lemmas.Bool.{cases_order}
use Rattle.scaled_num.proofs.Sums.{total-below}
use Rattle.game_model.proofs.Games.{keeps-span}
use Rattle.game_model.specs.Game.{GameData, IsGame, first_at, numbers, span}
use Rattle.game_model.specs.Numbers.{product}
use Rattle.game_model.specs.Seeds.{SeedsAreOne, SeedsEarn, SeedsExist}
use Rattle.osposg_cli.specs.declared.status.Status.TheVariants.{Done}
use Rattle.osposg_cli.specs.Defined.{HasText, IsAnswered, IsDefined, IsOne, IsTold}
use Rattle.osposg_cli.specs.Floor.{AnswersFloor, FloorEarns, IsBound, IsFloor, KeepsFloor, floor_text}
use Rattle.osposg_cli.specs.Inputs.{TextsAreExact}
use Rattle.osposg_cli.proofs.Shared.{game-once, game-some, game-told}
use Rattle.osposg_cli.proofs.BestAction.{floor-some}
use Rattle.game_text.specs.Laws.{DecidedAlone}

-- two vectors that agree at every state have one product
product-same : (g : GameData) (v w : ℕ → ℤ) → ((s : ℕ) → s < g.shape.states → v s ≡ w s) → product (numbers g) (first_at g) v ≡ product (numbers g) (first_at g) w
product-same g v w same = total-below g.shape.states _ (λ s. pos (first_at g s) *ℤ w s) (λ s l. ap (λ (z : ℤ). pos (first_at g s) *ℤ z) (same s l))

-- the product of an action is one
products-same : SeedsAreOne → (g : GameData) (a b : ℕ) (x y : ℤ) (f : IsFloor g a x) (h : IsFloor g b y) (i : ℕ) → i < g.shape.own_actions →
    product (numbers g) (first_at g) (f.vectors i) ≡ product (numbers g) (first_at g) (h.vectors i)
products-same one g a b x y f h i l = product-same g (f.vectors i) (h.vectors i) (one (numbers g) (span g) i (f.vectors i) (h.vectors i) (f.seeds i l) (h.seeds i l))

-- `floor` chooses one action of one product
pub floor-once : SeedsAreOne → (g : GameData) (a b : ℕ) (x y : ℤ) → IsFloor g a x → IsFloor g b y → (a ≡ b) × (x ≡ y)
floor-once one g a b x y f h = (same_action, equal x y low high)
  where
    equal : (x y : ℤ) → x ≤ℤ y → y ≤ℤ x → x ≡ y
    equal x y l k = omega (arith, ints)

    low : x ≤ℤ y
    low = subst (λ (z : ℤ). z ≤ℤ y) (sym (products-same one g a b x y f h a f.inside) ∙ f.value) (h.greatest a f.inside)

    high : y ≤ℤ x
    high = subst (λ (z : ℤ). z ≤ℤ x) (products-same one g a b x y f h b h.inside ∙ h.value) (f.greatest b h.inside)

    not_less : (x y : ℤ) → y ≤ℤ x → x <ℤ y → ⊥
    not_less x y l k = omega (arith, ints)

    same_action : a ≡ b
    same_action = elim (cases_order a b) [
      | inl e ↦ e
      | inr l ↦ elim l [
        | inl l ↦ absurd (not_less x y high (subst (λ (z : ℤ). z <ℤ y) (sym (products-same one g a b x y f h a f.inside) ∙ f.value) (h.before a l)))
        | inr l ↦ absurd (not_less y x low (subst (λ (z : ℤ). z <ℤ x) (products-same one g a b x y f h b h.inside ∙ h.value) (f.before b l)))
      ]
    ]

-- ---- the answer
bound-once : SeedsAreOne → (g : GameData) → IsOne (IsBound g)
bound-once one g status other text more (a, x, floor, s, t) (b, y, next, r, m) =
    let same = floor-once one g a b x y floor next in
    (s ∙ sym r, t ∙ ap (λ (i : ℕ). floor_text g i x) same.0 ∙ ap (λ (z : ℤ). floor_text g b z) same.1 ∙ sym m)

bound-told : (g : GameData) → IsTold (IsBound g)
bound-told g status text (a, x, floor, s, t) = subst HasText (sym s) tt

bound-some : SeedsExist → (g : GameData) → IsGame g → IsAnswered (IsBound g)
bound-some exist g game =
    let floor = floor-some exist g game in
    (Done, floor_text g floor.0 floor.1, (floor.0, floor.1, floor.2, refl, refl))

pub floor_answer-some : SeedsExist → DecidedAlone → (input : List ℕ) → IsAnswered (AnswersFloor input)
floor_answer-some exist decided = game-some decided IsBound (bound-some exist)

pub floor-defined : SeedsAreOne → TextsAreExact → IsDefined AnswersFloor
floor-defined one laws = record { one = game-once laws IsBound (λ g game. bound-once one g); told = game-told IsBound bound-told }

-- ---- what it promises
pub floor-promises : SeedsEarn → TextsAreExact → KeepsFloor
floor-promises earn laws input text (inl (line, kind, is, s, t)) = λ g at. absurd (laws.whole input g line kind at is)
floor-promises earn laws input text (inr (h, at, (a, lower, floor, s, t))) = λ g is.
    let same : h ≡ g = laws.wholes input h g at is in
    subst (λ (k : GameData). (a : ℕ) × (lower : ℤ) × (text ≡ floor_text k a lower) × (a < k.shape.own_actions) × FloorEarns k a lower) same
    (a, lower, t, floor.inside, earn (numbers h) (span h) a (floor.vectors a) (first_at h) lower (keeps-span h at.1.game) floor.inside (floor.seeds a floor.inside) floor.value)
