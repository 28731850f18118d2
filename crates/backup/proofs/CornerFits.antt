-- A point that is split into corners fits the game.
use Rattle.std.proofs.Common.{◌≡◌, ℕ, zero, suc, ◌+◌, ◌*◌, ◌^◌, ◌<◌, ◌≤◌, Bool, true, false, cond, List, [], ◌∷◌, ◌++◌, map, filter, refl, ap, arith, sym, subst, ◌∙◌, inl, inr}
use Rattle.std.specs.Prelude.{ℤ, pos, neg_ℤ, ◌*ℤ◌, unsigned_abs, flat_map, sum_by}
use Rattle.std.specs.List.{AllByRecursion, range_with_len}
use Rattle.std.proofs.Math.Nat.{mul-le-mul_left}
use Rattle.std.proofs.lemmas.Int.{ints}
use Rattle.std.proofs.lemmas.Bool.{ltb-true}
use Rattle.scaled_num.specs.Sums.{below, sum_of}
use Rattle.scaled_num.proofs.Sums.{below-each, each, each-append, each-flat_map, each-map, from-each}
use Rattle.game_model.specs.Branches.{AreRising, Branch, IsBranch, IsBranchBefore}
use Rattle.game_model.specs.Game.{AreCoprime, GameData, IsBelief, IsGame, IsWithin, numbers, span}
use Rattle.game_model.proofs.Games.{keeps-span}
use Rattle.game_model.proofs.Pay.{each-from}
use Rattle.belief.specs.Beliefs.{mix_weight, weight_at}
use Rattle.belief.specs.Mixes.{AreMixes, MixesData}
use Rattle.belief.proofs.Landings.{each-filter}
use Rattle.point_set.specs.Points.{PointFits, most_share, point_of}
use Rattle.point_set.proofs.Masses.{belief-total, masses-sum, mix-total}
use Rattle.point_set.proofs.Running.{at-most-sum}
use Rattle.backup.specs.Seeds.{corner_shares, corner_split, has_weight, mass_at}
use Rattle.backup.proofs.CornerSplits.{all_shares}

-- ---- the shares rise
-- each branch comes before all later ones
abbrev pub AreOrdered : List Branch → Type 0
AreOrdered [] = Unit {0}
AreOrdered (b ∷ bs) = AllByRecursion (IsBranchBefore b) bs × AreOrdered bs

ordered-rise : (bs : List Branch) → AreOrdered bs → AreRising bs
ordered-rise [] h = tt
ordered-rise (b ∷ []) h = tt
ordered-rise (b ∷ d ∷ bs) h = (h.0.0, ordered-rise (d ∷ bs) h.1)

ordered-filter : (p : Branch → Bool) (bs : List Branch) → AreOrdered bs → AreOrdered (filter p bs)
ordered-filter p [] h = tt
ordered-filter p (b ∷ bs) h =
    elim (p b) as (λ x. AreOrdered (cond x (b ∷ filter p bs) (filter p bs))) [
      | true ↦ (each-filter (IsBranchBefore b) p bs h.0, ordered-filter p bs h.1)
      | false ↦ ordered-filter p bs h.1
    ]

ordered-append : (xs ys : List Branch) → AreOrdered xs → AreOrdered ys → AllByRecursion (λ x. AllByRecursion (IsBranchBefore x) ys) xs → AreOrdered (xs ++ ys)
ordered-append [] ys h k l = k
ordered-append (x ∷ xs) ys h k l = (each-append (IsBranchBefore x) xs ys h.0 l.0, ordered-append xs ys h.1 k l.1)

-- pieces that rise, each before all later ones
ordered-flat : (f : ℕ → List Branch) (from n : ℕ) → ((i : ℕ) → AreOrdered (f i)) →
    ((i j : ℕ) → i < j → AllByRecursion (λ x. AllByRecursion (IsBranchBefore x) (f j)) (f i)) → AreOrdered (flat_map f (range_with_len from n))
ordered-flat f from zero h k = tt
ordered-flat f from (suc n) h k =
    ordered-append (f from) (flat_map f (range_with_len (from + 1) n)) (h from) (ordered-flat f (from + 1) n h k)
    (later (f from) (from-each _ (from + 1) n (λ j l m. k from j (omega arith))))
  where
    later : (xs : List Branch) → AllByRecursion (λ j. AllByRecursion (λ x. AllByRecursion (IsBranchBefore x) (f j)) xs) (range_with_len (from + 1) n) →
        AllByRecursion (λ x. AllByRecursion (IsBranchBefore x) (flat_map f (range_with_len (from + 1) n))) xs
    later [] m = tt
    later (x ∷ xs) m = (
      each-flat_map (IsBranchBefore x) f (range_with_len (from + 1) n) (each-from _ _ (range_with_len (from + 1) n) (λ j l. l.0) m),
      later xs (each-from _ _ (range_with_len (from + 1) n) (λ j l. l.1) m),
    )

abbrev at_place : (ℕ → ℕ → ℕ → ℕ) → ℕ → ℕ → ℕ → Branch
at_place m a o t = record { own = a; seen = o; member = t; weight = pos (m a o t) }

ordered-places : (m : ℕ → ℕ → ℕ → ℕ) (a o from n : ℕ) → AreOrdered (map (at_place m a o) (range_with_len from n))
ordered-places m a o from zero = tt
ordered-places m a o from (suc n) = (
  each-map (IsBranchBefore (at_place m a o from)) (at_place m a o) (range_with_len (from + 1) n) (from-each _ (from + 1) n (λ t l k. inr (refl, inr (refl, omega arith)))),
  ordered-places m a o (from + 1) n,
)

ordered-all : (m : ℕ → ℕ → ℕ → ℕ) (A O S : ℕ) → AreOrdered (all_shares m A O S)
ordered-all m A O S =
    ordered-flat (λ a. flat_map (λ o. map (at_place m a o) (below S)) (below O)) 0 A
    (λ a. ordered-flat (λ o. map (at_place m a o) (below S)) 0 O (λ o. ordered-places m a o 0 S)
    (λ o p l. each-map _ (at_place m a o) (below S) (each (λ t. each-map _ (at_place m a p) (below S) (each (λ u. inr (refl, inl l)) (below S))) (below S))))
    (λ a b l. each-flat_map _ (λ o. map (at_place m a o) (below S)) (below O) (each (λ o. each-map _ (at_place m a o) (below S) (each (λ t.
    each-flat_map _ (λ p. map (at_place m b p) (below S)) (below O) (each (λ p. each-map _ (at_place m b p) (below S) (each (λ u. inl l) (below S))) (below O))) (below S))) (below O)))

-- ---- each share is in range
each-kept : {X : Type 0} (P Q : X → Type 0) (q : X → Bool) (xs : List X) → ((x : X) → P x → q x ≡ true → Q x) → AllByRecursion P xs → AllByRecursion Q (filter q xs)
each-kept P Q q [] h k = tt
each-kept P Q q (x ∷ xs) h k =
    elim (q x) as (λ b. q x ≡ b → AllByRecursion Q (cond b (x ∷ filter q xs) (filter q xs))) [
      | true ↦ (λ e. (h x k.0 e, each-kept P Q q xs h k.1))
      | false ↦ (λ e. each-kept P Q q xs h k.1)
    ] refl

-- a branch in range, but that it may have no weight
record IsLoose (g : GameData) (points : ℕ) (b : Branch) : Type 0 where
  pub own : b.own < g.shape.own_actions
  pub seen : b.seen < g.shape.observations
  pub member : b.member < points
  pub weight : IsWithin (pos 0) most_share b.weight

loose-all : (g : GameData) (points : ℕ) (m : ℕ → ℕ → ℕ → ℕ) → g.shape.states ≤ points →
    ((a o t : ℕ) → a < g.shape.own_actions → o < g.shape.observations → t < g.shape.states → m a o t ≤ 2 ^ 66) →
    AllByRecursion (IsLoose g points) (all_shares m g.shape.own_actions g.shape.observations g.shape.states)
loose-all g points m few small =
    each-flat_map _ (λ a. flat_map (λ o. map (at_place m a o) (below g.shape.states)) (below g.shape.observations)) (below g.shape.own_actions) (below-each _ g.shape.own_actions (λ a la.
    each-flat_map _ (λ o. map (at_place m a o) (below g.shape.states)) (below g.shape.observations) (below-each _ g.shape.observations (λ o lo.
    each-map _ (at_place m a o) (below g.shape.states) (below-each _ g.shape.states (λ t lt.
    record { own = la; seen = lo; member = omega arith; weight = let s = small a o t la lo lt in (omega (arith, ints), omega (arith, ints)) }))))))

branch-kept : (g : GameData) (points : ℕ) (b : Branch) → IsLoose g points b → has_weight b ≡ true → IsBranch (numbers g) points most_share b
branch-kept g points b h e =
    let some : 0 < unsigned_abs b.weight = ltb-true 0 (unsigned_abs b.weight) e in
    let low = h.weight.0 in
    record { own = h.own; seen = h.seen; member = h.member; weight = (omega (arith, ints), h.weight.1) }

-- ---- masses are no more than 2^66
masses-small : (g : GameData) → IsGame g → (belief : List ℤ) (mixes : MixesData) → IsBelief g.shape.states belief → AreMixes mixes → mixes.states ≡ g.shape.states → mixes.actions ≡ g.shape.informed_actions →
    (a o t : ℕ) → a < g.shape.own_actions → o < g.shape.observations → t < g.shape.states → mass_at g belief mixes a o t ≤ 2 ^ 66
masses-small g h belief mixes right full states actions a o t la lo lt =
    let n = numbers g in
    let B : ℕ = sum_by (weight_at belief) (below g.shape.states) in
    let all = masses-sum n 65536 (point_of (corner_split g belief (pos 0) mixes)) (keeps-span g h).full
    (λ s ls. ap (λ (k : ℕ). sum_by (mix_weight mixes s) (below k)) (sym actions) ∙ mix-total mixes full s (subst (λ (k : ℕ). s < k) (sym states) ls)) a la in
    let one = at-most-sum (λ u. mass_at g belief mixes a o u) t g.shape.states lt in
    let some = at-most-sum (λ p. sum_by (λ u. mass_at g belief mixes a p u) (below g.shape.states)) o g.shape.observations lo in
    let D : ℕ = unsigned_abs g.shape.row_total in
    let row : D ≤ 2 ^ 30 = let low = h.shape.row_total.0 in let high = h.shape.row_total.1 in omega (arith, ints) in
    let weights : B ≤ 2 ^ 20 = let high = right.sums.1 in omega (arith, ints, belief-total g.shape.states belief right) in
    let most : D * 65536 * B ≤ D * 65536 * 2 ^ 20 = mul-le-mul_left (D * 65536) weights in
    chain _ _ _ (D * 65536 * B) D one some all most row
  where
    chain : (x y z w D : ℕ) → x ≤ y → y ≤ z → z ≡ w → w ≤ D * 65536 * 2 ^ 20 → D ≤ 2 ^ 30 → x ≤ 2 ^ 66
    chain x y z w D h k e l m = omega arith

-- ---- the point
pub split-fits : (g : GameData) → IsGame g → (points : ℕ) (belief : List ℤ) (value : ℤ) (mixes : MixesData) → g.shape.states ≤ points → IsBelief g.shape.states belief → AreCoprime belief →
    IsWithin (neg_ℤ (pos (span g) *ℤ sum_of belief)) (pos (span g) *ℤ sum_of belief) value → AreMixes mixes → mixes.states ≡ g.shape.states → mixes.actions ≡ g.shape.informed_actions →
    PointFits g points (corner_split g belief value mixes)
split-fits g h points belief value mixes few right coprime within full states actions =
    let m = mass_at g belief mixes in
    record {
      belief = right;
      coprime = coprime;
      value = within;
      states = states;
      actions = actions;
      mixes = full;
      splits = record {
        rising = ordered-rise (corner_shares g belief mixes) (ordered-filter has_weight (all_shares m g.shape.own_actions g.shape.observations g.shape.states) (ordered-all m g.shape.own_actions g.shape.observations g.shape.states));
        each = each-kept (IsLoose g points) (IsBranch (numbers g) points most_share) has_weight (all_shares m g.shape.own_actions g.shape.observations g.shape.states)
            (λ b l e. branch-kept g points b l e)
            (loose-all g points m few (λ a o t la lo lt. masses-small g h belief mixes right full states actions a o t la lo lt));
      };
    }
