-- What is chosen of the numbers below a count: it rises, names members, and is no more than the list that it is chosen from.
use Rattle.std.proofs.Common.{◌≡◌, ℕ, zero, suc, ◌+◌, ◌^◌, ◌<◌, ◌≤◌, inl, inr, Bool, true, false, cond, List, [], ◌∷◌, filter, length, refl, ap, arith, sym, ◌∙◌}
use Rattle.std.specs.Prelude.{ℤ, pos, ◌*ℤ◌, ◌≤ℤ◌}
use Rattle.std.specs.List.{AllByRecursion, range_with_len}
use Rattle.std.proofs.lemmas.Int.{ints}
use Rattle.std.proofs.lemmas.Bool.{false≢true}
use Rattle.std.proofs.lemmas.Bool.Decides.{eqb_tells}
use Rattle.scaled_num.specs.Sums.{below, sum_of}
use Rattle.scaled_num.proofs.Sums.{below-each}
use Rattle.game_model.specs.Game.{GameData, IsBelief, IsGame, IsMass}
use Rattle.alpha_set.specs.Nodes.{NodeData}
use Rattle.belief.proofs.Landings.{each-filter}
use Rattle.stage_game.specs.Asked.{AreLowerEnds, AreNamed, AreRisingNumbers}
use Rattle.stage_game.specs.Chosen.{is_among, risen}
use Rattle.stage_game.proofs.BeliefShares.{low-each}
use Rattle.stage_game.proofs.FewPoints.{AreApart, apart-filter, few-apart}

-- a belief is a mass
pub belief-mass : (g : GameData) → IsGame g → (belief : List ℤ) → IsBelief g.shape.states belief → IsMass g belief
belief-mass g h belief right =
    let most = right.sums.1 in
    let some = h.shape.row_total.0 in
    record { long = right.long; each = low-each belief right.each; most = room (sum_of belief) g.shape.row_total most some }
  where
    room : (sum whole : ℤ) → sum ≤ℤ pos (2 ^ 20) → pos 1 ≤ℤ whole → sum ≤ℤ (pos (2 ^ 36) *ℤ whole)
    room sum whole l m = omega (arith, ints)

rising-apart : (xs : List ℕ) → AreApart xs → AreRisingNumbers xs
rising-apart [] h = tt
rising-apart (x ∷ []) h = tt
rising-apart (x ∷ y ∷ rest) h = (h.0.0, rising-apart (y ∷ rest) h.1)

apart-range : (a n : ℕ) → AreApart (range_with_len a n)
apart-range a zero = tt
apart-range a (suc n) = (further a (a + 1) n (omega arith), apart-range (a + 1) n)
  where
    further : (x a n : ℕ) → x < a → AllByRecursion (λ y. x < y) (range_with_len a n)
    further x a zero l = tt
    further x a (suc n) l = (l, further x (a + 1) n (omega arith))

pub risen-apart : (count : ℕ) (numbers : List ℕ) → AreApart (risen count numbers)
risen-apart count numbers = apart-filter (λ k. is_among k numbers) (below count) (apart-range 0 count)

pub filter-passes : (q : ℕ → Bool) (xs : List ℕ) → AllByRecursion (λ x. q x ≡ true) (filter q xs)
filter-passes q [] = tt
filter-passes q (x ∷ xs) = one (filter-passes q xs) (q x) refl
  where
    one : AllByRecursion (λ x. q x ≡ true) (filter q xs) → (b : Bool) → q x ≡ b → AllByRecursion (λ x. q x ≡ true) (cond b (x ∷ filter q xs) (filter q xs))
    one all true e = (e, all)
    one all false e = all

some-passes : (q : ℕ → Bool) (k : ℕ) → q k ≡ true → (a n : ℕ) → a ≤ k → k < a + n → 1 ≤ length (filter q (range_with_len a n))
some-passes q k e a zero l m = absurd (omega arith)
some-passes q k e a (suc n) l m = elim (eqb_tells k a) [
  | inl h ↦ first (q a) (ap q (sym h.1) ∙ e)
  | inr h ↦ rest (q a) (some-passes q k e (a + 1) n (omega (arith, h.1)) (omega arith))
]
  where
    first : (b : Bool) → b ≡ true → 1 ≤ length (cond b (a ∷ filter q (range_with_len (a + 1) n)) (filter q (range_with_len (a + 1) n)))
    first true e = omega arith
    first false e = absurd (false≢true e)

    rest : (b : Bool) → 1 ≤ length (filter q (range_with_len (a + 1) n)) → 1 ≤ length (cond b (a ∷ filter q (range_with_len (a + 1) n)) (filter q (range_with_len (a + 1) n)))
    rest true l = omega arith
    rest false l = l

-- what is chosen rises and names members
pub named-risen : (count : ℕ) (numbers : List ℕ) → AreNamed count (risen count numbers)
named-risen count numbers = record {
  rising = rising-apart (risen count numbers) (risen-apart count numbers);
  inside = each-filter (λ k. k < count) (λ k. is_among k numbers) (below count) (below-each (λ k. k < count) count (λ k l. l));
}

-- what is chosen for a lower program serves one
pub lower-serves : (nodes : List NodeData) (numbers : List ℕ) (best : ℕ) → best < length nodes → is_among best numbers ≡ true → length numbers ≤ 16 → AreLowerEnds nodes (risen (length nodes) numbers)
lower-serves nodes numbers best l e few =
    let q : ℕ → Bool = λ k. is_among k numbers in
    let apart : AreApart (risen (length nodes) numbers) = risen-apart (length nodes) numbers in
    record {
      named = named-risen (length nodes) numbers;
      some = some-passes q best e 0 (length nodes) (omega arith) (omega arith);
      few = omega (arith, few-apart (risen (length nodes) numbers) numbers apart (filter-passes q (below (length nodes))));
    }

-- the first of a list is among it
pub first-among : (k : ℕ) (xs : List ℕ) → is_among k (k ∷ xs) ≡ true
first-among k xs = elim (eqb_tells k k) [ inl h ↦ rw h.0 refl | inr h ↦ absurd (h.1 refl) ]
