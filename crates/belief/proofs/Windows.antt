-- A window of a list, and the landings of a row with an observation.
use Rattle.std.proofs.Common.{◌≡◌, ℕ, zero, suc, ◌+◌, ◌-◌, ◌<◌, ◌≤◌, Bool, true, false, ltb, leb, List, [], ◌∷◌, length, get_or, take, drop, filter, refl, ap, arith, sym, ◌∙◌, inl, inr, eq-eqb, ne_eqb, length-drop}
use Rattle.std.specs.Prelude.{pos}
use Rattle.std.specs.List.Sorted.{IsNonDecreasingBy, IsPartitionPoint}
use Rattle.std.proofs.lemmas.Bool.{ltb-true, ltb-false, leb-true, leb-false}
use Rattle.std.proofs.lemmas.List.{take_all, get_or-drop}
use Rattle.game_model.specs.Game.{IsBefore, IsRising}
use Rattle.game_model.specs.Build.{landing_of}
use Rattle.game_model.specs.declared.parts.Landing.{Landing}
use Rattle.belief.specs.Masses.{IsSeen}

-- a test that passes just in a window keeps just the window
pub filter-window : {X : Type 0} (q : X → Bool) (d : X) (xs : List X) (s n : ℕ) → s + n ≤ length xs → ((i : ℕ) → i < s → q (get_or xs i d) ≡ false) →
    ((i : ℕ) → s ≤ i → i < s + n → q (get_or xs i d) ≡ true) → ((i : ℕ) → s + n ≤ i → i < length xs → q (get_or xs i d) ≡ false) → filter q xs ≡ take n (drop s xs)
filter-window q d [] zero zero l before within after = refl
filter-window q d [] zero (suc n) l before within after = absurd (omega arith)
filter-window q d [] (suc s) n l before within after = absurd (omega arith)
filter-window q d (x ∷ xs) zero zero l before within after =
    rw (after 0 (omega arith) (omega arith)) (filter-window q d xs zero zero (omega arith) (λ i m. absurd (omega arith)) (λ i m k. absurd (omega arith)) (λ i m k. after (suc i) (omega arith) (omega arith)))
filter-window q d (x ∷ xs) zero (suc n) l before within after =
    rw (within 0 (omega arith) (omega arith)) (ap (λ (ys : List _). x ∷ ys) (filter-window q d xs zero n (omega arith) (λ i m. absurd (omega arith)) (λ i m k. within (suc i) (omega arith) (omega arith)) (λ i m k. after (suc i) (omega arith) (omega arith))))
filter-window q d (x ∷ xs) (suc s) n l before within after =
    rw (before 0 (omega arith)) (filter-window q d xs s n (omega arith) (λ i m. before (suc i) (omega arith)) (λ i m k. within (suc i) (omega arith) (omega arith)) (λ i m k. after (suc i) (omega arith) (omega arith)))

-- the rest of a list as the code slices it
pub rest-is : {X : Type 0} (s : ℕ) (xs : List X) → take (length xs - s) (drop s xs) ≡ drop s xs
rest-is s xs = take_all (length xs - s) (drop s xs) (omega (arith, length-drop s xs))

pub non_decreasing-drop : {X : Type 0} (n : X → ℕ) (s : ℕ) (xs : List X) → IsNonDecreasingBy n xs → IsNonDecreasingBy n (drop s xs)
non_decreasing-drop n s xs h i j d le lt = rw (get_or-drop s xs i d, get_or-drop s xs j d) (h (s + i) (s + j) d (omega arith) (omega (arith, length-drop s xs)))

before-seen : (l m : Landing) → IsBefore l m → l.seen ≤ m.seen
before-seen l m h = elim h [ inl a ↦ omega arith | inr e ↦ let same = e.0 in omega arith ]

first-least : (l : Landing) (ls : List Landing) → IsRising (l ∷ ls) → (j : ℕ) (d : Landing) → j < length (l ∷ ls) → l.seen ≤ (get_or (l ∷ ls) j d).seen
first-least l ls h zero d lt = omega arith
first-least l [] h (suc j) d lt = absurd (omega arith)
first-least l (m ∷ ls) h (suc j) d lt = omega (arith, before-seen l m h.0, first-least m ls h.1 j d (omega arith))

rest-rises : (l : Landing) (ls : List Landing) → IsRising (l ∷ ls) → IsRising ls
rest-rises l [] h = tt
rest-rises l (m ∷ ls) h = h.1

pub seen-rises : (row : List Landing) → IsRising row → IsNonDecreasingBy (λ (l : Landing). l.seen) row
seen-rises [] h i j d le lt = absurd (omega arith)
seen-rises (l ∷ ls) h zero j d le lt = first-least l ls h j d lt
seen-rises (l ∷ ls) h (suc i) zero d le lt = absurd (omega arith)
seen-rises (l ∷ ls) h (suc i) (suc j) d le lt = seen-rises ls (rest-rises l ls h) i j d (omega arith) (omega arith)

abbrev none : Landing
none = landing_of 0 0 (pos 0)

-- the two places that a search finds bound the landings with an observation
pub seen-window : (row : List Landing) (o s n : ℕ) → s ≤ length row → n ≤ length (drop s row) →
    IsPartitionPoint (λ (l : Landing). ltb l.seen o ≡ true) (λ (l : Landing). ltb l.seen o ≡ false) row s →
    IsPartitionPoint (λ (l : Landing). leb l.seen o ≡ true) (λ (l : Landing). leb l.seen o ≡ false) (drop s row) n →
    take n (drop s row) ≡ filter (IsSeen o) row
seen-window row o s n ls ln first second =
    sym (filter-window (IsSeen o) none row s n (omega (arith, length-drop s row))
    (λ i l. ne_eqb (get_or row i none).seen o (λ e. let low = ltb-true (get_or row i none).seen o (first.0 i none (omega arith) l) in absurd (omega arith)))
    (λ i l m. let high = ltb-false (get_or row i none).seen o (first.1 i none l (omega (arith, length-drop s row))) in
    let low = leb-true (get_or row i none).seen o (at i l ∙ second.0 (i - s) none (omega arith) (omega arith)) in
    eq-eqb (get_or row i none).seen o (omega arith))
    (λ i l m. ne_eqb (get_or row i none).seen o (λ e. let high = leb-false (get_or row i none).seen o (at i (omega arith) ∙ second.1 (i - s) none (omega arith) (omega (arith, length-drop s row))) in absurd (omega arith))))
  where
    at : (i : ℕ) → s ≤ i → leb (get_or row i none).seen o ≡ leb (get_or (drop s row) (i - s) none).seen o
    at i l = let same : s + (i - s) ≡ i = omega arith in sym (ap (λ (x : Landing). leb x.seen o) (get_or-drop s row (i - s) none) ∙ ap (λ (k : ℕ). leb (get_or row k none).seen o) same)
