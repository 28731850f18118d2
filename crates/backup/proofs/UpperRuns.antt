-- The runs of an upper visit, and the first of least value among them.
use Rattle.std.proofs.Common.{◌≡◌, ◌⊎◌, ℕ, zero, suc, ◌+◌, ◌<◌, ◌≤◌, ◌++◌, List, [], ◌∷◌, length, drop, get_or, refl, ap, arith, sym, subst, ◌∙◌, inl, inr, length-append}
use Rattle.std.specs.Prelude.{ℤ, ◌≤ℤ◌, ◌<ℤ◌}
use Rattle.std.proofs.lemmas.Int.{by_lt_z, ints}
use Rattle.std.proofs.lemmas.List.{get_or_append_left}
use Rattle.std.proofs.Math.Seq.{get_or-append_seam}
use Rattle.game_model.specs.Game.{GameData}
use Rattle.game_model.proofs.Least.{last-or}
use Rattle.point_set.specs.Points.{PointData}
use Rattle.simplex.specs.declared.End.{End}
use Rattle.simplex.specs.declared.End.TheVariants.{Optimal}
use Rattle.stage_game.specs.UpperCandidates.{AreUpperCandidates}
use Rattle.std.specs.Prelude.{Some}
use Rattle.backup.specs.Tries.{IsFirstLeast, tried_bits}
use Rattle.backup.specs.UpperRuns.{IsBestRun, IsFirstRun, IsSound, run_data}
use Rattle.backup.specs.UpperVisits.{IsUpperRun, IsUpperVisit, UpperRun, value_at}
use Rattle.backup.specs.declared.upper_visits.Run.{Run}
use Rattle.backup.proofs.Tried.{AreTried, none-tried, tried-all, tried-last, tried-more}

through : (x y z : ℤ) → x ≤ℤ y → y ≤ℤ z → x ≤ℤ z
through x y z h k = omega (arith, ints)

same : (x : ℤ) → x ≤ℤ x
same x = omega (arith, ints)

-- ---- the first least of one more number
least-kept : (f h : ℕ → ℤ) (n place : ℕ) → IsFirstLeast f n place → ((i : ℕ) → i < n → h i ≡ f i) → h place ≤ℤ h n → IsFirstLeast h (n + 1) place
least-kept f h n place best before more = record {
  inside = let l = best.inside in omega arith;
  least = λ i l. elim (last-or i n l) [
    | inl b ↦ ends (h place) (f place) (f i) (h i) (before place best.inside) (best.least i b) (before i b)
    | inr e ↦ subst (λ (j : ℕ). h place ≤ℤ h j) (sym e) more
  ];
  first = λ i l. strict (h place) (f place) (f i) (h i) (before place best.inside) (best.first i l) (before i (let k = best.inside in omega arith));
}
  where
    ends : (x y z w : ℤ) → x ≡ y → y ≤ℤ z → w ≡ z → x ≤ℤ w
    ends x y z w e l f = omega (arith, ints)

    strict : (x y z w : ℤ) → x ≡ y → y <ℤ z → w ≡ z → x <ℤ w
    strict x y z w e l f = omega (arith, ints)

least-taken : (f h : ℕ → ℤ) (n place : ℕ) → IsFirstLeast f n place → ((i : ℕ) → i < n → h i ≡ f i) → h n <ℤ h place → IsFirstLeast h (n + 1) n
least-taken f h n place best before less = record {
  inside = omega arith;
  least = λ i l. elim (last-or i n l) [
    | inl b ↦ below (h n) (h place) (f place) (f i) (h i) less (before place best.inside) (best.least i b) (before i b)
    | inr e ↦ subst (λ (j : ℕ). h n ≤ℤ h j) (sym e) (same (h n))
  ];
  first = λ i l. strict (h n) (h place) (f place) (f i) (h i) less (before place best.inside) (best.least i l) (before i l);
}
  where
    below : (u x y z w : ℤ) → u <ℤ x → x ≡ y → y ≤ℤ z → w ≡ z → u ≤ℤ w
    below u x y z w k e l f = omega (arith, ints)

    strict : (u x y z w : ℤ) → u <ℤ x → x ≡ y → y ≤ℤ z → w ≡ z → u <ℤ w
    strict u x y z w k e l f = omega (arith, ints)

-- ---- one more run
-- the best of runs
pub record IsBest (first : UpperRun) (runs : List UpperRun) (best : UpperRun) : Type 0 where
  pub place : ℕ
  pub least : IsFirstLeast (value_at first runs) (length runs) place
  pub same : get_or runs place first ≡ best

best-one : (first : UpperRun) → IsBest first (first ∷ []) first
best-one first = record {
  place = 0;
  least = record {
    inside = omega arith;
    least = λ i l. subst (λ (j : ℕ). (value_at first (first ∷ []) 0) ≤ℤ (value_at first (first ∷ []) j)) (sym (none i l)) (same first.point.value);
    first = λ i l. absurd (omega arith);
  };
  same = refl;
}
  where
    none : (i : ℕ) → i < 1 → i ≡ 0
    none i l = omega arith

long-more : (runs : List UpperRun) (run : UpperRun) → length (runs ++ run ∷ []) ≡ length runs + 1
long-more runs run = length-append runs (run ∷ [])

best-kept : (first : UpperRun) (runs : List UpperRun) (best run : UpperRun) → IsBest first runs best → best.point.value ≤ℤ run.point.value → IsBest first (runs ++ run ∷ []) best
best-kept first runs best run is l =
    let there : get_or (runs ++ run ∷ []) is.place first ≡ best = get_or_append_left runs (run ∷ []) first is.place is.least.inside ∙ is.same in
    let last : get_or (runs ++ run ∷ []) (length runs) first ≡ run = get_or-append_seam runs run [] first in
    record {
      place = is.place;
      least = subst (λ (n : ℕ). IsFirstLeast (value_at first (runs ++ run ∷ [])) n is.place) (sym (long-more runs run))
          (least-kept (value_at first runs) (value_at first (runs ++ run ∷ [])) (length runs) is.place is.least
          (λ i b. ap (λ (r : UpperRun). r.point.value) (get_or_append_left runs (run ∷ []) first i b))
          (subst (λ (r : UpperRun). r.point.value ≤ℤ (get_or (runs ++ run ∷ []) (length runs) first).point.value) (sym there)
          (subst (λ (r : UpperRun). best.point.value ≤ℤ r.point.value) (sym last) l)));
      same = there;
    }

best-taken : (first : UpperRun) (runs : List UpperRun) (best run : UpperRun) → IsBest first runs best → run.point.value <ℤ best.point.value → IsBest first (runs ++ run ∷ []) run
best-taken first runs best run is l =
    let there : get_or (runs ++ run ∷ []) is.place first ≡ best = get_or_append_left runs (run ∷ []) first is.place is.least.inside ∙ is.same in
    let last : get_or (runs ++ run ∷ []) (length runs) first ≡ run = get_or-append_seam runs run [] first in
    record {
      place = length runs;
      least = subst (λ (n : ℕ). IsFirstLeast (value_at first (runs ++ run ∷ [])) n (length runs)) (sym (long-more runs run))
          (least-taken (value_at first runs) (value_at first (runs ++ run ∷ [])) (length runs) is.place is.least
          (λ i b. ap (λ (r : UpperRun). r.point.value) (get_or_append_left runs (run ∷ []) first i b))
          (subst (λ (r : UpperRun). r.point.value <ℤ (get_or (runs ++ run ∷ []) is.place first).point.value) (sym last)
          (subst (λ (r : UpperRun). run.point.value <ℤ r.point.value) (sym there) l)));
      same = last;
    }

-- the lesser of the best so far and the next one
pub record IsLesser (first second lesser : UpperRun) : Type 0 where
  pub kept : first.point.value ≤ℤ second.point.value → lesser ≡ first
  pub taken : second.point.value <ℤ first.point.value → lesser ≡ second

pub best-more : (first : UpperRun) (runs : List UpperRun) (best run next : UpperRun) → IsBest first runs best → IsLesser best run next → IsBest first (runs ++ run ∷ []) next
best-more first runs best run next is lesser =
    elim (either best.point.value run.point.value) [
      | inl l ↦ subst (IsBest first (runs ++ run ∷ [])) (sym (lesser.kept l)) (best-kept first runs best run is l)
      | inr l ↦ subst (IsBest first (runs ++ run ∷ [])) (sym (lesser.taken l)) (best-taken first runs best run is l)
    ]
  where
    either : (x y : ℤ) → (x ≤ℤ y) ⊎ (y <ℤ x)
    either x y = by_lt_z y x (λ l. inr l) (λ l. inl l)

pub sound-lesser : (g : GameData) (points : List PointData) (first second lesser : UpperRun) → IsSound g points first → IsSound g points second → IsLesser first second lesser → IsSound g points lesser
sound-lesser g points first second lesser p q is =
    elim (either first.point.value second.point.value) [
      | inl l ↦ subst (IsSound g points) (sym (is.kept l)) p
      | inr l ↦ subst (IsSound g points) (sym (is.taken l)) q
    ]
  where
    either : (x y : ℤ) → (x ≤ℤ y) ⊎ (y <ℤ x)
    either x y = by_lt_z y x (λ l. inr l) (λ l. inl l)

-- how a run ended
abbrev ended : UpperRun → End
ended run = run.advice.end

-- ---- the loop over the bits
pub record IsBestSoFar (g : GameData) (belief : List ℤ) (points : List PointData) (priced : List ℕ) (first : UpperRun) (left : List ℕ) (best : UpperRun) : Type 0 where
  pub tries : List UpperRun
  pub tried : AreTried (λ (run : UpperRun). run.advice.end) (IsUpperRun g belief points priced) left tries
  pub best_is : IsBest first (first ∷ tries) best

pub so-far-none : (g : GameData) (belief : List ℤ) (points : List PointData) (priced : List ℕ) (first : UpperRun) → IsBestSoFar g belief points priced first tried_bits first
so-far-none g belief points priced first = record { tries = []; tried = none-tried ended (IsUpperRun g belief points priced); best_is = best-one first }

pub so-far-more : (g : GameData) (belief : List ℤ) (points : List PointData) (priced : List ℕ) (first : UpperRun) (bits : ℕ) (left : List ℕ) (best run next : UpperRun) →
    IsBestSoFar g belief points priced first (bits ∷ left) best → IsUpperRun g belief points priced bits run → (run.advice.end ≡ Optimal → ⊥) → IsLesser best run next → IsBestSoFar g belief points priced first left next
so-far-more g belief points priced first bits left best run next so is ne lesser = record {
  tries = so.tries ++ run ∷ [];
  tried = tried-more ended (IsUpperRun g belief points priced) bits left so.tries run so.tried is ne;
  best_is = best-more first (first ∷ so.tries) best run next so.best_is lesser;
}

pub so-far-last : (g : GameData) (belief : List ℤ) (points : List PointData) (priced : List ℕ) (first : UpperRun) (bits : ℕ) (left : List ℕ) (best run next : UpperRun) →
    IsBestSoFar g belief points priced first (bits ∷ left) best → IsUpperRun g belief points priced bits run → run.advice.end ≡ Optimal → IsLesser best run next → IsBestRun g belief points priced first next
so-far-last g belief points priced first bits left best run next so is e lesser =
    let more = best-more first (first ∷ so.tries) best run next so.best_is lesser in
    record {
      tries = so.tries ++ run ∷ [];
      are_tries = tried-last ended (IsUpperRun g belief points priced) bits left so.tries run so.tried is e;
      place = more.place;
      best = more.least;
      same = more.same;
    }

pub so-far-all : (g : GameData) (belief : List ℤ) (points : List PointData) (priced : List ℕ) (first best : UpperRun) → IsBestSoFar g belief points priced first [] best → IsBestRun g belief points priced first best
so-far-all g belief points priced first best so = record {
  tries = so.tries;
  are_tries = tried-all ended (IsUpperRun g belief points priced) so.tries so.tried;
  place = so.best_is.place;
  best = so.best_is.least;
  same = so.best_is.same;
}

-- ---- the visit
pub visit-is : (g : GameData) (belief : List ℤ) (points : List PointData) (priced : List ℕ) (first run : UpperRun) → IsFirstRun g belief points first → AreUpperCandidates g belief points (Some first.advice.informed) priced →
    IsBestRun g belief points priced first run → IsUpperVisit g belief points run.advice run.point
visit-is g belief points priced first run one are best = record {
  first = first;
  tries = best.tries;
  runs = record {
    candidates = one.candidates;
    are_first = one.are_first;
    is_first = one.is_run;
    priced = priced;
    are_priced = are;
    are_tries = best.are_tries;
  };
  place = best.place;
  best = best.best;
  same = best.same;
}

-- ---- the calls
-- the bits that come next, and those that are left in the end
pub bits-next : (bits : List ℕ) (i : ℕ) → bits ≡ tried_bits → i < length bits → drop i tried_bits ≡ get_or bits i 0 ∷ drop (i + 1) tried_bits
bits-next bits i e l = subst (λ (xs : List ℕ). i < length xs → drop i tried_bits ≡ get_or xs i 0 ∷ drop (i + 1) tried_bits) (sym e) (by i) l
  where
    by : (i : ℕ) → i < 3 → drop i tried_bits ≡ get_or tried_bits i 0 ∷ drop (i + 1) tried_bits
    by zero l = refl
    by (suc zero) l = refl
    by (suc (suc zero)) l = refl
    by (suc (suc (suc i))) l = absurd (omega arith)

abbrev no_bits : List ℕ
no_bits = []

drop-none : (i : ℕ) → drop i no_bits ≡ no_bits
drop-none zero = refl
drop-none (suc i) = refl

pub bits-none : (bits : List ℕ) (i : ℕ) → bits ≡ tried_bits → length bits ≤ i → drop i tried_bits ≡ []
bits-none bits i e l = subst (λ (xs : List ℕ). length xs ≤ i → drop i tried_bits ≡ []) (sym e) (by i) l
  where
    by : (i : ℕ) → 3 ≤ i → drop i tried_bits ≡ []
    by zero l = absurd (omega arith)
    by (suc zero) l = absurd (omega arith)
    by (suc (suc zero)) l = absurd (omega arith)
    by (suc (suc (suc i))) l = drop-none i

-- the lesser of two runs, as the call answers it
pub lesser-is : (first second result : Run) → (first.point.value ≤ℤ second.point.value → result ≡ first) → (second.point.value <ℤ first.point.value → result ≡ second) → IsLesser (run_data first) (run_data second) (run_data result)
lesser-is first second result kept taken = record { kept = λ l. ap run_data (kept l); taken = λ l. ap run_data (taken l) }
