-- The runs of a lower visit, and the first of greatest product with the belief among them.
use Rattle.std.proofs.Common.{◌≡◌, ◌⊎◌, ℕ, zero, suc, ◌+◌, ◌<◌, ◌≤◌, ◌++◌, List, [], ◌∷◌, length, drop, get_or, refl, ap, arith, sym, subst, ◌∙◌, inl, inr, length-append}
use Rattle.std.specs.Prelude.{ℤ, pos, Some, ◌≤ℤ◌, ◌<ℤ◌}
use Rattle.std.proofs.lemmas.Int.{by_lt_z, ints}
use Rattle.std.proofs.lemmas.List.{get_or_append_left}
use Rattle.std.proofs.Math.Seq.{get_or-append_seam}
use Rattle.game_model.specs.Branches.{IsBranch, mix_total}
use Rattle.game_model.specs.Game.{GameData, IsGame, numbers}
use Rattle.game_model.proofs.Least.{last-or}
use Rattle.game_model.proofs.Pay.{each-from}
use Rattle.alpha_set.specs.Members.{most_nodes}
use Rattle.alpha_set.specs.Nodes.{NodeData, NodeFits}
use Rattle.alpha_set.specs.Worth.{AreWeighed, worth_at}
use Rattle.simplex.specs.declared.End.{End}
use Rattle.simplex.specs.declared.End.TheVariants.{Optimal}
use Rattle.stage_game.proofs.LowerEnds.{belief-mass}
use Rattle.stage_game.specs.Asked.{BeliefFits}
use Rattle.stage_game.specs.LowerCandidates.{AreLowerCandidates}
use Rattle.backup.specs.Tries.{IsFirstMost, tried_bits}
use Rattle.backup.specs.LowerRuns.{HasWorth, IsBestRun, IsFirstRun, IsSound, run_data}
use Rattle.backup.specs.declared.lower_visits.Run.{Run}
use Rattle.backup.specs.LowerVisits.{IsLowerRun, IsLowerVisit, LowerRun, product_at}
use Rattle.backup.proofs.Tried.{AreTried, none-tried, tried-all, tried-last, tried-more}

same : (x : ℤ) → x ≤ℤ x
same x = omega (arith, ints)

-- ---- the first greatest of one more number
most-kept : (f h : ℕ → ℤ) (n place : ℕ) → IsFirstMost f n place → ((i : ℕ) → i < n → h i ≡ f i) → h n ≤ℤ h place → IsFirstMost h (n + 1) place
most-kept f h n place best before more = record {
  inside = let l = best.inside in omega arith;
  greatest = λ i l. elim (last-or i n l) [
    | inl b ↦ ends (h i) (f i) (f place) (h place) (before i b) (best.greatest i b) (before place best.inside)
    | inr e ↦ subst (λ (j : ℕ). h j ≤ℤ h place) (sym e) more
  ];
  first = λ i l. strict (h i) (f i) (f place) (h place) (before i (let k = best.inside in omega arith)) (best.first i l) (before place best.inside);
}
  where
    ends : (x y z w : ℤ) → x ≡ y → y ≤ℤ z → w ≡ z → x ≤ℤ w
    ends x y z w e l f = omega (arith, ints)

    strict : (x y z w : ℤ) → x ≡ y → y <ℤ z → w ≡ z → x <ℤ w
    strict x y z w e l f = omega (arith, ints)

most-taken : (f h : ℕ → ℤ) (n place : ℕ) → IsFirstMost f n place → ((i : ℕ) → i < n → h i ≡ f i) → h place <ℤ h n → IsFirstMost h (n + 1) n
most-taken f h n place best before more = record {
  inside = omega arith;
  greatest = λ i l. elim (last-or i n l) [
    | inl b ↦ below (h i) (f i) (f place) (h place) (h n) (before i b) (best.greatest i b) (before place best.inside) more
    | inr e ↦ subst (λ (j : ℕ). h j ≤ℤ h n) (sym e) (same (h n))
  ];
  first = λ i l. strict (h i) (f i) (f place) (h place) (h n) (before i l) (best.greatest i l) (before place best.inside) more;
}
  where
    below : (x y z w u : ℤ) → x ≡ y → y ≤ℤ z → w ≡ z → w <ℤ u → x ≤ℤ u
    below x y z w u e l f k = omega (arith, ints)

    strict : (x y z w u : ℤ) → x ≡ y → y ≤ℤ z → w ≡ z → w <ℤ u → x <ℤ u
    strict x y z w u e l f k = omega (arith, ints)

-- ---- one more run
abbrev product : List ℤ → LowerRun → ℤ
product belief run = worth_at belief run.node.vector

abbrev end_of : LowerRun → End
end_of run = run.advice.end

-- the best of runs
pub record IsBest (belief : List ℤ) (first : LowerRun) (runs : List LowerRun) (best : LowerRun) : Type 0 where
  pub place : ℕ
  pub most : IsFirstMost (product_at belief first runs) (length runs) place
  pub same : get_or runs place first ≡ best

best-one : (belief : List ℤ) (first : LowerRun) → IsBest belief first (first ∷ []) first
best-one belief first = record {
  place = 0;
  most = record {
    inside = omega arith;
    greatest = λ i l. subst (λ (j : ℕ). (product_at belief first (first ∷ []) j) ≤ℤ (product_at belief first (first ∷ []) 0)) (sym (none i l)) (same (product belief first));
    first = λ i l. absurd (omega arith);
  };
  same = refl;
}
  where
    none : (i : ℕ) → i < 1 → i ≡ 0
    none i l = omega arith

long-more : (runs : List LowerRun) (run : LowerRun) → length (runs ++ run ∷ []) ≡ length runs + 1
long-more runs run = length-append runs (run ∷ [])

best-kept : (belief : List ℤ) (first : LowerRun) (runs : List LowerRun) (best run : LowerRun) → IsBest belief first runs best → product belief run ≤ℤ product belief best → IsBest belief first (runs ++ run ∷ []) best
best-kept belief first runs best run is l =
    let there : get_or (runs ++ run ∷ []) is.place first ≡ best = get_or_append_left runs (run ∷ []) first is.place is.most.inside ∙ is.same in
    let last : get_or (runs ++ run ∷ []) (length runs) first ≡ run = get_or-append_seam runs run [] first in
    record {
      place = is.place;
      most = subst (λ (n : ℕ). IsFirstMost (product_at belief first (runs ++ run ∷ [])) n is.place) (sym (long-more runs run))
          (most-kept (product_at belief first runs) (product_at belief first (runs ++ run ∷ [])) (length runs) is.place is.most (λ i b. ap (product belief) (get_or_append_left runs (run ∷ []) first i b))
          (subst (λ (r : LowerRun). (product belief (get_or (runs ++ run ∷ []) (length runs) first)) ≤ℤ product belief r) (sym there)
          (subst (λ (r : LowerRun). product belief r ≤ℤ product belief best) (sym last) l)));
      same = there;
    }

best-taken : (belief : List ℤ) (first : LowerRun) (runs : List LowerRun) (best run : LowerRun) → IsBest belief first runs best → product belief best <ℤ product belief run → IsBest belief first (runs ++ run ∷ []) run
best-taken belief first runs best run is l =
    let there : get_or (runs ++ run ∷ []) is.place first ≡ best = get_or_append_left runs (run ∷ []) first is.place is.most.inside ∙ is.same in
    let last : get_or (runs ++ run ∷ []) (length runs) first ≡ run = get_or-append_seam runs run [] first in
    record {
      place = length runs;
      most = subst (λ (n : ℕ). IsFirstMost (product_at belief first (runs ++ run ∷ [])) n (length runs)) (sym (long-more runs run))
          (most-taken (product_at belief first runs) (product_at belief first (runs ++ run ∷ [])) (length runs) is.place is.most (λ i b. ap (product belief) (get_or_append_left runs (run ∷ []) first i b))
          (subst (λ (r : LowerRun). product belief r <ℤ (product belief (get_or (runs ++ run ∷ []) (length runs) first))) (sym there)
          (subst (λ (r : LowerRun). product belief best <ℤ product belief r) (sym last) l)));
      same = last;
    }

-- the greater of the best so far and the next one
pub record IsGreater (belief : List ℤ) (first second greater : LowerRun) : Type 0 where
  pub kept : product belief second ≤ℤ product belief first → greater ≡ first
  pub taken : product belief first <ℤ product belief second → greater ≡ second

either : (x y : ℤ) → (x ≤ℤ y) ⊎ (y <ℤ x)
either x y = by_lt_z y x (λ l. inr l) (λ l. inl l)

best-more : (belief : List ℤ) (first : LowerRun) (runs : List LowerRun) (best run next : LowerRun) → IsBest belief first runs best → IsGreater belief best run next → IsBest belief first (runs ++ run ∷ []) next
best-more belief first runs best run next is greater =
    elim (either (product belief run) (product belief best)) [
      | inl l ↦ subst (IsBest belief first (runs ++ run ∷ [])) (sym (greater.kept l)) (best-kept belief first runs best run is l)
      | inr l ↦ subst (IsBest belief first (runs ++ run ∷ [])) (sym (greater.taken l)) (best-taken belief first runs best run is l)
    ]

pub sound-greater : (g : GameData) (nodes : List NodeData) (belief : List ℤ) (first second greater : LowerRun) → IsSound g nodes first → IsSound g nodes second → IsGreater belief first second greater → IsSound g nodes greater
sound-greater g nodes belief first second greater p q is =
    elim (either (product belief second) (product belief first)) [ inl l ↦ subst (IsSound g nodes) (sym (is.kept l)) p | inr l ↦ subst (IsSound g nodes) (sym (is.taken l)) q ]

-- the greater run of the program
pub greater-is : (belief : List ℤ) (first second greater : Run) → HasWorth belief first → HasWorth belief second → (second.worth ≤ℤ first.worth → greater ≡ first) → (first.worth <ℤ second.worth → greater ≡ second) →
    IsGreater belief (run_data first) (run_data second) (run_data greater)
greater-is belief first second greater p q kept taken = record {
  kept = λ l. ap run_data (kept (subst (λ (x : ℤ). x ≤ℤ first.worth) (sym q) (subst (λ (y : ℤ). product belief (run_data second) ≤ℤ y) (sym p) l)));
  taken = λ l. ap run_data (taken (subst (λ (x : ℤ). x <ℤ second.worth) (sym p) (subst (λ (y : ℤ). product belief (run_data first) <ℤ y) (sym q) l)));
}

pub greater-worth : (belief : List ℤ) (first second greater : Run) → HasWorth belief first → HasWorth belief second → (second.worth ≤ℤ first.worth → greater ≡ first) → (first.worth <ℤ second.worth → greater ≡ second) →
    HasWorth belief greater
greater-worth belief first second greater p q kept taken =
    elim (either second.worth first.worth) [ inl l ↦ subst (HasWorth belief) (sym (kept l)) p | inr l ↦ subst (HasWorth belief) (sym (taken l)) q ]

-- ---- the loop over the bits
pub record IsBestSoFar (g : GameData) (belief : List ℤ) (nodes : List NodeData) (priced : List ℕ) (first : LowerRun) (left : List ℕ) (best : LowerRun) : Type 0 where
  pub tries : List LowerRun
  pub tried : AreTried end_of (IsLowerRun g belief nodes priced) left tries
  pub best_is : IsBest belief first (first ∷ tries) best

pub so-far-none : (g : GameData) (belief : List ℤ) (nodes : List NodeData) (priced : List ℕ) (first : LowerRun) → IsBestSoFar g belief nodes priced first tried_bits first
so-far-none g belief nodes priced first = record { tries = []; tried = none-tried end_of (IsLowerRun g belief nodes priced); best_is = best-one belief first }

pub so-far-more : (g : GameData) (belief : List ℤ) (nodes : List NodeData) (priced : List ℕ) (first : LowerRun) (bits : ℕ) (left : List ℕ) (best run next : LowerRun) →
    IsBestSoFar g belief nodes priced first (bits ∷ left) best → IsLowerRun g belief nodes priced bits run → (run.advice.end ≡ Optimal → ⊥) → IsGreater belief best run next → IsBestSoFar g belief nodes priced first left next
so-far-more g belief nodes priced first bits left best run next so is ne greater = record {
  tries = so.tries ++ run ∷ [];
  tried = tried-more end_of (IsLowerRun g belief nodes priced) bits left so.tries run so.tried is ne;
  best_is = best-more belief first (first ∷ so.tries) best run next so.best_is greater;
}

pub so-far-last : (g : GameData) (belief : List ℤ) (nodes : List NodeData) (priced : List ℕ) (first : LowerRun) (bits : ℕ) (left : List ℕ) (best run next : LowerRun) →
    IsBestSoFar g belief nodes priced first (bits ∷ left) best → IsLowerRun g belief nodes priced bits run → run.advice.end ≡ Optimal → IsGreater belief best run next → IsBestRun g belief nodes priced first next
so-far-last g belief nodes priced first bits left best run next so is e greater =
    let more = best-more belief first (first ∷ so.tries) best run next so.best_is greater in
    record {
      tries = so.tries ++ run ∷ [];
      are_tries = tried-last end_of (IsLowerRun g belief nodes priced) bits left so.tries run so.tried is e;
      place = more.place;
      best = more.most;
      same = more.same;
    }

pub so-far-all : (g : GameData) (belief : List ℤ) (nodes : List NodeData) (priced : List ℕ) (first best : LowerRun) → IsBestSoFar g belief nodes priced first [] best → IsBestRun g belief nodes priced first best
so-far-all g belief nodes priced first best so = record {
  tries = so.tries;
  are_tries = tried-all end_of (IsLowerRun g belief nodes priced) so.tries so.tried;
  place = so.best_is.place;
  best = so.best_is.most;
  same = so.best_is.same;
}

-- ---- the visit
pub visit-is : (g : GameData) (belief : List ℤ) (nodes : List NodeData) (priced : List ℕ) (first run : LowerRun) → IsFirstRun g belief nodes first → AreLowerCandidates g belief nodes (Some first.advice.informed) priced →
    IsBestRun g belief nodes priced first run → IsLowerVisit g belief nodes run.advice run.node
visit-is g belief nodes priced first run one are best = record {
  first = first;
  tries = best.tries;
  runs = record {
    candidates = one.candidates;
    are_first = one.are_first;
    is_first = one.is_run;
    priced = priced;
    are_priced = are;
    are_tries = best.are_tries;
  };
  place = best.place;
  best = best.best;
  same = best.same;
}

-- ---- what the calls ask
-- a node that fits a game and so many nodes fits it and more of them
fits-more : (g : GameData) (count more : ℕ) (node : NodeData) → count ≤ more → NodeFits g count node → NodeFits g more node
fits-more g count more node few fits = record {
  long = fits.long;
  entries = fits.entries;
  mix = fits.mix;
  next = record {
    rising = fits.next.rising;
    each = each-from (IsBranch (numbers g) count (pos mix_total)) (IsBranch (numbers g) more (pos mix_total)) node.next (λ b i. record { own = i.own; seen = i.seen; member = at_most b.member i.member; weight = i.weight }) fits.next.each;
  };
  sums = fits.sums;
}
  where
    at_most : (k : ℕ) → k < count → k < more
    at_most k l = omega (arith, few)

-- a node that fits a game may be weighed at a belief
pub weighed-at : (g : GameData) → IsGame g → (count : ℕ) (node : NodeData) (belief : List ℤ) → count ≤ most_nodes → NodeFits g count node → BeliefFits g belief → AreWeighed (node ∷ []) belief
weighed-at g h count node belief few fits right = record {
  game = g;
  accepted = h;
  fit = (fits-more g count most_nodes node few fits, tt);
  right = belief-mass g h belief right.right;
}

-- the bits that are left begin with the next ones
pub bits-next : (bits : List ℕ) (i : ℕ) → bits ≡ tried_bits → i < length bits → drop i tried_bits ≡ get_or bits i 0 ∷ drop (i + 1) tried_bits
bits-next bits i e l = subst (λ (xs : List ℕ). i < length xs → drop i tried_bits ≡ get_or xs i 0 ∷ drop (i + 1) tried_bits) (sym e) (by i) l
  where
    by : (i : ℕ) → i < 3 → drop i tried_bits ≡ get_or tried_bits i 0 ∷ drop (i + 1) tried_bits
    by zero l = refl
    by (suc zero) l = refl
    by (suc (suc zero)) l = refl
    by (suc (suc (suc i))) l = absurd (omega arith)

abbrev no_bits : List ℕ
no_bits = []

drop-none : (i : ℕ) → drop i no_bits ≡ no_bits
drop-none zero = refl
drop-none (suc i) = refl

pub bits-none : (bits : List ℕ) (i : ℕ) → bits ≡ tried_bits → length bits ≤ i → drop i tried_bits ≡ []
bits-none bits i e l = subst (λ (xs : List ℕ). length xs ≤ i → drop i tried_bits ≡ []) (sym e) (by i) l
  where
    by : (i : ℕ) → 3 ≤ i → drop i tried_bits ≡ []
    by zero l = absurd (omega arith)
    by (suc zero) l = absurd (omega arith)
    by (suc (suc zero)) l = absurd (omega arith)
    by (suc (suc (suc i))) l = drop-none i
