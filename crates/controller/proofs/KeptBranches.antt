-- Branches and starts under new numbers.
use Rattle.std.proofs.Common.{◌≡◌, ℕ, ◌<◌, ◌≤◌, Bool, List, [], ◌∷◌, length, map, ap, sym, subst, ◌∙◌, inl, inr, ◌==◌, ◌&&◌}
use Rattle.std.specs.Prelude.{ℤ, pos, IsTrue, sum_by, unsigned_abs, ◌⊎◌, ◌*ℤ◌}
use Rattle.std.specs.List.{AllByRecursion}
use Rattle.scaled_num.specs.Sums.{total}
use Rattle.scaled_num.proofs.Sums.{each-map, total-map, total-pos, total-same}
use Rattle.game_model.specs.Branches.{AreBranches, AreRising, Branch, Continuation, IsBranch, IsBranchBefore, branches_at, continuation_of, continuations_at}
use Rattle.game_model.specs.Game.{AreCoprime}
use Rattle.game_model.specs.Numbers.{Numbers}
use Rattle.game_model.proofs.Continuations.{continuations-are, filter-map}
use Rattle.game_model.proofs.Pay.{each-from}
use Rattle.point_set.specs.Split.{AreRisingPairs}
use Rattle.controller.specs.Export.{new_number, renumbered, renumbered_starts}
use Rattle.controller.specs.Starts.{AreStarts, IsStart, weighted, weights_sum}
use Rattle.controller.proofs.Members.{each-filter}
use Rattle.controller.proofs.Renumbering.{number-rises}
use Rattle.controller.proofs.StartSums.{each-two}
use Rattle.std.proofs.lemmas.List.{length-map}
use Rattle.std.proofs.lemmas.Simd.{map-map}

-- a branch under new numbers
abbrev pub renumbered_one : (ℕ → Bool) → Branch → Branch
renumbered_one kept b = record { own = b.own; seen = b.seen; member = new_number kept b.member; weight = b.weight }

-- each branch names a kept member of so many
abbrev pub NameKept : (ℕ → Bool) → ℕ → List Branch → Type 0
NameKept kept count branches = AllByRecursion (λ (b : Branch). (b.member < count) × IsTrue (kept b.member)) branches

-- ---- branches under new numbers are branches
before-too : (kept : ℕ → Bool) (b d : Branch) → IsTrue (kept b.member) → IsBranchBefore b d → IsBranchBefore (renumbered_one kept b) (renumbered_one kept d)
before-too kept b d t h =
    elim h as (λ _. IsBranchBefore (renumbered_one kept b) (renumbered_one kept d)) [
      | inl own ↦ inl own
      | inr same ↦ inr (
        same.0,
        elim (same.1) as (λ _. (b.seen < d.seen) ⊎ ((b.seen ≡ d.seen) × (new_number kept b.member < new_number kept d.member))) [
          | inl seen ↦ inl seen
          | inr both ↦ inr (both.0, number-rises kept b.member d.member both.1 t)
        ],
      )
    ]

rising-too : (kept : ℕ → Bool) (count : ℕ) (branches : List Branch) → NameKept kept count branches → AreRising branches → AreRising (renumbered kept branches)
rising-too kept count [] k h = tt
rising-too kept count (b ∷ []) k h = tt
rising-too kept count (b ∷ d ∷ rest) k h = (before-too kept b d k.0.1 h.0, rising-too kept count (d ∷ rest) k.1 h.1)

pub branches-too : (g : Numbers) (kept : ℕ → Bool) (count : ℕ) (most : ℤ) (branches : List Branch) → NameKept kept count branches → AreBranches g count most branches →
    AreBranches g (new_number kept count) most (renumbered kept branches)
branches-too g kept count most branches k h = record {
  rising = rising-too kept count branches k h.rising;
  each = each-map (IsBranch g (new_number kept count) most) (renumbered_one kept) branches
      (each-two (λ (b : Branch). (b.member < count) × IsTrue (kept b.member)) (IsBranch g count most) (λ (b : Branch). IsBranch g (new_number kept count) most (renumbered_one kept b)) branches
      (λ b named i. record { own = i.own; seen = i.seen; member = number-rises kept b.member count named.0 named.1; weight = i.weight }) k h.each);
}

-- those after an own action and an observation
at-too : (kept : ℕ → Bool) (branches : List Branch) (a o : ℕ) → branches_at (renumbered kept branches) a o ≡ renumbered kept (branches_at branches a o)
at-too kept branches a o = filter-map (renumbered_one kept) (λ (b : Branch). (b.own == a) && (b.seen == o)) branches

pub weights-too : (kept : ℕ → Bool) (branches : List Branch) (a o : ℕ) →
    total (λ (b : Branch). b.weight) (branches_at (renumbered kept branches) a o) ≡ total (λ (b : Branch). b.weight) (branches_at branches a o)
weights-too kept branches a o =
    ap (total (λ (b : Branch). b.weight)) (at-too kept branches a o)
    ∙ total-map (λ (b : Branch). b.weight) (renumbered_one kept) (branches_at branches a o)

-- ---- sums over them
-- of what each names, by its new number and by its old one
abbrev pub NameAlike : {Y : Type 0} → (ℕ → Bool) → (ℕ → Y) → (ℕ → Y) → List Branch → Type 0
NameAlike kept new old branches = AllByRecursion (λ (b : Branch). new (new_number kept b.member) ≡ old b.member) branches

there : (kept : ℕ → Bool) (branches : List Branch) (a o : ℕ) → continuations_at (map continuation_of (renumbered kept branches)) a o ≡ map continuation_of (renumbered kept (branches_at branches a o))
there kept branches a o = continuations-are (renumbered kept branches) a o ∙ ap (map continuation_of) (at-too kept branches a o)

pub total-too : {Y : Type 0} (kept : ℕ → Bool) (F : ℕ → Y → ℤ) (new old : ℕ → Y) (branches : List Branch) (a o : ℕ) → NameAlike kept new old branches →
    total (λ (c : Continuation). F c.weight (new c.member)) (continuations_at (map continuation_of (renumbered kept branches)) a o)
    ≡ total (λ (c : Continuation). F c.weight (old c.member)) (continuations_at (map continuation_of branches) a o)
total-too {Y} kept F new old branches a o h =
    let New : Continuation → ℤ = λ c. F c.weight (new c.member) in
    let Was : Continuation → ℤ = λ c. F c.weight (old c.member) in
    let here : List Branch = branches_at branches a o in
    ap (total New) (there kept branches a o)
    ∙ total-map New continuation_of (renumbered kept here)
    ∙ total-map (λ (b : Branch). New (continuation_of b)) (renumbered_one kept) here
    ∙ total-same (λ (b : Branch). F (unsigned_abs b.weight) (new (new_number kept b.member))) (λ (b : Branch). F (unsigned_abs b.weight) (old b.member)) here
    (each-from (λ (b : Branch). new (new_number kept b.member) ≡ old b.member) (λ (b : Branch). F (unsigned_abs b.weight) (new (new_number kept b.member)) ≡ F (unsigned_abs b.weight) (old b.member)) here
    (λ b e. ap (F (unsigned_abs b.weight)) e)
    (each-filter (λ (b : Branch). new (new_number kept b.member) ≡ old b.member) (λ (b : Branch). (b.own == a) && (b.seen == o)) branches h))
    ∙ sym (total-map Was continuation_of here)
    ∙ ap (total Was) (sym (continuations-are branches a o))

pub sum-too : {Y : Type 0} (kept : ℕ → Bool) (F : ℕ → Y → ℕ) (new old : ℕ → Y) (branches : List Branch) (a o : ℕ) → NameAlike kept new old branches →
    sum_by (λ (c : Continuation). F c.weight (new c.member)) (continuations_at (map continuation_of (renumbered kept branches)) a o)
    ≡ sum_by (λ (c : Continuation). F c.weight (old c.member)) (continuations_at (map continuation_of branches) a o)
sum-too {Y} kept F new old branches a o h =
    ap unsigned_abs
    (sym (total-pos (λ (c : Continuation). F c.weight (new c.member)) (continuations_at (map continuation_of (renumbered kept branches)) a o))
    ∙ total-too kept (λ w y. pos (F w y)) new old branches a o h
    ∙ total-pos (λ (c : Continuation). F c.weight (old c.member)) (continuations_at (map continuation_of branches) a o))

-- ---- starts under new numbers
-- each start is at a kept member of so many
abbrev pub StartKept : (ℕ → Bool) → ℕ → List (ℕ × ℤ) → Type 0
StartKept kept count starts = AllByRecursion (λ (start : ℕ × ℤ). (start.0 < count) × IsTrue (kept start.0)) starts

starts-rise : (kept : ℕ → Bool) (count : ℕ) (starts : List (ℕ × ℤ)) → StartKept kept count starts → AreRisingPairs starts → AreRisingPairs (renumbered_starts kept starts)
starts-rise kept count [] k h = tt
starts-rise kept count (x ∷ []) k h = tt
starts-rise kept count (x ∷ y ∷ rest) k h = (number-rises kept x.0 y.0 h.0 k.0.1, starts-rise kept count (y ∷ rest) k.1 h.1)

same-weights : (kept : ℕ → Bool) (starts : List (ℕ × ℤ)) → map (λ (start : ℕ × ℤ). start.1) (renumbered_starts kept starts) ≡ map (λ (start : ℕ × ℤ). start.1) starts
same-weights kept starts = map-map (λ (start : ℕ × ℤ). start.1) (λ (start : ℕ × ℤ). (new_number kept start.0, start.1)) starts

pub starts-long : (kept : ℕ → Bool) (starts : List (ℕ × ℤ)) → length (renumbered_starts kept starts) ≡ length starts
starts-long kept starts = length-map starts (λ (start : ℕ × ℤ). (new_number kept start.0, start.1))

pub starts-too : (kept : ℕ → Bool) (count : ℕ) (most : ℤ) (starts : List (ℕ × ℤ)) → StartKept kept count starts → AreStarts count most starts → AreStarts (new_number kept count) most (renumbered_starts kept starts)
starts-too kept count most starts k h = record {
  some = subst (λ (n : ℕ). 1 ≤ n) (sym (starts-long kept starts)) h.some;
  rising = starts-rise kept count starts k h.rising;
  each = each-map (IsStart (new_number kept count) most) (λ (start : ℕ × ℤ). (new_number kept start.0, start.1)) starts
      (each-two (λ (start : ℕ × ℤ). (start.0 < count) × IsTrue (kept start.0)) (IsStart count most) (λ (start : ℕ × ℤ). IsStart (new_number kept count) most (new_number kept start.0, start.1)) starts
      (λ start named i. (number-rises kept start.0 count named.0 named.1, i.1)) k h.each);
  coprime = subst AreCoprime (sym (same-weights kept starts)) h.coprime;
}

pub weights_sum-too : (kept : ℕ → Bool) (starts : List (ℕ × ℤ)) → weights_sum (renumbered_starts kept starts) ≡ weights_sum starts
weights_sum-too kept starts = total-map (λ (start : ℕ × ℤ). start.1) (λ (start : ℕ × ℤ). (new_number kept start.0, start.1)) starts

pub weighted-too : (kept : ℕ → Bool) (new old : ℕ → ℤ) (starts : List (ℕ × ℤ)) → AllByRecursion (λ (start : ℕ × ℤ). new (new_number kept start.0) ≡ old start.0) starts →
    weighted (renumbered_starts kept starts) new ≡ weighted starts old
weighted-too kept new old starts h =
    total-map (λ (start : ℕ × ℤ). start.1 *ℤ new start.0) (λ (start : ℕ × ℤ). (new_number kept start.0, start.1)) starts
    ∙ total-same (λ (start : ℕ × ℤ). start.1 *ℤ new (new_number kept start.0)) (λ (start : ℕ × ℤ). start.1 *ℤ old start.0) starts
    (each-from (λ (start : ℕ × ℤ). new (new_number kept start.0) ≡ old start.0) _ starts (λ start e. ap (λ (z : ℤ). start.1 *ℤ z) e) h)
