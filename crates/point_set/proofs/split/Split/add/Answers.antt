use Rattle.std.proofs.Common.{◌≡◌, ℕ, ◌<◌, ◌≤◌, ◌+◌, List, length, length-set, set, take, get_or, arith, rules, subst, sym, ◌∙◌, ap}
use Rattle.std.specs.Prelude.{ℤ, pos, FitsSigned}
use Rattle.std.specs.Int.{w128}
use Rattle.std.specs.List.{AllByRecursion, copy_within}
use Rattle.std.proofs.lemmas.Int.{to_z-of_z}
use Rattle.std.proofs.lemmas.List.{length-take-le}
use Rattle.point_set.specs.Takes.{IsIndex, IsSmall, inserted}
use Rattle.point_set.proofs.Placing.{room-for-new, sum-fits, written-new, written-there}
use Rattle.point_set.proofs.split.Split.add.Goals as goal
use Rattle.point_set.proofs.split.Split.add.Goals.{else-index-self-via-then-index-self+else-self-index, else-index-self-via-else-index-self}

pub returns-then-self-index : goal.returns-then-self-index
returns-then-self-index c =
    let items : List (ℕ × ℤ) = c.self.inside.items in
    let n : ℕ = c.self.inside.count in
    let k : ℕ = c.args.number in
    let w : ℤ = c.args.weight in
    let index : ℕ = c.index_of-index.result in
    let here : IsIndex k (take n items) index = c.index_of-index.ensures in
    let within : n ≤ length items = subst (λ (m : ℕ). n ≤ m) (sym c.self.invariant.1) c.self.invariant.0 in
    let inside : index < n = c.if-index-self.true in
    let same : (get_or items index (0, pos 0)).0 ≡ k = c.if-self-index.true in
    let small : AllByRecursion (λ (item : ℕ × ℤ). IsSmall item.1) (take n items) = subst (λ (xs : List (ℕ × ℤ)). AllByRecursion (λ (item : ℕ × ℤ). IsSmall item.1) xs) (sym c.self.view_is) c.requires.small in
    let f = sum-fits w items n index within inside small c.requires.weight in
    let weight_fits : FitsSigned w128 w = c.ranges.weight in
    let old_fits = f.old_fits in
    let sum_fits = f.sum_fits in
    simp to_z-of_z (written-there k w items n index within here inside same ∙ ap (inserted k w) c.self.view_is)

pub copy_within-requires-clause-dest_in_bounds : goal.copy_within-requires-clause-dest_in_bounds
copy_within-requires-clause-dest_in_bounds c =
    let items : List (ℕ × ℤ) = c.self.inside.items in
    let n : ℕ = c.self.inside.count in
    let k : ℕ = c.args.number in
    let w : ℤ = c.args.weight in
    let index : ℕ = c.index_of-index.result in
    let here : IsIndex k (take n items) index = c.index_of-index.ensures in
    let within : n ≤ length items = subst (λ (m : ℕ). n ≤ m) (sym c.self.invariant.1) c.self.invariant.0 in
    let apart : index < n → (get_or items index (0, pos 0)).0 ≡ k → ⊥ =
    elim c.else-index-self.branch [
      | else-index-self-via-then-index-self+else-self-index x ↦ (λ l e. search rules)
      | else-index-self-via-else-index-self x ↦ (λ l e. absurd (omega arith))
    ] in
    let room : n < 24 = room-for-new k w items n index 24 within here apart (subst (λ (xs : List (ℕ × ℤ)). length (inserted k w xs) ≤ 24) (sym c.self.view_is) c.requires.room) in
    let upto : index ≤ n = omega (arith, here.upto, length-take-le n items within) in
    let more : n < length items = omega (arith, c.self.invariant.1) in
    search (rules, arith)

pub bounds-self-inside-index-2 : goal.bounds-self-inside-index-2
bounds-self-inside-index-2 c =
    let items : List (ℕ × ℤ) = c.self.inside.items in
    let n : ℕ = c.self.inside.count in
    let k : ℕ = c.args.number in
    let w : ℤ = c.args.weight in
    let index : ℕ = c.index_of-index.result in
    let here : IsIndex k (take n items) index = c.index_of-index.ensures in
    let within : n ≤ length items = subst (λ (m : ℕ). n ≤ m) (sym c.self.invariant.1) c.self.invariant.0 in
    let apart : index < n → (get_or items index (0, pos 0)).0 ≡ k → ⊥ =
    elim c.else-index-self.branch [
      | else-index-self-via-then-index-self+else-self-index x ↦ (λ l e. search rules)
      | else-index-self-via-else-index-self x ↦ (λ l e. absurd (omega arith))
    ] in
    let room : n < 24 = room-for-new k w items n index 24 within here apart (subst (λ (xs : List (ℕ × ℤ)). length (inserted k w xs) ≤ 24) (sym c.self.view_is) c.requires.room) in
    let upto : index ≤ n = omega (arith, here.upto, length-take-le n items within) in
    let more : n < length items = omega (arith, c.self.invariant.1) in
    omega arith

pub invariant_of-self-2 : goal.invariant_of-self-2
invariant_of-self-2 c =
    let items : List (ℕ × ℤ) = c.self.inside.items in
    let n : ℕ = c.self.inside.count in
    let k : ℕ = c.args.number in
    let w : ℤ = c.args.weight in
    let index : ℕ = c.index_of-index.result in
    let here : IsIndex k (take n items) index = c.index_of-index.ensures in
    let within : n ≤ length items = subst (λ (m : ℕ). n ≤ m) (sym c.self.invariant.1) c.self.invariant.0 in
    let apart : index < n → (get_or items index (0, pos 0)).0 ≡ k → ⊥ =
    elim c.else-index-self.branch [
      | else-index-self-via-then-index-self+else-self-index x ↦ (λ l e. search rules)
      | else-index-self-via-else-index-self x ↦ (λ l e. absurd (omega arith))
    ] in
    let room : n < 24 = room-for-new k w items n index 24 within here apart (subst (λ (xs : List (ℕ × ℤ)). length (inserted k w xs) ≤ 24) (sym c.self.view_is) c.requires.room) in
    let upto : index ≤ n = omega (arith, here.upto, length-take-le n items within) in
    let more : n < length items = omega (arith, c.self.invariant.1) in
    let moved : List (ℕ × ℤ) = c.copy_within.new.self in
    let long : length moved ≡ length items = c.copy_within.ensures.len in
    let weight_fits : FitsSigned w128 w = c.ranges.weight in
    (omega arith, length-set moved index _ ∙ long ∙ c.self.invariant.1)

pub returns : goal.returns
returns c =
    let items : List (ℕ × ℤ) = c.self.inside.items in
    let n : ℕ = c.self.inside.count in
    let k : ℕ = c.args.number in
    let w : ℤ = c.args.weight in
    let index : ℕ = c.index_of-index.result in
    let here : IsIndex k (take n items) index = c.index_of-index.ensures in
    let within : n ≤ length items = subst (λ (m : ℕ). n ≤ m) (sym c.self.invariant.1) c.self.invariant.0 in
    let apart : index < n → (get_or items index (0, pos 0)).0 ≡ k → ⊥ =
    elim c.else-index-self.branch [
      | else-index-self-via-then-index-self+else-self-index x ↦ (λ l e. search rules)
      | else-index-self-via-else-index-self x ↦ (λ l e. absurd (omega arith))
    ] in
    let room : n < 24 = room-for-new k w items n index 24 within here apart (subst (λ (xs : List (ℕ × ℤ)). length (inserted k w xs) ≤ 24) (sym c.self.view_is) c.requires.room) in
    let upto : index ≤ n = omega (arith, here.upto, length-take-le n items within) in
    let more : n < length items = omega (arith, c.self.invariant.1) in
    let weight_fits : FitsSigned w128 w = c.ranges.weight in
    let moved : List (ℕ × ℤ) = c.copy_within.new.self in
    let done : take (n + 1) (set (copy_within items index n (index + 1)) index (k, w)) ≡ inserted k w (take n items) = written-new k w items n index more here apart in
    let after : moved ≡ copy_within items index n (index + 1) = search rules in
    let view : take n items ≡ c.args.self.now = c.self.view_is in
    simp to_z-of_z (cc)
