use Rattle.std.proofs.Common.{ℕ, ◌≤◌, List, length, get_or, arith, subst, sym}
use Rattle.std.specs.Prelude.{ℤ}
use Rattle.std.specs.List.{AllByRecursion}
use Rattle.point_set.specs.Split.{AreRisingPairs}
use Rattle.point_set.specs.Takes.{IsSmall, inserted}
use Rattle.point_set.proofs.Rests.{rests-rise, rests-room, rests-small}
use Rattle.point_set.proofs.split.give_corners.Goals as goal

pub add-requires-clause-rising : goal.add-requires-clause-rising
add-requires-clause-rising c =
    let f : ℕ → ℕ = λ s. get_or c.args.corners.now s 0 in
    subst AreRisingPairs (sym c.loop-s.invariant) (rests-rise f c.args.rest.now c.args.out.now c.loop-s.s c.requires.rising)

pub add-requires-clause-small : goal.add-requires-clause-small
add-requires-clause-small c =
    let f : ℕ → ℕ = λ s. get_or c.args.corners.now s 0 in
    subst (λ (xs : List (ℕ × ℤ)). AllByRecursion (λ (item : ℕ × ℤ). IsSmall item.1) xs) (sym c.loop-s.invariant)
    (rests-small f c.args.rest.now c.args.out.now c.loop-s.s (omega (arith, c.requires.places)) (omega (arith, c.requires.states)) c.requires.items c.requires.rest)

pub add-requires-clause-room : goal.add-requires-clause-room
add-requires-clause-room c =
    let f : ℕ → ℕ = λ s. get_or c.args.corners.now s 0 in
    let s : ℕ = c.loop-s.s in
    let any : (w : ℤ) → length (inserted (f s) w c.loop-s.out) ≤ 24 =
    λ w. subst (λ (xs : List (ℕ × ℤ)). length (inserted (f s) w xs) ≤ 24) (sym c.loop-s.invariant)
    (rests-room f (length c.args.corners.now) c.args.rest.now c.args.out.now s w (omega arith) c.requires.states c.requires.rising c.requires.few) in
    any _
