use Rattle.std.proofs.Common.{rules, arith, List, [], ℕ, ◌≡◌, ◌∷◌, ◌+◌, ◌∙◌, drop, get_or, refl, subst}
use Rattle.simplex.specs.declared.End.TheVariants.{Optimal}
use Rattle.backup.specs.Tries.{tried_bits}
use Rattle.backup.specs.UpperRuns.{run_data}
use Rattle.backup.specs.UpperVisits.{IsUpperRun}
use Rattle.backup.proofs.UpperRuns.{IsBestSoFar, bits-next, bits-none, lesser-is, so-far-all, so-far-last, so-far-more, so-far-none, sound-lesser}
use Rattle.backup.proofs.upper_visits.best_run.Goals as goal
use Rattle.backup.proofs.upper_visits.best_run.Goals.{in-Optimal, in_default}

pub loop-bits-init : goal.loop-bits-init
loop-bits-init c = record {
  rows = refl;
  variables = refl;
  so_far = so-far-none c.args.game.now c.args.belief.now c.args.points.now.members c.args.priced.now (run_data c.args.first);
  sound = c.requires.sound;
}

pub returns-clause-run : goal.returns-clause-run
returns-clause-run c =
    let none : drop c.loop-bits.bits-index tried_bits ≡ [] = bits-none c.args.tried.now c.loop-bits.bits-index c.requires.tried (omega arith) in
    so-far-all c.args.game.now c.args.belief.now c.args.points.now.members c.args.priced.now (run_data c.args.first) (run_data c.loop-bits.best)
    (subst (λ (left : List ℕ). IsBestSoFar c.args.game.now c.args.belief.now c.args.points.now.members c.args.priced.now (run_data c.args.first) left (run_data c.loop-bits.best)) none c.loop-bits.invariant.so_far)

pub returns-then-is_last-clause-run : goal.returns-then-is_last-clause-run
returns-then-is_last-clause-run c =
    let bits : ℕ = get_or c.args.tried.now c.loop-bits.bits-index 0 in
    let left : List ℕ = drop (c.loop-bits.bits-index + 1) tried_bits in
    let run : IsUpperRun c.args.game.now c.args.belief.now c.args.points.now.members c.args.priced.now bits (run_data c.in_ok-run.run') = search rules in
    let next : drop c.loop-bits.bits-index tried_bits ≡ bits ∷ left = bits-next c.args.tried.now c.loop-bits.bits-index c.requires.tried (omega arith) in
    let end : c.in_ok-run.run'.advice.end ≡ Optimal = elim c.match-matches.branch [ in-Optimal w ↦ search rules | in_default w ↦ absurd (search rules) ] in
    let lesser = lesser-is c.loop-bits.best c.in_ok-run.run' c.lesser-best.result c.lesser-best.ensures.kept c.lesser-best.ensures.taken in
    let before : IsBestSoFar c.args.game.now c.args.belief.now c.args.points.now.members c.args.priced.now (run_data c.args.first) (bits ∷ left) (run_data c.loop-bits.best) =
    subst (λ (bs : List ℕ). IsBestSoFar c.args.game.now c.args.belief.now c.args.points.now.members c.args.priced.now (run_data c.args.first) bs (run_data c.loop-bits.best)) next c.loop-bits.invariant.so_far in
    so-far-last c.args.game.now c.args.belief.now c.args.points.now.members c.args.priced.now (run_data c.args.first) bits left (run_data c.loop-bits.best) (run_data c.in_ok-run.run') (run_data c.lesser-best.result) before run end lesser

pub returns-then-is_last-clause-sound : goal.returns-then-is_last-clause-sound
returns-then-is_last-clause-sound c =
    sound-lesser c.args.game.now c.args.points.now.members (run_data c.loop-bits.best) (run_data c.in_ok-run.run') (run_data c.lesser-best.result) c.loop-bits.invariant.sound c.in_ok-run.ensures.sound
    (lesser-is c.loop-bits.best c.in_ok-run.run' c.lesser-best.result c.lesser-best.ensures.kept c.lesser-best.ensures.taken)

pub loop-bits-preserved : goal.loop-bits-preserved
loop-bits-preserved c =
    let bits : ℕ = get_or c.args.tried.now c.loop-bits.bits-index 0 in
    let left : List ℕ = drop (c.loop-bits.bits-index + 1) tried_bits in
    let run : IsUpperRun c.args.game.now c.args.belief.now c.args.points.now.members c.args.priced.now bits (run_data c.in_ok-run.run') = search rules in
    let next : drop c.loop-bits.bits-index tried_bits ≡ bits ∷ left = bits-next c.args.tried.now c.loop-bits.bits-index c.requires.tried (omega arith) in
    let end : c.in_ok-run.run'.advice.end ≡ Optimal → ⊥ = elim c.match-matches.branch [ in-Optimal w ↦ absurd (search rules) | in_default w ↦ search rules ] in
    let lesser = lesser-is c.loop-bits.best c.in_ok-run.run' c.lesser-best.result c.lesser-best.ensures.kept c.lesser-best.ensures.taken in
    let before : IsBestSoFar c.args.game.now c.args.belief.now c.args.points.now.members c.args.priced.now (run_data c.args.first) (bits ∷ left) (run_data c.loop-bits.best) =
    subst (λ (bs : List ℕ). IsBestSoFar c.args.game.now c.args.belief.now c.args.points.now.members c.args.priced.now (run_data c.args.first) bs (run_data c.loop-bits.best)) next c.loop-bits.invariant.so_far in
    record {
      rows = c.in_ok-run.ensures.rows ∙ c.loop-bits.invariant.rows;
      variables = c.in_ok-run.ensures.variables ∙ c.loop-bits.invariant.variables;
      so_far = so-far-more c.args.game.now c.args.belief.now c.args.points.now.members c.args.priced.now (run_data c.args.first) bits left (run_data c.loop-bits.best) (run_data c.in_ok-run.run') (run_data c.lesser-best.result) before run end lesser;
      sound = sound-lesser c.args.game.now c.args.points.now.members (run_data c.loop-bits.best) (run_data c.in_ok-run.run') (run_data c.lesser-best.result) c.loop-bits.invariant.sound c.in_ok-run.ensures.sound lesser;
    }
