-- What solving found, with its start and its outcome, fits and stands as the parts of a certificate.
use Rattle.std.proofs.Common.{◌≡◌, ℕ, zero, suc, ◌*◌, ◌<◌, ◌≤◌, Bool, cond, ◌==◌, List, inl, inr, length, refl, ap, ap₂, sym, subst, ◌∙◌, arith}
use Rattle.std.specs.Prelude.{ℤ, pos, unsigned_abs, ◌+ℤ◌, ◌*ℤ◌}
use Rattle.std.proofs.lemmas.Bool.Decides.{eqb_tells}
use Rattle.std.proofs.lemmas.Int.{ints}
use Rattle.scaled_num.specs.Share.{at}
use Rattle.belief.specs.Beliefs.{corner_of}
use Rattle.controller.specs.Certificates.{Closed, Ending, FractionData, Full, IsShort, IsWithinGap, OutcomeHolds, Trials, first_total, node_product}
use Rattle.controller.specs.Members.{Rules}
use Rattle.controller.specs.Parts.{PartsFit, PartsStand, certificate_of, no_fraction, proved_lower}
use Rattle.controller.specs.Starts.{MakesUpMultiple, most_from}
use Rattle.controller.proofs.OneStart.{one-start, product-is}
use Rattle.controller.proofs.Places.{hold-everywhere}
use Rattle.game_model.specs.Game.{GameData, IsGame, unit}
use Rattle.point_set.proofs.Rests.{corner-at, corner-other}
use Rattle.hsvi_trial.specs.Data.{solved_parts}
use Rattle.hsvi_trial.specs.Run.{IsOutcome, IsSolveRun, IsWithinLimits, SolvedData, Task}
use Rattle.hsvi_trial.specs.Sets.{AreStanding, Sets}
use Rattle.hsvi_trial.specs.Starts.{AreNear, AreOpen, IsStart, StartData, lower_of, upper_of}
use Rattle.hsvi_trial.proofs.FewMembers.{few-nodes, few-points}
use Rattle.hsvi_trial.proofs.OneStarts.{start-one}
use Rattle.hsvi_trial.proofs.Standing.{some-corner}
use Rattle.hsvi_trial.proofs.StartFits.{StartsThere, single-multiple, start-there}

-- ---- the parts fit
none-short : IsShort no_fraction
none-short = (omega arith, omega (arith, ints), omega arith)

some-points : (g : GameData) (sets : Sets) → IsGame g → AreStanding g sets → g.shape.states ≤ length sets.points
some-points g sets game standing = upto g.shape.states (length sets.points) (some-corner g sets game standing)
  where
    upto : (n m : ℕ) → ((s : ℕ) → s < n → s < m) → n ≤ m
    upto zero m h = omega arith
    upto (suc n) m h = let last : n < m = h n (omega arith) in omega arith

start-of : (task : Task) (solved : SolvedData) → IsGame task.game → AreStanding task.game solved.sets →
    IsSolveRun task solved →
    StartsThere task.game solved.sets.points solved.start.points solved.start.multiple
start-of task solved game standing run =
    start-there task.game game solved.sets solved.start standing.points_fit run.start

pub solved-fit : (task : Task) (solved : SolvedData) → IsGame task.game → IsWithinLimits task →
    AreStanding task.game solved.sets → IsSolveRun task solved → PartsFit task.game (solved_parts task.gap solved)
solved-fit task solved game limits standing run = record {
  some_node = let inside = run.start.node.inside in omega arith;
  most_nodes = few-nodes task run.seeds solved.sets solved.journal run.cut game run.run;
  some_points = some-points task.game solved.sets game standing;
  most_points = few-points task run.seeds solved.sets solved.journal run.cut game run.run;
  nodes = standing.nodes_fit;
  points = standing.points_fit;
  starts = record {
    from = one-start (length solved.sets.nodes) solved.start.node (pos most_from) run.start.node.inside
        (omega (arith, ints));
    from_sum = omega (arith, ints);
    over = there.over;
    multiple = there.multiple_fits;
    single = λ _ one.
        single-multiple task.game solved.sets.points solved.start.points solved.start.multiple standing.points_fit
        there one;
  };
  gap = limits.gap;
  short = (none-short, none-short, none-short);
}
  where
    there : StartsThere task.game solved.sets.points solved.start.points solved.start.multiple
    there = start-of task solved game standing run

pub solved-start : (task : Task) (solved : SolvedData) → IsGame task.game → IsWithinLimits task →
    AreStanding task.game solved.sets → IsSolveRun task solved →
    MakesUpMultiple solved.sets.points solved.start.points solved.start.multiple task.game.first task.game.shape.states
solved-start task solved game limits standing run = (start-of task solved game standing run).made

-- ---- the parts stand
corner-weight : (states j s : ℕ) → j < states → s < states →
    unsigned_abs (at (corner_of states j) s) ≡ cond (s == j) 1 0
corner-weight states j s lj ls = elim (eqb_tells s j) [
  | inl e ↦ ap unsigned_abs (ap (at (corner_of states j)) e.1 ∙ corner-at states j lj)
      ∙ sym (ap {B = ℕ} (λ (b : Bool). cond b 1 0) e.0)
  | inr e ↦ ap unsigned_abs (corner-other states j s ls e.1) ∙ sym (ap {B = ℕ} (λ (b : Bool). cond b 1 0) e.0)
]

-- the lower bound that the parts prove is that of the start; their upper bound is so as it stands
lower-is : (g : GameData) → IsGame g → (gap : FractionData) (solved : SolvedData) →
    proved_lower g (solved_parts gap solved) ≡ lower_of g solved.sets solved.start
lower-is g game gap solved =
    ap₂ (λ (num den : ℤ). fraction num den)
    (once (node_product g solved.sets.nodes solved.start.node)
    ∙ product-is g game solved.sets.nodes solved.start.node)
    (alone (first_total g * unit))
  where
    fraction : ℤ → ℤ → FractionData
    fraction num den = record { num = num; den = den }

    once : (z : ℤ) → pos 1 *ℤ z +ℤ pos 0 ≡ z
    once z = omega (arith, ints)

    alone : (n : ℕ) → (pos 1 +ℤ pos 0) *ℤ pos n ≡ pos n
    alone n = omega (arith, ints)

abbrev IsNearAt : GameData → FractionData → SolvedData → FractionData → Type 0
IsNearAt g gap solved lower = AreNear lower (upper_of g solved.sets solved.start) gap

outcome-holds : (task : Task) (solved : SolvedData) (cut : Bool) (outcome : Ending) → IsGame task.game →
    IsStart task.game solved.sets solved.start → IsOutcome task solved.sets cut outcome →
    OutcomeHolds (certificate_of task.game (solved_parts task.gap solved)) outcome
outcome-holds task solved cut outcome game is = by outcome
  where
    g : GameData
    g = task.game

    near-at : StartData → Type 0
    near-at start = AreNear (lower_of g solved.sets start) (upper_of g solved.sets start) task.gap

    far : AreOpen g task.gap solved.sets → IsWithinGap (certificate_of g (solved_parts task.gap solved)) → ⊥
    far (start, was, apart) near =
        apart (subst near-at (start-one g solved.sets solved.start start is was)
        (subst (IsNearAt g task.gap solved) (lower-is g game task.gap solved) near))

    by : (outcome : Ending) → IsOutcome task solved.sets cut outcome →
        OutcomeHolds (certificate_of g (solved_parts task.gap solved)) outcome
    by Closed (start, was, near) = subst (IsNearAt g task.gap solved) (sym (lower-is g game task.gap solved))
        (subst near-at (start-one g solved.sets start solved.start was is) near)
    by Trials h = far h.0
    by Full h = far h.0

rules-hold : (task : Task) (solved : SolvedData) → IsGame task.game → IsWithinLimits task →
    AreStanding task.game solved.sets → IsSolveRun task solved →
    Rules task.game (certificate_of task.game (solved_parts task.gap solved))
rules-hold task solved game limits standing run = record {
  node = λ i s c li ls lc. standing.nodes_stand i li s c ls lc;
  corner = λ j lj inside s ls.
      ap (λ (belief : List ℤ). unsigned_abs (at belief s)) (standing.corners j inside)
      ∙ corner-weight task.game.shape.states j s inside ls;
  split = λ j a o s lj la lo ls. (standing.points_stand j lj).split a o s la lo ls;
  value = λ j a lj la. (standing.points_stand j lj).value a la;
  start = solved-start task solved game limits standing run;
  bound = ((refl, refl), (refl, refl), (refl, refl));
  outcome = outcome-holds task solved run.cut solved.outcome game run.start run.outcome;
}

pub solved-stand : (task : Task) (solved : SolvedData) → IsGame task.game → IsWithinLimits task →
    AreStanding task.game solved.sets → IsSolveRun task solved → PartsStand task.game (solved_parts task.gap solved)
solved-stand task solved game limits standing run =
    hold-everywhere task.game (certificate_of task.game (solved_parts task.gap solved))
    (rules-hold task solved game limits standing run)
