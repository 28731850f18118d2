use Rattle.std.proofs.Common.{◌≡◌, ◌≤◌, List, ℤ, length, map, subst, arith}
use Rattle.game_model.specs.Branches.{branch_of}
use Rattle.simplex.specs.Program.{variable_count}
use Rattle.simplex.specs.Run.{RunEnds}
use Rattle.stage_game.specs.Advice.{AreStepsRead, most_pivots}
use Rattle.stage_game.specs.Asked.{lower_variables}
use Rattle.stage_game.specs.Reading.{CanBeRead, last_of}
use Rattle.stage_game.proofs.Bounded.{lower-not-unbounded}
use Rattle.stage_game.proofs.Last.{at-last, can-be-read, readable-out}
use Rattle.stage_game.proofs.LowerFitting.{lower-fits}
use Rattle.stage_game.proofs.advice.lower_advice.Goals as goal

pub read_own_mix-requires-clause-last : goal.read_own_mix-requires-clause-last
read_own_mix-requires-clause-last c =
    can-be-read c.in_ok-program.program c.run-end.new.self most_pivots c.run-end.result c.in_ok-program.ensures.serves c.run-end.ensures.last c.run-end.ensures.run

pub read_steps-requires-clause-last : goal.read_steps-requires-clause-last
read_steps-requires-clause-last c =
    can-be-read c.in_ok-program.program c.run-end.new.self most_pivots c.run-end.result c.in_ok-program.ensures.serves c.run-end.ensures.last c.run-end.ensures.run

pub read_informed_mixes-requires-clause-last : goal.read_informed_mixes-requires-clause-last
read_informed_mixes-requires-clause-last c =
    can-be-read c.in_ok-program.program c.run-end.new.self most_pivots c.run-end.result c.in_ok-program.ensures.serves c.run-end.ensures.last c.run-end.ensures.run

pub returns-clause-advice : goal.returns-clause-advice
returns-clause-advice c =
    let program = c.in_ok-program.program in
    let solver = c.run-end.new.self in
    record {
      program = program;
      serves = c.in_ok-program.ensures.serves;
      written = c.in_ok-program.ensures.written;
      last = last_of solver;
      run = at-last solver.last (λ d. RunEnds program most_pivots d c.run-end.result) c.run-end.ensures.last c.run-end.ensures.run;
      own = c.in_ok-own.ensures.own;
      next = subst (λ (own : List ℤ). AreStepsRead c.args.game.now c.args.candidates.now (last_of solver) own (map branch_of c.in_ok-next.next.items)) c.deref.ensures.value c.in_ok-next.ensures;
      informed = c.in_ok-informed.ensures.informed;
    }

pub returns-clause-fits : goal.returns-clause-fits
returns-clause-fits c =
    let program = c.in_ok-program.program in
    let solver = c.run-end.new.self in
    let g = c.args.game.now in
    let run : RunEnds program most_pivots (last_of solver) c.run-end.result = at-last solver.last (λ d. RunEnds program most_pivots d c.run-end.result) c.run-end.ensures.last c.run-end.ensures.run in
    let can : CanBeRead solver = can-be-read program solver most_pivots c.run-end.result c.in_ok-program.ensures.serves c.run-end.ensures.last c.run-end.ensures.run in
    let out : length (last_of solver).out ≡ variable_count program = readable-out program (last_of solver) most_pivots c.run-end.result run in
    let inside : lower_variables g (length c.args.candidates.now) ≤ length (last_of solver).out = omega (arith, out, c.in_ok-program.ensures.variables) in
    lower-fits g (length c.args.nodes.now.members) c.args.candidates.now (last_of solver)
    (record { own = c.in_ok-own.own.items; next = map branch_of c.in_ok-next.next.items; informed = c.in_ok-informed.informed; end = c.run-end.result }) can.readable
    (omega (arith, c.law_game.ensures.accepted.shape.own_actions.0)) (omega (arith, c.law_game.ensures.accepted.shape.informed_actions.0)) inside
    c.requires.candidates.some c.requires.candidates.named c.in_ok-own.ensures.own
    (subst (λ (own : List ℤ). AreStepsRead c.args.game.now c.args.candidates.now (last_of solver) own (map branch_of c.in_ok-next.next.items)) c.deref.ensures.value c.in_ok-next.ensures) c.in_ok-informed.ensures.informed

pub returns-clause-bounded : goal.returns-clause-bounded
returns-clause-bounded c =
    let program = c.in_ok-program.program in
    let solver = c.run-end.new.self in
    lower-not-unbounded c.args.game.now c.args.belief.now c.args.nodes.now.members c.args.candidates.now c.args.bits program most_pivots (last_of solver) c.run-end.result
    (omega (arith, c.law_game.ensures.accepted.shape.informed_actions.0)) c.in_ok-program.ensures.written
    (at-last solver.last (λ d. RunEnds program most_pivots d c.run-end.result) c.run-end.ensures.last c.run-end.ensures.run)
