use Rattle.std.proofs.Common.{◌≡◌, ◌≤◌, length, map, arith}
use Rattle.game_model.specs.Branches.{branch_of}
use Rattle.simplex.specs.Program.{row_count, variable_count}
use Rattle.simplex.specs.Run.{RunEnds}
use Rattle.stage_game.specs.Advice.{most_pivots}
use Rattle.stage_game.specs.Asked.{upper_variables}
use Rattle.stage_game.specs.Reading.{CanBeRead, last_of}
use Rattle.stage_game.proofs.Bounded.{upper-not-unbounded}
use Rattle.stage_game.proofs.Last.{at-last, can-be-read, readable-out}
use Rattle.stage_game.proofs.RowCounts.{upper-small}
use Rattle.stage_game.proofs.UpperFitting.{few-candidates, upper-fits}
use Rattle.stage_game.proofs.advice.upper_advice.Goals as goal

pub read_own_mix-requires-clause-last : goal.read_own_mix-requires-clause-last
read_own_mix-requires-clause-last c =
    can-be-read c.in_ok-program.program c.run-end.new.self most_pivots c.run-end.result c.in_ok-program.ensures.serves c.run-end.ensures.last c.run-end.ensures.run

pub read_wanted-requires-clause-last : goal.read_wanted-requires-clause-last
read_wanted-requires-clause-last c =
    can-be-read c.in_ok-program.program c.run-end.new.self most_pivots c.run-end.result c.in_ok-program.ensures.serves c.run-end.ensures.last c.run-end.ensures.run

pub read_informed_mixes-requires-clause-last : goal.read_informed_mixes-requires-clause-last
read_informed_mixes-requires-clause-last c =
    can-be-read c.in_ok-program.program c.run-end.new.self most_pivots c.run-end.result c.in_ok-program.ensures.serves c.run-end.ensures.last c.run-end.ensures.run

pub returns-clause-advice : goal.returns-clause-advice
returns-clause-advice c =
    let program = c.in_ok-program.program in
    let solver = c.run-end.new.self in
    record {
      program = program;
      serves = c.in_ok-program.ensures.serves;
      written = c.in_ok-program.ensures.written;
      last = last_of solver;
      run = at-last solver.last (λ d. RunEnds program most_pivots d c.run-end.result) c.run-end.ensures.last c.run-end.ensures.run;
      own = c.in_ok-own.ensures.own;
      wanted = c.in_ok-wanted.ensures;
      informed = c.in_ok-informed.ensures.informed;
    }

pub returns-clause-fits : goal.returns-clause-fits
returns-clause-fits c =
    let program = c.in_ok-program.program in
    let solver = c.run-end.new.self in
    let g = c.args.game.now in
    let run : RunEnds program most_pivots (last_of solver) c.run-end.result = at-last solver.last (λ d. RunEnds program most_pivots d c.run-end.result) c.run-end.ensures.last c.run-end.ensures.run in
    let can : CanBeRead solver = can-be-read program solver most_pivots c.run-end.result c.in_ok-program.ensures.serves c.run-end.ensures.last c.run-end.ensures.run in
    let out : length (last_of solver).out ≡ variable_count program = readable-out program (last_of solver) most_pivots c.run-end.result run in
    let inside : upper_variables g ≤ length (last_of solver).out = omega (arith, out, c.in_ok-program.ensures.variables) in
    upper-fits g c.args.points.now.members c.args.candidates.now (last_of solver)
    (record { informed = c.in_ok-informed.informed; wanted = map branch_of c.in_ok-wanted.wanted.items; own = c.in_ok-own.own.items; end = c.run-end.result }) can.readable
    (omega (arith, c.law_game.ensures.accepted.shape.states.0)) (omega (arith, c.law_game.ensures.accepted.shape.own_actions.0)) (omega (arith, c.law_game.ensures.accepted.shape.informed_actions.0))
    (omega (arith, inside)) c.requires.candidates c.in_ok-own.ensures.own c.in_ok-wanted.ensures c.in_ok-informed.ensures.informed

pub returns-clause-bounded : goal.returns-clause-bounded
returns-clause-bounded c =
    let program = c.in_ok-program.program in
    let solver = c.run-end.new.self in
    upper-not-unbounded c.args.game.now c.args.belief.now c.args.points.now.members c.args.candidates.now c.args.bits program most_pivots (last_of solver) c.run-end.result
    (omega (arith, c.law_game.ensures.accepted.shape.informed_actions.0)) c.requires.candidates c.in_ok-program.ensures.written
    (at-last solver.last (λ d. RunEnds program most_pivots d c.run-end.result) c.run-end.ensures.last c.run-end.ensures.run)

pub read_wanted-requires-clause-short : goal.read_wanted-requires-clause-short
read_wanted-requires-clause-short c = few-candidates c.args.game.now c.args.points.now.members c.args.candidates.now c.requires.candidates c.law_game.ensures.accepted.shape.states.1

pub read_wanted-requires-clause-few : goal.read_wanted-requires-clause-few
read_wanted-requires-clause-few c =
    let short : length c.args.candidates.now ≤ 24 = few-candidates c.args.game.now c.args.points.now.members c.args.candidates.now c.requires.candidates c.law_game.ensures.accepted.shape.states.1 in
    let small = upper-small c.args.game.now (length c.args.candidates.now) c.law_game.ensures.accepted.shape short in
    let rows : length (last_of c.run-end.new.self).basic ≡ row_count c.in_ok-program.program = at-last c.run-end.new.self.last (λ d. length d.basic ≡ row_count c.in_ok-program.program) c.run-end.ensures.last c.run-end.ensures.places in
    omega (arith, rows, c.in_ok-program.ensures.rows, small.1)

pub read_informed_mixes-requires-clause-few : goal.read_informed_mixes-requires-clause-few
read_informed_mixes-requires-clause-few c =
    let short : length c.args.candidates.now ≤ 24 = few-candidates c.args.game.now c.args.points.now.members c.args.candidates.now c.requires.candidates c.law_game.ensures.accepted.shape.states.1 in
    let small = upper-small c.args.game.now (length c.args.candidates.now) c.law_game.ensures.accepted.shape short in
    let rows : length (last_of c.run-end.new.self).basic ≡ row_count c.in_ok-program.program = at-last c.run-end.new.self.last (λ d. length d.basic ≡ row_count c.in_ok-program.program) c.run-end.ensures.last c.run-end.ensures.places in
    omega (arith, rows, c.in_ok-program.ensures.rows, small.1)
