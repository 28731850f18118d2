use Rattle.std.proofs.Common.{◌≡◌, ◌<◌, ◌+◌, ◌^◌, ℕ, ℤ, Vec, Global, true, false, length, ap, sym, ◌∙◌, arith}
use Rattle.std.proofs.lemmas.List.{length-map}
use Rattle.simplex.specs.Program.{row_count, variable_count}
use Rattle.simplex.specs.CostForm.{IsDictionary}
use Rattle.simplex.specs.Tableau.{cost_form_of, IsStanding}
use Rattle.simplex.specs.Solver.{State}
use Rattle.simplex.proofs.Unique.{Stands-dictionary, Stands-determines}
use Rattle.simplex.proofs.Run.{shaped}
use Rattle.simplex.proofs.BothRuns.{run_ends_from, dictionary_from, narrow_with_goal, feasible_with_goal}
use Rattle.simplex.proofs.There.{optimum_there, rows_kept_there}
use Rattle.simplex.proofs.EachDictionary.{Stands-feasible}
use Rattle.simplex.proofs.solver.Solver.run.Goals as goal

dictionary : (c : goal.After-run) → IsDictionary c.args.program.now (cost_form_of c.run.new.self)
dictionary c = Stands-dictionary _ _ _ c.run.ensures.run.stands

standing_of : (c : goal.After-run) → IsStanding (cost_form_of c.run.new.self)
standing_of c =
    let few_rows : row_count c.args.program.now < 2 ^ 30 = (let a = c.requires.fits.rows_fit in let b = ap (λ (s : State). s.most_rows) c.self.view_is in let e = c.self.invariant.few_rows in omega arith) in
    let few_variables : variable_count c.args.program.now < 2 ^ 30 = (let a = c.requires.fits.variables_fit in let b = ap (λ (s : State). s.most_variables) c.self.view_is in let e = c.self.invariant.few_variables in omega arith) in
    record { p = c.args.program.now; dictionary = dictionary c; shaped = shaped c.args.program.now (cost_form_of c.run.new.self) few_rows few_variables (dictionary c) c.run.ensures.narrow }

pub invariant_of-self : goal.invariant_of-self
invariant_of-self c =
    let m : ℕ = row_count c.args.program.now in
    let id : IsDictionary c.args.program.now (cost_form_of c.run.new.self) = dictionary c in
    let high : length c.run.new.self.rows.items ≡ m + 1 = sym (length-map c.run.new.self.rows.items (λ (v : Vec ℤ Global). v.items)) ∙ id.high in
    let count : c.len.result ≡ m = (let a = c.len.ensures in let b = c.args.program.now.limits.ok.0 in omega arith) in
    record {
      few_rows = c.self.invariant.few_rows;
      few_variables = c.self.invariant.few_variables;
      reserved = λ some.
          let i = c.self.invariant.reserved some in
          record {
            rows = (let a = c.shape.ensures.both in let b = c.shape.ensures.high in let e = i.rows in omega arith);
            next = (let a = c.shape.ensures.both_next in let b = c.shape.ensures.high in let h = c.shape.ensures.next.high in let n = c.run.ensures.next.high in let e = i.next in omega arith);
            tableau = c.run.ensures.room _ _ (c.shape.ensures.room _ _ i.tableau i.each_spare i.each_spare_next);
            spare_room = (let a = c.shape.ensures.spare_room in let b = i.spare_room in omega arith);
            spare_next_room = (let a = c.shape.ensures.spare_next_room in let b = i.spare_next_room in omega arith);
            each_spare = c.shape.ensures.spare_hold _ _ i.tableau i.each_spare;
            each_spare_next = c.shape.ensures.spare_next_hold _ _ i.tableau i.each_spare_next;
          };
      standing = λ e. standing_of c;
      nothing = λ e. absurd (let bad : true ≡ false = e in (cc));
    }

pub returns-clause-run : goal.returns-clause-run
returns-clause-run c = run_ends_from c.args.program.now c.args.pivots (cost_form_of c.run.new.self) c.run.result c.run.ensures.run

pub returns-clause-optimum : goal.returns-clause-optimum
returns-clause-optimum c = λ e. optimum_there c.args.program.now (cost_form_of c.run.new.self) (dictionary c) (standing_of c) (c.run.ensures.optimum e)

pub returns-clause-places : goal.returns-clause-places
returns-clause-places c = (dictionary c).parted.basic_long

pub returns-clause-out_places : goal.returns-clause-out_places
returns-clause-out_places c = (dictionary c).parted.out_long

pub returns-clause-dictionary : goal.returns-clause-dictionary
returns-clause-dictionary c = dictionary_from c.args.program.now (cost_form_of c.run.new.self) (dictionary c)

pub returns-clause-narrow : goal.returns-clause-narrow
returns-clause-narrow c = narrow_with_goal c.args.program.now (cost_form_of c.run.new.self) (dictionary c) c.run.ensures.narrow

pub returns-clause-feasible : goal.returns-clause-feasible
returns-clause-feasible c = feasible_with_goal (cost_form_of c.run.new.self) (Stands-feasible _ _ _ c.requires.program c.run.ensures.run.stands)

pub returns-clause-rows_kept : goal.returns-clause-rows_kept
returns-clause-rows_kept c =
    rows_kept_there c.args.program.now (cost_form_of c.run.new.self) (dictionary c) (Stands-determines _ _ _ c.run.ensures.run.stands) (Stands-feasible _ _ _ c.requires.program c.run.ensures.run.stands)
