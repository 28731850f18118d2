use Rattle.std.proofs.Common.{◌≡◌, ℕ, ℤ, List, Vec, Global, sym, subst, arith}
use Rattle.std.specs.Vec.{with_items}
use Rattle.std.proofs.lemmas.List.{with_items_is}
use Rattle.std.proofs.lemmas.Option.{IfSome_then}
use Rattle.simplex.specs.Tableau.{cost_form_of, lists_of, RowsHold, RowsWideFound}
use Rattle.simplex.proofs.Exchange.{wide_in_form}
use Rattle.simplex.proofs.tableau.Tableau.fill_next.Goals as goal

pub returns-clause-some : goal.returns-clause-some
returns-clause-some c = IfSome_then {X = ℕ × ℕ} _ c.next_rows.ensures.some
    (λ found h. wide_in_form (cost_form_of c.args.self.now) c.args.leave c.args.place found.0 found.1 c.requires.shaped (subst (λ (rows : List (Vec ℤ Global)). RowsWideFound (lists_of rows) c.args.leave c.args.place found.0 found.1) c.deref.ensures.value h))

pub returns-clause-room : goal.returns-clause-room
returns-clause-room c = λ height width h.
    let items : (with_items c.args.self.now.next c.next_rows.new.next).items ≡ c.next_rows.new.next = with_items_is c.args.self.now.next c.next_rows.new.next (let a = c.next_rows.auto.next in let b = c.deref_mut.ensures.len in omega arith) in
    record {
      rows = h.rows;
      next = h.next;
      words = h.words;
      each_row = h.each_row;
      each_next = subst (RowsHold width) (sym items) (c.next_rows.ensures.room width (subst (RowsHold width) (sym c.deref_mut.ensures.value) h.each_next));
      basic = h.basic;
      out = h.out;
    }
