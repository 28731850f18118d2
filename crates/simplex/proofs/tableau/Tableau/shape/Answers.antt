use Rattle.std.proofs.Common.{◌≡◌, ◌≤◌, sym, subst, arith}
use Rattle.std.specs.Vec.{with_items, vec_capacity}
use Rattle.std.proofs.lemmas.List.{with_items_is}
use Rattle.simplex.specs.Tableau.{RowsHold}
use Rattle.simplex.proofs.tableau.Tableau.shape.Goals as goal

pub returns-clause-room : goal.returns-clause-room
returns-clause-room c = λ height width h hold hold_next.
    let rows : (with_items c.set_height.new.rows c.set_widths.new.rows).items ≡ c.set_widths.new.rows = with_items_is c.set_height.new.rows c.set_widths.new.rows (let a = c.set_widths.auto.rows in let b = c.deref_mut.ensures.len in omega arith) in
    let next : (with_items c.set_height-2.new.rows c.set_widths-2.new.rows).items ≡ c.set_widths-2.new.rows = with_items_is c.set_height-2.new.rows c.set_widths-2.new.rows (let a = c.set_widths-2.auto.rows in let b = c.deref_mut-2.ensures.len in omega arith) in
    record {
      rows = (let a : vec_capacity c.set_height.new.rows ≡ vec_capacity c.args.self.now.rows = c.set_height.ensures.room in let b = h.rows in omega arith);
      next = (let a : vec_capacity c.set_height-2.new.rows ≡ vec_capacity c.args.self.now.next = c.set_height-2.ensures.room in let b = h.next in omega arith);
      words = (let a : vec_capacity c.args.self.now.words ≤ vec_capacity c.set_words.new.words = c.set_words.ensures.room in let b = h.words in omega arith);
      each_row = subst (RowsHold width) (sym rows) (c.set_widths.ensures.hold width (subst (RowsHold width) (sym c.deref_mut.ensures.value) (c.set_height.ensures.hold width h.each_row hold).0));
      each_next = subst (RowsHold width) (sym next) (c.set_widths-2.ensures.hold width (subst (RowsHold width) (sym c.deref_mut-2.ensures.value) (c.set_height-2.ensures.hold width h.each_next hold_next).0));
      basic = (let a : vec_capacity c.args.self.now.basic ≤ vec_capacity c.set_length.new.list = c.set_length.ensures.room in let b = h.basic in omega arith);
      out = (let a : vec_capacity c.args.self.now.out ≤ vec_capacity c.set_length-2.new.list = c.set_length-2.ensures.room in let b = h.out in omega arith);
    }
