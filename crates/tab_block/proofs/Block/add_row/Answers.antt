use Rattle.std.proofs.Common.{◌≡◌, ◌≤◌, ◌+◌, ◌*◌, ◌++◌, ◌∷◌, [], ℕ, List, Bool, true, false, cond, ap, arith, length, sym, subst, ◌∙◌}
use Rattle.std.specs.Prelude.{ℤ, ◌-◌, ◌/◌, is_ok, vec_len, vec_capacity}
use Rattle.tab_block.specs.Rows.{Rows, rows_in, spare_of, with_more}
use Rattle.tab_block.proofs.Cells.{cells-grown, room-for, rows-count, rows-grown}
use Rattle.tab_block.proofs.Block.add_row.Goals as goal

pub prove-unreachable-requires : goal.prove-unreachable-requires
prove-unreachable-requires c =
    let w : ℕ = c.self.inside.width in
    let n : ℕ = c.self.inside.count in
    let same : spare_of c.args.self.now ≡ c.self.inside.cells / w - n =
    sym (ap spare_of c.self.view_is) ∙ ap (λ (k : ℕ). c.self.inside.cells / w - k) (rows-count w n c.self.inside.filled.items) in
    let room : (n + 1) * w ≤ c.self.inside.cells = room-for c.self.inside.cells w n c.self.invariant.width (omega (arith, same, c.requires.room)) in
    let wide : length c.args.row.now ≡ w = c.requires.wide ∙ sym (ap (λ (block : Rows). block.width) c.self.view_is) in
    let long : vec_len c.self.inside.filled ≡ n * w = c.self.inside.filled.ok.0 ∙ c.self.invariant.filled in
    let next : (n + 1) * w ≡ n * w + w = omega arith in
    let reserved = c.self.invariant.reserved in
    let fits : vec_len c.self.inside.filled + length c.args.row.now ≤ vec_capacity c.self.inside.filled = omega (arith, wide, long, next, room, reserved) in
    let ok : is_ok c.extend_from_slice-done.result ≡ true = c.extend_from_slice-done.ensures.succeeds fits in
    let clash : true ≡ false = sym ok ∙ sym (c.is_ok.ensures.value) ∙ c.if-prove.true in
    cc

pub invariant_of-self : goal.invariant_of-self
invariant_of-self c =
    let w : ℕ = c.self.inside.width in
    let n : ℕ = c.self.inside.count in
    let same : spare_of c.args.self.now ≡ c.self.inside.cells / w - n =
    sym (ap spare_of c.self.view_is) ∙ ap (λ (k : ℕ). c.self.inside.cells / w - k) (rows-count w n c.self.inside.filled.items) in
    let room : (n + 1) * w ≤ c.self.inside.cells = room-for c.self.inside.cells w n c.self.invariant.width (omega (arith, same, c.requires.room)) in
    let wide : length c.args.row.now ≡ w = c.requires.wide ∙ sym (ap (λ (block : Rows). block.width) c.self.view_is) in
    let ok : is_ok c.extend_from_slice-done.result ≡ true = sym c.is_ok.ensures.value ∙ c.if-prove.false in
    let grown : c.extend_from_slice-done.new.self.items ≡ c.self.inside.filled.items ++ c.args.row.now =
    subst (λ (b : Bool). c.extend_from_slice-done.new.self.items ≡ cond b (c.self.inside.filled.items ++ c.args.row.now) c.self.inside.filled.items) ok c.extend_from_slice-done.ensures.items in
    record {
      width = c.self.invariant.width;
      filled = cells-grown w n c.self.inside.filled.items c.args.row.now c.extend_from_slice-done.new.self.items c.self.invariant.filled wide grown;
      room = room;
      reserved = omega (arith, c.self.invariant.reserved, c.extend_from_slice-done.ensures.capacity);
      most = c.self.invariant.most;
    }

pub returns : goal.returns
returns c =
    let w : ℕ = c.self.inside.width in
    let n : ℕ = c.self.inside.count in
    let wide : length c.args.row.now ≡ w = c.requires.wide ∙ sym (ap (λ (block : Rows). block.width) c.self.view_is) in
    let ok : is_ok c.extend_from_slice-done.result ≡ true = sym c.is_ok.ensures.value ∙ c.if-prove.false in
    let grown : c.extend_from_slice-done.new.self.items ≡ c.self.inside.filled.items ++ c.args.row.now =
    subst (λ (b : Bool). c.extend_from_slice-done.new.self.items ≡ cond b (c.self.inside.filled.items ++ c.args.row.now) c.self.inside.filled.items) ok c.extend_from_slice-done.ensures.items in
    let rows = rows-grown w n c.self.inside.filled.items c.args.row.now c.extend_from_slice-done.new.self.items c.self.invariant.filled wide grown in
    ap (λ (rs : List (List ℤ)). let block : Rows = record { rows = rs; width = w; cells = c.self.inside.cells } in block) rows ∙ ap (λ (block : Rows). with_more block c.args.row.now) c.self.view_is
