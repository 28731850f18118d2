use Rattle.std.proofs.Common.{◌≡◌, ◌<◌, ◌+◌, ℕ, ℤ, pos, List, Vec, Global, length, sym, ap, subst, ◌∙◌, arith, get_or, inl, inr, set, FitsSigned, to_z, of_z, to_z-of_z, rules}
use Rattle.std.specs.Int.{w128}
use Rattle.std.proofs.lemmas.List.{get_or_read, get_or_default}
use Rattle.simplex.specs.Program.{at}
use Rattle.simplex.specs.Tableau.{list_at}
use Rattle.simplex.proofs.Rows.{list_at-is}
use Rattle.simplex.proofs.Exchange.{exchange_there, exchange_skipped}
use Rattle.simplex.proofs.tableau.exchange_rows.Goals as goal
use Rattle.simplex.proofs.tableau.exchange_rows.Goals.{then-row-leave+then-index-ne0, else-row-leave, else-row-leave-via-then-row-leave+else-index-ne0, else-row-leave-via-else-row-leave}

wide_of : (old rows : List (Vec ℤ Global)) (n q : ℕ) (v : Vec ℤ Global) → n < length rows → n < length old → get_or rows n v ≡ get_or old n v → q < length (list_at old n) → q < length (get_or rows n v).items
wide_of old rows n q v nr nold same h = subst (λ (i : ℕ). q < i) (ap length (list_at-is old n v nold ∙ sym (ap (λ (r : Vec ℤ Global). r.items) same))) h

pub index-requires : goal.index-requires
index-requires c =
    let n : ℕ = c.loop-row.row in
    let v : Vec ℤ Global = get_or c.loop-row.rows n c.index-rows-row.result in
    let wide : c.args.place + 2 < length v.items = wide_of c.args.rows.now c.loop-row.rows n (c.args.place + 2) c.index-rows-row.result (omega arith) (omega arith) (c.loop-row.invariant.rows_left n _ (omega arith)) (c.requires.place n (omega arith)) in
    let long = v.ok.0 in
    omega arith

pub loop-row-preserved : goal.loop-row-preserved
loop-row-preserved c =
    let n : ℕ = c.loop-row.row in
    elim c.if-row-leave.branch [
      | then-row-leave+then-index-ne0 w ↦
          (let v : Vec ℤ Global = get_or c.loop-row.rows n w.index-rows-row.result in
          let wide : c.args.place + 2 < length v.items = wide_of c.args.rows.now c.loop-row.rows n (c.args.place + 2) w.index-rows-row.result (omega arith) (omega arith) (c.loop-row.invariant.rows_left n _ (omega arith)) (c.requires.place n (omega arith)) in
          exchange_there c.args.rows.now c.args.next.now c.loop-row.rows c.loop-row.next c.if-row-leave.rows c.if-row-leave.next c.args.leave c.args.place n w.index-rows-row-then-index-ne0.result w.index-next-row.result
          (omega arith) (let a = c.requires.high in omega arith) c.loop-row.invariant w.if-row-leave.true
          (λ z. w.if-index-ne0.true (ap (of_z w128) (get_or_read v.items (c.args.place + 2) w.index.result.now wide w.index.ensures (pos 0) ∙ ap (λ (r : Vec ℤ Global). at r.items (c.args.place + 2)) (get_or_default c.loop-row.rows n w.index-rows-row.result w.index-rows-row-then-index-ne0.result (omega arith)) ∙ z)))
          (w.rows-is ∙ ap (λ (x : Vec ℤ Global). set c.loop-row.rows n x) w.swap.ensures.x_after) (w.next-is ∙ ap (λ (x : Vec ℤ Global). set c.loop-row.next n x) w.swap.ensures.y_after))
      | else-row-leave w ↦ exchange_skipped c.args.rows.now c.args.next.now c.loop-row.rows c.loop-row.next c.if-row-leave.rows c.if-row-leave.next c.args.leave c.args.place n c.loop-row.invariant
          (elim w.else-row-leave.branch [
            | else-row-leave-via-then-row-leave+else-index-ne0 u ↦ (λ d.
                let v : Vec ℤ Global = get_or c.loop-row.rows n u.index-rows-row.result in
                let wide : c.args.place + 2 < length v.items = wide_of c.args.rows.now c.loop-row.rows n (c.args.place + 2) u.index-rows-row.result (omega arith) (omega arith) (c.loop-row.invariant.rows_left n _ (omega arith)) (c.requires.place n (omega arith)) in
                let f : FitsSigned w128 u.index.result.now = search rules in
                inr (ap (λ (r : Vec ℤ Global). at r.items (c.args.place + 2)) (get_or_default c.loop-row.rows n d u.index-rows-row.result (omega arith))
                ∙ sym (get_or_read v.items (c.args.place + 2) u.index.result.now wide u.index.ensures (pos 0)) ∙ simp to_z-of_z at (ap (to_z w128) u.if-index-ne0.false)))
            | else-row-leave-via-else-row-leave u ↦ (λ d. inl u.if-row-leave.false)
          ])
          w.rows-is w.next-is
    ]
