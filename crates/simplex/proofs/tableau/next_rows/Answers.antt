use Rattle.std.proofs.Common.{◌≡◌, ◌<◌, ◌≤◌, ◌+◌, ◌^◌, ◌<ℤ◌, ℕ, ℤ, pos, List, Vec, Global, length, sym, ap, subst, subst₂, ◌∙◌, arith, refl, get_or, FitsSigned, to_z, of_z, to_z-of_z, rules}
use Rattle.std.specs.Int.{w128}
use Rattle.std.specs.Vec.{with_items}
use Rattle.std.proofs.lemmas.List.{get_or_read, with_items_is}
use Rattle.simplex.specs.Program.{at, AllNarrow}
use Rattle.simplex.specs.Elimination.{ArePivotWords, IsMade, IsMadeWide}
use Rattle.simplex.specs.Tableau.{list_at}
use Rattle.simplex.proofs.Rows.{read_shared, read_row, hold_set}
use Rattle.simplex.proofs.Exchange.{made_more, made_skip, wide_set, found_wide}
use Rattle.simplex.proofs.tableau.next_rows.Goals as goal
use Rattle.simplex.proofs.tableau.next_rows.Goals.{then-row-leave+then-index-ne0+in_default, else-row-leave, else-row-leave-via-then-row-leave+else-index-ne0, else-row-leave-via-else-row-leave}

pub index-requires : goal.index-requires
index-requires c =
    let n : ℕ = c.loop-row.row in
    let read : c.index-rows-row.result.items ≡ list_at c.args.rows.now n = read_shared c.args.rows.now n c.index-rows-row.result c.index-rows-row.result.items (omega arith) refl c.index-rows-row.is in
    let wide : length (list_at c.args.rows.now n) ≡ length (list_at c.args.rows.now c.args.leave) = c.requires.wide n (omega arith) in
    let same : length c.index-rows-row.result.items ≡ length (list_at c.args.rows.now n) = ap length read in
    let place = c.requires.place in
    let long = c.index-rows-row.result.ok.0 in
    omega arith

pub next_row-requires-clause-place : goal.next_row-requires-clause-place
next_row-requires-clause-place c =
    let n : ℕ = c.loop-row.row in
    let row : c.deref-then-index-ne0.result.now ≡ list_at c.args.rows.now n = read_shared c.args.rows.now n _ c.deref-then-index-ne0.result.now (omega arith) c.deref-then-index-ne0.ensures.value c.index-rows-row-then-index-ne0.is in
    let same : length c.deref-then-index-ne0.result.now ≡ length (list_at c.args.rows.now n) = ap length row in
    let wide : length (list_at c.args.rows.now n) ≡ length (list_at c.args.rows.now c.args.leave) = c.requires.wide n (omega arith) in
    let place = c.requires.place in
    omega arith

pub next_row-requires-clause-same : goal.next_row-requires-clause-same
next_row-requires-clause-same c =
    let n : ℕ = c.loop-row.row in
    let row : c.deref-then-index-ne0.result.now ≡ list_at c.args.rows.now n = read_shared c.args.rows.now n _ c.deref-then-index-ne0.result.now (omega arith) c.deref-then-index-ne0.ensures.value c.index-rows-row-then-index-ne0.is in
    let pivot : c.deref-then-index-ne0-2.result.now ≡ list_at c.args.rows.now c.args.leave = read_shared c.args.rows.now c.args.leave _ c.deref-then-index-ne0-2.result.now c.requires.leave c.deref-then-index-ne0-2.ensures.value c.index-rows-leave-then-index-ne0.is in
    ap length pivot ∙ sym (ap length row ∙ c.requires.wide n (omega arith))

pub next_row-requires-clause-room : goal.next_row-requires-clause-room
next_row-requires-clause-room c =
    let n : ℕ = c.loop-row.row in
    let row : c.deref-then-index-ne0.result.now ≡ list_at c.args.rows.now n = read_shared c.args.rows.now n _ c.deref-then-index-ne0.result.now (omega arith) c.deref-then-index-ne0.ensures.value c.index-rows-row-then-index-ne0.is in
    let inside : n < length c.loop-row.next = (let h = c.requires.high in let a = c.loop-row.auto.next in omega arith) in
    let target : c.deref_mut.result.now ≡ list_at c.loop-row.next n = read_row c.loop-row.next n c.index-next-row.result c.deref_mut.result.now inside c.deref_mut.ensures.value in
    ap length target ∙ c.loop-row.invariant.wide n inside ∙ sym (ap length row ∙ c.requires.wide n (omega arith))

pub next_row-requires-clause-width : goal.next_row-requires-clause-width
next_row-requires-clause-width c =
    let n : ℕ = c.loop-row.row in
    let row : c.deref-then-index-ne0.result.now ≡ list_at c.args.rows.now n = read_shared c.args.rows.now n _ c.deref-then-index-ne0.result.now (omega arith) c.deref-then-index-ne0.ensures.value c.index-rows-row-then-index-ne0.is in
    subst (λ (i : ℕ). i < 2 ^ 32) (sym (ap length row ∙ c.requires.wide n (omega arith))) c.requires.width

pub next_row-requires-clause-row : goal.next_row-requires-clause-row
next_row-requires-clause-row c =
    let n : ℕ = c.loop-row.row in
    let row : c.deref-then-index-ne0.result.now ≡ list_at c.args.rows.now n = read_shared c.args.rows.now n _ c.deref-then-index-ne0.result.now (omega arith) c.deref-then-index-ne0.ensures.value c.index-rows-row-then-index-ne0.is in
    subst AllNarrow (sym row) (c.requires.narrow n (omega arith))

pub next_row-requires-clause-pivot : goal.next_row-requires-clause-pivot
next_row-requires-clause-pivot c =
    let pivot : c.deref-then-index-ne0-2.result.now ≡ list_at c.args.rows.now c.args.leave = read_shared c.args.rows.now c.args.leave _ c.deref-then-index-ne0-2.result.now c.requires.leave c.deref-then-index-ne0-2.ensures.value c.index-rows-leave-then-index-ne0.is in
    subst AllNarrow (sym pivot) (c.requires.narrow c.args.leave c.requires.leave)

pub fill_words-requires-clause-width : goal.fill_words-requires-clause-width
fill_words-requires-clause-width c =
    let pivot : c.deref.result.now ≡ list_at c.args.rows.now c.args.leave = read_shared c.args.rows.now c.args.leave _ c.deref.result.now c.requires.leave c.deref.ensures.value c.index-rows-leave.is in
    subst (λ (r : List ℤ). length r < 2 ^ 32) (sym pivot) c.requires.width

pub fill_words-requires-clause-pivot : goal.fill_words-requires-clause-pivot
fill_words-requires-clause-pivot c =
    let pivot : c.deref.result.now ≡ list_at c.args.rows.now c.args.leave = read_shared c.args.rows.now c.args.leave _ c.deref.result.now c.requires.leave c.deref.ensures.value c.index-rows-leave.is in
    subst AllNarrow (sym pivot) (c.requires.narrow c.args.leave c.requires.leave)

pub fill_words-requires-clause-place : goal.fill_words-requires-clause-place
fill_words-requires-clause-place c =
    let pivot : c.deref.result.now ≡ list_at c.args.rows.now c.args.leave = read_shared c.args.rows.now c.args.leave _ c.deref.result.now c.requires.leave c.deref.ensures.value c.index-rows-leave.is in
    subst (λ (r : List ℤ). c.args.place + 2 < length r) (sym pivot) c.requires.place

pub fill_words-requires-clause-room : goal.fill_words-requires-clause-room
fill_words-requires-clause-room c =
    let pivot : c.deref.result.now ≡ list_at c.args.rows.now c.args.leave = read_shared c.args.rows.now c.args.leave _ c.deref.result.now c.requires.leave c.deref.ensures.value c.index-rows-leave.is in
    c.requires.words ∙ sym (ap length pivot)

pub next_row-requires-clause-words : goal.next_row-requires-clause-words
next_row-requires-clause-words c =
    let first : c.deref.result.now ≡ list_at c.args.rows.now c.args.leave = read_shared c.args.rows.now c.args.leave _ c.deref.result.now c.requires.leave c.deref.ensures.value c.index-rows-leave.is in
    let pivot : c.deref-then-index-ne0-2.result.now ≡ list_at c.args.rows.now c.args.leave = read_shared c.args.rows.now c.args.leave _ c.deref-then-index-ne0-2.result.now c.requires.leave c.deref-then-index-ne0-2.ensures.value c.index-rows-leave-then-index-ne0.is in
    subst (λ (r : List ℤ). ArePivotWords r c.args.place c.fill_words.new.words) (first ∙ sym pivot) c.fill_words.ensures

pub next_row-requires-clause-lead : goal.next_row-requires-clause-lead
next_row-requires-clause-lead c =
    let n : ℕ = c.loop-row.row in
    let row : c.deref-then-index-ne0.result.now ≡ list_at c.args.rows.now n = read_shared c.args.rows.now n _ c.deref-then-index-ne0.result.now (omega arith) c.deref-then-index-ne0.ensures.value c.index-rows-row-then-index-ne0.is in
    subst (λ (r : List ℤ). pos 0 <ℤ at r 0) (sym row) (c.requires.leads n (omega arith))

pub next_row-requires-clause-pivot_lead : goal.next_row-requires-clause-pivot_lead
next_row-requires-clause-pivot_lead c =
    let pivot : c.deref-then-index-ne0-2.result.now ≡ list_at c.args.rows.now c.args.leave = read_shared c.args.rows.now c.args.leave _ c.deref-then-index-ne0-2.result.now c.requires.leave c.deref-then-index-ne0-2.ensures.value c.index-rows-leave-then-index-ne0.is in
    subst (λ (r : List ℤ). pos 0 <ℤ at r (c.args.place + 2)) (sym pivot) c.requires.pivot_lead

pub returns-in-Some-clause-some : goal.returns-in-Some-clause-some
returns-in-Some-clause-some c =
    let n : ℕ = c.loop-row.row in
    let nl : n < length c.args.rows.now = omega arith in
    let row : c.deref-then-index-ne0.result.now ≡ list_at c.args.rows.now n = read_shared c.args.rows.now n _ c.deref-then-index-ne0.result.now nl c.deref-then-index-ne0.ensures.value c.index-rows-row-then-index-ne0.is in
    let pivot : c.deref-then-index-ne0-2.result.now ≡ list_at c.args.rows.now c.args.leave = read_shared c.args.rows.now c.args.leave _ c.deref-then-index-ne0-2.result.now c.requires.leave c.deref-then-index-ne0-2.ensures.value c.index-rows-leave-then-index-ne0.is in
    let first : c.index-rows-row.result.items ≡ list_at c.args.rows.now n = read_shared c.args.rows.now n c.index-rows-row.result c.index-rows-row.result.items nl refl c.index-rows-row.is in
    let wide : c.args.place + 2 < length c.index-rows-row.result.items = subst (λ (i : ℕ). c.args.place + 2 < i) (sym (ap length first ∙ c.requires.wide n nl)) c.requires.place in
    found_wide c.args.rows.now c.loop-row.next c.args.leave c.args.place n c.in-Some.column nl c.if-row-leave.true
    (λ z. c.if-index-ne0.true (ap (of_z w128) (get_or_read c.index-rows-row.result.items (c.args.place + 2) c.index.result.now wide c.index.ensures (pos 0) ∙ ap (λ (r : List ℤ). at r (c.args.place + 2)) first ∙ z)))
    c.loop-row.invariant.made
    (subst₂ (λ (a b : List ℤ). IsMadeWide a b c.args.place c.in-Some.column) row pivot c.in-Some.ensures.some)

pub returns-in-Some-clause-next_wide : goal.returns-in-Some-clause-next_wide
returns-in-Some-clause-next_wide c =
    let n : ℕ = c.loop-row.row in
    let inside : n < length c.loop-row.next = (let h = c.requires.high in let a = c.loop-row.auto.next in omega arith) in
    let v : Vec ℤ Global = get_or c.loop-row.next n c.index-next-row.result in
    let target : c.deref_mut.result.now ≡ list_at c.loop-row.next n = read_row c.loop-row.next n c.index-next-row.result c.deref_mut.result.now inside c.deref_mut.ensures.value in
    let items : (with_items v c.next_row.new.new).items ≡ c.next_row.new.new = with_items_is v c.next_row.new.new (let a = c.next_row.auto.new in let b = c.deref_mut.ensures.len in omega arith) in
    wide_set c.loop-row.next n _ (with_items v c.next_row.new.new) inside (ap length items ∙ (let a : length c.next_row.new.new ≡ length c.deref_mut.result.now = c.next_row.auto.new in a) ∙ ap length target ∙ c.loop-row.invariant.wide n inside) c.loop-row.invariant.wide

pub returns-in-Some-clause-room : goal.returns-in-Some-clause-room
returns-in-Some-clause-room c = λ width h.
    hold_set width c.loop-row.next c.loop-row.row c.index-next-row.result (with_items (get_or c.loop-row.next c.loop-row.row c.index-next-row.result) c.next_row.new.new) (c.loop-row.invariant.room width h) refl

pub loop-row-preserved : goal.loop-row-preserved
loop-row-preserved c =
    let n : ℕ = c.loop-row.row in
    let nl : n < length c.args.rows.now = omega arith in
    let inside : n < length c.loop-row.next = (let h = c.requires.high in let a = c.loop-row.auto.next in omega arith) in
    elim c.if-row-leave.branch [
      | then-row-leave+then-index-ne0+in_default w ↦
          (let v : Vec ℤ Global = get_or c.loop-row.next n w.index-next-row.result in
          let t : Vec ℤ Global = with_items v w.next_row.new.new in
          let row : w.deref-then-index-ne0.result.now ≡ list_at c.args.rows.now n = read_shared c.args.rows.now n _ w.deref-then-index-ne0.result.now nl w.deref-then-index-ne0.ensures.value w.index-rows-row-then-index-ne0.is in
          let pivot : w.deref-then-index-ne0-2.result.now ≡ list_at c.args.rows.now c.args.leave = read_shared c.args.rows.now c.args.leave _ w.deref-then-index-ne0-2.result.now c.requires.leave w.deref-then-index-ne0-2.ensures.value w.index-rows-leave-then-index-ne0.is in
          let target : w.deref_mut.result.now ≡ list_at c.loop-row.next n = read_row c.loop-row.next n w.index-next-row.result w.deref_mut.result.now inside w.deref_mut.ensures.value in
          let items : t.items ≡ w.next_row.new.new = with_items_is v w.next_row.new.new (let a = w.next_row.auto.new in let b = w.deref_mut.ensures.len in omega arith) in
          let made : IsMade (list_at c.args.rows.now n) (list_at c.args.rows.now c.args.leave) c.args.place t.items =
          subst (IsMade (list_at c.args.rows.now n) (list_at c.args.rows.now c.args.leave) c.args.place) (sym items) (subst₂ (λ (a b : List ℤ). IsMade a b c.args.place w.next_row.new.new) row pivot w.in_default.ensures.none) in
          record {
            made = made_more c.args.rows.now c.loop-row.next c.if-row-leave.next c.args.leave c.args.place n t inside c.loop-row.invariant.made made w.next-is;
            wide = subst (λ (r : List (Vec ℤ Global)). (k : ℕ) → k < length r → length (list_at r k) ≡ length (list_at c.args.rows.now c.args.leave)) (sym w.next-is)
                (wide_set c.loop-row.next n _ t inside (ap length items ∙ (let a : length w.next_row.new.new ≡ length w.deref_mut.result.now = w.next_row.auto.new in a) ∙ ap length target ∙ c.loop-row.invariant.wide n inside) c.loop-row.invariant.wide);
            room = λ width h. subst (λ (r : List (Vec ℤ Global)). (k : ℕ) (d : Vec ℤ Global) → k < length r → width ≤ (get_or r k d).cap) (sym w.next-is) (hold_set width c.loop-row.next n w.index-next-row.result t (c.loop-row.invariant.room width h) refl);
          })
      | else-row-leave w ↦ record {
        made = made_skip c.args.rows.now c.loop-row.next c.if-row-leave.next c.args.leave c.args.place n c.loop-row.invariant.made
            (elim w.else-row-leave.branch [
              | else-row-leave-via-then-row-leave+else-index-ne0 u ↦
                  (let first : u.index-rows-row.result.items ≡ list_at c.args.rows.now n = read_shared c.args.rows.now n u.index-rows-row.result u.index-rows-row.result.items nl refl u.index-rows-row.is in
                  let wide : c.args.place + 2 < length u.index-rows-row.result.items = subst (λ (i : ℕ). c.args.place + 2 < i) (sym (ap length first ∙ c.requires.wide n nl)) c.requires.place in
                  let f : FitsSigned w128 u.index.result.now = search rules in
                  λ ne there. there (ap (λ (r : List ℤ). at r (c.args.place + 2)) (sym first) ∙ sym (get_or_read u.index-rows-row.result.items (c.args.place + 2) u.index.result.now wide u.index.ensures (pos 0)) ∙ simp to_z-of_z at (ap (to_z w128) u.if-index-ne0.false)))
              | else-row-leave-via-else-row-leave u ↦ (λ ne there. ne u.if-row-leave.false)
            ])
            w.next-is;
        wide = subst (λ (r : List (Vec ℤ Global)). (k : ℕ) → k < length r → length (list_at r k) ≡ length (list_at c.args.rows.now c.args.leave)) (sym w.next-is) c.loop-row.invariant.wide;
        room = λ width h. subst (λ (r : List (Vec ℤ Global)). (k : ℕ) (d : Vec ℤ Global) → k < length r → width ≤ (get_or r k d).cap) (sym w.next-is) (c.loop-row.invariant.room width h);
      }
    ]
