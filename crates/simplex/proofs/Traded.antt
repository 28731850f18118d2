-- The rows after a pivot: exchanged for what was made of them, but the pivot row, which is swapped.
use Rattle.std.proofs.Common.{ℕ, ◌+◌, ◌<◌, ◌≤◌, ◌≡◌, ◌≢◌, ℤ, pos, List, Vec, Global, length, get_or, set, refl, sym, ap, subst, ◌∙◌, inl, inr, arith}
use Rattle.std.proofs.lemmas.Bool.{cases_eq}
use Rattle.std.proofs.lemmas.List.{length-map}
use Rattle.simplex.specs.Program.{at, AllNarrow}
use Rattle.simplex.specs.CostForm.{CostForm}
use Rattle.simplex.specs.Tableau.{lists_of, list_at, AreMade, IsExchanged, IsNext, IsSwapped, IsShaped}
use Rattle.simplex.proofs.Rows.{list_at-is, list_at-set_same, other_any}
use Rattle.simplex.proofs.Next.{swapped_narrow}

-- what is known after the exchange
pub record AfterExchange (basic out : List ℕ) (old_rows old_next rows next : List (Vec ℤ Global)) (r q : ℕ) : Type 0 where
  pub shaped : IsShaped (let d : CostForm = record { basic = basic; out = out; rows = lists_of old_rows } in d)
  pub made : AreMade (lists_of old_rows) r q (length basic + 1) (lists_of old_next)
  pub high : length old_next ≡ length old_rows
  pub long : length rows ≡ length old_rows
  pub next_long : length next ≡ length old_next
  pub each : (k : ℕ) (d : Vec ℤ Global) → k < length old_rows → IsExchanged r q k (get_or old_rows k d) (get_or old_next k d) (get_or rows k d) (get_or next k d)
  pub leave : r < length basic
  pub place : q < length out

count : (basic out : List ℕ) (old_rows old_next rows next : List (Vec ℤ Global)) (r q : ℕ) → AfterExchange basic out old_rows old_next rows next r q → length old_rows ≡ length basic + 1
count basic out old_rows old_next rows next r q a = sym (length-map old_rows (λ (v : Vec ℤ Global). v.items)) ∙ a.shaped.high

item_of : (rows other : List (Vec ℤ Global)) (k : ℕ) (w : Vec ℤ Global) → k < length rows → k < length other → get_or rows k w ≡ get_or other k w → list_at rows k ≡ list_at other k
item_of rows other k w kl ko e = list_at-is rows k w kl ∙ ap (λ (v : Vec ℤ Global). v.items) e ∙ sym (list_at-is other k w ko)

pub next_after : (basic out : List ℕ) (old_rows old_next rows next : List (Vec ℤ Global)) (r q : ℕ) (w : Vec ℤ Global) (k : ℕ) → AfterExchange basic out old_rows old_next rows next r q
    → IsSwapped (list_at old_rows r) q w.items → k ≤ length basic → IsNext (let d : CostForm = record { basic = basic; out = out; rows = lists_of old_rows } in d) r q k (list_at (set rows r w) k)
next_after basic out old_rows old_next rows next r q w k a sw kl =
    let n : length old_rows ≡ length basic + 1 = count basic out old_rows old_next rows next r q a in
    let ko : k < length old_rows = omega arith in
    let kr : k < length rows = (let l = a.long in omega arith) in
    let kn : k < length old_next = (let h = a.high in omega arith) in
    let rl : r < length rows = (let l = a.long in let h = a.leave in omega arith) in
    elim (cases_eq k r) [
      | inl e ↦ inl (e, subst (λ (i : ℕ). IsSwapped (list_at old_rows r) q (list_at (set rows r w) i)) (sym e) (subst (IsSwapped (list_at old_rows r) q) (sym (list_at-set_same rows r w rl)) sw))
      | inr ne ↦ elim (a.each k w ko) [
        | inl (nr, there, new, gone) ↦
            (let at_k : at (list_at old_rows k) (q + 2) ≢ pos 0 = subst (λ (l : List ℤ). at l (q + 2) ≢ pos 0) (sym (list_at-is old_rows k w ko)) there in
            let made = a.made.each k (omega arith) ne at_k in
            let is : list_at (set rows r w) k ≡ list_at old_next k = other_any rows r k w ne ∙ item_of rows old_next k w kr kn new in
            subst (IsNext (let d : CostForm = record { basic = basic; out = out; rows = lists_of old_rows } in d) r q k) (sym is) (inr (inr (ne, at_k, (made.g, made.divisor, made.reduced)))))
        | inr (none, new, kept) ↦
            (let is : list_at (set rows r w) k ≡ list_at old_rows k = other_any rows r k w ne ∙ item_of rows old_rows k w kr ko new in
            inr (inl (
              ne,
              elim none [ inl e ↦ absurd (ne e) | inr z ↦ ap (λ (l : List ℤ). at l (q + 2)) (list_at-is old_rows k w ko) ∙ z ],
              is,
            )))
      ]
    ]

pub narrow_after : (basic out : List ℕ) (old_rows old_next rows next : List (Vec ℤ Global)) (r q : ℕ) (w : Vec ℤ Global) (k : ℕ) → AfterExchange basic out old_rows old_next rows next r q
    → IsSwapped (list_at old_rows r) q w.items → k ≤ length basic → AllNarrow (list_at (set rows r w) k)
narrow_after basic out old_rows old_next rows next r q w k a sw kl =
    let n : length old_rows ≡ length basic + 1 = count basic out old_rows old_next rows next r q a in
    let ko : k < length old_rows = omega arith in
    let kr : k < length rows = (let l = a.long in omega arith) in
    let kn : k < length old_next = (let h = a.high in omega arith) in
    let rl : r < length rows = (let l = a.long in let h = a.leave in omega arith) in
    let wide : q + 2 < length (list_at old_rows r) = (let l : length (list_at old_rows r) ≡ length out + 2 = a.shaped.wide r (let h = a.leave in omega arith) in let h = a.place in omega arith) in
    elim (cases_eq k r) [
      | inl e ↦ subst (λ (i : ℕ). AllNarrow (list_at (set rows r w) i)) (sym e) (subst AllNarrow (sym (list_at-set_same rows r w rl)) (swapped_narrow (list_at old_rows r) w.items q wide (a.shaped.narrow r (let h = a.leave in omega arith)) sw))
      | inr ne ↦ elim (a.each k w ko) [
        | inl (nr, there, new, gone) ↦
            (let at_k : at (list_at old_rows k) (q + 2) ≢ pos 0 = subst (λ (l : List ℤ). at l (q + 2) ≢ pos 0) (sym (list_at-is old_rows k w ko)) there in
            subst AllNarrow (sym (other_any rows r k w ne ∙ item_of rows old_next k w kr kn new)) (a.made.each k (omega arith) ne at_k).narrow)
        | inr (none, new, kept) ↦ subst AllNarrow (sym (other_any rows r k w ne ∙ item_of rows old_rows k w kr ko new)) (a.shaped.narrow k kl)
      ]
    ]

pub wide_after : (basic out : List ℕ) (old_rows old_next rows next : List (Vec ℤ Global)) (r q : ℕ) (w : Vec ℤ Global) (k : ℕ) → AfterExchange basic out old_rows old_next rows next r q
    → ((i : ℕ) → i < length old_next → length (list_at old_next i) ≡ length out + 2) → k < length next → length (list_at next k) ≡ length out + 2
wide_after basic out old_rows old_next rows next r q w k a wide kl =
    let n : length old_rows ≡ length basic + 1 = count basic out old_rows old_next rows next r q a in
    let kn : k < length old_next = (let h = a.next_long in omega arith) in
    let ko : k < length old_rows = (let h = a.high in omega arith) in
    elim (a.each k w ko) [
      | inl (nr, there, new, gone) ↦ ap length (item_of next old_rows k w kl ko gone) ∙ a.shaped.wide k (omega arith)
      | inr (none, new, kept) ↦ ap length (item_of next old_next k w kl kn kept) ∙ wide k kn
    ]

pub leave_after : (basic out : List ℕ) (old_rows old_next rows next : List (Vec ℤ Global)) (r q : ℕ) (w : Vec ℤ Global) → AfterExchange basic out old_rows old_next rows next r q → list_at rows r ≡ list_at old_rows r
leave_after basic out old_rows old_next rows next r q w a =
    let n : length old_rows ≡ length basic + 1 = count basic out old_rows old_next rows next r q a in
    let rl : r < length rows = (let l = a.long in let h = a.leave in omega arith) in
    elim (a.each r w (let h = a.leave in omega arith)) [
      | inl (nr, there, new, gone) ↦ absurd (nr refl)
      | inr (none, new, kept) ↦ item_of rows old_rows r w rl (let h = a.leave in omega arith) new
    ]
