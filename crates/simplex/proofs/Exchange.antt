-- Rows that change places with the rows that a pivot made of them, and rows that are made, as far as a loop has come.
use Rattle.std.proofs.Common.{ℕ, suc, ◌+◌, ◌<◌, ◌≤◌, ◌≡◌, ◌≢◌, ◌⊎◌, ◌^◌, ◌*◌, ℤ, pos, List, Vec, Global, length, get_or, set, sym, ap, ap₂, subst, subst₂, ◌∙◌, inl, inr, arith, unsigned_abs, mul-le-mul_left}
use Rattle.std.specs.Vec.{vec_capacity}
use Rattle.std.proofs.lemmas.Bool.{cases_eq}
use Rattle.std.proofs.lemmas.List.{get_or-set_same, get_or-set_other, length-map, get_or_default}
use Rattle.std.proofs.lemmas.Int.{unsigned_abs-mul}
use Rattle.std.proofs.Math.ListN.{length-set}
use Rattle.simplex.specs.Program.{at}
use Rattle.simplex.specs.CostForm.{CostForm}
use Rattle.simplex.specs.Elimination.{IsMade, IsMadeWide}
use Rattle.simplex.specs.declared.tableau.Tableau.{Tableau}
use Rattle.simplex.specs.Tableau.{cost_form_of, lists_of, list_at, AreMade, RowsWideFound, IsWideFound, IsShaped, IsExchanged, StaysNarrow, RowsHold}
use Rattle.simplex.proofs.Rows.{list_at-set_same, other_any}

-- ---- exchange
pub record Exchanged (old_rows old_next rows next : List (Vec ℤ Global)) (leave q n : ℕ) : Type 0 where
  pub done : (k : ℕ) (d : Vec ℤ Global) → k < n → IsExchanged leave q k (get_or old_rows k d) (get_or old_next k d) (get_or rows k d) (get_or next k d)
  pub rows_left : (k : ℕ) (d : Vec ℤ Global) → n ≤ k → get_or rows k d ≡ get_or old_rows k d
  pub next_left : (k : ℕ) (d : Vec ℤ Global) → n ≤ k → get_or next k d ≡ get_or old_next k d

default_apart : (rows : List (Vec ℤ Global)) (n : ℕ) (v d : Vec ℤ Global) → n < length rows → get_or rows n v ≡ get_or rows n d
default_apart rows n v d nl = get_or_default rows n v d nl

pub exchange_there : (old_rows old_next rows next new_rows new_next : List (Vec ℤ Global)) (leave q n : ℕ) (v w : Vec ℤ Global) → n < length rows → n < length next → Exchanged old_rows old_next rows next leave q n
    → n ≢ leave → at (get_or rows n v).items (q + 2) ≢ pos 0 → new_rows ≡ set rows n (get_or next n w) → new_next ≡ set next n (get_or rows n v) → Exchanged old_rows old_next new_rows new_next leave q (n + 1)
exchange_there old_rows old_next rows next new_rows new_next leave q n v w nr nn so ne there er en = record {
  done = λ k d kl. elim (cases_eq k n) [
    | inl same ↦ subst (λ (i : ℕ). IsExchanged leave q i (get_or old_rows i d) (get_or old_next i d) (get_or new_rows i d) (get_or new_next i d)) (sym same)
        (inl (
          ne,
          subst (λ (r : Vec ℤ Global). at r.items (q + 2) ≢ pos 0) (default_apart rows n v d nr ∙ so.rows_left n d (omega arith)) there,
          ap (λ (r : List (Vec ℤ Global)). get_or r n d) er ∙ get_or-set_same rows n (get_or next n w) d nr ∙ default_apart next n w d nn ∙ so.next_left n d (omega arith),
          ap (λ (r : List (Vec ℤ Global)). get_or r n d) en ∙ get_or-set_same next n (get_or rows n v) d nn ∙ default_apart rows n v d nr ∙ so.rows_left n d (omega arith),
        ))
    | inr nk ↦ subst₂ (λ (a b : Vec ℤ Global). IsExchanged leave q k (get_or old_rows k d) (get_or old_next k d) a b)
        (sym (ap (λ (r : List (Vec ℤ Global)). get_or r k d) er ∙ get_or-set_other rows n k _ d nk))
        (sym (ap (λ (r : List (Vec ℤ Global)). get_or r k d) en ∙ get_or-set_other next n k _ d nk))
        (so.done k d (omega arith))
  ];
  rows_left = λ k d kl. ap (λ (r : List (Vec ℤ Global)). get_or r k d) er ∙ get_or-set_other rows n k _ d (λ i. absurd (omega arith)) ∙ so.rows_left k d (omega arith);
  next_left = λ k d kl. ap (λ (r : List (Vec ℤ Global)). get_or r k d) en ∙ get_or-set_other next n k _ d (λ i. absurd (omega arith)) ∙ so.next_left k d (omega arith);
}

pub exchange_skipped : (old_rows old_next rows next new_rows new_next : List (Vec ℤ Global)) (leave q n : ℕ) → Exchanged old_rows old_next rows next leave q n
    → ((d : Vec ℤ Global) → (n ≡ leave) ⊎ (at (get_or rows n d).items (q + 2) ≡ pos 0)) → new_rows ≡ rows → new_next ≡ next → Exchanged old_rows old_next new_rows new_next leave q (n + 1)
exchange_skipped old_rows old_next rows next new_rows new_next leave q n so none er en =
    subst₂ (λ (a b : List (Vec ℤ Global)). Exchanged old_rows old_next a b leave q (n + 1)) (sym er) (sym en) (record {
      done = λ k d kl. elim (cases_eq k n) [
        | inl same ↦ subst (λ (i : ℕ). IsExchanged leave q i (get_or old_rows i d) (get_or old_next i d) (get_or rows i d) (get_or next i d)) (sym same)
            (inr (
              elim (none d) [ inl e ↦ inl e | inr z ↦ inr (subst (λ (r : Vec ℤ Global). at r.items (q + 2) ≡ pos 0) (so.rows_left n d (omega arith)) z) ],
              so.rows_left n d (omega arith),
              so.next_left n d (omega arith),
            ))
        | inr nk ↦ so.done k d (omega arith)
      ];
      rows_left = λ k d kl. so.rows_left k d (omega arith);
      next_left = λ k d kl. so.next_left k d (omega arith);
    })

-- both lists still hold as wide rows
pub exchanged_hold : (old_rows old_next rows next : List (Vec ℤ Global)) (leave q width : ℕ) → length rows ≡ length old_rows → length next ≡ length old_next → length old_next ≡ length old_rows
    → ((k : ℕ) (d : Vec ℤ Global) → k < length old_rows → IsExchanged leave q k (get_or old_rows k d) (get_or old_next k d) (get_or rows k d) (get_or next k d))
    → RowsHold width old_rows → RowsHold width old_next → RowsHold width rows × RowsHold width next
exchanged_hold old_rows old_next rows next leave q width lr ln high each hr hn = (
  λ k d kl. elim (each k d (omega arith)) [
    | inl (ne, there, a, b) ↦ subst (λ (r : Vec ℤ Global). width ≤ vec_capacity r) (sym a) (hn k d (omega arith))
    | inr (none, a, b) ↦ subst (λ (r : Vec ℤ Global). width ≤ vec_capacity r) (sym a) (hr k d (omega arith))
  ],
  λ k d kl. elim (each k d (omega arith)) [
    | inl (ne, there, a, b) ↦ subst (λ (r : Vec ℤ Global). width ≤ vec_capacity r) (sym b) (hr k d (omega arith))
    | inr (none, a, b) ↦ subst (λ (r : Vec ℤ Global). width ≤ vec_capacity r) (sym b) (hn k d (omega arith))
  ],
)

-- ---- rows that are made
pub stays_of_made : (row pivot new : List ℤ) (q : ℕ) → IsMade row pivot q new → (h : ℕ) × StaysNarrow row pivot q h
stays_of_made row pivot new q made = (
  made.g,
  record {
    divisor = made.divisor;
    narrow = λ j jl. subst (λ (i : ℕ). i < made.g * 2 ^ 62) (sym (unsigned_abs-mul (pos made.g) (at new j)) ∙ ap unsigned_abs (made.reduced.each j jl))
        (less_times made.g (unsigned_abs (at new j)) (2 ^ 62) made.divisor.positive (made.narrow j (let l = made.reduced.long in omega arith)));
  },
)
  where
    less_times : (g a b : ℕ) → 0 < g → a < b → g * a < g * b
    less_times g a b some h = (let i : g * suc a ≤ g * b = mul-le-mul_left g (let l : suc a ≤ b = omega arith in l) in let j : g * suc a ≡ g * a + g = omega arith in omega arith)

pub made_more : (rows next new : List (Vec ℤ Global)) (leave q n : ℕ) (w : Vec ℤ Global) → n < length next → AreMade (lists_of rows) leave q n (lists_of next)
    → IsMade (list_at rows n) (list_at rows leave) q w.items → new ≡ set next n w → AreMade (lists_of rows) leave q (n + 1) (lists_of new)
made_more rows next new leave q n w nl so made e = subst (λ (r : List (Vec ℤ Global)). AreMade (lists_of rows) leave q (n + 1) (lists_of r)) (sym e) (record {
  each = λ k kl ne there. elim (cases_eq k n) [
    | inl same ↦ subst (λ (i : ℕ). IsMade (list_at rows i) (list_at rows leave) q (list_at (set next n w) i)) (sym same) (subst (IsMade (list_at rows n) (list_at rows leave) q) (sym (list_at-set_same next n w nl)) made)
    | inr nk ↦ subst (IsMade (list_at rows k) (list_at rows leave) q) (sym (other_any next n k w nk)) (so.each k (omega arith) ne there)
  ];
})

pub made_skip : (rows next new : List (Vec ℤ Global)) (leave q n : ℕ) → AreMade (lists_of rows) leave q n (lists_of next)
    → (n ≢ leave → at (list_at rows n) (q + 2) ≢ pos 0 → ⊥) → new ≡ next → AreMade (lists_of rows) leave q (n + 1) (lists_of new)
made_skip rows next new leave q n so none e = subst (λ (r : List (Vec ℤ Global)). AreMade (lists_of rows) leave q (n + 1) (lists_of r)) (sym e) (record {
  each = λ k kl ne there. elim (cases_eq k n) [
    | inl same ↦ absurd (none (subst (λ (i : ℕ). i ≢ leave) same ne) (subst (λ (i : ℕ). at (list_at rows i) (q + 2) ≢ pos 0) same there))
    | inr nk ↦ so.each k (omega arith) ne there
  ];
})

pub wide_set : (next : List (Vec ℤ Global)) (n width : ℕ) (w : Vec ℤ Global) → n < length next → length w.items ≡ width → ((k : ℕ) → k < length next → length (list_at next k) ≡ width)
    → (k : ℕ) → k < length (set next n w) → length (list_at (set next n w) k) ≡ width
wide_set next n width w nl long h k kl = elim (cases_eq k n) [
  | inl same ↦ subst (λ (i : ℕ). length (list_at (set next n w) i) ≡ width) (sym same) (ap length (list_at-set_same next n w nl) ∙ long)
  | inr nk ↦ ap length (other_any next n k w nk) ∙ h k (let l = length-set next n w in omega arith)
]

pub found_wide : (rows next : List (Vec ℤ Global)) (leave q row column : ℕ) → row < length rows → row ≢ leave → at (list_at rows row) (q + 2) ≢ pos 0 → AreMade (lists_of rows) leave q row (lists_of next)
    → IsMadeWide (list_at rows row) (list_at rows leave) q column → RowsWideFound (lists_of rows) leave q row column
found_wide rows next leave q row column rl ne there so wide = record {
  inside = (let l = length-map rows (λ (r : Vec ℤ Global). r.items) in omega arith);
  apart = ne;
  there = there;
  here = wide;
  before = λ k kl nk nz. stays_of_made (list_at rows k) (list_at rows leave) (list_at next k) q (so.each k kl nk nz);
}

pub wide_in_form : (d : CostForm) (leave q row column : ℕ) → IsShaped d → RowsWideFound d.rows leave q row column → IsWideFound d leave q row column
wide_in_form d leave q row column shaped f = record {
  inside = (let i = f.inside in let h = shaped.high in omega arith);
  apart = f.apart;
  there = f.there;
  g = f.here.g;
  divisor = f.here.divisor;
  first = f.here.first;
  before = f.before;
}

-- the form of a tableau is that of its rows and its two lists
pub form_kept : (a b : Tableau) → a.rows ≡ b.rows → a.basic ≡ b.basic → a.out ≡ b.out → cost_form_of a ≡ cost_form_of b
form_kept a b r s t =
    ap₂ (λ (rows : Vec (Vec ℤ Global) Global) (lists : List ℕ × List ℕ). let d : CostForm = record { basic = lists.0; out = lists.1; rows = lists_of rows.items } in d) r
    (ap₂ (λ x y. (x, y)) (ap (λ (v : Vec ℕ Global). v.items) s) (ap (λ (v : Vec ℕ Global). v.items) t))
