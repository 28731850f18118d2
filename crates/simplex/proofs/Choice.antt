-- Bland's rule, as far as a loop has come.
use Rattle.std.proofs.Common.{◌↔◌, ℕ, ◌+◌, ◌<◌, ◌≤◌, ◌≡◌, ℤ, pos, negsuc, ◌*ℤ◌, ◌<ℤ◌, ◌≤ℤ◌, [], ◌∷◌, length, slice_index, sym, ap, subst, ◌∙◌, inl, inr, arith, Option, Some, None, mul-le-mul_left, mul-lt-mul_of_pos_right}
use Rattle.std.proofs.lemmas.Int.{ints, by_lt_z}
use Rattle.std.proofs.lemmas.Bool.{cases_lt, cases_eq}
use borrow.Author.Differences.{up, down}
use Rattle.simplex.specs.CostForm.{CostForm, entry, IsImproving, Enters, IsBounding, ratio, Leaves}
use Rattle.simplex.specs.Tableau.{IsTighter, EntersSoFar, LeavesSoFar}
use Rattle.scaled_num.proofs.Ring.{ring, x, ◌⊗◌}
use Rattle.simplex.proofs.Combine.{cancel}

pub enters_none : (d : CostForm) → EntersSoFar d 0 None
enters_none d = λ t lt i. absurd (omega arith)

pub enters_skip : (d : CostForm) (n : ℕ) (best : Option ℕ) → EntersSoFar d n best → (IsImproving d n → ⊥) → EntersSoFar d (n + 1) best
enters_skip d n None h never = λ t lt i. elim (cases_eq t n) [ inl e ↦ never (subst (IsImproving d) e i) | inr ne ↦ h t (omega arith) i ]
enters_skip d n (Some q) h never = (omega (arith, h.0), h.1, λ t lt i. elim (cases_eq t n) [ inl e ↦ absurd (never (subst (IsImproving d) e i)) | inr ne ↦ h.2 t (omega arith) i ])

pub enters_keep : (d : CostForm) (n q : ℕ) → EntersSoFar d n (Some q) → slice_index d.out q ≤ slice_index d.out n → EntersSoFar d (n + 1) (Some q)
enters_keep d n q h le = (omega (arith, h.0), h.1, λ t lt i. elim (cases_eq t n) [ inl e ↦ subst (λ (s : ℕ). slice_index d.out q ≤ slice_index d.out s) (sym e) le | inr ne ↦ h.2 t (omega arith) i ])

pub enters_first : (d : CostForm) (n : ℕ) → EntersSoFar d n None → IsImproving d n → EntersSoFar d (n + 1) (Some n)
enters_first d n h i = (omega arith, i, λ t lt j. elim (cases_eq t n) [ inl e ↦ subst (λ (s : ℕ). slice_index d.out n ≤ slice_index d.out s) (sym e) (omega arith) | inr ne ↦ absurd (h t (omega arith) j) ])

pub enters_take : (d : CostForm) (n q : ℕ) → EntersSoFar d n (Some q) → slice_index d.out n < slice_index d.out q → IsImproving d n → EntersSoFar d (n + 1) (Some n)
enters_take d n q h lt i = (omega arith, i, λ t tl j. elim (cases_eq t n) [ inl e ↦ subst (λ (s : ℕ). slice_index d.out n ≤ slice_index d.out s) (sym e) (omega arith) | inr ne ↦ (let k = h.2 t (omega arith) j in omega arith) ])

pub enters_all : (d : CostForm) (q : ℕ) → EntersSoFar d (length d.out) (Some q) → Enters d q
enters_all d q h = record { improving = h.1; least = λ t i. h.2 t i.0 i }

-- ---- ratios
pub times_le : (a b k : ℤ) → a ≤ℤ b → pos 0 ≤ℤ k → (a *ℤ k) ≤ℤ (b *ℤ k)
times_le a b (pos k) h p = omega (arith, ints, mul-le-mul_left k (let i : up a + down b ≤ up b + down a = omega (arith, ints) in i))
times_le a b (negsuc k) h p = absurd (omega (arith, ints))

pub times_lt : (a b k : ℤ) → a <ℤ b → pos 0 <ℤ k → (a *ℤ k) <ℤ (b *ℤ k)
times_lt a b (pos k) h p = omega (arith, ints, mul-lt-mul_of_pos_right (let i : up a + down b < up b + down a = omega (arith, ints) in i) (let j : 0 < k = omega (arith, ints) in j))
times_lt a b (negsuc k) h p = absurd (omega (arith, ints))

cancel_lt : (a b k : ℤ) → (a *ℤ k) <ℤ (b *ℤ k) → pos 0 <ℤ k → a <ℤ b
cancel_lt a b k h p = by_lt_z a b (λ i. i) (λ j. absurd (let t = times_le b a k j (omega (arith, ints)) in omega (arith, ints)))

swap_last : (a b c : ℤ) → a *ℤ b *ℤ c ≡ a *ℤ c *ℤ b
swap_last a b c = ring (a ∷ b ∷ c ∷ []) ((x 0 ⊗ x 1) ⊗ x 2) ((x 0 ⊗ x 2) ⊗ x 1) (omega arith)

-- c / a of s, n, k: from c_s a_n to c_n a_s, and c_n a_k to c_k a_n, what holds of c_s a_k and c_k a_s
chain_lt : (cs cn ck us un uk : ℤ) → pos 0 <ℤ us → pos 0 <ℤ un → pos 0 <ℤ uk → (cs *ℤ un) <ℤ (cn *ℤ us) → (cn *ℤ uk) ≤ℤ (ck *ℤ un) → (cs *ℤ uk) <ℤ (ck *ℤ us)
chain_lt cs cn ck us un uk ps pn pk h i =
    let one : (cs *ℤ un *ℤ uk) <ℤ (cn *ℤ us *ℤ uk) = times_lt (cs *ℤ un) (cn *ℤ us) uk h pk in
    let two : (cn *ℤ uk *ℤ us) ≤ℤ (ck *ℤ un *ℤ us) = times_le (cn *ℤ uk) (ck *ℤ un) us i (omega (arith, ints)) in
    cancel_lt (cs *ℤ uk) (ck *ℤ us) un
    (subst (λ (y : ℤ). y <ℤ (ck *ℤ us *ℤ un)) (swap_last cs un uk) (subst (λ (y : ℤ). (cs *ℤ un *ℤ uk) <ℤ y) (swap_last ck un us)
    (join (cs *ℤ un *ℤ uk) (cn *ℤ us *ℤ uk) (cn *ℤ uk *ℤ us) (ck *ℤ un *ℤ us) one (swap_last cn us uk) two))) pn
  where
    join : (a b c d : ℤ) → a <ℤ b → b ≡ c → c ≤ℤ d → a <ℤ d
    join a b c d h e i = omega (arith, ints)

chain_le : (cs cn ck us un uk : ℤ) → pos 0 <ℤ us → pos 0 <ℤ un → pos 0 <ℤ uk → (cs *ℤ un) ≤ℤ (cn *ℤ us) → (cn *ℤ uk) <ℤ (ck *ℤ un) → (cs *ℤ uk) <ℤ (ck *ℤ us)
chain_le cs cn ck us un uk ps pn pk h i =
    let one : (cs *ℤ un *ℤ uk) ≤ℤ (cn *ℤ us *ℤ uk) = times_le (cs *ℤ un) (cn *ℤ us) uk h (omega (arith, ints)) in
    let two : (cn *ℤ uk *ℤ us) <ℤ (ck *ℤ un *ℤ us) = times_lt (cn *ℤ uk) (ck *ℤ un) us i ps in
    cancel_lt (cs *ℤ uk) (ck *ℤ us) un
    (subst (λ (y : ℤ). y <ℤ (ck *ℤ us *ℤ un)) (swap_last cs un uk) (subst (λ (y : ℤ). (cs *ℤ un *ℤ uk) <ℤ y) (swap_last ck un us)
    (join (cs *ℤ un *ℤ uk) (cn *ℤ us *ℤ uk) (cn *ℤ uk *ℤ us) (ck *ℤ un *ℤ us) one (swap_last cn us uk) two))) pn
  where
    join : (a b c d : ℤ) → a ≤ℤ b → b ≡ c → c <ℤ d → a <ℤ d
    join a b c d h e i = omega (arith, ints)

chain_eq : (cs cn ck us un uk : ℤ) → pos 0 <ℤ un → cs *ℤ un ≡ cn *ℤ us → cn *ℤ uk ≡ ck *ℤ un → cs *ℤ uk ≡ ck *ℤ us
chain_eq cs cn ck us un uk pn h i =
    cancel un (cs *ℤ uk) (ck *ℤ us) pn
    (ring (cs ∷ un ∷ uk ∷ []) (x 1 ⊗ (x 0 ⊗ x 2)) ((x 0 ⊗ x 1) ⊗ x 2) (omega arith) ∙ ap (λ (y : ℤ). y *ℤ uk) h
    ∙ swap_last cn us uk ∙ ap (λ (y : ℤ). y *ℤ us) i ∙ ring (ck ∷ un ∷ us ∷ []) ((x 0 ⊗ x 1) ⊗ x 2) (x 1 ⊗ (x 0 ⊗ x 2)) (omega arith))

pub tighter_trans : (d : CostForm) (q s n k : ℕ) → IsBounding d q s → IsBounding d q n → IsBounding d q k → IsTighter d q s n → IsTighter d q n k → IsTighter d q s k
tighter_trans d q s n k bs bn bk h i =
    let cs : ℤ = entry d s 1 in let cn : ℤ = entry d n 1 in let ck : ℤ = entry d k 1 in
    let us : ℤ = entry d s (q + 2) in let un : ℤ = entry d n (q + 2) in let uk : ℤ = entry d k (q + 2) in
    elim h [
      | inl u ↦ elim i [
        | inl v ↦ inl (chain_lt cs cn ck us un uk bs.1 bn.1 bk.1 u (omega (arith, ints)))
        | inr v ↦ inl (chain_lt cs cn ck us un uk bs.1 bn.1 bk.1 u (let e : cn *ℤ uk ≡ ck *ℤ un = v.0 in omega (arith, ints)))
      ]
      | inr u ↦ elim i [
        | inl v ↦ inl (chain_le cs cn ck us un uk bs.1 bn.1 bk.1 (let e : cs *ℤ un ≡ cn *ℤ us = u.0 in omega (arith, ints)) v)
        | inr v ↦ inr (chain_eq cs cn ck us un uk bn.1 u.0 v.0, omega (arith, u.1, v.1))
      ]
    ]

not_tighter : (d : CostForm) (q n : ℕ) → IsTighter d q n n → ⊥
not_tighter d q n h = elim h [ inl u ↦ omega (arith, ints) | inr u ↦ omega (arith, u.1) ]

pub leaves_skip : (d : CostForm) (q n : ℕ) (best : Option ℕ) → LeavesSoFar d q n best → (IsBounding d q n → ⊥) → LeavesSoFar d q (n + 1) best
leaves_skip d q n None h never = λ t lt i. elim (cases_eq t n) [ inl e ↦ never (subst (IsBounding d q) e i) | inr ne ↦ h t (omega arith) i ]
leaves_skip d q n (Some k) h never = (omega (arith, h.0), h.1, λ t lt i tight. elim (cases_eq t n) [ inl e ↦ never (subst (IsBounding d q) e i) | inr ne ↦ h.2 t (omega arith) i tight ])

pub leaves_first : (d : CostForm) (q n : ℕ) → LeavesSoFar d q n None → IsBounding d q n → LeavesSoFar d q (n + 1) (Some n)
leaves_first d q n h i = (omega arith, i, λ t lt j tight. elim (cases_eq t n) [ inl e ↦ not_tighter d q n (subst (λ (s : ℕ). IsTighter d q s n) e tight) | inr ne ↦ h t (omega arith) j ])

pub leaves_keep : (d : CostForm) (q n k : ℕ) → LeavesSoFar d q n (Some k) → (IsTighter d q n k → ⊥) → LeavesSoFar d q (n + 1) (Some k)
leaves_keep d q n k h never = (omega (arith, h.0), h.1, λ t lt i tight. elim (cases_eq t n) [ inl e ↦ never (subst (λ (s : ℕ). IsTighter d q s k) e tight) | inr ne ↦ h.2 t (omega arith) i tight ])

pub leaves_take : (d : CostForm) (q n k : ℕ) → LeavesSoFar d q n (Some k) → IsBounding d q n → IsTighter d q n k → LeavesSoFar d q (n + 1) (Some n)
leaves_take d q n k h i better = (
  omega arith,
  i,
  λ t lt j tight. elim (cases_eq t n) [
    | inl e ↦ not_tighter d q n (subst (λ (s : ℕ). IsTighter d q s n) e tight)
    | inr ne ↦ h.2 t (omega arith) j (tighter_trans d q t n k j i h.1 tight better)
  ],
)

pub leaves_all : (d : CostForm) (q k : ℕ) → LeavesSoFar d q (length d.basic) (Some k) → Leaves d q k
leaves_all d q k h = record {
  bounding = h.1;
  least = λ s b. by_lt_z (ratio d q s k) (ratio d q k s) (λ lt. absurd (h.2 s b.0 b (inl lt))) (λ le. le);
  first = λ s b e. elim (cases_lt (slice_index d.basic s) (slice_index d.basic k)) [ inl lt ↦ absurd (h.2 s b.0 b (inr (sym e, lt))) | inr ge ↦ ge ];
}

pub tighter_tie : (d : CostForm) (q k s a b : ℕ) → ratio d q k s ≡ ratio d q s k → a ≡ slice_index d.basic k → b ≡ slice_index d.basic s → (a < b) ↔ IsTighter d q k s
tighter_tie d q k s a b e ka kb = (
  λ i. inr (e, omega arith),
  λ h. elim h [ inl u ↦ absurd (omega (arith, ints)) | inr u ↦ omega (arith, u.1) ],
)

pub tighter_apart : (d : CostForm) (q k s : ℕ) (a b : ℤ) → a ≡ ratio d q k s → b ≡ ratio d q s k → (a ≡ b → ⊥) → (a <ℤ b) ↔ IsTighter d q k s
tighter_apart d q k s a b ka kb ne = (
  λ i. inl (omega (arith, ints)),
  λ h. elim h [ inl u ↦ omega (arith, ints) | inr u ↦ absurd (ne (ka ∙ u.0 ∙ sym kb)) ],
)
