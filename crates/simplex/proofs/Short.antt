-- Row updates by exact quotients: what the products stay below, and what makes the row that a pivot leaves.
use Rattle.std.proofs.Common.{ℕ, ◌+◌, ◌*◌, ◌^◌, ◌<◌, ◌≤◌, ◌≡◌, ◌≢◌, ℤ, pos, ◌+ℤ◌, ◌-ℤ◌, ◌*ℤ◌, ◌<ℤ◌, List, [], ◌∷◌, length, sym, ap, ◌∙◌, subst, arith, unsigned_abs, inl, inr, set, lit≤, ◌-◌, ◌/◌, mul-le-mul_left, mul_comm, FitsSigned, to_z, of_z, to_z-of_z}
use Rattle.std.specs.Int.{◌∣◌, IsGcd, w64, w128}
use Rattle.std.proofs.Math.Nat.{eq-zero_of_zero-dvd, dvd-mul_right, div-mul-le_self}
use Rattle.std.proofs.Math.ListN.{length-set}
use Rattle.std.proofs.lemmas.Int.{ints, unsigned_abs-mul, fits_signed_from_abs}
use Rattle.std.proofs.lemmas.Nat.{mul-lt}
use Rattle.std.proofs.lemmas.Bool.{cases_eq}
use Rattle.std.proofs.lemmas.List.{get_or-set_same, get_or-set_other}
use Rattle.scaled_num.proofs.Ring.{ring, x, ◌⊗◌, ◌⊕◌, ◌⊖◌}
use Rattle.simplex.specs.Program.{at, entry_limit, IsNarrow}
use Rattle.simplex.specs.Elimination.{word_of, ArePivotWords, left_of, eliminated, IsCommonBound, AreQuotients, IsMade}
use Rattle.simplex.proofs.Divisor.{lead_there, lead_positive}

-- ---- products
pub word_product_small : (a b : ℤ) → IsNarrow a → FitsSigned w64 b → unsigned_abs (a *ℤ b) < 2 ^ 126
word_product_small a b h k =
    let word : unsigned_abs b < 2 ^ 63 + 1 = omega (arith, ints) in
    let most : unsigned_abs a * unsigned_abs b < 2 ^ 62 * (2 ^ 63 + 1) = mul-lt (unsigned_abs a) (unsigned_abs b) (2 ^ 62) (2 ^ 63 + 1) h word in
    let wide : 2 ^ 62 * (2 ^ 63 + 1) ≤ 2 ^ 126 = lit≤ tt in
    subst (λ (t : ℕ). t < 2 ^ 126) (sym (unsigned_abs-mul a b)) (omega arith)

-- ---- the pivot row in words
plain_word : (row pivot : List ℤ) (q k : ℕ) → k ≢ 0 → k ≢ q + 2 → at pivot (q + 2) *ℤ at row k -ℤ at row (q + 2) *ℤ word_of pivot q k ≡ eliminated row pivot q k
plain_word row pivot q k z p = grind arith

lead_word : (row pivot : List ℤ) (q : ℕ) → at pivot (q + 2) *ℤ at row 0 -ℤ at row (q + 2) *ℤ word_of pivot q 0 ≡ eliminated row pivot q 0
lead_word row pivot q = grind arith

place_word : (row pivot : List ℤ) (q : ℕ) → at pivot (q + 2) *ℤ at row (q + 2) -ℤ at row (q + 2) *ℤ word_of pivot q (q + 2) ≡ eliminated row pivot q (q + 2)
place_word row pivot q =
    let w : word_of pivot q (q + 2) ≡ at pivot (q + 2) +ℤ at pivot 0 = grind arith in
    let e : eliminated row pivot q (q + 2) ≡ at pivot (q + 2) *ℤ pos 0 -ℤ at row (q + 2) *ℤ at pivot 0 = grind arith in
    ap (λ (y : ℤ). at pivot (q + 2) *ℤ at row (q + 2) -ℤ at row (q + 2) *ℤ y) w ∙ ring (at pivot (q + 2) ∷ at row (q + 2) ∷ at pivot 0 ∷ pos 0 ∷ []) (x 0 ⊗ x 1 ⊖ x 1 ⊗ (x 0 ⊕ x 2)) (x 0 ⊗ x 3 ⊖ x 1 ⊗ x 2) (omega arith) ∙ sym e

pub left_is : (row pivot words : List ℤ) (q k : ℕ) → k < length pivot → ArePivotWords pivot q words → left_of (at pivot (q + 2)) (at row (q + 2)) row words k ≡ eliminated row pivot q k
left_is row pivot words q k kl are =
    ap (λ (y : ℤ). at pivot (q + 2) *ℤ at row k -ℤ at row (q + 2) *ℤ y) (are.each k kl) ∙ elim (cases_eq k 0) [
      | inl z ↦ subst (λ (i : ℕ). at pivot (q + 2) *ℤ at row i -ℤ at row (q + 2) *ℤ word_of pivot q i ≡ eliminated row pivot q i) (sym z) (lead_word row pivot q)
      | inr nz ↦ elim (cases_eq k (q + 2)) [
        | inl p ↦ subst (λ (i : ℕ). at pivot (q + 2) *ℤ at row i -ℤ at row (q + 2) *ℤ word_of pivot q i ≡ eliminated row pivot q i) (sym p) (place_word row pivot q)
        | inr np ↦ plain_word row pivot q k nz np
      ]
    ]

word_plain : (pivot : List ℤ) (q k : ℕ) → k ≢ 0 → k ≢ q + 2 → word_of pivot q k ≡ at pivot k
word_plain pivot q k z p = grind arith

word_place : (pivot : List ℤ) (q : ℕ) → word_of pivot q (q + 2) ≡ at pivot (q + 2) +ℤ at pivot 0
word_place pivot q = grind arith

word_lead : (pivot : List ℤ) (q : ℕ) → word_of pivot q 0 ≡ pos 0
word_lead pivot q = grind arith

pub words_filled : (pivot now : List ℤ) (q : ℕ) (sum : ℤ) → length now ≡ length pivot → q + 2 < length pivot → ((k : ℕ) → k < length pivot → at now k ≡ at pivot k) → sum ≡ at pivot (q + 2) +ℤ at pivot 0
    → ArePivotWords pivot q (set (set now (q + 2) sum) 0 (pos 0))
words_filled pivot now q sum long ql h is =
    let one : List ℤ = set now (q + 2) sum in
    let ol : length one ≡ length pivot = length-set now (q + 2) sum ∙ long in
    record {
      long = length-set one 0 (pos 0) ∙ ol;
      each = λ k kl. elim (cases_eq k 0) [
        | inl z ↦ ap (at (set one 0 (pos 0))) z ∙ get_or-set_same one 0 (pos 0) (pos 0) (omega arith) ∙ sym (ap (word_of pivot q) z ∙ word_lead pivot q)
        | inr nz ↦ get_or-set_other one 0 k (pos 0) (pos 0) nz ∙ elim (cases_eq k (q + 2)) [
          | inl p ↦ ap (at one) p ∙ get_or-set_same now (q + 2) sum (pos 0) (omega arith) ∙ is ∙ sym (ap (word_of pivot q) p ∙ word_place pivot q)
          | inr np ↦ get_or-set_other now (q + 2) k sum (pos 0) np ∙ h k kl ∙ sym (word_plain pivot q k nz np)
        ]
      ];
    }

-- ---- quotients
pub quotients_more : (lead part : ℤ) (row words : List ℤ) (g : ℤ) (n : ℕ) (now : List ℤ) (found : ℤ) → n < length now → AreQuotients lead part row words g n now
    → g *ℤ found ≡ left_of lead part row words n → IsNarrow found → AreQuotients lead part row words g (n + 1) (set now n found)
quotients_more lead part row words g n now found nl so exact narrow k kl = elim (cases_eq k n) [
  | inl same ↦ subst (λ (i : ℕ). (g *ℤ at (set now n found) i ≡ left_of lead part row words i) × IsNarrow (at (set now n found) i)) (sym same)
      (subst (λ (y : ℤ). (g *ℤ y ≡ left_of lead part row words n) × IsNarrow y) (sym (get_or-set_same now n found (pos 0) nl)) (exact, narrow))
  | inr ne ↦ subst (λ (y : ℤ). (g *ℤ y ≡ left_of lead part row words k) × IsNarrow y) (sym (get_or-set_other now n k found (pos 0) ne)) (so k (omega arith))
]

-- the quotients by a divisor that is made smaller
pub quotients_scaled : (lead part : ℤ) (row words : List ℤ) (g less ratio : ℤ) (n : ℕ) (now scaled : List ℤ) → less *ℤ ratio ≡ g → AreQuotients lead part row words g n now
    → ((k : ℕ) → k < n → at scaled k ≡ ratio *ℤ at now k) → ((k : ℕ) → k < n → IsNarrow (at scaled k)) → AreQuotients lead part row words less n scaled
quotients_scaled lead part row words g less ratio n now scaled e so done narrow k kl = (
  ap (λ (y : ℤ). less *ℤ y) (done k kl) ∙ ring (less ∷ ratio ∷ at now k ∷ []) (x 0 ⊗ (x 1 ⊗ x 2)) ((x 0 ⊗ x 1) ⊗ x 2) (omega arith) ∙ ap (λ (y : ℤ). y *ℤ at now k) e ∙ (so k kl).0,
  narrow k kl,
)

-- ---- the divisor
pub common_there : (row pivot : List ℤ) (place a b g : ℕ) → 0 < length row → place + 2 < length row → pos 0 <ℤ at row 0 → pos 0 <ℤ at pivot (place + 2)
    → a ≡ unsigned_abs (eliminated row pivot place 0) → b ≡ unsigned_abs (eliminated row pivot place (place + 2)) → IsGcd a b g → (0 < g) × IsCommonBound row pivot place g
common_there row pivot place a b g some pl lead pivot_lead ea eb gcd = (
  elim (cases_eq g 0) [
    | inl z ↦ absurd (lead_positive (at pivot (place + 2)) (at row 0) pivot_lead lead
        (sym (ap unsigned_abs (lead_there row pivot place)) ∙ sym ea ∙ eq-zero_of_zero-dvd (subst (λ (i : ℕ). i ∣ a) z gcd.0)))
    | inr ne ↦ omega arith
  ],
  λ d h. gcd.2 d (subst (λ (t : ℕ). d ∣ t) (sym ea) (h 0 some)) (subst (λ (t : ℕ). d ∣ t) (sym eb) (h (place + 2) pl)),
)

pub common_less : (row pivot : List ℤ) (place g size column less : ℕ) → column < length row → 0 < g → IsCommonBound row pivot place g → size ≡ unsigned_abs (eliminated row pivot place column) → IsGcd g size less
    → (0 < less) × IsCommonBound row pivot place less
common_less row pivot place g size column less cl some bound e gcd = (
  elim (cases_eq less 0) [
    | inl z ↦ absurd (let none : g ≡ 0 = eq-zero_of_zero-dvd (subst (λ (i : ℕ). i ∣ g) z gcd.0) in omega arith)
    | inr ne ↦ omega arith
  ],
  λ d h. gcd.2 d (bound d h) (subst (λ (t : ℕ). d ∣ t) (sym e) (h column cl)),
)

pub made_by_quotients : (row pivot words : List ℤ) (place g : ℕ) (new : List ℤ) → length pivot ≡ length row → length new ≡ length row → 0 < g → ArePivotWords pivot place words → IsCommonBound row pivot place g
    → AreQuotients (at pivot (place + 2)) (at row (place + 2)) row words (pos g) (length row) new → IsMade row pivot place new
made_by_quotients row pivot words place g new same long some are bound all =
    let each : (k : ℕ) → k < length row → pos g *ℤ at new k ≡ eliminated row pivot place k = λ k kl. (all k kl).0 ∙ left_is row pivot words place k (omega arith) are in
    record {
      g = g;
      divisor = record {
        positive = some;
        divides = λ k kl. subst (λ (t : ℕ). g ∣ t) (sym (unsigned_abs-mul (pos g) (at new k)) ∙ ap unsigned_abs (each k kl)) (dvd-mul_right g (unsigned_abs (at new k)));
        greatest = bound;
      };
      reduced = record { long = long; each = each };
      narrow = λ k kl. (all k (omega arith)).1;
    }

-- ---- words
pub difference_word : (s t : ℤ) → unsigned_abs s < 2 ^ 126 → unsigned_abs t < 2 ^ 126 → to_z w128 (of_z w128 (to_z w128 (of_z w128 s) -ℤ to_z w128 (of_z w128 t))) ≡ s -ℤ t
difference_word s t h k =
    let fs : FitsSigned w128 s = fits_signed_from_abs w128 s (omega arith) in
    let ft : FitsSigned w128 t = fits_signed_from_abs w128 t (omega arith) in
    let fd : FitsSigned w128 (s -ℤ t) = fits_signed_from_abs w128 (s -ℤ t) (omega (arith, ints)) in
    simp to_z-of_z

pub set_narrow : (xs : List ℤ) (n : ℕ) (y : ℤ) → n < length xs → ((k : ℕ) → k < n → IsNarrow (at xs k)) → IsNarrow y → (k : ℕ) → k < n + 1 → IsNarrow (at (set xs n y) k)
set_narrow xs n y nl h e k kl = elim (cases_eq k n) [
  | inl same ↦ subst IsNarrow (sym (ap (at (set xs n y)) same ∙ get_or-set_same xs n y (pos 0) nl)) e
  | inr ne ↦ subst IsNarrow (sym (get_or-set_other xs n k y (pos 0) ne)) (h k (omega arith))
]

-- ---- products of 64 bits
pub narrow_word : (a : ℤ) → IsNarrow a → FitsSigned w64 a
narrow_word a h = fits_signed_from_abs w64 a (omega arith)

pub narrow_difference : (s t : ℤ) → IsNarrow s → IsNarrow t → FitsSigned w64 (s -ℤ t)
narrow_difference s t h k = fits_signed_from_abs w64 (s -ℤ t) (omega (arith, ints))

pub narrow_beside : (factor number most : ℤ) → unsigned_abs factor * unsigned_abs most < entry_limit → unsigned_abs number ≤ unsigned_abs most → IsNarrow (factor *ℤ number)
narrow_beside factor number most h le =
    subst (λ (t : ℕ). t < 2 ^ 62) (sym (unsigned_abs-mul factor number)) (let i : unsigned_abs factor * unsigned_abs number ≤ unsigned_abs factor * unsigned_abs most = mul-le-mul_left (unsigned_abs factor) le in omega arith)

pub product_word : (by found most : ℤ) → unsigned_abs by * unsigned_abs most < entry_limit → unsigned_abs found ≤ unsigned_abs most → FitsSigned w64 (by *ℤ found)
product_word by found most h le = narrow_word (by *ℤ found) (narrow_beside by found most h le)

pub short_difference_is : (lead own part word : ℤ) → FitsSigned w64 lead → FitsSigned w64 own → FitsSigned w64 part → FitsSigned w64 word → IsNarrow (lead *ℤ own) → IsNarrow (part *ℤ word)
    → to_z w64 (of_z w64 (to_z w64 (of_z w64 (to_z w64 (of_z w64 lead) *ℤ to_z w64 (of_z w64 own))) -ℤ to_z w64 (of_z w64 (to_z w64 (of_z w64 part) *ℤ to_z w64 (of_z w64 word))))) ≡ lead *ℤ own -ℤ part *ℤ word
short_difference_is lead own part word a b d e h k =
    let p : FitsSigned w64 (lead *ℤ own) = narrow_word (lead *ℤ own) h in
    let q : FitsSigned w64 (part *ℤ word) = narrow_word (part *ℤ word) k in
    let r : FitsSigned w64 (lead *ℤ own -ℤ part *ℤ word) = narrow_difference (lead *ℤ own) (part *ℤ word) h k in
    simp to_z-of_z

-- the greatest narrow number, divided
pub beside_narrow : (factor : ℕ) (size : ℕ) → factor ≤ size → 0 < size → factor * ((2 ^ 62 - 1) / size) < 2 ^ 62
beside_narrow factor size le some =
    let whole : (2 ^ 62 - 1) / size * size ≤ 2 ^ 62 - 1 = div-mul-le_self (2 ^ 62 - 1) size in
    let part : (2 ^ 62 - 1) / size * factor ≤ (2 ^ 62 - 1) / size * size = mul-le-mul_left ((2 ^ 62 - 1) / size) le in
    let flip : factor * ((2 ^ 62 - 1) / size) ≡ (2 ^ 62 - 1) / size * factor = mul_comm factor ((2 ^ 62 - 1) / size) in
    omega arith
