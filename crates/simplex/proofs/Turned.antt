-- A goal row and its row of costs.
use Rattle.std.proofs.Common.{ℕ, suc, ◌+◌, ◌<◌, ◌≡◌, ℤ, pos, neg_ℤ, List, [], ◌∷◌, ◌++◌, map, take, length, get_or, refl, sym, ap, ap₂, subst, ◌∙◌, ◌^◌, arith, unsigned_abs}
use Rattle.std.specs.Int.{◌∣◌}
use Rattle.std.proofs.lemmas.Int.{ints}
use Rattle.std.proofs.lemmas.List.{length-map, length-append, get_or_append_left}
use Rattle.std.proofs.Math.IntN.{neg_ℤ-neg_ℤ}
use Rattle.std.proofs.Math.ListN.{get_or-map}
use Rattle.std.proofs.Math.Seq.{get_or-append_seam, take-append_seam, take-suc, take-length}
use Rattle.simplex.specs.Program.{at, AllNarrow}
use Rattle.simplex.specs.Dictionary.{Dictionary, AreCoprime, row_at, number}
use Rattle.simplex.specs.CostForm.{CostForm, row_of, entry}
use Rattle.simplex.specs.Forms.{turned, with_costs, with_goal}
use Rattle.simplex.proofs.Unique.{by_column}

-- ---- the turned row
pub at_shift : (a b : ℤ) (row : List ℤ) (q : ℕ) → at (a ∷ b ∷ row) (q + 2) ≡ at row q
at_shift a b row q = ap (at (a ∷ b ∷ row)) (let e : q + 2 ≡ suc (suc q) = omega arith in e)

at_nothing : (k : ℕ) → at [] k ≡ pos 0
at_nothing k = refl

at_one_shift : (a : ℤ) (q : ℕ) → at (a ∷ []) (q + 2) ≡ pos 0
at_one_shift a q = ap (at (a ∷ [])) (let e : q + 2 ≡ suc (suc q) = omega arith in e)

pub turned-lead : (row : List ℤ) → at (turned row) 0 ≡ at row 0
turned-lead [] = refl
turned-lead (a ∷ []) = refl
turned-lead (a ∷ b ∷ row) = refl

pub turned-constant : (row : List ℤ) → at (turned row) 1 ≡ at row 1
turned-constant [] = refl
turned-constant (a ∷ []) = refl
turned-constant (a ∷ b ∷ row) = refl

pub turned-coefficient : (row : List ℤ) (q : ℕ) → at (turned row) (q + 2) ≡ neg_ℤ (at row (q + 2))
turned-coefficient [] q = refl
turned-coefficient (a ∷ []) q = at_one_shift a q ∙ ap neg_ℤ (sym (at_one_shift a q))
turned-coefficient (a ∷ b ∷ row) q = at_shift a b (map neg_ℤ row) q ∙ get_or-map neg_ℤ row q (pos 0) ∙ ap neg_ℤ (sym (at_shift a b row q))

pub length-turned : (row : List ℤ) → length (turned row) ≡ length row
length-turned [] = refl
length-turned (a ∷ []) = refl
length-turned (a ∷ b ∷ row) = ap (λ (n : ℕ). suc (suc n)) (length-map row neg_ℤ)

map_twice : (row : List ℤ) → map neg_ℤ (map neg_ℤ row) ≡ row
map_twice [] = refl
map_twice (a ∷ row) = ap₂ (λ (x : ℤ) (xs : List ℤ). x ∷ xs) (neg_ℤ-neg_ℤ a) (map_twice row)

pub turned_twice : (row : List ℤ) → turned (turned row) ≡ row
turned_twice [] = refl
turned_twice (a ∷ []) = refl
turned_twice (a ∷ b ∷ row) = ap (λ (xs : List ℤ). a ∷ b ∷ xs) (map_twice row)

size_turned : (a : ℤ) → unsigned_abs (neg_ℤ a) ≡ unsigned_abs a
size_turned a = omega (arith, ints)

pub turned-size : (row : List ℤ) (j : ℕ) → unsigned_abs (at (turned row) j) ≡ unsigned_abs (at row j)
turned-size row j = by_column j (λ (i : ℕ). unsigned_abs (at (turned row) i) ≡ unsigned_abs (at row i)) (ap unsigned_abs (turned-lead row)) (ap unsigned_abs (turned-constant row))
    (λ q e. subst (λ (i : ℕ). unsigned_abs (at (turned row) i) ≡ unsigned_abs (at row i)) (sym e) (ap unsigned_abs (turned-coefficient row q) ∙ size_turned (at row (q + 2))))

pub AreCoprime-turned : (row : List ℤ) → AreCoprime row → AreCoprime (turned row)
AreCoprime-turned row h = λ d divides. h d (λ k kl. subst (λ (n : ℕ). d ∣ n) (turned-size row k) (divides k (omega (arith, length-turned row))))

pub AllNarrow-turned : (row : List ℤ) → AllNarrow row → AllNarrow (turned row)
AllNarrow-turned row h = λ k kl. subst (λ (n : ℕ). n < 2 ^ 62) (sym (turned-size row k)) (h k (omega (arith, length-turned row)))

-- ---- the rows of both forms
pub row-below : (d : Dictionary) (k : ℕ) → k < length d.rows → row_of (with_costs d) k ≡ row_at d k
row-below d k h = get_or_append_left d.rows (turned d.goal ∷ []) [] k h

pub row-last : (d : Dictionary) (k : ℕ) → k ≡ length d.rows → row_of (with_costs d) k ≡ turned d.goal
row-last d k e = subst (λ (i : ℕ). get_or (d.rows ++ turned d.goal ∷ []) i [] ≡ turned d.goal) (sym e) (get_or-append_seam d.rows (turned d.goal) [] [])

pub entry-below : (d : Dictionary) (k column : ℕ) → k < length d.rows → entry (with_costs d) k column ≡ number d k column
entry-below d k column h = ap (λ (row : List ℤ). at row column) (row-below d k h)

pub length-rows : (d : Dictionary) → length (with_costs d).rows ≡ length d.rows + 1
length-rows d = length-append d.rows (turned d.goal ∷ [])

-- ---- there and back
same_dictionary : (d e : Dictionary) → d.basic ≡ e.basic → d.out ≡ e.out → d.rows ≡ e.rows → d.goal ≡ e.goal → d ≡ e
same_dictionary d e b o r g = ap₂ (λ (s : List ℕ × List ℕ) (t : List (List ℤ) × List ℤ). let new : Dictionary = record { basic = s.0; out = s.1; rows = t.0; goal = t.1 } in new) (pair b o) (pair r g)
  where
    pair : {A B : Type 0} {a c : A} {x y : B} → a ≡ c → x ≡ y → (let l : A × B = (a, x) in l) ≡ (let r : A × B = (c, y) in r)
    pair e f = ap₂ (λ s t. (s, t)) e f

same_form : (d e : CostForm) → d.basic ≡ e.basic → d.out ≡ e.out → d.rows ≡ e.rows → d ≡ e
same_form d e b o r = ap₂ (λ (s : List ℕ × List ℕ) (t : List (List ℤ)). let new : CostForm = record { basic = s.0; out = s.1; rows = t } in new) (ap₂ (λ s t. (s, t)) b o) r

pub with_goal-with_costs : (d : Dictionary) → length d.rows ≡ length d.basic → with_goal (with_costs d) ≡ d
with_goal-with_costs d h =
    same_dictionary _ _ refl refl
    (subst (λ (n : ℕ). take n (d.rows ++ turned d.goal ∷ []) ≡ d.rows) h (take-append_seam d.rows (turned d.goal ∷ [])))
    (ap turned (row-last d (length d.basic) (sym h)) ∙ turned_twice d.goal)

pub with_costs-with_goal : (d : CostForm) → length d.rows ≡ length d.basic + 1 → with_costs (with_goal d) ≡ d
with_costs-with_goal d h =
    let m : ℕ = length d.basic in
    same_form _ _ refl refl
    (ap (λ (row : List ℤ). take m d.rows ++ row ∷ []) (turned_twice (row_of d m))
    ∙ sym (take-suc d.rows m [] (omega arith))
    ∙ ap (λ (n : ℕ). take n d.rows) (let e : suc m ≡ length d.rows = omega arith in e)
    ∙ take-length d.rows)
