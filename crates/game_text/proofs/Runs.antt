-- Entries that may stand in a row, and the rows that they spell.
use Rattle.std.proofs.Common.{◌≡◌, ℕ, ◌*◌, ◌/◌, ◌<◌, Bool, true, false, cond, eqb, List, [], ◌∷◌, length, map, Option, Some, None, Ok, ℤ, pos, refl, sym, ap, subst, ◌∙◌, arith, inl, inr, ◌⊎◌}
use Rattle.game_model.specs.Limits.{most_row_total}
use Rattle.std.specs.Prelude.{◌≤ℤ◌, ◌+ℤ◌, codes}
use Rattle.std.specs.List.{AllByRecursion}
use Rattle.std.proofs.lemmas.Int.{ints}
use Rattle.std.proofs.lemmas.Bool.{eqb-true}
use Rattle.std.proofs.lemmas.Bool.Decides.{nat_tests}
use Rattle.std.proofs.Math.Nat.{div-lt_iff_lt-mul}
use Rattle.scaled_num.specs.Sums.{total}
use Rattle.text_words.specs.Lines.{Line}
use Rattle.text_words.specs.Forms.{begins}
use Rattle.game_model.specs.declared.parts.Shape.{Shape}
use Rattle.game_model.specs.declared.parts.Landing.{Landing}
use Rattle.game_model.specs.Game.{IsWithin, IsBelief, IsNarrow, IsShape, IsBefore, IsLanding, IsRewardInRange, triples, row_sum}
use Rattle.game_text.specs.Forms.{state_at, own_at, informed_at}
use Rattle.game_text.specs.Entries.{Entry, Version, Size, Total, Discount, First, Step, Out, End, shape_in, begun_in, sum_in, pair_in, entry_of, row_end_said, out_said, step_said, end_said}
use Rattle.game_text.specs.Progress.{IsOpen}
use Rattle.game_text.specs.Steps.{Say}
use Rattle.game_text.proofs.Guards.{IsAfter}
use Rattle.game_text.proofs.Said.{words_in, SizeFits, DiscountFits, StepFits, OutFits, version-ok, version-to, size-ok, size-to, total-ok, total-to, discount-ok, discount-to, first-ok, first-to, step-ok, step-to, out-ok, out-to, end-ok, end-to}

-- what the entry before is

abbrev pub IsFirst : List Entry → Type 0
IsFirst before = (weights : List ℤ) × (b : List Entry) × (before ≡ First weights ∷ b)

abbrev pub IsStep : List Entry → Type 0
IsStep before = (s : ℕ) × (a : ℕ) × (c : ℕ) × (reward : ℤ) × (b : List Entry) × (before ≡ Step s a c reward ∷ b)

abbrev pub IsOut : List Entry → Type 0
IsOut before = (l : Landing) × (b : List Entry) × (before ≡ Out l ∷ b)

-- the entry may stand after these
abbrev pub May : List Entry → Entry → Type 0
May before Version = before ≡ []
May before (Size s a c o) = (b : List Entry) × (before ≡ Version ∷ b) × SizeFits s a c o
May before (Total total) = (s : ℕ) × (a : ℕ) × (c : ℕ) × (o : ℕ) × (b : List Entry) × (before ≡ Size s a c o ∷ b) × IsWithin (pos 1) (pos most_row_total) total
May before (Discount over under) = (total : ℤ) × (b : List Entry) × (before ≡ Total total ∷ b) × DiscountFits over under
May before (First weights) = (over : ℤ) × (under : ℤ) × (b : List Entry) × (before ≡ Discount over under ∷ b) × IsBelief (shape_in before).states weights
May before (Step s a c reward) = (IsFirst before ⊎ IsOut before) × StepFits (shape_in before) (begun_in before) (sum_in before) s a c reward
May before (Out landing) = (IsStep before ⊎ IsOut before) × OutFits (shape_in before) (sum_in before) (pair_in before) landing
May before End = IsOut before × (begun_in before ≡ triples (shape_in before)) × ((begun_in before ≡ 0) ⊎ (sum_in before ≡ (shape_in before).row_total))

abbrev pub Run : List Entry → Type 0
Run [] = Unit {0}
Run (entry ∷ before) = May before entry × Run before

abbrev Told : List Entry → Line → Entry → Type 0
Told before line entry = (line ≡ words_in entry) × May before entry

told_row : (l : Landing) (b : List Entry) (line : Line) (e : Entry) (out last : Bool) → eqb (begun_in b) (triples (shape_in b)) ≡ last
    → cond out (out_said (shape_in b) (sum_in b +ℤ l.weight) (Some (l.seen, l.to)) line)
    (cond last (end_said (shape_in b) (begun_in b) (sum_in b +ℤ l.weight) line) (step_said (shape_in b) (begun_in b) (sum_in b +ℤ l.weight) line)) ≡ Ok e
    → Told (Out l ∷ b) line e
told_row l b line e true last same h =
    let p = out-ok (shape_in b) (sum_in b +ℤ l.weight) (Some (l.seen, l.to)) line e h in
    subst (Told (Out l ∷ b) line) (sym p.1) (p.2, (inr (l, b, refl), p.3))
told_row l b line e false true same h =
    let p = end-ok (shape_in b) (begun_in b) (sum_in b +ℤ l.weight) line e h in
    subst (Told (Out l ∷ b) line) (sym p.0) (p.1, ((l, b, refl), eqb-true (begun_in b) (triples (shape_in b)) same, p.2))
told_row l b line e false false same h =
    let p = step-ok (shape_in b) (begun_in b) (sum_in b +ℤ l.weight) line e h in
    subst (Told (Out l ∷ b) line) (sym p.4) (p.5, (inr (l, b, refl), p.6))

pub told : (before : List Entry) (line : Line) (e : Entry) → entry_of before line ≡ Ok e → (line ≡ words_in e) × May before e
unfolding entry_of row_end_said
told [] line e h = let p = version-ok line e h in subst (Told [] line) (sym p.0) (p.1, refl)
told (Version ∷ b) line e h = let p = size-ok line e h in subst (Told (Version ∷ b) line) (sym p.4) (p.5, (b, refl, p.6))
told (Size s a c o ∷ b) line e h = let p = total-ok line e h in subst (Told (Size s a c o ∷ b) line) (sym p.1) (p.2, (s, a, c, o, b, refl, p.3))
told (Total t ∷ b) line e h = let p = discount-ok line e h in subst (Told (Total t ∷ b) line) (sym p.2) (p.3, (t, b, refl, p.4))
told (Discount over under ∷ b) line e h = let p = first-ok (shape_in b).states line e h in subst (Told (Discount over under ∷ b) line) (sym p.1) (p.2, (over, under, b, refl, p.3))
told (First w ∷ b) line e h = let p = step-ok (shape_in b) (begun_in b) (pos 0) line e h in subst (Told (First w ∷ b) line) (sym p.4) (p.5, (inl (w, b, refl), p.6))
told (Step s a c r ∷ b) line e h = let p = out-ok (shape_in b) (pos 0) None line e h in subst (Told (Step s a c r ∷ b) line) (sym p.1) (p.2, (inl (s, a, c, r, b, refl), p.3))
told (Out l ∷ b) line e h = told_row l b line e (begins (codes "out") line) (eqb (begun_in b) (triples (shape_in b))) refl h
told (End ∷ b) line e h = absurd cc

-- a triple in its limits is one of the triples
pub triple_below : (shape : Shape) (k s : ℕ) → IsShape shape → s < shape.states → s ≡ state_at shape k → k < triples shape
triple_below shape k s limits l e =
    let C = shape.informed_actions in
    let A = shape.own_actions in
    let some : 0 < A = omega (arith, limits.own_actions) in
    let more : 0 < C = omega (arith, limits.informed_actions) in
    let low : k / C / A < shape.states = omega (arith, e) in
    let mid : k / C < shape.states * A = (div-lt_iff_lt-mul {k = A} {x = k / C} {y = shape.states} some).0 low in
    (div-lt_iff_lt-mul {k = C} {x = k} {y = shape.states * A} more).0 mid

-- rows, with the latest reward, row and landing first

abbrev pub header : Shape → List ℤ → List Entry
header shape first =
    First first ∷ Discount shape.discount.0 shape.discount.1 ∷ Total shape.row_total
    ∷ Size shape.states shape.own_actions shape.informed_actions shape.observations ∷ Version ∷ []

abbrev pub step_of : Shape → ℕ → ℤ → Entry
step_of shape k reward = Step (state_at shape k) (own_at shape k) (informed_at shape k) reward

abbrev pub outs : List Landing → List Entry → List Entry
outs [] before = before
outs (l ∷ row) before = Out l ∷ outs row before

abbrev pub spelled : Shape → List ℤ → List ℤ → List (List Landing) → List Entry
spelled shape first [] [] = header shape first
spelled shape first [] (row ∷ rows) = header shape first
spelled shape first (r ∷ rs) [] = header shape first
spelled shape first (r ∷ rs) (row ∷ rows) = outs row (step_of shape (length rs) r ∷ spelled shape first rs rows)

abbrev pub AfterHead : List Landing → Landing → Type 0
AfterHead [] l = Unit {0}
AfterHead (m ∷ row) l = IsBefore m l

abbrev pub IsBack : Shape → List Landing → Type 0
IsBack shape [] = Unit {0}
IsBack shape (l ∷ row) = IsLanding shape l × AfterHead row l × (row_sum (l ∷ row) ≤ℤ shape.row_total) × IsBack shape row

abbrev pub IsFullBack : Shape → List Landing → Type 0
IsFullBack shape row = row_sum row ≡ shape.row_total

abbrev pub RewardFits : Shape → ℤ → Type 0
RewardFits shape reward = IsRewardInRange reward × IsNarrow shape reward

abbrev pub Good : Shape → List ℤ → List (List Landing) → Type 0
Good shape [] [] = Unit {0}
Good shape [] (row ∷ rows) = ⊥
Good shape (r ∷ rs) [] = ⊥
Good shape (r ∷ rs) (row ∷ rows) = RewardFits shape r × (length rs < triples shape) × IsBack shape row × AllByRecursion (IsFullBack shape) rows × Good shape rs rows

abbrev pub head_pair : List Landing → Option (ℕ × ℕ)
head_pair [] = None
head_pair (m ∷ row) = Some (m.seen, m.to)

-- what is found by looking back

pub shape_outs : (row : List Landing) (b : List Entry) → shape_in (outs row b) ≡ shape_in b
shape_outs [] b = refl
shape_outs (l ∷ row) b = shape_outs row b

pub begun_outs : (row : List Landing) (b : List Entry) → begun_in (outs row b) ≡ begun_in b
begun_outs [] b = refl
begun_outs (l ∷ row) b = begun_outs row b

pub sum_outs : (row : List Landing) (s a c : ℕ) (r : ℤ) (b : List Entry) → sum_in (outs row (Step s a c r ∷ b)) ≡ row_sum row
sum_outs [] s a c r b = refl
sum_outs (l ∷ row) s a c r b = omega (arith, ints, sum_outs row s a c r b)

pub pair_outs : (row : List Landing) (s a c : ℕ) (r : ℤ) (b : List Entry) → pair_in (outs row (Step s a c r ∷ b)) ≡ head_pair row
pair_outs [] s a c r b = refl
pair_outs (l ∷ row) s a c r b = refl

pub shape_spelled : (shape : Shape) (first rs : List ℤ) (rows : List (List Landing)) → shape_in (spelled shape first rs rows) ≡ shape
shape_spelled shape first [] [] = refl
shape_spelled shape first [] (row ∷ rows) = refl
shape_spelled shape first (r ∷ rs) [] = refl
shape_spelled shape first (r ∷ rs) (row ∷ rows) = shape_outs row (step_of shape (length rs) r ∷ spelled shape first rs rows) ∙ shape_spelled shape first rs rows

pub begun_spelled : (shape : Shape) (first rs : List ℤ) (rows : List (List Landing)) → Good shape rs rows → begun_in (spelled shape first rs rows) ≡ length rs
begun_spelled shape first [] [] good = refl
begun_spelled shape first [] (row ∷ rows) good = absurd good
begun_spelled shape first (r ∷ rs) [] good = absurd good
begun_spelled shape first (r ∷ rs) (row ∷ rows) good = omega (arith, begun_outs row (step_of shape (length rs) r ∷ spelled shape first rs rows), begun_spelled shape first rs rows good.4)

-- the fields that a chain of entries spells
pub record Front (entries : List Entry) : Type 0 where
  pub shape : Shape
  pub first : List ℤ
  pub rs : List ℤ
  pub rows : List (List Landing)
  pub same : entries ≡ spelled shape first rs rows
  pub limits : IsShape shape
  pub belief : IsBelief shape.states first
  pub good : Good shape rs rows

pub record StepFront (shape : Shape) (rs : List ℤ) (rows : List (List Landing)) (s a c : ℕ) (reward : ℤ) : Type 0 where
  pub entry : Step s a c reward ≡ step_of shape (length rs) reward
  pub good : Good shape (reward ∷ rs) ([] ∷ rows)

pub rows_full : (shape : Shape) (first rs : List ℤ) (rows : List (List Landing)) → Good shape rs rows → ((length rs ≡ 0) ⊎ (sum_in (spelled shape first rs rows) ≡ shape.row_total)) → AllByRecursion (IsFullBack shape) rows
rows_full shape first [] [] good full = tt
rows_full shape first [] (row ∷ rows) good full = absurd good
rows_full shape first (r ∷ rs) [] good full = absurd good
rows_full shape first (r ∷ rs) (row ∷ rows) good (inl none) = absurd (omega arith)
rows_full shape first (r ∷ rs) (row ∷ rows) good (inr full) =
    (sym (sum_outs row (state_at shape (length rs)) (own_at shape (length rs)) (informed_at shape (length rs)) r (spelled shape first rs rows)) ∙ full, good.3)

pub step_front : (shape : Shape) (first rs : List ℤ) (rows : List (List Landing)) (s a c : ℕ) (reward : ℤ) → IsShape shape → Good shape rs rows
    → StepFits shape (length rs) (sum_in (spelled shape first rs rows)) s a c reward → StepFront shape rs rows s a c reward
step_front shape first rs rows s a c reward limits good fits = record {
  entry = same_step s a c (state_at shape (length rs)) (own_at shape (length rs)) (informed_at shape (length rs)) reward fits.next_state fits.next_own fits.next_informed;
  good = ((fits.range, fits.narrow), triple_below shape (length rs) s limits fits.state fits.next_state, tt, rows_full shape first rs rows good fits.full, good);
}
  where
    same_step : (s a c x y z : ℕ) (r : ℤ) → s ≡ x → a ≡ y → c ≡ z → Step s a c r ≡ Step x y z r
    same_step s a c x y z r p q t = cc

pub record OutFront (shape : Shape) (rs : List ℤ) (rows : List (List Landing)) (l : Landing) (first : List ℤ) : Type 0 where
  pub more : List (List Landing)
  pub row : List Landing
  pub rest : List (List Landing)
  pub before : rows ≡ row ∷ rest
  pub after : more ≡ (l ∷ row) ∷ rest
  pub entry : Out l ∷ spelled shape first rs rows ≡ spelled shape first rs more
  pub good : Good shape rs more

after_head : (row : List Landing) (l : Landing) → IsAfter (head_pair row) l.seen l.to → AfterHead row l
after_head [] l h = tt
after_head (m ∷ row) l h = h

no_row : (shape : Shape) (first : List ℤ) → (IsStep (header shape first) ⊎ IsOut (header shape first)) → ⊥
no_row shape first (inl p) = first_step p.0 p.1 p.2 p.3 p.4 first (Discount shape.discount.0 shape.discount.1 ∷ Total shape.row_total ∷ Size shape.states shape.own_actions shape.informed_actions shape.observations ∷ Version ∷ []) p.5
  where
    first_step : (s a c : ℕ) (r : ℤ) (b : List Entry) (w : List ℤ) (d : List Entry) → First w ∷ d ≡ Step s a c r ∷ b → ⊥
    first_step s a c r b w d e = cc
no_row shape first (inr p) = first_out p.0 p.1 first (Discount shape.discount.0 shape.discount.1 ∷ Total shape.row_total ∷ Size shape.states shape.own_actions shape.informed_actions shape.observations ∷ Version ∷ []) p.2
  where
    first_out : (l : Landing) (b : List Entry) (w : List ℤ) (d : List Entry) → First w ∷ d ≡ Out l ∷ b → ⊥
    first_out l b w d e = cc

pub out_front : (shape : Shape) (first rs : List ℤ) (rows : List (List Landing)) (l : Landing) → Good shape rs rows
    → (IsStep (spelled shape first rs rows) ⊎ IsOut (spelled shape first rs rows))
    → OutFits shape (sum_in (spelled shape first rs rows)) (pair_in (spelled shape first rs rows)) l → OutFront shape rs rows l first
out_front shape first [] [] l good on fits = absurd (no_row shape first on)
out_front shape first [] (row ∷ rows) l good on fits = absurd good
out_front shape first (r ∷ rs) [] l good on fits = absurd good
out_front shape first (r ∷ rs) (row ∷ rows) l good on fits =
    let b = spelled shape first rs rows in
    let sum = sum_outs row (state_at shape (length rs)) (own_at shape (length rs)) (informed_at shape (length rs)) r b in
    let pair = pair_outs row (state_at shape (length rs)) (own_at shape (length rs)) (informed_at shape (length rs)) r b in
    record {
      more = (l ∷ row) ∷ rows;
      row = row;
      rest = rows;
      before = refl;
      after = refl;
      entry = refl;
      good = (good.0, good.1, (record { seen = fits.seen; to = fits.to; weight = fits.weight }, after_head row l (subst (λ (p : Option (ℕ × ℕ)). IsAfter p l.seen l.to) pair fits.after), omega (arith, ints, sum, fits.room), good.2), good.3, good.4);
    }

-- a chain of entries is a header and rows

pub open_before : (b : List Entry) → (IsFirst b ⊎ IsOut b) → IsOpen b
open_before b (inl p) = subst IsOpen (sym p.2) tt
open_before b (inr p) = subst IsOpen (sym p.2) tt

pub open_row : (b : List Entry) → (IsStep b ⊎ IsOut b) → IsOpen b
open_row b (inl p) = subst IsOpen (sym p.5) tt
open_row b (inr p) = subst IsOpen (sym p.2) tt

abbrev sized : ℕ → ℕ → ℕ → ℕ → List Entry
sized s a c o = Size s a c o ∷ Version ∷ []

size_front : (s a c o : ℕ) (b : List Entry) → Run (Size s a c o ∷ b) → (Size s a c o ∷ b ≡ sized s a c o) × SizeFits s a c o
size_front s a c o b run =
    let m = run.0 in
    let r : Run (Version ∷ m.0) = subst Run m.1 run.1 in
    (ap (λ (x : List Entry). Size s a c o ∷ x) (m.1 ∙ ap (λ (x : List Entry). Version ∷ x) r.0), m.2)

total_front : (t : ℤ) (b : List Entry) → Run (Total t ∷ b) → (s : ℕ) × (a : ℕ) × (c : ℕ) × (o : ℕ) × (Total t ∷ b ≡ Total t ∷ sized s a c o) × SizeFits s a c o × IsWithin (pos 1) (pos most_row_total) t
total_front t b run =
    let m = run.0 in
    let f = size_front m.0 m.1 m.2 m.3 m.4 (subst Run m.5 run.1) in
    (m.0, m.1, m.2, m.3, ap (λ (x : List Entry). Total t ∷ x) (m.5 ∙ f.0), f.1, m.6)

pub record HeaderFront (w : List ℤ) (b : List Entry) : Type 0 where
  pub shape : Shape
  pub same : First w ∷ b ≡ header shape w
  pub limits : IsShape shape
  pub belief : IsBelief shape.states w

header_from : (w : List ℤ) (b : List Entry) (p q t : ℤ) (s a c o : ℕ) → b ≡ Discount p q ∷ Total t ∷ sized s a c o → SizeFits s a c o → IsWithin (pos 1) (pos most_row_total) t → DiscountFits p q → IsBelief (shape_in b).states w → HeaderFront w b
header_from w b p q t s a c o e sizes total discount belief = record {
  shape = record { states = s; own_actions = a; informed_actions = c; observations = o; row_total = t; discount = (p, q) };
  same = ap (λ (x : List Entry). First w ∷ x) e;
  limits = record { states = sizes.states; own_actions = sizes.own_actions; informed_actions = sizes.informed_actions; observations = sizes.observations; row_total = total; discount = (discount.low, discount.less, discount.high) };
  belief = subst (λ (x : List Entry). IsBelief (shape_in x).states w) e belief;
}

pub header_front : (w : List ℤ) (b : List Entry) → Run (First w ∷ b) → HeaderFront w b
header_front w b run =
    let m = run.0 in
    let r : Run (Discount m.0 m.1 ∷ m.2) = subst Run m.3 run.1 in
    let n = r.0 in
    let t = total_front n.0 n.1 (subst Run n.2 r.1) in
    header_from w b m.0 m.1 n.0 t.0 t.1 t.2 t.3 (m.3 ∙ ap (λ (x : List Entry). Discount m.0 m.1 ∷ x) (n.2 ∙ t.4)) t.5 t.6 n.3 m.4

front_first : (w : List ℤ) (b : List Entry) → Run (First w ∷ b) → Front (First w ∷ b)
front_first w b run =
    let h = header_front w b run in
    record { shape = h.shape; first = w; rs = []; rows = []; same = h.same; limits = h.limits; belief = h.belief; good = tt }

pub step_fits : (b : List Entry) (f : Front b) (s a c : ℕ) (r : ℤ) → StepFits (shape_in b) (begun_in b) (sum_in b) s a c r → StepFits f.shape (length f.rs) (sum_in (spelled f.shape f.first f.rs f.rows)) s a c r
step_fits b f s a c r fits =
    let e = subst (λ (x : List Entry). StepFits (shape_in x) (begun_in x) (sum_in x) s a c r) f.same fits in
    let g = subst (λ (x : Shape). StepFits x (begun_in (spelled f.shape f.first f.rs f.rows)) (sum_in (spelled f.shape f.first f.rs f.rows)) s a c r) (shape_spelled f.shape f.first f.rs f.rows) e in
    subst (λ (k : ℕ). StepFits f.shape k (sum_in (spelled f.shape f.first f.rs f.rows)) s a c r) (begun_spelled f.shape f.first f.rs f.rows f.good) g

front_step : (s a c : ℕ) (r : ℤ) (b : List Entry) → Front b → May b (Step s a c r) → Front (Step s a c r ∷ b)
front_step s a c r b f may =
    let p = step_front f.shape f.first f.rs f.rows s a c r f.limits f.good (step_fits b f s a c r may.1) in
    record {
      shape = f.shape;
      first = f.first;
      rs = r ∷ f.rs;
      rows = [] ∷ f.rows;
      same = ap (λ (x : List Entry). Step s a c r ∷ x) f.same ∙ ap (λ (x : Entry). x ∷ spelled f.shape f.first f.rs f.rows) p.entry;
      limits = f.limits;
      belief = f.belief;
      good = p.good;
    }

pub out_fits : (b : List Entry) (f : Front b) (l : Landing) → OutFits (shape_in b) (sum_in b) (pair_in b) l → OutFits f.shape (sum_in (spelled f.shape f.first f.rs f.rows)) (pair_in (spelled f.shape f.first f.rs f.rows)) l
out_fits b f l fits =
    let e = subst (λ (x : List Entry). OutFits (shape_in x) (sum_in x) (pair_in x) l) f.same fits in
    subst (λ (x : Shape). OutFits x (sum_in (spelled f.shape f.first f.rs f.rows)) (pair_in (spelled f.shape f.first f.rs f.rows)) l) (shape_spelled f.shape f.first f.rs f.rows) e

front_out : (l : Landing) (b : List Entry) → Front b → May b (Out l) → Front (Out l ∷ b)
front_out l b f may =
    let on = subst (λ (x : List Entry). IsStep x ⊎ IsOut x) f.same may.0 in
    let p = out_front f.shape f.first f.rs f.rows l f.good on (out_fits b f l may.1) in
    record {
      shape = f.shape;
      first = f.first;
      rs = f.rs;
      rows = p.more;
      same = ap (λ (x : List Entry). Out l ∷ x) f.same ∙ p.entry;
      limits = f.limits;
      belief = f.belief;
      good = p.good;
    }

pub front : (entries : List Entry) → Run entries → IsOpen entries → Front entries
front [] run on = absurd on
front (Version ∷ b) run on = absurd on
front (Size s a c o ∷ b) run on = absurd on
front (Total t ∷ b) run on = absurd on
front (Discount p q ∷ b) run on = absurd on
front (First w ∷ b) run on = front_first w b run
front (Step s a c r ∷ b) run on = front_step s a c r b (front b run.1 (open_before b run.0.0)) run.0
front (Out l ∷ b) run on = front_out l b (front b run.1 (open_row b run.0.0)) run.0
front (End ∷ b) run on = absurd on

-- what may stand after a chain is said by its words

pub shape_limits : (b : List Entry) → Run b → IsOpen b → IsShape (shape_in b)
shape_limits b run on =
    let f = front b run on in
    subst IsShape (sym (ap shape_in f.same ∙ shape_spelled f.shape f.first f.rs f.rows)) f.limits

eq_true : (m n : ℕ) → m ≡ n → eqb m n ≡ true
eq_true m n e = grind (arith, nat_tests)

lt_other : (m n : ℕ) → m < n → eqb m n ≡ false
lt_other m n l = grind (arith, nat_tests)

back_first : (w : List ℤ) (b : List Entry) (s a c : ℕ) (r : ℤ) → IsShape (shape_in b) → StepFits (shape_in b) (begun_in b) (pos 0) s a c r → entry_of (First w ∷ b) (words_in (Step s a c r)) ≡ Ok (Step s a c r)
unfolding entry_of
back_first w b s a c r limits fits = step-to (shape_in b) (begun_in b) (pos 0) s a c r limits fits

back_next : (l : Landing) (b : List Entry) (s a c : ℕ) (r : ℤ) → IsShape (shape_in b) → StepFits (shape_in b) (begun_in b) (sum_in b +ℤ l.weight) s a c r → entry_of (Out l ∷ b) (words_in (Step s a c r)) ≡ Ok (Step s a c r)
unfolding entry_of row_end_said
back_next l b s a c r limits fits =
    rw (lt_other (begun_in b) (triples (shape_in b)) (triple_below (shape_in b) (begun_in b) s limits fits.state fits.next_state))
    (step-to (shape_in b) (begun_in b) (sum_in b +ℤ l.weight) s a c r limits fits)

back_row : (s a c : ℕ) (r : ℤ) (b : List Entry) (l : Landing) → IsShape (shape_in b) → OutFits (shape_in b) (pos 0) None l → entry_of (Step s a c r ∷ b) (words_in (Out l)) ≡ Ok (Out l)
unfolding entry_of
back_row s a c r b l limits fits = out-to (shape_in b) (pos 0) None l limits fits

back_out : (m : Landing) (b : List Entry) (l : Landing) → IsShape (shape_in b) → OutFits (shape_in b) (sum_in b +ℤ m.weight) (Some (m.seen, m.to)) l → entry_of (Out m ∷ b) (words_in (Out l)) ≡ Ok (Out l)
unfolding entry_of
back_out m b l limits fits = out-to (shape_in b) (sum_in b +ℤ m.weight) (Some (m.seen, m.to)) l limits fits

back_end : (m : Landing) (b : List Entry) → begun_in b ≡ triples (shape_in b) → ((begun_in b ≡ 0) ⊎ (sum_in b +ℤ m.weight ≡ (shape_in b).row_total)) → entry_of (Out m ∷ b) (words_in End) ≡ Ok End
unfolding entry_of row_end_said
back_end m b last full =
    rw (eq_true (begun_in b) (triples (shape_in b)) last) (end-to (shape_in b) (begun_in b) (sum_in b +ℤ m.weight) full)

abbrev Back : List Entry → Entry → Type 0
Back before e = entry_of before (words_in e) ≡ Ok e

back_version : Back [] Version
unfolding entry_of
back_version = version-to

back_size : (b : List Entry) (s a c o : ℕ) → SizeFits s a c o → Back (Version ∷ b) (Size s a c o)
unfolding entry_of
back_size b s a c o f = size-to s a c o f

back_total : (s a c o : ℕ) (b : List Entry) (t : ℤ) → IsWithin (pos 1) (pos most_row_total) t → Back (Size s a c o ∷ b) (Total t)
unfolding entry_of
back_total s a c o b t f = total-to t f

back_discount : (t : ℤ) (b : List Entry) (p q : ℤ) → DiscountFits p q → Back (Total t ∷ b) (Discount p q)
unfolding entry_of
back_discount t b p q f = discount-to p q f

back_belief : (p q : ℤ) (b : List Entry) (w : List ℤ) → IsBelief (shape_in b).states w → Back (Discount p q ∷ b) (First w)
unfolding entry_of
back_belief p q b w f = first-to (shape_in b).states w f

back_step : (b : List Entry) (s a c : ℕ) (r : ℤ) → Run b → (IsFirst b ⊎ IsOut b) → StepFits (shape_in b) (begun_in b) (sum_in b) s a c r → Back b (Step s a c r)
back_step b s a c r run (inl p) fits =
    let limits = shape_limits b run (open_before b (inl p)) in
    subst (λ (x : List Entry). Back x (Step s a c r)) (sym p.2)
    (back_first p.0 p.1 s a c r (subst (λ (x : List Entry). IsShape (shape_in x)) p.2 limits) (subst (λ (x : List Entry). StepFits (shape_in x) (begun_in x) (sum_in x) s a c r) p.2 fits))
back_step b s a c r run (inr p) fits =
    let limits = shape_limits b run (open_before b (inr p)) in
    subst (λ (x : List Entry). Back x (Step s a c r)) (sym p.2)
    (back_next p.0 p.1 s a c r (subst (λ (x : List Entry). IsShape (shape_in x)) p.2 limits) (subst (λ (x : List Entry). StepFits (shape_in x) (begun_in x) (sum_in x) s a c r) p.2 fits))

back_landing : (b : List Entry) (l : Landing) → Run b → (IsStep b ⊎ IsOut b) → OutFits (shape_in b) (sum_in b) (pair_in b) l → Back b (Out l)
back_landing b l run (inl p) fits =
    let limits = shape_limits b run (open_row b (inl p)) in
    subst (λ (x : List Entry). Back x (Out l)) (sym p.5)
    (back_row p.0 p.1 p.2 p.3 p.4 l (subst (λ (x : List Entry). IsShape (shape_in x)) p.5 limits) (subst (λ (x : List Entry). OutFits (shape_in x) (sum_in x) (pair_in x) l) p.5 fits))
back_landing b l run (inr p) fits =
    let limits = shape_limits b run (open_row b (inr p)) in
    subst (λ (x : List Entry). Back x (Out l)) (sym p.2)
    (back_out p.0 p.1 l (subst (λ (x : List Entry). IsShape (shape_in x)) p.2 limits) (subst (λ (x : List Entry). OutFits (shape_in x) (sum_in x) (pair_in x) l) p.2 fits))

pub said_back : (before : List Entry) (e : Entry) → May before e → Run before → entry_of before (words_in e) ≡ Ok e
said_back b Version may run = subst (λ (x : List Entry). Back x Version) (sym may) back_version
said_back b (Size s a c o) may run = subst (λ (x : List Entry). Back x (Size s a c o)) (sym may.1) (back_size may.0 s a c o may.2)
said_back b (Total t) may run = subst (λ (x : List Entry). Back x (Total t)) (sym may.5) (back_total may.0 may.1 may.2 may.3 may.4 t may.6)
said_back b (Discount p q) may run = subst (λ (x : List Entry). Back x (Discount p q)) (sym may.2) (back_discount may.0 may.1 p q may.3)
said_back b (First w) may run =
    subst (λ (x : List Entry). Back x (First w)) (sym may.3) (back_belief may.0 may.1 may.2 w (subst (λ (x : List Entry). IsBelief (shape_in x).states w) may.3 may.4))
said_back b (Step s a c r) may run = back_step b s a c r run may.0 may.1
said_back b (Out l) may run = back_landing b l run may.0 may.1
said_back b End may run =
    subst (λ (x : List Entry). Back x End) (sym may.0.2)
    (back_end may.0.0 may.0.1 (subst (λ (x : List Entry). begun_in x ≡ triples (shape_in x)) may.0.2 may.1) (subst (λ (x : List Entry). (begun_in x ≡ 0) ⊎ (sum_in x ≡ (shape_in x).row_total)) may.0.2 may.2))

-- lines that say entries are their words

pub say_run : (lines : List Line) (entries : List Entry) → Say lines entries → (lines ≡ map words_in entries) × Run entries
say_run [] [] say = (refl, tt)
say_run [] (e ∷ entries) say = absurd say
say_run (line ∷ lines) [] say = absurd say
say_run (line ∷ lines) (e ∷ entries) say =
    let p = told entries line e say.0 in
    let q = say_run lines entries say.1 in
    (ap (λ (l : Line). l ∷ lines) p.0 ∙ ap (λ (ls : List Line). words_in e ∷ ls) q.0, (p.1, q.1))

pub run_say : (entries : List Entry) → Run entries → Say (map words_in entries) entries
run_say [] run = tt
run_say (e ∷ entries) run = (said_back entries e run.0 run.1, run_say entries run.1)
