-- A game in the making: what each call adds to it, and when it is a game.
use Rattle.std.proofs.Common.{◌≡◌, ℕ, zero, suc, ◌+◌, ◌-◌, ◌^◌, ◌<◌, ◌≤◌, List, [], ◌∷◌, ◌++◌, length, get_or, set, map, refl, ap, arith, sym, subst, ◌∙◌, inl, inr, ◌⊎◌, length-append}
use Rattle.game_model.proofs.Games.{row-sum-low}
use Rattle.game_model.proofs.Width.{filled_fits}
use Rattle.std.specs.Int.{w128}
use Rattle.std.specs.Prelude.{Result, Ok, Err, OnErr, FitsSigned, ℤ, pos, negsuc, ◌+ℤ◌, ◌*ℤ◌, ◌≤ℤ◌}
use Rattle.std.specs.List.{AllByRecursion}
use Rattle.std.proofs.lemmas.Int.{ints}
use Rattle.std.proofs.lemmas.List.{get_or_append_left, get_or-append-add, get_or-set_same, get_or-set_other, length-set, map-append, map-set, set-get_or}
use Rattle.std.proofs.Math.Nat.{mul-le-mul_right}
use Rattle.scaled_num.specs.Sums.{sum_of}
use Rattle.scaled_num.proofs.Sums.{each-append, total-append, total-map, total-scale}
use Rattle.scaled_num.proofs.Products.{sums}
use Rattle.game_model.specs.Game.{GameData, IsGame, IsBelief, IsWithin, IsShape, AreCoprime, IsBefore, IsRising, IsLanding, IsRow, IsRowFront, IsRewardInRange, IsNarrow, triples, row_sum}
use Rattle.game_model.specs.Build.{IsGameFront, IsBuilder, IsMultiple, IsBegun, HasRoom, IsLastRowFull, IsNext, HasWeightLeft, last_row, last_landing, landing_of, with_step, with_landing, data_of}
use Rattle.game_model.specs.declared.parts.Landing.{Landing}
use Rattle.game_model.specs.declared.parts.Shape.{Shape}
use Rattle.game_model.specs.declared.parts.Entry.{Entry}
use Rattle.scaled_num.proofs.Each.{each-by-place, get-map}

-- the belief that a multiple of it is a belief of
part-within : (k : ℕ) (x : ℤ) → 1 ≤ k → IsWithin (pos 0) (pos (2 ^ 20)) (pos k *ℤ x) → IsWithin (pos 0) (pos (2 ^ 20)) x
part-within (suc k) (pos n) some h = let high = h.1 in (omega (arith, ints), omega (arith, ints, mul-le-mul_right n some))
part-within (suc k) (negsuc n) some h = let low = h.0 in absurd (omega (arith, ints))
part-within zero x some h = absurd (omega arith)

parts-within : (k : ℕ) (xs : List ℤ) → 1 ≤ k → AllByRecursion (IsWithin (pos 0) (pos (2 ^ 20))) (map (λ x. pos k *ℤ x) xs) → AllByRecursion (IsWithin (pos 0) (pos (2 ^ 20))) xs
parts-within k [] some all = tt
parts-within k (x ∷ xs) some all = (part-within k x some all.0, parts-within k xs some all.1)

pub length-map : {X Y : Type 0} (f : X → Y) (xs : List X) → length (map f xs) ≡ length xs
length-map f [] = refl
length-map f (x ∷ xs) = ap suc (length-map f xs)

sum-within : (k : ℕ) (x : ℤ) → 1 ≤ k → IsWithin (pos 1) (pos (2 ^ 20)) (pos k *ℤ x) → IsWithin (pos 1) (pos (2 ^ 20)) x
sum-within (suc k) (pos zero) some h = let low = h.0 in absurd (omega (arith, ints))
sum-within (suc k) (pos (suc n)) some h = let high = h.1 in (omega (arith, ints), omega (arith, ints, mul-le-mul_right (suc n) some))
sum-within (suc k) (negsuc n) some h = let low = h.0 in absurd (omega (arith, ints))
sum-within zero x some h = absurd (omega arith)

pub kept-belief : (states k : ℕ) (weights kept : List ℤ) → 1 ≤ k → weights ≡ map (λ x. pos k *ℤ x) kept → IsBelief states weights → IsBelief states kept
kept-belief states k weights kept some e h =
    record {
      long = sym (ap length e ∙ length-map (λ x. pos k *ℤ x) kept) ∙ h.long;
      each = parts-within k kept some (subst (λ (xs : List ℤ). AllByRecursion (IsWithin (pos 0) (pos (2 ^ 20))) xs) e h.each);
      sums = sum-within k (sum_of kept) some
          (subst (λ (x : ℤ). IsWithin (pos 1) (pos (2 ^ 20)) x) (ap sum_of e ∙ total-map (λ x. x) (λ x. pos k *ℤ x) kept ∙ total-scale (pos k) (λ x. x) kept) h.sums);
    }

-- a last row that is full
full-row : (shape : Shape) (row : List Landing) → IsRowFront shape row → row_sum row ≡ shape.row_total → IsRow shape row
full-row shape row h e = record { rising = h.rising; each = h.each; sums = e }

-- where the last row is full, each row is
each-full : (g : GameData) → IsGameFront g → IsLastRowFull g → (i : ℕ) → i < length g.rows → IsRow g.shape (get_or g.rows i [])
each-full g h e i l = elim (before-last i (length g.rows) l) [ inl b ↦ h.full i b | inr s ↦ subst (λ (j : ℕ). IsRow g.shape (get_or g.rows j [])) (sym s) (full-row g.shape (last_row g) h.last (e (omega arith))) ]
  where
    before-last : (i n : ℕ) → i < n → (i + 1 < n) ⊎ (i ≡ n - 1)
    before-last i n l = search arith

pub full-game : (g : GameData) → IsGameFront g → length g.rewards ≡ triples g.shape → IsLastRowFull g → IsGame g
full-game g h all e =
    record {
      shape = h.shape;
      first = h.first;
      coprime = h.coprime;
      rewards_count = all;
      rows_count = h.together ∙ all;
      rewards = h.rewards;
      rows = each-by-place (IsRow g.shape) [] g.rows (each-full g h e);
    }

-- the last of a list to which something was added
last-append : {X : Type 0} (xs : List X) (y d : X) → get_or (xs ++ y ∷ []) (length (xs ++ y ∷ []) - 1) d ≡ y
last-append xs y d = ap (λ (i : ℕ). get_or (xs ++ y ∷ []) i d) (omega (arith, length-append xs (y ∷ []))) ∙ get_or-append-add xs (y ∷ []) 0 d

pub front-step : (g : GameData) (reward : ℤ) → IsGameFront g → HasRoom g → IsRewardInRange reward → IsNarrow g.shape reward → IsLastRowFull g → IsBuilder (with_step g reward) (pos 0)
front-step g reward h room range narrow e =
    let total = h.shape.row_total.0 in
    let last : last_row (with_step g reward) ≡ [] = last-append g.rows [] [] in
    record {
      front = record {
        shape = h.shape;
        first = h.first;
        coprime = h.coprime;
        together = omega (arith, length-append g.rows ([] ∷ []), length-append g.rewards (reward ∷ []), h.together);
        most = omega (arith, length-append g.rewards (reward ∷ []));
        rewards = each-append (λ r. IsRewardInRange r × IsNarrow g.shape r) g.rewards (reward ∷ []) h.rewards ((range, narrow), tt);
        full = λ i l.
            let inside : i < length g.rows = omega (arith, length-append g.rows ([] ∷ [])) in
            subst (λ (row : List Landing). IsRow g.shape row) (sym (get_or_append_left g.rows ([] ∷ []) [] i inside)) (each-full g h e i inside);
        last = subst (λ (row : List Landing). IsRowFront g.shape row) (sym last) (record { rising = tt; each = tt; most = omega (arith, ints) });
      };
      sum = ap row_sum (sym last);
    }

-- a landing after the last one keeps a row rising
rising-append : (row : List Landing) (l : Landing) → IsRising row → IsNext row l → IsRising (row ++ l ∷ [])
rising-append [] l h next = tt
rising-append (k ∷ []) l h next = (next (omega arith), tt)
rising-append (k ∷ m ∷ row) l h next = (h.0, rising-append (m ∷ row) l h.1 (λ some. subst (λ (x : Landing). IsBefore x l) same (next (omega arith))))
  where
    same : last_landing (k ∷ m ∷ row) ≡ last_landing (m ∷ row)
    same =
        let n : ℕ = length row in
        let outer : suc (suc n) - 1 ≡ suc n = omega arith in
        let inner : suc n - 1 ≡ n = omega arith in
        ap (λ (i : ℕ). get_or (k ∷ m ∷ row) i (landing_of 0 0 (pos 0))) outer ∙ sym (ap (λ (i : ℕ). get_or (m ∷ row) i (landing_of 0 0 (pos 0))) inner)

-- a row with one more landing
row-sum-more : (row : List Landing) (l : Landing) → row_sum (row ++ l ∷ []) ≡ row_sum row +ℤ l.weight
row-sum-more row l = total-append (λ (k : Landing). k.weight) row (l ∷ []) ∙ omega (arith, sums)

pub row-landing : (shape : Shape) (row : List Landing) (l : Landing) → IsRowFront shape row → IsLanding shape l → IsNext row l → (row_sum row +ℤ l.weight) ≤ℤ shape.row_total → IsRowFront shape (row ++ l ∷ [])
row-landing shape row l h right next left =
    record {
      rising = rising-append row l h.rising next;
      each = each-append (IsLanding shape) row (l ∷ []) h.each (right, tt);
      most = subst (λ (x : ℤ). x ≤ℤ shape.row_total) (sym (row-sum-more row l)) left;
    }

pub front-landing : (g : GameData) (l : Landing) → IsGameFront g → IsBegun g → IsLanding g.shape l → IsNext (last_row g) l → HasWeightLeft g l.weight → IsBuilder (with_landing g l) (row_sum (last_row g) +ℤ l.weight)
front-landing g l h begun right next left =
    let n = length g.rows in
    let row = last_row g ++ l ∷ [] in
    let long : length (set g.rows (n - 1) row) ≡ n = length-set g.rows (n - 1) row in
    let last : last_row (with_landing g l) ≡ row =
    ap (λ (m : ℕ). get_or (set g.rows (n - 1) row) (m - 1) []) long ∙ get_or-set_same g.rows (n - 1) row [] (omega arith) in
    record {
      front = record {
        shape = h.shape;
        first = h.first;
        coprime = h.coprime;
        together = long ∙ h.together;
        most = h.most;
        rewards = h.rewards;
        full = λ i m.
            let inside : i + 1 < n = omega arith in
            subst (λ (r : List Landing). IsRow g.shape r) (sym (get_or-set_other g.rows (n - 1) i row [] (λ e. omega arith))) (h.full i inside);
        last = subst (λ (r : List Landing). IsRowFront g.shape r) (sym last) (row-landing g.shape (last_row g) l h.last right next left);
      };
      sum = sym (ap row_sum last ∙ row-sum-more (last_row g) l);
    }

-- a builder without rows
pub front-new : (shape : Shape) (first kept : List ℤ) → IsShape shape → IsBelief shape.states first → IsMultiple first kept → AreCoprime kept → IsBuilder (data_of shape kept []) (pos 0)
front-new shape first kept h belief multiple coprime =
    let total = h.row_total.0 in
    record {
      front = record {
        shape = h;
        first = kept-belief shape.states multiple.0 first kept multiple.1 multiple.2 belief;
        coprime = coprime;
        together = refl;
        most = omega arith;
        rewards = tt;
        full = λ i l. absurd (omega arith);
        last = record { rising = tt; each = tt; most = omega (arith, ints) };
      };
      sum = refl;
    }

-- the same over pairs of a reward and a row
abbrev game_of : Shape → List ℤ → List ℤ → List (List Landing) → GameData
game_of shape first rewards rows = record { shape = shape; first = first; rewards = rewards; rows = rows }

same-data : (shape : Shape) (first xs ys : List ℤ) (rows others : List (List Landing)) → xs ≡ ys → rows ≡ others → game_of shape first xs rows ≡ game_of shape first ys others
same-data shape first xs ys rows others e f = cc

abbrev reward_of : Entry → ℤ
reward_of e = e.reward

abbrev row_of : Entry → List Landing
row_of e = e.row.items

pub data-step : (shape : Shape) (first : List ℤ) (entries : List Entry) (e : Entry) → e.row.items ≡ [] → data_of shape first (entries ++ e ∷ []) ≡ with_step (data_of shape first entries) e.reward
data-step shape first entries e empty =
    same-data shape first _ _ _ _ (map-append reward_of entries (e ∷ []))
    (map-append row_of entries (e ∷ []) ∙ ap (λ (row : List Landing). map row_of entries ++ row ∷ []) empty)

kept : {X Y : Type 0} (f : X → Y) (xs : List X) (i : ℕ) (d e : X) (z : Y) → i < length xs → f e ≡ f (get_or xs i d) → map f (set xs i e) ≡ map f xs
kept f xs i d e z inside same =
    map-set f xs i e ∙ ap (λ y. set (map f xs) i y) (same ∙ sym (get-map f xs i d z inside)) ∙ set-get_or (map f xs) i z

pub data-landing : (shape : Shape) (first : List ℤ) (entries : List Entry) (i : ℕ) (d e : Entry) (l : Landing) → i ≡ length entries - 1 → i < length entries →
    e.reward ≡ (get_or entries i d).reward → e.row.items ≡ (get_or entries i d).row.items ++ l ∷ [] → data_of shape first (set entries i e) ≡ with_landing (data_of shape first entries) l
data-landing shape first entries i d e l at inside same more =
    let rows : List (List Landing) = map row_of entries in
    let place : length rows - 1 ≡ i = ap (λ (n : ℕ). n - 1) (length-map row_of entries) ∙ sym at in
    same-data shape first _ _ _ _ (kept reward_of entries i d e (pos 0) inside same)
    (map-set row_of entries i e
    ∙ ap (λ (row : List Landing). set rows i row) (more ∙ ap (λ (row : List Landing). row ++ l ∷ []) (sym (get-map row_of entries i d [] inside)))
    ∙ ap (λ (j : ℕ). set rows j (get_or rows j [] ++ l ∷ [])) (sym place))

pub data-unchanged : (shape : Shape) (first : List ℤ) (entries : List Entry) (i : ℕ) (d e : Entry) → i < length entries →
    e.reward ≡ (get_or entries i d).reward → e.row.items ≡ (get_or entries i d).row.items → data_of shape first (set entries i e) ≡ data_of shape first entries
data-unchanged shape first entries i d e inside same rest =
    same-data shape first _ _ _ _ (kept reward_of entries i d e (pos 0) inside same) (kept row_of entries i d e [] inside rest)

-- a builder after a landing, and the sum of its last row
pub landing-next : (g now : GameData) (filled : ℤ) (l : Landing) → g ≡ now → IsBuilder g filled → IsBegun now → IsLanding now.shape l → IsNext (last_row now) l → HasWeightLeft now l.weight →
    IsBuilder (with_landing g l) (filled +ℤ l.weight)
landing-next g now filled l e h begun right next left =
    subst (λ (z : ℤ). IsBuilder (with_landing g l) (z +ℤ l.weight)) (sym h.sum)
    (front-landing g l h.front (subst IsBegun (sym e) begun) (subst (λ (x : GameData). IsLanding x.shape l) (sym e) right)
    (subst (λ (x : GameData). IsNext (last_row x) l) (sym e) next) (subst (λ (x : GameData). HasWeightLeft x l.weight) (sym e) left))

pub landing-fits : (g now : GameData) (filled : ℤ) (l : Landing) → g ≡ now → IsBuilder g filled → IsLanding now.shape l → FitsSigned w128 (filled +ℤ l.weight)
landing-fits g now filled l e h right =
    let inside : IsLanding g.shape l = subst (λ (x : GameData). IsLanding x.shape l) (sym e) right in
    filled_fits filled l.weight g.shape.row_total
    (subst (λ (z : ℤ). pos 0 ≤ℤ z) (sym h.sum) (row-sum-low g.shape (last_row g) h.front.last.each)) inside.weight.0 inside.weight.1
    (subst (λ (z : ℤ). z ≤ℤ g.shape.row_total) (sym h.sum) h.front.last.most) h.front.shape.row_total.1

-- a builder after a step
pub step-next : (g now : GameData) (filled reward : ℤ) → g ≡ now → IsBuilder g filled → HasRoom now → IsRewardInRange reward → IsLastRowFull now → IsNarrow now.shape reward →
    IsBuilder (with_step g reward) (pos 0)
step-next g now filled reward e h room range full narrow =
    front-step g reward h.front (subst HasRoom (sym e) room) range (subst (λ (x : GameData). IsNarrow x.shape reward) (sym e) narrow) (subst IsLastRowFull (sym e) full)

-- what holds anyway holds at an error
pub on-err : {T E : Type 0} {P : Type 0} (r : Result T E) → P → OnErr r P
on-err (Ok x) p = tt
on-err (Err e) p = p
