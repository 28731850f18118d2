-- Rows that keep the limits are spelled by a chain of entries, and back.
use Rattle.std.proofs.Common.{◌≡◌, ℕ, zero, suc, ◌*◌, ◌/◌, ◌<◌, ◌≤◌, List, [], ◌∷◌, ◌++◌, reverse, length, map, Option, ℤ, pos, refl, sym, ap, subst, ◌∙◌, arith, inl, inr, ◌⊎◌}
use Rattle.std.specs.Prelude.{◌≤ℤ◌, ◌+ℤ◌}
use Rattle.std.specs.List.{AllByRecursion}
use mathlib.Core.List.{reverse-cons}
use Rattle.std.proofs.lemmas.List.{reverse-reverse, length-reverse}
use Rattle.std.proofs.lemmas.Int.{ints}
use Rattle.std.proofs.Math.Nat.{div-lt_iff_lt-mul, mod-lt}
use Rattle.scaled_num.proofs.Sums.{total-append}
use Rattle.game_model.specs.declared.parts.Shape.{Shape}
use Rattle.game_model.specs.declared.parts.Landing.{Landing}
use Rattle.game_model.specs.Game.{GameData, IsGame, AreCoprime, IsBelief, IsShape, IsBefore, IsRising, IsLanding, IsRow, triples, row_sum}
use Rattle.game_text.specs.Forms.{state_at, own_at, informed_at}
use Rattle.game_text.specs.Entries.{Entry, Version, Size, Total, Discount, Step, Out, End, shape_in, begun_in, sum_in}
use Rattle.game_text.proofs.Guards.{IsAfter}
use Rattle.game_text.proofs.Said.{StepFits, OutFits}
use Rattle.game_text.proofs.Runs.{IsFirst, IsStep, IsOut, May, Run, header, step_of, outs, spelled, AfterHead, IsBack, IsFullBack, RewardFits, Good, head_pair, shape_outs, sum_outs, pair_outs, shape_spelled, begun_spelled, Front, front, rows_full, open_before}
use Rattle.text_words.proofs.Texts.{each_reverse}

-- from rows to a chain

header_run : (shape : Shape) (first : List ℤ) → IsShape shape → IsBelief shape.states first → Run (header shape first)
header_run shape first limits belief = (
  (shape.discount.0, shape.discount.1, Total shape.row_total ∷ Size shape.states shape.own_actions shape.informed_actions shape.observations ∷ Version ∷ [], refl, belief),
  (
    (shape.row_total, Size shape.states shape.own_actions shape.informed_actions shape.observations ∷ Version ∷ [], refl, record { low = limits.discount.0; less = limits.discount.1; high = limits.discount.2 }),
    (
      (shape.states, shape.own_actions, shape.informed_actions, shape.observations, Version ∷ [], refl, limits.row_total),
      (
        ([], refl, record { states = limits.states; own_actions = limits.own_actions; informed_actions = limits.informed_actions; observations = limits.observations }),
        (refl, tt),
      ),
    ),
  ),
)

head_after : (row : List Landing) (l : Landing) → AfterHead row l → IsAfter (head_pair row) l.seen l.to
head_after [] l h = tt
head_after (m ∷ row) l h = h

on_row : (row : List Landing) (s a c : ℕ) (r : ℤ) (b : List Entry) → IsStep (outs row (Step s a c r ∷ b)) ⊎ IsOut (outs row (Step s a c r ∷ b))
on_row [] s a c r b = inl (s, a, c, r, b, refl)
on_row (l ∷ row) s a c r b = inr (l, outs row (Step s a c r ∷ b), refl)

may_out : (shape : Shape) (row : List Landing) (l : Landing) (s a c : ℕ) (r : ℤ) (b : List Entry) → shape_in b ≡ shape → IsBack shape (l ∷ row) → May (outs row (Step s a c r ∷ b)) (Out l)
may_out shape row l s a c r b same back =
    let before = outs row (Step s a c r ∷ b) in
    let fits : OutFits shape (row_sum row) (head_pair row) l = record {
      seen = back.0.seen;
      to = back.0.to;
      weight = back.0.weight;
      after = head_after row l back.1;
      room = omega (arith, ints, back.2);
    } in
    let e = subst (λ (x : Shape). OutFits x (row_sum row) (head_pair row) l) (sym (shape_outs row (Step s a c r ∷ b) ∙ same)) fits in
    let f = subst (λ (x : ℤ). OutFits (shape_in before) x (head_pair row) l) (sym (sum_outs row s a c r b)) e in
    (on_row row s a c r b, subst (λ (x : Option (ℕ × ℕ)). OutFits (shape_in before) (sum_in before) x l) (sym (pair_outs row s a c r b)) f)

outs_run : (shape : Shape) (row : List Landing) (s a c : ℕ) (r : ℤ) (b : List Entry) → shape_in b ≡ shape → IsBack shape row → Run (Step s a c r ∷ b) → Run (outs row (Step s a c r ∷ b))
outs_run shape [] s a c r b same back run = run
outs_run shape (l ∷ row) s a c r b same back run = (may_out shape row l s a c r b same back, outs_run shape row s a c r b same back.3 run)

ends_well : (shape : Shape) (first rs : List ℤ) (rows : List (List Landing)) → IsShape shape → Good shape rs rows → AllByRecursion (IsFullBack shape) rows → IsFirst (spelled shape first rs rows) ⊎ IsOut (spelled shape first rs rows)
ends_well shape first [] [] limits good full = inl (first, Discount shape.discount.0 shape.discount.1 ∷ Total shape.row_total ∷ Size shape.states shape.own_actions shape.informed_actions shape.observations ∷ Version ∷ [], refl)
ends_well shape first [] (row ∷ rows) limits good full = absurd good
ends_well shape first (r ∷ rs) [] limits good full = absurd good
ends_well shape first (r ∷ rs) ([] ∷ rows) limits good full = absurd (omega (arith, ints, full.0, limits.row_total.0))
ends_well shape first (r ∷ rs) ((l ∷ row) ∷ rows) limits good full = inr (l, outs row (step_of shape (length rs) r ∷ spelled shape first rs rows), refl)

full_before : (shape : Shape) (first rs : List ℤ) (rows : List (List Landing)) → Good shape rs rows → AllByRecursion (IsFullBack shape) rows → (length rs ≡ 0) ⊎ (sum_in (spelled shape first rs rows) ≡ shape.row_total)
full_before shape first [] [] good full = inl refl
full_before shape first [] (row ∷ rows) good full = absurd good
full_before shape first (r ∷ rs) [] good full = absurd good
full_before shape first (r ∷ rs) (row ∷ rows) good full = inr (sum_outs row (state_at shape (length rs)) (own_at shape (length rs)) (informed_at shape (length rs)) r (spelled shape first rs rows) ∙ full.0)

state_below : (shape : Shape) (k : ℕ) → IsShape shape → k < triples shape → state_at shape k < shape.states
state_below shape k limits l =
    let C = shape.informed_actions in
    let A = shape.own_actions in
    let some : 0 < A = omega (arith, limits.own_actions) in
    let more : 0 < C = omega (arith, limits.informed_actions) in
    (div-lt_iff_lt-mul {k = A} {x = k / C} {y = shape.states} some).1 ((div-lt_iff_lt-mul {k = C} {x = k} {y = shape.states * A} more).1 l)

may_step : (shape : Shape) (first rs : List ℤ) (rows : List (List Landing)) (r : ℤ) → IsShape shape → Good shape rs rows → AllByRecursion (IsFullBack shape) rows → RewardFits shape r → length rs < triples shape
    → May (spelled shape first rs rows) (step_of shape (length rs) r)
may_step shape first rs rows r limits good full reward room =
    let b = spelled shape first rs rows in
    let k = length rs in
    let fits : StepFits shape k (sum_in b) (state_at shape k) (own_at shape k) (informed_at shape k) r = record {
      state = state_below shape k limits room;
      own = mod-lt (k / shape.informed_actions) (omega (arith, limits.own_actions));
      informed = mod-lt k (omega (arith, limits.informed_actions));
      range = reward.0;
      next_state = refl;
      next_own = refl;
      next_informed = refl;
      full = full_before shape first rs rows good full;
      narrow = reward.1;
    } in
    let e = subst (λ (x : ℕ). StepFits shape x (sum_in b) (state_at shape k) (own_at shape k) (informed_at shape k) r) (sym (begun_spelled shape first rs rows good)) fits in
    (ends_well shape first rs rows limits good full, subst (λ (x : Shape). StepFits x (begun_in b) (sum_in b) (state_at shape k) (own_at shape k) (informed_at shape k) r) (sym (shape_spelled shape first rs rows)) e)

pub good_run : (shape : Shape) (first rs : List ℤ) (rows : List (List Landing)) → IsShape shape → IsBelief shape.states first → Good shape rs rows → Run (spelled shape first rs rows)
good_run shape first [] [] limits belief good = header_run shape first limits belief
good_run shape first [] (row ∷ rows) limits belief good = absurd good
good_run shape first (r ∷ rs) [] limits belief good = absurd good
good_run shape first (r ∷ rs) (row ∷ rows) limits belief good =
    outs_run shape row (state_at shape (length rs)) (own_at shape (length rs)) (informed_at shape (length rs)) r (spelled shape first rs rows) (shape_spelled shape first rs rows) good.2
    (may_step shape first rs rows r limits good.4 good.3 good.0 good.1, good_run shape first rs rows limits belief good.4)

-- all rows, each full
pub record Whole (shape : Shape) (rs : List ℤ) (rows : List (List Landing)) : Type 0 where
  pub good : Good shape rs rows
  pub count : length rs ≡ triples shape
  pub full : AllByRecursion (IsFullBack shape) rows

some_triples : (shape : Shape) → IsShape shape → 0 < triples shape
some_triples shape limits = positive shape.states shape.own_actions shape.informed_actions limits.states.0 limits.own_actions.0 limits.informed_actions.0
  where
    positive : (s a c : ℕ) → 1 ≤ s → 1 ≤ a → 1 ≤ c → 0 < s * a * c
    positive zero a c p q r = absurd (omega arith)
    positive (suc s) zero c p q r = absurd (omega arith)
    positive (suc s) (suc a) zero p q r = absurd (omega arith)
    positive (suc s) (suc a) (suc c) p q r = omega arith

pub end_run : (shape : Shape) (first rs : List ℤ) (rows : List (List Landing)) → IsShape shape → IsBelief shape.states first → Whole shape rs rows → Run (End ∷ spelled shape first rs rows)
end_run shape first rs rows limits belief whole =
    let b = spelled shape first rs rows in
    let run = good_run shape first rs rows limits belief whole.good in
    let begun : begun_in b ≡ triples (shape_in b) = begun_spelled shape first rs rows whole.good ∙ whole.count ∙ ap triples (sym (shape_spelled shape first rs rows)) in
    let sum : (begun_in b ≡ 0) ⊎ (sum_in b ≡ (shape_in b).row_total) = elim (full_before shape first rs rows whole.good whole.full) [
      | inl e ↦ inl (begun_spelled shape first rs rows whole.good ∙ e)
      | inr e ↦ inr (e ∙ ap (λ (x : Shape). x.row_total) (sym (shape_spelled shape first rs rows)))
    ] in
    ((last shape first rs rows limits whole, begun, sum), run)
  where
    last : (shape : Shape) (first rs : List ℤ) (rows : List (List Landing)) → IsShape shape → Whole shape rs rows → IsOut (spelled shape first rs rows)
    last shape first [] rows limits whole = absurd (omega (arith, whole.count, some_triples shape limits))
    last shape first (r ∷ rs) [] limits whole = absurd whole.good
    last shape first (r ∷ rs) ([] ∷ rows) limits whole = absurd (omega (arith, ints, whole.full.0, limits.row_total.0))
    last shape first (r ∷ rs) ((l ∷ row) ∷ rows) limits whole = (l, outs row (step_of shape (length rs) r ∷ spelled shape first rs rows), refl)

-- from a finished chain to all rows
pub record Finished (entries : List Entry) : Type 0 where
  pub front : Front entries
  pub whole : Whole front.shape front.rs front.rows

pub finished : (entries : List Entry) → Run (End ∷ entries) → Finished entries
finished entries run =
    let f = front entries run.1 (open_before entries (inr run.0.0)) in
    let shape = ap shape_in f.same ∙ shape_spelled f.shape f.first f.rs f.rows in
    let begun = ap begun_in f.same ∙ begun_spelled f.shape f.first f.rs f.rows f.good in
    let count : length f.rs ≡ triples f.shape = sym begun ∙ run.0.1 ∙ ap triples shape in
    let sum : (length f.rs ≡ 0) ⊎ (sum_in (spelled f.shape f.first f.rs f.rows) ≡ f.shape.row_total) = elim (run.0.2) [
      | inl e ↦ inl (sym begun ∙ e)
      | inr e ↦ inr (sym (ap sum_in f.same) ∙ e ∙ ap (λ (x : Shape). x.row_total) shape)
    ] in
    record {
      front = f;
      whole = record { good = f.good; count = count; full = rows_full f.shape f.first f.rs f.rows f.good sum };
    }

-- lists from behind

pub sum_reverse : (row : List Landing) → row_sum (reverse row) ≡ row_sum row
sum_reverse [] = refl
sum_reverse (l ∷ row) =
    ap row_sum (reverse-cons l row) ∙ total-append (λ (m : Landing). m.weight) (reverse row) (l ∷ []) ∙ swap (row_sum (reverse row)) (row_sum row) l.weight (sum_reverse row)
  where
    swap : (x y w : ℤ) → x ≡ y → x +ℤ (w +ℤ pos 0) ≡ w +ℤ y
    swap x y w e = omega (arith, ints, e)

rising_push : (xs : List Landing) (m l : Landing) → IsRising (xs ++ m ∷ []) → IsBefore m l → IsRising ((xs ++ m ∷ []) ++ l ∷ [])
rising_push [] m l h k = (k, tt)
rising_push (x ∷ []) m l h k = (h.0, (k, tt))
rising_push (x ∷ y ∷ xs) m l h k = (h.0, rising_push (y ∷ xs) m l h.1 k)

abbrev pub Down : List Landing → Type 0
Down [] = Unit {0}
Down (l ∷ row) = AfterHead row l × Down row

rising_reverse : (row : List Landing) → Down row → IsRising (reverse row)
rising_reverse [] h = tt
rising_reverse (l ∷ []) h = tt
rising_reverse (l ∷ m ∷ row) h =
    let e : reverse (l ∷ m ∷ row) ≡ (reverse row ++ m ∷ []) ++ l ∷ [] = reverse-cons l (m ∷ row) ∙ ap (λ (xs : List Landing). xs ++ l ∷ []) (reverse-cons m row) in
    subst IsRising (sym e) (rising_push (reverse row) m l (subst IsRising (reverse-cons m row) (rising_reverse (m ∷ row) h.1)) h.0)

down_push : (xs : List Landing) (m l : Landing) → Down (xs ++ m ∷ []) → IsBefore l m → Down ((xs ++ m ∷ []) ++ l ∷ [])
down_push [] m l h k = (k, (tt, tt))
down_push (x ∷ []) m l h k = (h.0, (k, (tt, tt)))
down_push (x ∷ y ∷ xs) m l h k = (h.0, down_push (y ∷ xs) m l h.1 k)

down_reverse : (row : List Landing) → IsRising row → Down (reverse row)
down_reverse [] h = tt
down_reverse (l ∷ []) h = (tt, tt)
down_reverse (l ∷ m ∷ row) h =
    let e : reverse (l ∷ m ∷ row) ≡ (reverse row ++ m ∷ []) ++ l ∷ [] = reverse-cons l (m ∷ row) ∙ ap (λ (xs : List Landing). xs ++ l ∷ []) (reverse-cons m row) in
    subst Down (sym e) (down_push (reverse row) m l (subst Down (reverse-cons m row) (down_reverse (m ∷ row) h.1)) h.0)

back_down : (shape : Shape) (row : List Landing) → IsBack shape row → Down row
back_down shape [] h = tt
back_down shape (l ∷ row) h = (h.1, back_down shape row h.3)

back_each : (shape : Shape) (row : List Landing) → IsBack shape row → AllByRecursion (IsLanding shape) row
back_each shape [] h = tt
back_each shape (l ∷ row) h = (h.0, back_each shape row h.3)

down_back : (shape : Shape) (row : List Landing) → AllByRecursion (IsLanding shape) row → Down row → row_sum row ≤ℤ shape.row_total → IsBack shape row
down_back shape [] each down most = tt
down_back shape (l ∷ row) each down most = (each.0, down.0, most, down_back shape row each.1 down.1 (omega (arith, ints, most, each.0.weight.0)))

-- a row from behind is a row

pub row_from : (shape : Shape) (row : List Landing) → IsBack shape row → IsFullBack shape row → IsRow shape (reverse row)
row_from shape row back full = record {
  rising = rising_reverse row (back_down shape row back);
  each = each_reverse (IsLanding shape) row (back_each shape row back);
  sums = sum_reverse row ∙ full;
}

pub row_back : (shape : Shape) (row : List Landing) → IsRow shape row → IsBack shape (reverse row) × IsFullBack shape (reverse row)
row_back shape row h =
    let full = sum_reverse row ∙ h.sums in
    (down_back shape (reverse row) (each_reverse (IsLanding shape) row h.each) (down_reverse row h.rising) (omega (arith, ints, full)), full)

-- all rows

each_rows : (shape : Shape) (rs : List ℤ) (rows : List (List Landing)) → Good shape rs rows → AllByRecursion (IsFullBack shape) rows → AllByRecursion (IsRow shape) (map reverse rows)
each_rows shape [] [] good full = tt
each_rows shape [] (row ∷ rows) good full = absurd good
each_rows shape (r ∷ rs) [] good full = absurd good
each_rows shape (r ∷ rs) (row ∷ rows) good full = (row_from shape row good.2 full.0, each_rows shape rs rows good.4 full.1)

each_rewards : (shape : Shape) (rs : List ℤ) (rows : List (List Landing)) → Good shape rs rows → AllByRecursion (RewardFits shape) rs
each_rewards shape [] [] good = tt
each_rewards shape [] (row ∷ rows) good = absurd good
each_rewards shape (r ∷ rs) [] good = absurd good
each_rewards shape (r ∷ rs) (row ∷ rows) good = (good.0, each_rewards shape rs rows good.4)

pub same_length : (shape : Shape) (rs : List ℤ) (rows : List (List Landing)) → Good shape rs rows → length rows ≡ length rs
same_length shape [] [] good = refl
same_length shape [] (row ∷ rows) good = absurd good
same_length shape (r ∷ rs) [] good = absurd good
same_length shape (r ∷ rs) (row ∷ rows) good = ap suc (same_length shape rs rows good.4)

pub length_map : {X Y : Type 0} (f : X → Y) (xs : List X) → length (map f xs) ≡ length xs
length_map f [] = refl
length_map f (x ∷ xs) = ap suc (length_map f xs)

abbrev pub game_from : Shape → List ℤ → List ℤ → List (List Landing) → GameData
game_from shape first rs rows = record { shape = shape; first = first; rewards = reverse rs; rows = reverse (map reverse rows) }

pub game_is : (shape : Shape) (first rs : List ℤ) (rows : List (List Landing)) → IsShape shape → IsBelief shape.states first → AreCoprime first → Whole shape rs rows → IsGame (game_from shape first rs rows)
game_is shape first rs rows limits belief coprime whole = record {
  shape = limits;
  first = belief;
  coprime = coprime;
  rewards_count = length-reverse rs ∙ whole.count;
  rows_count = length-reverse (map reverse rows) ∙ length_map reverse rows ∙ same_length shape rs rows whole.good ∙ whole.count;
  rewards = each_reverse (RewardFits shape) rs (each_rewards shape rs rows whole.good);
  rows = each_reverse (IsRow shape) (map reverse rows) (each_rows shape rs rows whole.good whole.full);
}

-- the same from a game

good_from : (shape : Shape) (rs : List ℤ) (rows : List (List Landing)) → length rows ≡ length rs → length rs ≤ triples shape → AllByRecursion (RewardFits shape) rs → AllByRecursion (λ row. IsBack shape row × IsFullBack shape row) rows
    → Good shape rs rows × AllByRecursion (IsFullBack shape) rows
good_from shape [] [] same most rewards each = (tt, tt)
good_from shape [] (row ∷ rows) same most rewards each = absurd (omega arith)
good_from shape (r ∷ rs) [] same most rewards each = absurd (omega arith)
good_from shape (r ∷ rs) (row ∷ rows) same most rewards each =
    let rest = good_from shape rs rows (omega arith) (omega arith) rewards.1 each.1 in
    ((rewards.0, omega arith, each.0.0, rest.1, rest.0), (each.0.1, rest.1))

each_back : (shape : Shape) (rows : List (List Landing)) → AllByRecursion (IsRow shape) rows → AllByRecursion (λ row. IsBack shape row × IsFullBack shape row) (map reverse rows)
each_back shape [] h = tt
each_back shape (row ∷ rows) h = (row_back shape row h.0, each_back shape rows h.1)

abbrev pub rewards_back : GameData → List ℤ
rewards_back g = reverse g.rewards

abbrev pub rows_back : GameData → List (List Landing)
rows_back g = map reverse (reverse g.rows)

pub whole_back : (g : GameData) → IsGame g → Whole g.shape (rewards_back g) (rows_back g)
whole_back g game =
    let counted : length (rewards_back g) ≡ triples g.shape = length-reverse g.rewards ∙ game.rewards_count in
    let same : length (rows_back g) ≡ length (rewards_back g) = length_map reverse (reverse g.rows) ∙ length-reverse g.rows ∙ game.rows_count ∙ sym counted in
    let p = good_from g.shape (rewards_back g) (rows_back g) same (omega (arith, counted)) (each_reverse (RewardFits g.shape) g.rewards game.rewards) (each_back g.shape (reverse g.rows) (each_reverse (IsRow g.shape) g.rows game.rows)) in
    record { good = p.0; count = counted; full = p.1 }

map_push : {X Y : Type 0} (f : X → Y) (xs : List X) (x : X) → map f (xs ++ x ∷ []) ≡ map f xs ++ f x ∷ []
map_push f [] x = refl
map_push f (y ∷ xs) x = ap (λ (l : List _). f y ∷ l) (map_push f xs x)

pub map_reverse : {X Y : Type 0} (f : X → Y) (xs : List X) → map f (reverse xs) ≡ reverse (map f xs)
map_reverse f [] = refl
map_reverse {X} {Y} f (x ∷ xs) = ap (map f) (reverse-cons x xs) ∙ map_push f (reverse xs) x ∙ ap (λ (l : List Y). l ++ f x ∷ []) (map_reverse f xs) ∙ sym (reverse-cons (f x) (map f xs))

twice : (rows : List (List Landing)) → map reverse (map reverse rows) ≡ rows
twice [] = refl
twice (row ∷ rows) = ap (λ (x : List Landing). x ∷ map reverse (map reverse rows)) (reverse-reverse row) ∙ ap (λ (x : List (List Landing)). row ∷ x) (twice rows)

pub game_again : (g : GameData) → game_from g.shape g.first (rewards_back g) (rows_back g) ≡ g
game_again g =
    let r : reverse (reverse g.rewards) ≡ g.rewards = reverse-reverse g.rewards in
    let m : reverse (map reverse (map reverse (reverse g.rows))) ≡ g.rows = ap reverse (twice (reverse g.rows)) ∙ reverse-reverse g.rows in
    ap (λ (x : List ℤ). record g { rewards = x; rows = reverse (map reverse (map reverse (reverse g.rows))) }) r ∙ ap (λ (x : List (List Landing)). record g { rows = x }) m
