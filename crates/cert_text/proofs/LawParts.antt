-- What the lines of a node and of a point make.
use Rattle.std.proofs.Common.{◌≡◌, ◌≢◌, ℕ, suc, ◌+◌, ◌*◌, ◌/◌, ◌%◌, ◌<◌, ◌≤◌, Bool, true, false, ◌&&◌, eqb, List, [], ◌∷◌, ◌++◌, reverse, length, map, get_or, ℤ, pos, refl, sym, ap, ◌∙◌, arith, inl, inr, ◌⊎◌}
use Rattle.std.specs.Prelude.{◌-ℤ◌, ◌==◌, flat_map, codes}
use Rattle.std.specs.List.{AllByRecursion}
use Rattle.std.proofs.lemmas.Int.{ints}
use Rattle.std.proofs.lemmas.Bool.{eqb-true}
use Rattle.std.proofs.lemmas.Bool.Decides.{nat_tests, eqb_tells}
use Rattle.std.proofs.lemmas.Bool.{cases_lt}
use Rattle.std.proofs.lemmas.List.{get_or_past, length-set, get_or-set_same, get_or-set_other, get_or_append_left, get_or-append-add}
use Rattle.std.proofs.lemmas.List.FromFn.{get_or-map-range_with_len}
use Rattle.std.proofs.Common.{length-append}
use Rattle.std.proofs.lemmas.List.{length-map}
use Rattle.std.proofs.Math.Arith.{digits_div, digits_mod}
use Rattle.std.proofs.Math.Nat.{mul-le-mul_right, div-lt_iff_lt-mul}
use Rattle.scaled_num.specs.Sums.{below, total, sum_of}
use Rattle.scaled_num.proofs.Sums.{total-places, total-below, each-append}
use Rattle.game_model.specs.Branches.{AreBranches, Branch, IsBranch, mix_total}
use Rattle.game_model.specs.Game.{GameData, IsShape, IsWithin, numbers}
use Rattle.alpha_set.specs.Nodes.{NodeFits}
use Rattle.belief.specs.Mixes.{mix_at}
use Rattle.point_set.specs.Points.{PointFits, most_share}
use Rattle.cert_text.specs.Entries.{limits_of, pair_at, lacking_of, lacking_less}
use Rattle.cert_text.specs.Text.{mix_text}
use Rattle.text_words.specs.Spelled.{line_of}
use Rattle.cert_text.proofs.LawGuards.{IsLater, IsNone}
use Rattle.cert_text.proofs.LawSaid.{MixFits}
use Rattle.cert_text.proofs.LawLists.{HeadBefore, rising_reverse, weight_at, weight_hit, weight_miss, weight_reverse, at_none, flat_push, map_below, map_indices}
use Rattle.cert_text.proofs.LawStages.{Head, Lacks, StepsFit, BranchesFit, RowsFit, PartFits, mixes_from, node_from, point_from, latest_step, latest_share, mixes_bytes}
use Rattle.text_words.proofs.Texts.{flat_below, each_reverse}

-- ---- pairs

pub cell_below : (a n o m : ℕ) → a < n → o < m → a * m + o < n * m
cell_below a n o m la lo =
    let h = mul-le-mul_right {m = a + 1} {n = n} m (omega arith) in
    let e : (a + 1) * m ≡ a * m + m = omega arith in
    omega (arith, h, e)

-- there are at most 48 pairs
pub pairs_few : (g : GameData) → IsShape g.shape → g.shape.own_actions * g.shape.observations ≤ 48
pairs_few g s =
    let h = mul-le-mul_right {m = g.shape.own_actions} {n = 6} g.shape.observations s.own_actions.1 in
    omega (arith, h, s.observations.1)

cell_own : (a o b p m : ℕ) → o < m → p < m → a * m + o ≡ b * m + p → a ≡ b
cell_own a o b p m lo lp e = sym (digits_div a lo) ∙ ap (λ (x : ℕ). x / m) e ∙ digits_div b lp

cell_seen : (a o b p m : ℕ) → o < m → p < m → a * m + o ≡ b * m + p → o ≡ p
cell_seen a o b p m lo lp e = sym (digits_mod a lo) ∙ ap (λ (x : ℕ). x % m) e ∙ digits_mod b lp

-- ---- what a node lacks

div_past : (i n m : ℕ) → 0 < m → n * m ≤ i → n ≤ i / m
div_past i n m some le = elim (cases_lt (i / m) n) [
  | inl lt ↦ absurd (omega (arith, (div-lt_iff_lt-mul {k = m} {x = i} {y = n} some).0 lt))
  | inr ge ↦ ge
]

lacking_in : (m : List ℤ) (n i : ℕ) → i < 48 → get_or (lacking_of n m) i (pos 0) ≡ get_or m (i / n) (pos 0)
unfolding lacking_of
lacking_in m n i l = get_or-map-range_with_len (λ j. get_or m (j / n) (pos 0)) 0 48 i i (pos 0) l (omega arith)

length_lacking : (m : List ℤ) (n : ℕ) → length (lacking_of n m) ≡ 48
unfolding lacking_of
length_lacking m n = length-map (below 48) (λ i. get_or m (i / n) (pos 0))

pub lacks_first : (g : GameData) (m : List ℤ) → IsShape g.shape → MixFits g.shape.own_actions m → Lacks g m [] (lacking_of g.shape.observations m)
lacks_first g m s fits =
    let n = g.shape.observations in
    let few = pairs_few g s in
    record {
      long = length_lacking m n;
      each = λ a o la lo.
          let l : a * n + o < 48 = omega (arith, few, cell_below a g.shape.own_actions o n la lo) in
          let e : get_or (lacking_of n m) (a * n + o) (pos 0) ≡ get_or m a (pos 0) = lacking_in m n (a * n + o) l ∙ ap (λ (x : ℕ). get_or m x (pos 0)) (digits_div a lo) in
          omega (arith, ints, e);
      past = λ i le. elim (cases_lt i 48) [
        | inl l ↦ lacking_in m n i l ∙ get_or_past m (i / n) (pos 0) (omega (arith, fits.long, div_past i g.shape.own_actions n (omega (arith, s.observations.0)) le))
        | inr ge ↦ get_or_past (lacking_of n m) i (pos 0) (omega (arith, length_lacking m n, ge))
      ];
    }

both_true : (b : Branch) (a o : ℕ) → b.own ≡ a → b.seen ≡ o → ((b.own == a) && (b.seen == o)) ≡ true
both_true b a o p q = grind (arith, nat_tests)

one_false : (b : Branch) (a o : ℕ) → ((b.own ≡ a) × (b.seen ≡ o) → ⊥) → ((b.own == a) && (b.seen == o)) ≡ false
one_false b a o apart = by (b.own == a) (b.seen == o) refl refl
  where
    by : (x y : Bool) → eqb b.own a ≡ x → eqb b.seen o ≡ y → (x && y) ≡ false
    by true true p q = absurd (apart (eqb-true b.own a p, eqb-true b.seen o q))
    by true false p q = refl
    by false y p q = refl

lack_each : (g : GameData) (m : List ℤ) (back : List Branch) (L : List ℤ) (b : Branch) → IsShape g.shape → Lacks g m back L → b.own < g.shape.own_actions → b.seen < g.shape.observations
    → (a o : ℕ) → a < g.shape.own_actions → o < g.shape.observations
    → (((b.own ≡ a) × (b.seen ≡ o)) ⊎ ((b.own ≡ a) × (b.seen ≡ o) → ⊥))
    → get_or (lacking_less L (pair_at (limits_of g) b) b.weight) (a * g.shape.observations + o) (pos 0) ≡ get_or m a (pos 0) -ℤ weight_at (b ∷ back) a o
lack_each g m back L b s k lb lo a o la l (inl e) =
    let n = g.shape.observations in
    let p = pair_at (limits_of g) b in
    let q : a * n + o ≡ p = ap (λ (x : ℕ). x * n + o) (sym e.0) ∙ ap (λ (x : ℕ). b.own * n + x) (sym e.1) in
    let inside : p < length L = omega (arith, k.long, pairs_few g s, cell_below b.own g.shape.own_actions b.seen n lb lo) in
    let new = ap (λ (x : ℕ). get_or (lacking_less L p b.weight) x (pos 0)) q ∙ get_or-set_same L p (get_or L p (pos 0) -ℤ b.weight) (pos 0) inside in
    let old : get_or L p (pos 0) ≡ get_or m a (pos 0) -ℤ weight_at back a o = ap (λ (x : ℕ). get_or L x (pos 0)) (sym q) ∙ k.each a o la l in
    omega (arith, ints, new, old, weight_hit b back a o (both_true b a o e.0 e.1))
lack_each g m back L b s k lb lo a o la l (inr differ) =
    let n = g.shape.observations in
    let p = pair_at (limits_of g) b in
    let apart : a * n + o ≢ p = λ q. differ (sym (cell_own a o b.own b.seen n l lo q), sym (cell_seen a o b.own b.seen n l lo q)) in
    let new = get_or-set_other L p (a * n + o) (get_or L p (pos 0) -ℤ b.weight) (pos 0) apart in
    omega (arith, ints, new, k.each a o la l, weight_miss b back a o (one_false b a o differ))

same_or_not : (b : Branch) (a o : ℕ) → ((b.own ≡ a) × (b.seen ≡ o)) ⊎ ((b.own ≡ a) × (b.seen ≡ o) → ⊥)
same_or_not b a o = elim (eqb_tells b.own a) [
  | inl p ↦ elim (eqb_tells b.seen o) [
    | inl q ↦ inl (p.1, q.1)
    | inr q ↦ inr (λ e. q.1 e.1)
  ]
  | inr p ↦ inr (λ e. p.1 e.0)
]

pub lacks_more : (g : GameData) (m : List ℤ) (back : List Branch) (L : List ℤ) (b : Branch) → IsShape g.shape → Lacks g m back L → b.own < g.shape.own_actions → b.seen < g.shape.observations
    → Lacks g m (b ∷ back) (lacking_less L (pair_at (limits_of g) b) b.weight)
lacks_more g m back L b s k lb lo =
    let n = g.shape.observations in
    let p = pair_at (limits_of g) b in
    record {
      long = length-set L p (get_or L p (pos 0) -ℤ b.weight) ∙ k.long;
      each = λ a o la l. lack_each g m back L b s k lb lo a o la l (same_or_not b a o);
      past = λ i le. get_or-set_other L p i (get_or L p (pos 0) -ℤ b.weight) (pos 0) (λ e. omega (arith, e, le, cell_below b.own g.shape.own_actions b.seen n lb lo)) ∙ k.past i le;
    }

-- ---- branches

pub step_after : (back : List Branch) (b : Branch) → IsLater (latest_step back) b.own b.seen b.member → HeadBefore back b
step_after [] b h = tt
step_after (d ∷ back) b h = h

pub share_after : (back : List Branch) (b : Branch) → IsLater (latest_share back) b.own b.seen b.member → HeadBefore back b
share_after [] b h = tt
share_after (d ∷ back) b h = h

pub branches_more : (g : GameData) (members : ℕ) (most : ℤ) (back : List Branch) (b : Branch) → BranchesFit g members most back → HeadBefore back b → IsBranch (numbers g) members most b → BranchesFit g members most (b ∷ back)
branches_more g members most back b k h f = record { falls = (h, k.falls); each = (f, k.each) }

pub are_branches : (g : GameData) (members : ℕ) (most : ℤ) (back : List Branch) → BranchesFit g members most back → AreBranches (numbers g) members most (reverse back)
are_branches g members most back k = record { rising = rising_reverse back k.falls; each = each_reverse (IsBranch (numbers g) members most) back k.each }

-- a node whose pairs lack nothing fits
pub node_fits : (g : GameData) (h : Head) (v m : List ℤ) (back : List Branch) (L : List ℤ) → StepsFit g h v m back L → AllByRecursion IsNone L → NodeFits g h.nodes (node_from v m back)
node_fits g h v m back L k none = record {
  long = k.vector.long;
  entries = k.vector.each;
  mix = record { long = k.mix.long; each = k.mix.each; sums = k.mix.sums };
  next = are_branches g h.nodes (pos mix_total) back k.steps;
  sums = λ a o la lo. weight_reverse back a o ∙ omega (arith, ints, k.lacks.each a o la lo, at_none L none (a * g.shape.observations + o));
}

-- ---- mixes of a point

row_kept : (w more : List ℤ) (s n i c : ℕ) → length w ≡ s * n → i < s → c < n → get_or (w ++ more) (i * n + c) (pos 0) ≡ get_or w (i * n + c) (pos 0)
row_kept w more s n i c long li lc = get_or_append_left w more (pos 0) (i * n + c) (omega (arith, long, cell_below i s c n li lc))

pub row_new : (w more : List ℤ) (s n c : ℕ) → length w ≡ s * n → get_or (w ++ more) (s * n + c) (pos 0) ≡ get_or more c (pos 0)
row_new w more s n c long = ap (λ (x : ℕ). get_or (w ++ more) (x + c) (pos 0)) (sym long) ∙ get_or-append-add w more c (pos 0)

row_sum : (g : GameData) (w more : List ℤ) (s : ℕ) → length w ≡ s * g.shape.informed_actions → length more ≡ g.shape.informed_actions
    → total (λ c. mix_at (mixes_from g (w ++ more)) s c) (below g.shape.informed_actions) ≡ sum_of more
row_sum g w more s long short =
    let n = g.shape.informed_actions in
    total-below n (λ c. get_or (w ++ more) (s * n + c) (pos 0)) (λ c. get_or more c (pos 0)) (λ c l. row_new w more s n c long)
    ∙ ap (λ (x : ℕ). total (λ c. get_or more c (pos 0)) (below x)) (sym short)
    ∙ total-places (λ (x : ℤ). x) (pos 0) more

pub rows_more : (g : GameData) (s : ℕ) (w more : List ℤ) → RowsFit g s w → s < g.shape.states → MixFits g.shape.informed_actions more → RowsFit g (suc s) (w ++ more)
rows_more g s w more k l f =
    let n = g.shape.informed_actions in
    record {
      few = omega (arith, l);
      long = (let e : suc s * n ≡ s * n + n = omega arith in omega (arith, length-append w more, k.long, f.long, e));
      each = each-append (IsWithin (pos 0) (pos mix_total)) w more k.each f.each;
      sums = λ i li. elim (cases_lt i s) [
        | inl lt ↦ total-below n (λ c. get_or (w ++ more) (i * n + c) (pos 0)) (λ c. get_or w (i * n + c) (pos 0)) (λ c lc. row_kept w more s n i c k.long lt lc) ∙ k.sums i lt
        | inr ge ↦
            let e : i ≡ s = omega (arith, li, ge) in
            ap (λ (x : ℕ). total (λ c. mix_at (mixes_from g (w ++ more)) x c) (below n)) e ∙ row_sum g w more s k.long f.long ∙ f.sums
      ];
    }

pub rows_none : (g : GameData) → RowsFit g 0 []
rows_none g = record { few = omega arith; long = omega arith; each = tt; sums = λ i l. absurd (omega (arith, l)) }

-- the lines of the mixes, with a further one
pub mixes_text_more : (g : GameData) (s : ℕ) (w more : List ℤ) → length w ≡ s * g.shape.informed_actions → length more ≡ g.shape.informed_actions
    → mixes_bytes g (w ++ more) (suc s) ≡ mixes_bytes g w s ++ line_of (codes "mix") (pos s ∷ more)
mixes_text_more g s w more long short =
    let n = g.shape.informed_actions in
    let new = mix_text (mixes_from g (w ++ more)) in
    let old = mix_text (mixes_from g w) in
    let e : suc s ≡ s + 1 = omega arith in
    let kept : (i : ℕ) → i < s → new i ≡ old i = λ i li.
    ap (λ (ns : List ℤ). line_of (codes "mix") (pos i ∷ ns)) (map_below (λ c. get_or (w ++ more) (i * n + c) (pos 0)) (λ c. get_or w (i * n + c) (pos 0)) n (λ c lc. row_kept w more s n i c long li lc)) in
    let last : new s ≡ line_of (codes "mix") (pos s ∷ more) =
    ap (λ (ns : List ℤ). line_of (codes "mix") (pos s ∷ ns))
    (map_below (λ c. get_or (w ++ more) (s * n + c) (pos 0)) (λ c. get_or more c (pos 0)) n (λ c lc. row_new w more s n c long)
    ∙ ap (λ (x : ℕ). map (λ c. get_or more c (pos 0)) (below x)) (sym short) ∙ map_indices (pos 0) more) in
    ap (λ (x : ℕ). flat_map new (below x)) e ∙ flat_push new s ∙ ap (λ (l : List ℕ). l ++ new s) (flat_below new old s kept) ∙ ap (λ (l : List ℕ). flat_map old (below s) ++ l) last

-- a point with the mixes of all states fits
pub point_fits : (g : GameData) (h : Head) (b : List ℤ) (v : ℤ) (w : List ℤ) (back : List Branch) → PartFits g b v g.shape.states w → BranchesFit g h.points most_share back → PointFits g h.points (point_from g b v w back)
point_fits g h b v w back k f = record {
  belief = record { long = k.belief.long; each = k.belief.each; sums = k.belief.sums };
  coprime = k.belief.coprime;
  value = k.value;
  states = refl;
  actions = refl;
  mixes = record { long = k.rows.long; each = k.rows.each; sums = k.rows.sums };
  splits = are_branches g h.points most_share back f;
}
