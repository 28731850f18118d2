-- A choice that goes on with lists of preference, one after another.
use Rattle.std.proofs.Common.{◌≡◌, ℕ, zero, suc, ◌+◌, ◌-◌, ◌<◌, ◌≤◌, ◌⊎◌, inl, inr, negsuc, Bool, true, false, cond, Option, Some, None, List, [], ◌∷◌, ◌++◌, filter, filter_map, flat_map, get_or, length, take, refl, ap, append_assoc, arith, sym, subst, ◌∙◌}
use Rattle.std.specs.Prelude.{ℤ, pos, ◌<ℤ◌, T, int_le, int_lt}
use Rattle.std.proofs.lemmas.Int.{ints}
use Rattle.std.proofs.lemmas.List.{append-nil, get_or_append_left, get_or-append_right, length-append, take_all}
use Rattle.std.proofs.lemmas.List.Elements.{filter-append, filter_map-append}
use Rattle.alpha_set.specs.Nodes.{NodeData}
use Rattle.alpha_set.specs.Worth.{IsWorth}
use Rattle.belief.specs.After.{mass_after}
use Rattle.belief.specs.Mixes.{MixesData}
use Rattle.game_model.specs.Game.{GameData}
use Rattle.point_set.specs.Best.{IsBest}
use Rattle.point_set.specs.Points.{PointData}
use Rattle.stage_game.specs.Chosen.{different, downwards}
use Rattle.stage_game.specs.LowerCandidates.{AreWorthy, IsWorthy, most_lower}
use Rattle.stage_game.specs.Masses.{is_some_mass, masses}
use Rattle.stage_game.specs.Pairs.{pairs}
use Rattle.stage_game.specs.Preferred.{GoesOn, GoesOnBest, GoesOnWorthy}
use Rattle.stage_game.specs.UpperCandidates.{AreBest, most_others}
use Rattle.stage_game.proofs.Appends.{block-more, over-pairs as pairs-over}
use Rattle.stage_game.proofs.Choosing.{downwards-more, length-downwards}

-- ---- one list, then another
pub on-none : (most : ℕ) (kept : List ℕ) → GoesOn most [] kept kept
on-none most kept seen e = e ∙ ap (λ (xs : List ℕ). take most (different xs)) (sym (append-nil seen))

pub on-both : (most : ℕ) (xs ys old middle new : List ℕ) → GoesOn most xs old middle → GoesOn most ys middle new → GoesOn most (xs ++ ys) old new
on-both most xs ys old middle new f g seen e =
    g (seen ++ xs) (f seen e) ∙ ap (λ (zs : List ℕ). take most (different zs)) (append_assoc seen xs ys)

-- ---- what is so at each place of two lists of the same length is so at each place of both behind others
abbrev Together : {X Y : Type 0} → (X → Y → Type 0) → X → Y → List X → List Y → Type 0
Together P d e xs ys = (length ys ≡ length xs) × ((i : ℕ) → i < length xs → P (get_or xs i d) (get_or ys i e))

together : {X Y : Type 0} (P : X → Y → Type 0) (d : X) (e : Y) (xs vs : List X) (ys ws : List Y) → Together P d e xs ys → Together P d e vs ws → Together P d e (xs ++ vs) (ys ++ ws)
together P d e xs vs ys ws h k =
    let long : length ys ≡ length xs = h.0 in
    let more : length ws ≡ length vs = k.0 in
    (length-append ys ws ∙ (omega arith) ∙ sym (length-append xs vs), λ i l. place i (omega (arith, length-append xs vs)) (side i (length xs)))
  where
    side : (i n : ℕ) → (i < n) ⊎ (n ≤ i)
    side i n = search arith

    place : (i : ℕ) → i < length xs + length vs → (i < length xs) ⊎ (length xs ≤ i) → P (get_or (xs ++ vs) i d) (get_or (ys ++ ws) i e)
    place i l (inl m) =
        let long : length ys ≡ length xs = h.0 in
        rw (get_or_append_left xs vs d i m, get_or_append_left ys ws e i (omega arith)) (h.1 i m)
    place i l (inr m) =
        rw (get_or-append_right xs vs (length xs) i d refl m, get_or-append_right ys ws (length xs) i e h.0 m) (k.1 (i - length xs) (omega arith))

-- ---- nodes of worth
worthy-both : (nodes : List NodeData) (ms ns : List (List ℤ)) (xs ys : List ℕ) → AreWorthy nodes ms xs → AreWorthy nodes ns ys → AreWorthy nodes (ms ++ ns) (xs ++ ys)
worthy-both nodes ms ns xs ys h k =
    let both = together (IsWorthy nodes) [] 0 ms ns xs ys (h.count, h.each) (k.count, k.each) in
    record { count = both.0; each = both.1 }

pub worthy-none : (nodes : List NodeData) (kept : List ℕ) → GoesOnWorthy nodes [] kept kept
worthy-none nodes kept = record {
  priced = [];
  worthy = record { count = refl; each = λ i l. absurd (omega arith) };
  goes_on = on-none most_lower kept;
}

pub worthy-one : (nodes : List NodeData) (mass : List ℤ) (value : ℤ) (k : ℕ) (old new : List ℕ) → IsWorth nodes mass value k → GoesOn most_lower (k ∷ []) old new → GoesOnWorthy nodes (mass ∷ []) old new
worthy-one nodes mass value k old new is on = record {
  priced = k ∷ [];
  worthy = record { count = refl; each = only };
  goes_on = on;
}
  where
    only : (i : ℕ) → i < 1 → IsWorthy nodes (get_or (mass ∷ []) i []) (get_or (k ∷ []) i 0)
    only zero l = (value, is)
    only (suc i) l = absurd (omega arith)

pub worthy-more : (nodes : List NodeData) (ms ns : List (List ℤ)) (old middle new : List ℕ) → GoesOnWorthy nodes ms old middle → GoesOnWorthy nodes ns middle new → GoesOnWorthy nodes (ms ++ ns) old new
worthy-more nodes ms ns old middle new h k = record {
  priced = h.priced ++ k.priced;
  worthy = worthy-both nodes ms ns h.priced k.priced h.worthy k.worthy;
  goes_on = on-both most_lower h.priced k.priced old middle new h.goes_on k.goes_on;
}

-- ---- best points
best-both : (points : List PointData) (ms ns : List (List ℤ)) (xs ys : List (Option ℕ)) → AreBest points ms xs → AreBest points ns ys → AreBest points (ms ++ ns) (xs ++ ys)
best-both points ms ns xs ys h k =
    let both = together (IsBest points) [] None ms ns xs ys (h.count, h.each) (k.count, k.each) in
    record { count = both.0; each = both.1 }

pub best-none : (points : List PointData) (kept : List ℕ) → GoesOnBest points [] kept kept
best-none points kept = record {
  answers = [];
  best = record { count = refl; each = λ i l. absurd (omega arith) };
  goes_on = on-none most_others kept;
}

pub best-one : (points : List PointData) (mass : List ℤ) (answer : Option ℕ) (old new : List ℕ) → IsBest points mass answer → GoesOn most_others (filter_map (λ answer. answer) (answer ∷ [])) old new → GoesOnBest points (mass ∷ []) old new
best-one points mass answer old new is on = record {
  answers = answer ∷ [];
  best = record { count = refl; each = only };
  goes_on = on;
}
  where
    only : (i : ℕ) → i < 1 → IsBest points (get_or (mass ∷ []) i []) (get_or (answer ∷ []) i None)
    only zero l = is
    only (suc i) l = absurd (omega arith)

pub best-more : (points : List PointData) (ms ns : List (List ℤ)) (old middle new : List ℕ) → GoesOnBest points ms old middle → GoesOnBest points ns middle new → GoesOnBest points (ms ++ ns) old new
best-more points ms ns old middle new h k = record {
  answers = h.answers ++ k.answers;
  best = best-both points ms ns h.answers k.answers h.best k.best;
  goes_on = λ seen e.
      on-both most_others _ _ old middle new h.goes_on k.goes_on seen e
      ∙ ap (λ (xs : List ℕ). take most_others (different (seen ++ xs))) (sym (filter_map-append (λ answer. answer) h.answers k.answers));
}

-- ---- the masses after pairs of an own action and an observation
abbrev pub masses_after : GameData → List ℤ → MixesData → List (ℕ × ℕ) → List (List ℤ)
masses_after g belief mixes places = filter is_some_mass (flat_map (λ (p : ℕ × ℕ). mass_after g belief mixes p.0 p.1 ∷ []) places)

pub masses-more : (g : GameData) (belief : List ℤ) (mixes : MixesData) (places : List (ℕ × ℕ)) (i : ℕ) → i < length places →
    masses_after g belief mixes (take i places) ++ filter is_some_mass (mass_after g belief mixes (get_or places i (0, 0)).0 (get_or places i (0, 0)).1 ∷ [])
    ≡ masses_after g belief mixes (take (i + 1) places)
masses-more g belief mixes places i l =
    let after : ℕ × ℕ → List (List ℤ) = λ (p : ℕ × ℕ). mass_after g belief mixes p.0 p.1 ∷ [] in
    sym (filter-append is_some_mass (flat_map after (take i places)) (after (get_or places i (0, 0))))
    ∙ ap (λ (ms : List (List ℤ)). filter is_some_mass ms) (block-more after [] places i (0, 0) l)

pub masses-all : (g : GameData) (belief : List ℤ) (mixes : MixesData) (places : List (ℕ × ℕ)) (i : ℕ) → length places ≤ i → places ≡ pairs g.shape.own_actions g.shape.observations →
    masses_after g belief mixes (take i places) ≡ masses g belief mixes
masses-all g belief mixes places i l e =
    ap (λ (ps : List (ℕ × ℕ)). masses_after g belief mixes ps) (take_all i places l ∙ e)
    ∙ ap (λ (ms : List (List ℤ)). filter is_some_mass ms) (sym (pairs-over (λ a o. mass_after g belief mixes a o ∷ []) g.shape.own_actions g.shape.observations))

-- ---- a mass that is zero, or not
true-from : (b : Bool) → T b → b ≡ true
true-from true t = refl
true-from false t = absurd t

above-none : (z : ℤ) → pos 0 <ℤ z → int_lt (pos 0) z ≡ true
above-none z h = true-from (int_lt (pos 0) z) h.lt

pub no-mass : (z : ℤ) → int_le z (pos 0) ≡ true → int_lt (pos 0) z ≡ false
no-mass (pos zero) e = refl
no-mass (pos (suc n)) e = absurd (omega (arith, ints))
no-mass (negsuc n) e = refl

pub some-mass : (z : ℤ) → int_le z (pos 0) ≡ false → int_lt (pos 0) z ≡ true
some-mass (pos zero) e = absurd (omega (arith, ints))
some-mass (pos (suc n)) e = above-none (pos (suc n)) (omega (arith, ints))
some-mass (negsuc n) e = absurd (omega (arith, ints))

-- ---- what is preferred next at one mass
pub worthy-zero : (nodes : List NodeData) (mass : List ℤ) (kept : List ℕ) → is_some_mass mass ≡ false → GoesOnWorthy nodes (filter is_some_mass (mass ∷ [])) kept kept
worthy-zero nodes mass kept e = subst (λ (b : Bool). GoesOnWorthy nodes (cond b (mass ∷ []) []) kept kept) (sym e) (worthy-none nodes kept)

pub worthy-here : (nodes : List NodeData) (mass : List ℤ) (value : ℤ) (k : ℕ) (old new : List ℕ) → is_some_mass mass ≡ true → IsWorth nodes mass value k → GoesOn most_lower (k ∷ []) old new →
    GoesOnWorthy nodes (filter is_some_mass (mass ∷ [])) old new
worthy-here nodes mass value k old new e is on = subst (λ (b : Bool). GoesOnWorthy nodes (cond b (mass ∷ []) []) old new) (sym e) (worthy-one nodes mass value k old new is on)

pub best-zero : (points : List PointData) (mass : List ℤ) (others : List ℕ) → is_some_mass mass ≡ false → GoesOnBest points (filter is_some_mass (mass ∷ [])) others others
best-zero points mass others e = subst (λ (b : Bool). GoesOnBest points (cond b (mass ∷ []) []) others others) (sym e) (best-none points others)

pub best-nowhere : (points : List PointData) (mass : List ℤ) (others : List ℕ) → is_some_mass mass ≡ true → IsBest points mass None → GoesOnBest points (filter is_some_mass (mass ∷ [])) others others
best-nowhere points mass others e is =
    subst (λ (b : Bool). GoesOnBest points (cond b (mass ∷ []) []) others others) (sym e) (best-one points mass None others others is (on-none most_others others))

pub best-here : (points : List PointData) (mass : List ℤ) (k : ℕ) (old new : List ℕ) → is_some_mass mass ≡ true → IsBest points mass (Some k) → GoesOn most_others (k ∷ []) old new →
    GoesOnBest points (filter is_some_mass (mass ∷ [])) old new
best-here points mass k old new e is on = subst (λ (b : Bool). GoesOnBest points (cond b (mass ∷ []) []) old new) (sym e) (best-one points mass (Some k) old new is on)

-- ---- what is preferred next of the points at no corner
pub others-more : (q : ℕ → Bool) (n i : ℕ) (old middle new : List ℕ) → i < n → GoesOn most_others (filter q (take i (downwards n))) old middle → GoesOn most_others (filter q ((n - 1 - i) ∷ [])) middle new →
    GoesOn most_others (filter q (take (i + 1) (downwards n))) old new
others-more q n i old middle new l f g =
    subst (λ (xs : List ℕ). GoesOn most_others xs old new)
    (sym (filter-append q (take i (downwards n)) ((n - 1 - i) ∷ [])) ∙ ap (λ (xs : List ℕ). filter q xs) (downwards-more n i l))
    (on-both most_others (filter q (take i (downwards n))) (filter q ((n - 1 - i) ∷ [])) old middle new f g)

pub others-all : (q : ℕ → Bool) (n i : ℕ) (old new : List ℕ) → n ≤ i → GoesOn most_others (filter q (take i (downwards n))) old new → GoesOn most_others (filter q (downwards n)) old new
others-all q n i old new l f =
    subst (λ (xs : List ℕ). GoesOn most_others (filter q xs) old new) (take_all i (downwards n) (rw (length-downwards n) l)) f
