-- Mixes that surely play one action in each state.
use Rattle.std.proofs.Common.{◌≡◌, ℕ, zero, suc, ◌+◌, ◌-◌, ◌*◌, ◌<◌, Bool, true, false, cond, ◌==◌, List, [], ◌∷◌, ◌++◌, length, get_or, set, take, replicate, refl, ap, arith, sym, subst, ◌∙◌, inl, inr, append-nil, append_assoc}
use Rattle.std.specs.Prelude.{ℤ, pos, ◌*ℤ◌, flat_map}
use Rattle.std.specs.List.{AllByRecursion}
use Rattle.std.proofs.lemmas.Int.{ints}
use Rattle.std.proofs.lemmas.Bool.Decides.{eqb_tells}
use Rattle.std.proofs.lemmas.List.{get_or_append_left, get_or-append_right, get_or-replicate, get_or-set_other, get_or-set_same, length-append, length-replicate, length-set, length-take-le, replicate-append-replicate, set-append_left, set-append_right, take_at, take_more}
use Rattle.std.proofs.lemmas.Grind.{flat_map-append}
use Rattle.scaled_num.proofs.Sums.{each, each-at, each-flat_map, total-below, total-single}
use Rattle.game_model.specs.Branches.{mix_total}
use Rattle.game_model.specs.Game.{GameData, IsGame, IsWithin}
use Rattle.belief.specs.Beliefs.{AreKept}
use Rattle.belief.specs.Mixes.{AreMixes, mix_at, pure_mixes}
use Rattle.belief.specs.Sure.{sure}

pub sure-long : (actions chosen : ℕ) → length (sure actions chosen) ≡ actions
sure-long actions chosen = length-set (replicate actions (pos 0)) chosen (pos mix_total) ∙ length-replicate actions (pos 0)

pub sures-long : (actions : ℕ) (choice : List ℕ) → length (flat_map (sure actions) choice) ≡ length choice * actions
sures-long actions [] = omega arith
sures-long actions (x ∷ xs) = omega (arith, length-append (sure actions x) (flat_map (sure actions) xs), sure-long actions x, sures-long actions xs)

-- one more state
pub choose-next : (actions : ℕ) (choice : List ℕ) (i : ℕ) (weights : List ℤ) → i < length choice → get_or choice i 0 < actions →
    weights ≡ flat_map (sure actions) (take i choice) ++ replicate ((length choice - i) * actions) (pos 0) →
    set weights (i * actions + get_or choice i 0) (pos mix_total) ≡ flat_map (sure actions) (take (i + 1) choice) ++ replicate ((length choice - (i + 1)) * actions) (pos 0)
choose-next actions choice i weights l inside before =
    let x : ℕ = get_or choice i 0 in
    let front : List ℤ = flat_map (sure actions) (take i choice) in
    let left : ℕ = (length choice - (i + 1)) * actions in
    let count : (length choice - i) * actions ≡ actions + left = rows (length choice) i actions l in
    let long : length front ≡ i * actions = sures-long actions (take i choice) ∙ ap (λ (n : ℕ). n * actions) (length-take-le i choice (omega arith)) in
    let split : weights ≡ front ++ (replicate actions (pos 0) ++ replicate left (pos 0)) =
    before ∙ ap (λ (zs : List ℤ). front ++ zs) (ap (λ (n : ℕ). replicate n (pos 0)) count ∙ sym (replicate-append-replicate actions left (pos 0))) in
    let place : i * actions + x - i * actions ≡ x = omega arith in
    let more : flat_map (sure actions) (take (i + 1) choice) ≡ front ++ sure actions x =
    ap (flat_map (sure actions)) (take_more choice i 0 l) ∙ flat_map-append (sure actions) (take i choice) (x ∷ []) ∙ ap (λ (zs : List ℤ). front ++ zs) (append-nil (sure actions x)) in
    ap (λ (zs : List ℤ). set zs (i * actions + x) (pos mix_total)) split
    ∙ set-append_right front (replicate actions (pos 0) ++ replicate left (pos 0)) (i * actions) (i * actions + x) (pos mix_total) long (omega arith)
    ∙ ap (λ (k : ℕ). front ++ set (replicate actions (pos 0) ++ replicate left (pos 0)) k (pos mix_total)) place
    ∙ ap (λ (zs : List ℤ). front ++ zs) (set-append_left (replicate actions (pos 0)) (replicate left (pos 0)) x (pos mix_total) (omega (arith, length-replicate actions (pos 0))))
    ∙ sym (append_assoc front (sure actions x) (replicate left (pos 0)))
    ∙ ap (λ (zs : List ℤ). zs ++ replicate left (pos 0)) (sym more)
  where
    rows : (n i k : ℕ) → i < n → (n - i) * k ≡ k + (n - (i + 1)) * k
    rows n i k l = let e : n - i ≡ suc (n - (i + 1)) = omega arith in rw e (omega arith)

-- the weight of an action in sure weights
sure-at : (actions chosen c : ℕ) → c < actions → get_or (sure actions chosen) c (pos 0) ≡ cond (c == chosen) (pos mix_total) (pos 0)
sure-at actions chosen c l = elim (eqb_tells c chosen) [
  | inl e ↦ rw e.0 (subst (λ (k : ℕ). get_or (set (replicate actions (pos 0)) k (pos mix_total)) c (pos 0) ≡ pos mix_total) e.1
      (get_or-set_same (replicate actions (pos 0)) c (pos mix_total) (pos 0) (omega (arith, length-replicate actions (pos 0)))))
  | inr e ↦ rw e.0 (get_or-set_other (replicate actions (pos 0)) chosen c (pos mix_total) (pos 0) e.1 ∙ get_or-replicate actions c (pos 0) (pos 0) l)
]

sures-at : (actions : ℕ) (choice : List ℕ) (s c : ℕ) → s < length choice → c < actions →
    get_or (flat_map (sure actions) choice) (s * actions + c) (pos 0) ≡ cond (c == get_or choice s 0) (pos mix_total) (pos 0)
sures-at actions [] s c ls lc = absurd (omega arith)
sures-at actions (x ∷ xs) zero c ls lc =
    let first : 0 * actions + c ≡ c = omega arith in
    ap (λ (k : ℕ). get_or (sure actions x ++ flat_map (sure actions) xs) k (pos 0)) first
    ∙ get_or_append_left (sure actions x) (flat_map (sure actions) xs) (pos 0) c (omega (arith, sure-long actions x))
    ∙ sure-at actions x c lc
sures-at actions (x ∷ xs) (suc s) c ls lc =
    let later : suc s * actions + c - actions ≡ s * actions + c = omega arith in
    get_or-append_right (sure actions x) (flat_map (sure actions) xs) actions (suc s * actions + c) (pos 0) (sure-long actions x) (omega arith)
    ∙ ap (λ (k : ℕ). get_or (flat_map (sure actions) xs) k (pos 0)) later
    ∙ sures-at actions xs s c (omega arith) lc

-- the weight of an action in mixes that surely play one action in each state
pub pure-at : (g : GameData) (choice : List ℕ) (s c : ℕ) → s < length choice → c < g.shape.informed_actions →
    mix_at (pure_mixes g choice) s c ≡ cond (c == get_or choice s 0) (pos mix_total) (pos 0)
pure-at g choice s c ls lc = sures-at g.shape.informed_actions choice s c ls lc

-- they are mixes
zeros-each : (n : ℕ) → AllByRecursion (IsWithin (pos 0) (pos mix_total)) (replicate n (pos 0))
zeros-each zero = tt
zeros-each (suc n) = ((omega (arith, ints), omega (arith, ints)), zeros-each n)

sure-each : (actions chosen : ℕ) → AllByRecursion (IsWithin (pos 0) (pos mix_total)) (sure actions chosen)
sure-each zero chosen = tt
sure-each (suc n) zero = ((omega (arith, ints), omega (arith, ints)), zeros-each n)
sure-each (suc n) (suc chosen) = ((omega (arith, ints), omega (arith, ints)), sure-each n chosen)

times : (b : Bool) → cond b (pos mix_total) (pos 0) ≡ pos (cond b 1 0) *ℤ pos mix_total
times true = refl
times false = refl

pub pure-mixes : (g : GameData) (choice : List ℕ) → length choice ≡ g.shape.states → AllByRecursion (λ chosen. chosen < g.shape.informed_actions) choice → AreMixes (pure_mixes g choice)
pure-mixes g choice long chosen = record {
  long = sures-long g.shape.informed_actions choice ∙ ap (λ (n : ℕ). n * g.shape.informed_actions) long;
  each = each-flat_map (IsWithin (pos 0) (pos mix_total)) (sure g.shape.informed_actions) choice (each (sure-each g.shape.informed_actions) choice);
  sums = λ s l.
      let x : ℕ = get_or choice s 0 in
      let inside : x < g.shape.informed_actions = each-at (λ (k : ℕ). k < g.shape.informed_actions) 0 choice s chosen (omega arith) in
      total-below g.shape.informed_actions (λ c. mix_at (pure_mixes g choice) s c) (λ c. pos (cond (c == x) 1 0) *ℤ pos mix_total) (λ c lc. pure-at g choice s c (omega arith) lc ∙ times (c == x))
      ∙ total-single (λ c. pos mix_total) x g.shape.informed_actions inside;
}

pub pure-kept : (g : GameData) → IsGame g → (choice : List ℕ) → length choice ≡ g.shape.states → AllByRecursion (λ chosen. chosen < g.shape.informed_actions) choice → AreKept (pure_mixes g choice)
pure-kept g h choice long chosen = record {
  states = h.shape.states.1;
  actions = h.shape.informed_actions.1;
  right = pure-mixes g choice long chosen;
}

-- as they stand at the front of a list
pub pure-front : (g : GameData) → IsGame g → (choice : List ℕ) → length choice ≡ g.shape.states → AllByRecursion (λ chosen. chosen < g.shape.informed_actions) choice →
    (states actions long : ℕ) (weights rest : List ℤ) → states ≡ g.shape.states → actions ≡ g.shape.informed_actions → weights ≡ flat_map (sure actions) choice → length weights ≡ long →
    AreKept (record { states = states; actions = actions; weights = take long (weights ++ rest) })
pure-front g h choice lengths chosen states actions long weights rest s a is l =
    subst (λ (xs : List ℤ). AreKept (record { states = states; actions = actions; weights = xs })) (sym (take_at weights rest long l))
    (subst (λ (n : ℕ). AreKept (record { states = n; actions = actions; weights = weights })) (sym s)
    (subst (λ (xs : List ℤ). AreKept (record { states = g.shape.states; actions = actions; weights = xs })) (sym is)
    (subst (λ (n : ℕ). AreKept (record { states = g.shape.states; actions = n; weights = flat_map (sure n) choice })) (sym a) (pure-kept g h choice lengths chosen))))
