-- Lists of zeros with one other number, and mixes made of them.
use Rattle.std.proofs.Common.{◌≡◌, ℕ, zero, suc, ◌+◌, ◌*◌, ◌<◌, Bool, cond, ◌==◌, List, [], ◌∷◌, ◌++◌, length, get_or, set, replicate, ap, arith, sym, subst, ◌∙◌, inl, inr, eq-eqb, ne_eqb}
use Rattle.std.specs.Prelude.{ℤ, pos, unsigned_abs, flat_map}
use Rattle.std.specs.List.{AllByRecursion}
use Rattle.std.proofs.lemmas.Int.{ints}
use Rattle.std.proofs.lemmas.Bool.Decides.{eqb_tells}
use Rattle.std.proofs.lemmas.List.{get_or-set_same, get_or-set_other, get_or-replicate, get_or_append_left, get_or-append-add, length-append, length-set, length-replicate}
use Rattle.scaled_num.specs.Sums.{below, sum_of, total}
use Rattle.scaled_num.proofs.Floors.{sum-zeros}
use Rattle.scaled_num.proofs.Sums.{each-at, each-flat_map, total-below, total-places}
use Rattle.game_model.specs.Branches.{mix_total}
use Rattle.game_model.specs.Game.{GameData, IsWithin}
use Rattle.game_model.proofs.Pay.{each-from}
use Rattle.belief.specs.Beliefs.{mix_weight}
use Rattle.belief.specs.Mixes.{AreMixes, mix_at, pure_mixes}

-- all weight at one place
abbrev pub placed : ℕ → ℕ → ℕ → List ℤ
placed n i m = set (replicate n (pos 0)) i (pos m)

pub turn : (a b : ℕ) → (a == b) ≡ (b == a)
turn a b = elim (eqb_tells a b) [ inl e ↦ e.0 ∙ sym (eq-eqb b a (sym e.1)) | inr e ↦ e.0 ∙ sym (ne_eqb b a (λ k. e.1 (sym k))) ]

pub placed-at : (n i m k : ℕ) → i < n → k < n → get_or (placed n i m) k (pos 0) ≡ pos (cond (k == i) m 0)
placed-at n i m k li lk =
    elim (eqb_tells k i) [
      | inl e ↦ subst (λ (j : ℕ). get_or (placed n i m) j (pos 0) ≡ pos m) (sym e.1) (get_or-set_same (replicate n (pos 0)) i (pos m) (pos 0) (subst (λ (j : ℕ). i < j) (sym (length-replicate n (pos 0))) li))
          ∙ ap (λ (b : Bool). pos (cond b m 0)) (sym e.0)
      | inr e ↦ get_or-set_other (replicate n (pos 0)) i k (pos m) (pos 0) e.1 ∙ get_or-replicate n k (pos 0) (pos 0) lk
          ∙ ap (λ (b : Bool). pos (cond b m 0)) (sym e.0)
    ]

pub placed-long : (n i m : ℕ) → length (placed n i m) ≡ n
placed-long n i m = length-set (replicate n (pos 0)) i (pos m) ∙ length-replicate n (pos 0)

zeros-within : (n m : ℕ) → AllByRecursion (IsWithin (pos 0) (pos m)) (replicate n (pos 0))
zeros-within zero m = tt
zeros-within (suc n) m = ((omega (arith, ints), omega (arith, ints)), zeros-within n m)

pub placed-within : (n i m : ℕ) → AllByRecursion (IsWithin (pos 0) (pos m)) (placed n i m)
placed-within zero i m = tt
placed-within (suc n) zero m = ((omega (arith, ints), omega (arith, ints)), zeros-within n m)
placed-within (suc n) (suc i) m = ((omega (arith, ints), omega (arith, ints)), placed-within n i m)

pub placed-sum : (n i m : ℕ) → i < n → sum_of (placed n i m) ≡ pos m
placed-sum zero i m l = absurd (omega arith)
placed-sum (suc n) zero m l = omega (arith, ints, sum-zeros n)
placed-sum (suc n) (suc i) m l = omega (arith, ints, placed-sum n i m (omega arith))

-- an entry of pieces of one length
pub get_or-pieces : {X Y : Type 0} (f : X → List Y) (n : ℕ) (e : X) (d : Y) (xs : List X) → ((x : X) → length (f x) ≡ n) → (s c : ℕ) → s < length xs → c < n →
    get_or (flat_map f xs) (s * n + c) d ≡ get_or (f (get_or xs s e)) c d
get_or-pieces f n e d [] long s c ls lc = absurd (omega arith)
get_or-pieces f n e d (x ∷ xs) long zero c ls lc =
    ap (λ (k : ℕ). get_or (f x ++ flat_map f xs) k d) (omega arith) ∙ get_or_append_left (f x) (flat_map f xs) d c (omega (arith, long x))
get_or-pieces f n e d (x ∷ xs) long (suc s) c ls lc =
    ap (λ (k : ℕ). get_or (f x ++ flat_map f xs) k d) (omega (arith, long x)) ∙ get_or-append-add (f x) (flat_map f xs) (s * n + c) d
    ∙ get_or-pieces f n e d xs long s c (omega arith) lc

pub length-pieces : {X Y : Type 0} (f : X → List Y) (n : ℕ) (xs : List X) → ((x : X) → length (f x) ≡ n) → length (flat_map f xs) ≡ length xs * n
length-pieces f n [] long = omega arith
length-pieces f n (x ∷ xs) long = length-append (f x) (flat_map f xs) ∙ omega (arith, long x, length-pieces f n xs long)

-- the mixes that surely play one action in each state
pub pure-at : (g : GameData) (choice : List ℕ) → (s c : ℕ) → s < length choice → c < g.shape.informed_actions →
    mix_at (pure_mixes g choice) s c ≡ get_or (placed g.shape.informed_actions (get_or choice s 0) mix_total) c (pos 0)
pure-at g choice s c ls lc =
    get_or-pieces (λ chosen. placed g.shape.informed_actions chosen mix_total) g.shape.informed_actions 0 (pos 0) choice
    (λ chosen. placed-long g.shape.informed_actions chosen mix_total) s c ls lc

pub pure-weight : (g : GameData) (choice : List ℕ) → AllByRecursion (λ chosen. chosen < g.shape.informed_actions) choice → (s c : ℕ) → s < length choice → c < g.shape.informed_actions →
    mix_weight (pure_mixes g choice) s c ≡ cond (c == get_or choice s 0) mix_total 0
pure-weight g choice right s c ls lc =
    ap unsigned_abs (pure-at g choice s c ls lc ∙ placed-at g.shape.informed_actions (get_or choice s 0) mix_total c (each-at (λ chosen. chosen < g.shape.informed_actions) 0 choice s right ls) lc)

pub pure-right : (g : GameData) (choice : List ℕ) → length choice ≡ g.shape.states → AllByRecursion (λ chosen. chosen < g.shape.informed_actions) choice → AreMixes (pure_mixes g choice)
pure-right g choice long right =
    let n = g.shape.informed_actions in
    let f : ℕ → List ℤ = λ chosen. placed n chosen mix_total in
    record {
      long = length-pieces f n choice (λ chosen. placed-long n chosen mix_total) ∙ ap (λ (k : ℕ). k * n) long;
      each = each-flat_map (IsWithin (pos 0) (pos mix_total)) f choice (each-from (λ chosen. chosen < n) _ choice (λ chosen l. placed-within n chosen mix_total) right);
      sums = λ s ls.
          let inside : s < length choice = subst (λ (k : ℕ). s < k) (sym long) ls in
          total-below n (λ c. mix_at (pure_mixes g choice) s c) (λ c. get_or (f (get_or choice s 0)) c (pos 0)) (λ c lc. pure-at g choice s c inside lc)
          ∙ ap (λ (k : ℕ). total (λ c. get_or (f (get_or choice s 0)) c (pos 0)) (below k)) (sym (placed-long n (get_or choice s 0) mix_total))
          ∙ total-places (λ (x : ℤ). x) (pos 0) (f (get_or choice s 0))
          ∙ placed-sum n (get_or choice s 0) mix_total (each-at (λ chosen. chosen < n) 0 choice s right inside);
    }
