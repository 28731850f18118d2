-- A running sum over landings, of weights times entries that are raised by a number.
use Rattle.std.proofs.Common.{◌≡◌, ℕ, ◌+◌, ◌^◌, ◌<◌, ◌≤◌, List, [], ◌∷◌, get_or, length, map, refl, ap, arith, sym, subst, ◌∙◌, suc}
use Rattle.std.specs.Prelude.{ℤ, pos, ◌+ℤ◌, ◌*ℤ◌, unsigned_abs, FitsSigned}
use Rattle.std.specs.List.{AllByRecursion}
use Rattle.std.specs.Int.{w128}
use Rattle.std.proofs.lemmas.Int.{fits_signed_from_abs}
use Rattle.scaled_num.specs.Share.{at}
use Rattle.scaled_num.specs.Sums.{total}
use Rattle.scaled_num.proofs.Each.{get-map}
use Rattle.scaled_num.proofs.Products.{abs-add}
use Rattle.scaled_num.proofs.Sums.{each-at}
use Rattle.game_model.specs.Build.{landing_of}
use Rattle.game_model.specs.declared.parts.Landing.{Landing}
use Rattle.game_model.proofs.Expected.{SoFar, next}
use Rattle.belief.specs.Masses.{AreLandings}

abbrev none : Landing
none = landing_of 0 0 (pos 0)

abbrev pub raised : ℤ → List ℤ → List ℤ
raised raise vector = map (λ x. x +ℤ raise) vector

-- what one landing brings
abbrev pub brings : List ℤ → ℤ → Landing → ℤ
brings vector raise l = l.weight *ℤ (at vector l.to +ℤ raise)

pub record RaisedNext (ls : List Landing) (vector : List ℤ) (raise : ℤ) (i : ℕ) (sum : ℤ) : Type 0 where
  pub to : (get_or ls i none).to < length vector
  pub weight_fits : FitsSigned w128 (get_or ls i none).weight
  pub entry_fits : FitsSigned w128 (at vector (get_or ls i none).to)
  pub raised_fits : FitsSigned w128 (at vector (get_or ls i none).to +ℤ raise)
  pub product_fits : FitsSigned w128 (brings vector raise (get_or ls i none))
  pub sum_fits : FitsSigned w128 (sum +ℤ brings vector raise (get_or ls i none))
  pub so_far : SoFar ls (raised raise vector) (i + 1) (sum +ℤ brings vector raise (get_or ls i none))

length-raised : (raise : ℤ) (vector : List ℤ) → length (raised raise vector) ≡ length vector
length-raised raise [] = refl
length-raised raise (x ∷ xs) = ap suc (length-raised raise xs)

small-raised : (raise : ℤ) → unsigned_abs raise ≤ 2 ^ 69 → (vector : List ℤ) → AllByRecursion (λ x. unsigned_abs x ≤ 2 ^ 69) vector → AllByRecursion (λ x. unsigned_abs x ≤ 2 ^ 70) (raised raise vector)
small-raised raise h [] entries = tt
small-raised raise h (x ∷ xs) entries = (both x raise entries.0 h, small-raised raise h xs entries.1)
  where
    both : (x r : ℤ) → unsigned_abs x ≤ 2 ^ 69 → unsigned_abs r ≤ 2 ^ 69 → unsigned_abs (x +ℤ r) ≤ 2 ^ 70
    both x r h k = omega (arith, abs-add x r)

pub raised-next : (ls : List Landing) (vector : List ℤ) (raise : ℤ) (i : ℕ) (sum : ℤ) → i < length ls → AreLandings (length vector) ls →
    AllByRecursion (λ x. unsigned_abs x ≤ 2 ^ 69) vector → unsigned_abs raise ≤ 2 ^ 69 → SoFar ls (raised raise vector) i sum → RaisedNext ls vector raise i sum
raised-next ls vector raise i sum l landings entries small so_far =
    let x : Landing = get_or ls i none in
    let to : x.to < length vector = each-at (λ (k : Landing). k.to < length vector) none ls i landings.inside l in
    let n = next ls (raised raise vector) i sum l
    (subst (λ (m : ℕ). AllByRecursion (λ (k : Landing). k.to < m) ls) (sym (length-raised raise vector)) landings.inside)
    landings.light (small-raised raise small vector entries) so_far in
    let is : get_or (raised raise vector) x.to (pos 0) ≡ at vector x.to +ℤ raise = get-map (λ y. y +ℤ raise) vector x.to (pos 0) (pos 0) to in
    let P : ℤ → Type 0 = λ z. FitsSigned w128 z × FitsSigned w128 (x.weight *ℤ z) × FitsSigned w128 (sum +ℤ x.weight *ℤ z) × SoFar ls (raised raise vector) (i + 1) (sum +ℤ x.weight *ℤ z) in
    let all : P (at vector x.to +ℤ raise) = subst P is (n.entry_fits, n.product_fits, n.sum_fits, n.so_far) in
    record {
      to = to;
      weight_fits = n.weight_fits;
      entry_fits = fits_signed_from_abs w128 (at vector x.to) (small-fits (at vector x.to) (each-at (λ y. unsigned_abs y ≤ 2 ^ 69) (pos 0) vector x.to entries to));
      raised_fits = all.0;
      product_fits = all.1;
      sum_fits = all.2;
      so_far = all.3;
    }
  where
    small-fits : (z : ℤ) → unsigned_abs z ≤ 2 ^ 69 → unsigned_abs z < 2 ^ 127
    small-fits z h = omega arith

-- the whole sum, without the list of raised entries
pub raised-total : (ls : List Landing) (vector : List ℤ) (raise : ℤ) → AllByRecursion (λ (l : Landing). l.to < length vector) ls →
    total (λ (l : Landing). l.weight *ℤ at (raised raise vector) l.to) ls ≡ total (brings vector raise) ls
raised-total [] vector raise h = refl
raised-total (x ∷ xs) vector raise h =
    ap (λ (z : ℤ). x.weight *ℤ z +ℤ total (λ (l : Landing). l.weight *ℤ at (raised raise vector) l.to) xs) (get-map (λ y. y +ℤ raise) vector x.to (pos 0) (pos 0) h.0)
    ∙ ap (λ (z : ℤ). brings vector raise x +ℤ z) (raised-total xs vector raise h.1)
