-- Where a list with one more item is parted.
use Rattle.std.proofs.Common.{◌≡◌, ◌⊎◌, List, [], ◌∷◌, ◌++◌, drop, length, inl, inr, refl, ap, ap₂, sym, arith, length-append}
use Rattle.std.specs.Prelude.{slice_index_or}

head-same : {X : Type 0} (x y : X) (xs ys : List X) → x ∷ xs ≡ y ∷ ys → x ≡ y
head-same x y xs ys e = ap (λ (l : List _). slice_index_or l 0 x) e

tail-same : {X : Type 0} (x y : X) (xs ys : List X) → x ∷ xs ≡ y ∷ ys → xs ≡ ys
tail-same x y xs ys e = ap (λ (l : List _). drop 1 l) e

abbrev pub AtLast : {X : Type 0} → List X → X → List X → X → List X → Type 0
AtLast xs v earlier x later = (later ≡ []) × (earlier ≡ xs) × (x ≡ v)

abbrev pub Before : {X : Type 0} → List X → X → List X → X → List X → Type 0
Before {X} xs v earlier x later = (rest : List X) × (later ≡ rest ++ v ∷ []) × (xs ≡ earlier ++ x ∷ rest)

-- a split of a list with one more item is at the last place, or is a split of the list with one more item behind
pub parted : {X : Type 0} (xs : List X) (v : X) (earlier : List X) (x : X) (later : List X) → xs ++ v ∷ [] ≡ earlier ++ x ∷ later →
    AtLast xs v earlier x later ⊎ Before xs v earlier x later
parted [] v [] x later e = inl (sym (tail-same v x [] later e), refl, sym (head-same v x [] later e))
parted [] v (y ∷ ys) x later e = absurd (omega (arith, ap length e, length-append ys (x ∷ later)))
parted (a ∷ bs) v [] x later e =
    inr (bs, sym (tail-same a x (bs ++ v ∷ []) later e), ap (λ z. z ∷ bs) (head-same a x (bs ++ v ∷ []) later e))
parted (a ∷ bs) v (y ∷ ys) x later e =
    let head = head-same a y (bs ++ v ∷ []) (ys ++ x ∷ later) e in
    elim (parted bs v ys x later (tail-same a y (bs ++ v ∷ []) (ys ++ x ∷ later) e)) [
      | inl p ↦ inl (p.0, ap₂ (λ z zs. z ∷ zs) (sym head) p.1, p.2)
      | inr p ↦ inr (p.0, p.1, ap₂ (λ z zs. z ∷ zs) head p.2)
    ]

abbrev pub SameEnd : {X : Type 0} → List X → X → List X → X → Type 0
SameEnd xs v earlier x = (earlier ≡ xs) × (x ≡ v)

-- a list with one more item has one last item
pub last-same : {X : Type 0} (xs : List X) (v : X) (earlier : List X) (x : X) → xs ++ v ∷ [] ≡ earlier ++ x ∷ [] → SameEnd xs v earlier x
last-same {X} xs v earlier x e = elim (parted xs v earlier x [] e) [
  | inl p ↦ (p.1, p.2)
  | inr p ↦ absurd (none p.0 p.1)
]
  where
    none : (rest : List X) → [] ≡ rest ++ v ∷ [] → ⊥
    none rest e = omega (arith, ap length e, length-append rest (v ∷ []))
