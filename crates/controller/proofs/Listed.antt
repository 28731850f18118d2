-- What lists name, and where.
use Rattle.std.proofs.Common.{◌≡◌, ℕ, zero, suc, ◌+◌, ◌<◌, List, [], ◌∷◌, ◌++◌, length, get_or, map, refl, ap, arith, sym, subst, ◌∙◌, inl, inr}
use Rattle.std.specs.Prelude.{ℤ, ◌↔◌, ◌⊎◌, take}
use Rattle.std.specs.List.{AllByRecursion}
use Rattle.std.proofs.lemmas.List.{get_or_append_left, length-append, map-append, take_more}
use Rattle.std.proofs.Math.Seq.{get_or-append_seam}
use Rattle.game_model.specs.Branches.{Branch}
use Rattle.controller.specs.Export.{IsAtStart, LeadTo}
use Rattle.controller.specs.Reached.{IsListed, members_of}

-- what is listed is so behind other numbers, and before others
pub listed-front : (xs more : List ℕ) (j : ℕ) → IsListed xs j → IsListed (xs ++ more) j
listed-front xs more j l = record { place = l.place; inside = let inside = l.inside in omega (arith, length-append xs more); is = get_or_append_left xs more 0 l.place l.inside ∙ l.is }

pub listed-last : (xs : List ℕ) (j : ℕ) → IsListed (xs ++ j ∷ []) j
listed-last xs j = record { place = length xs; inside = omega (arith, length-append xs (j ∷ [])); is = get_or-append_seam xs j [] 0 }

listed-next : (x : ℕ) (xs : List ℕ) (j : ℕ) → IsListed xs j → IsListed (x ∷ xs) j
listed-next x xs j l = record { place = suc l.place; inside = let inside = l.inside in omega arith; is = l.is }

-- what is listed among numbers and one more
pub listed-of_push : (xs : List ℕ) (x j : ℕ) → IsListed (xs ++ x ∷ []) j → IsListed xs j ⊎ (j ≡ x)
listed-of_push [] x j l = inr (first l.place l.inside l.is)
  where
    first : (place : ℕ) → place < 1 → get_or (x ∷ []) place 0 ≡ j → j ≡ x
    first zero i e = sym e
    first (suc place) i e = absurd (omega arith)
listed-of_push (y ∷ ys) x j l = by l.place l.inside l.is (λ place i e. listed-of_push ys x j (record { place = place; inside = i; is = e }))
  where
    by : (place : ℕ) → place < suc (length (ys ++ x ∷ [])) → get_or (y ∷ (ys ++ x ∷ [])) place 0 ≡ j →
        ((place : ℕ) → place < length (ys ++ x ∷ []) → get_or (ys ++ x ∷ []) place 0 ≡ j → IsListed ys j ⊎ (j ≡ x)) → IsListed (y ∷ ys) j ⊎ (j ≡ x)
    by zero i e rest = inl (record { place = 0; inside = omega arith; is = e })
    by (suc place) i e rest =
        elim (rest place (omega arith) e) as (λ _. IsListed (y ∷ ys) j ⊎ (j ≡ x)) [
          | inl l ↦ inl (listed-next y ys j l)
          | inr e ↦ inr e
        ]

-- what a list says of its first elements and one more
pub first-more : {X Y : Type 0} (f : X → Y) (xs : List X) (i : ℕ) (d : X) → i < length xs → map f (take (i + 1) xs) ≡ map f (take i xs) ++ f (get_or xs i d) ∷ []
first-more {X} f xs i d l = ap (λ (ys : List X). map f ys) (take_more xs i d l) ∙ map-append f (take i xs) (get_or xs i d ∷ [])

pub listed-more : (xs ys : List ℕ) (x : ℕ) → ys ≡ xs ++ x ∷ [] → (j : ℕ) → IsListed ys j ↔ (IsListed xs j ⊎ (j ≡ x))
listed-more xs ys x e j = (
  λ l. listed-of_push xs x j (subst (λ (zs : List ℕ). IsListed zs j) e l),
  λ w. subst (λ (zs : List ℕ). IsListed zs j) (sym e) (elim w as (λ _. IsListed (xs ++ x ∷ []) j) [ inl l ↦ listed-front xs (x ∷ []) j l | inr same ↦ subst (IsListed (xs ++ x ∷ [])) (sym same) (listed-last xs x) ]),
)

-- ---- where an element with a number stands
pub record Stands {X : Type 0} (f : X → ℕ) (xs : List X) (j : ℕ) : Type 0 where
  pub before : List X
  pub item : X
  pub after : List X
  pub one : xs ≡ before ++ item ∷ after
  pub is : f item ≡ j

stands-of : {X : Type 0} (f : X → ℕ) (xs : List X) (j place : ℕ) → place < length (map f xs) → get_or (map f xs) place 0 ≡ j → Stands f xs j
stands-of f [] j place l e = absurd (omega arith)
stands-of f (x ∷ xs) j zero l e = record { before = []; item = x; after = xs; one = refl; is = e }
stands-of {X} f (x ∷ xs) j (suc place) l e =
    let rest = stands-of f xs j place (omega arith) e in
    record { before = x ∷ rest.before; item = rest.item; after = rest.after; one = ap (λ (ys : List X). x ∷ ys) rest.one; is = rest.is }

listed-at : {X : Type 0} (f : X → ℕ) (before after : List X) (x : X) → IsListed (map f (before ++ x ∷ after)) (f x)
listed-at f [] after x = record { place = 0; inside = omega arith; is = refl }
listed-at f (y ∷ before) after x = listed-next (f y) (map f (before ++ x ∷ after)) (f x) (listed-at f before after x)

listed-of : {X : Type 0} (f : X → ℕ) (xs before after : List X) (x : X) (j : ℕ) → xs ≡ before ++ x ∷ after → f x ≡ j → IsListed (map f xs) j
listed-of {X} f xs before after x j one is =
    subst (λ (ys : List X). IsListed (map f ys) j) (sym one) (subst (IsListed (map f (before ++ x ∷ after))) is (listed-at f before after x))

-- branches lead to what they name
pub leads : (branches : List Branch) (j : ℕ) → IsListed (members_of branches) j ↔ LeadTo branches j
leads branches j = (
  λ l.
      let s = stands-of (λ (b : Branch). b.member) branches j l.place l.inside l.is in
      record { before = s.before; branch = s.item; after = s.after; one = s.one; named = s.is },
  λ l. listed-of (λ (b : Branch). b.member) branches l.before l.after l.branch j l.one l.named,
)

-- starts are at the members that they name
pub starts-at : (starts : List (ℕ × ℤ)) (j : ℕ) → IsListed (map (λ (start : ℕ × ℤ). start.0) starts) j ↔ IsAtStart starts j
starts-at starts j = (
  λ l.
      let s = stands-of (λ (start : ℕ × ℤ). start.0) starts j l.place l.inside l.is in
      record { before = s.before; weight = s.item.1; after = s.after; one = s.one ∙ ap (λ (k : ℕ). s.before ++ (k, s.item.1) ∷ s.after) s.is },
  λ l. listed-of (λ (start : ℕ × ℤ). start.0) starts l.before l.after (j, l.weight) j l.one refl,
)

-- what holds of each member that branches lead to, or that a start is at
pub each-led : (P : ℕ → Type 0) (branches : List Branch) → ((j : ℕ) → LeadTo branches j → P j) → AllByRecursion (λ (b : Branch). P b.member) branches
each-led P [] h = tt
each-led P (b ∷ bs) h = (
  h b.member (record { before = []; branch = b; after = bs; one = refl; named = refl }),
  each-led P bs (λ j l. h j (record { before = b ∷ l.before; branch = l.branch; after = l.after; one = ap (λ (ys : List Branch). b ∷ ys) l.one; named = l.named })),
)

pub each-start : (P : ℕ → Type 0) (starts : List (ℕ × ℤ)) → ((j : ℕ) → IsAtStart starts j → P j) → AllByRecursion (λ (start : ℕ × ℤ). P start.0) starts
each-start P [] h = tt
each-start P (x ∷ xs) h = (
  h x.0 (record { before = []; weight = x.1; after = xs; one = refl }),
  each-start P xs (λ j l. h j (record { before = x ∷ l.before; weight = l.weight; after = l.after; one = ap (λ (ys : List (ℕ × ℤ)). x ∷ ys) l.one })),
)

-- what holds of each number of branches holds of one that they lead to
pub led-one : (P : ℕ → Type 0) (branches : List Branch) (j : ℕ) → AllByRecursion (λ (b : Branch). P b.member) branches → LeadTo branches j → P j
led-one P branches j h l =
    subst P l.named (at-seam branches l.before l.after l.branch l.one h)
  where
    behind : (before after : List Branch) (b : Branch) → AllByRecursion (λ (b : Branch). P b.member) (before ++ b ∷ after) → P b.member
    behind [] after b h = h.0
    behind (x ∷ xs) after b h = behind xs after b h.1

    at-seam : (branches before after : List Branch) (b : Branch) → branches ≡ before ++ b ∷ after → AllByRecursion (λ (b : Branch). P b.member) branches → P b.member
    at-seam branches before after b e h = behind before after b (subst (AllByRecursion (λ (b : Branch). P b.member)) e h)

-- what holds of the member of each start holds of one that a start is at
pub start-one : (P : ℕ → Type 0) (starts : List (ℕ × ℤ)) (j : ℕ) → AllByRecursion (λ (start : ℕ × ℤ). P start.0) starts → IsAtStart starts j → P j
start-one P starts j h l = behind l.before l.after l.weight (subst (AllByRecursion (λ (start : ℕ × ℤ). P start.0)) l.one h)
  where
    behind : (before after : List (ℕ × ℤ)) (weight : ℤ) → AllByRecursion (λ (start : ℕ × ℤ). P start.0) (before ++ (j, weight) ∷ after) → P j
    behind [] after weight h = h.0
    behind (x ∷ xs) after weight h = behind xs after weight h.1
