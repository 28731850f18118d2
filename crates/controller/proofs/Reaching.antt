-- Members that are found one after the other, and in the end all that are reached.
use Rattle.std.proofs.Common.{◌≡◌, ℕ, zero, suc, ◌+◌, ◌<◌, ◌≤◌, Bool, true, false, cond, List, [], ◌∷◌, ◌++◌, length, get_or, set, refl, ap, arith, sym, subst, ◌∙◌, inl, inr}
use Rattle.std.specs.Prelude.{IsTrue, count_by, not, replicate, ◌↔◌, ◌⊎◌}
use Rattle.std.proofs.lemmas.List.{append-nil, append_assoc, get_or-set_same, get_or-set_other, get_or_append_left, length-append, length-replicate, length-set}
use Rattle.std.proofs.lemmas.Bool.Decides.{eqb_tells}
use Rattle.std.proofs.lemmas.List.Sums.{sum_by-set}
use Rattle.scaled_num.proofs.Sums.{each-append, each-at}
use Rattle.game_model.specs.Branches.{Branch}
use Rattle.game_model.proofs.Least.{last-or}
use Rattle.game_model.proofs.Pay.{each-from}
use Rattle.controller.specs.Export.{AreKept, IsReached, IsWay, LeadTo}
use Rattle.controller.specs.Reached.{AreFound, ListsAlso, IsListed, NameMembers, flag_at, members_of}
use Rattle.controller.proofs.Listed.{leads, led-one, listed-front, listed-last}

-- only a member has a mark
pub marked-inside : (flags : List Bool) (j : ℕ) → IsTrue (flag_at flags j) → j < length flags
marked-inside [] j t = cc
marked-inside (f ∷ fs) zero t = omega arith
marked-inside (f ∷ fs) (suc j) t = let inside = marked-inside fs j t in omega arith

-- ---- one more member is found
mark-is : (flags : List Bool) (j i : ℕ) → j < length flags → IsTrue (flag_at (set flags j true) i) ↔ (IsTrue (flag_at flags i) ⊎ (i ≡ j))
mark-is flags j i l =
    elim (eqb_tells i j) as (λ _. IsTrue (flag_at (set flags j true) i) ↔ (IsTrue (flag_at flags i) ⊎ (i ≡ j))) [
      | inl e ↦ (λ t. inr e.1, λ w. subst (λ (k : ℕ). IsTrue (flag_at (set flags j true) k)) (sym e.1) (get_or-set_same flags j true false l))
      | inr ne ↦ (
        λ t. inl (sym (get_or-set_other flags j i true false ne.1) ∙ t),
        λ w. elim w as (λ _. IsTrue (flag_at (set flags j true) i)) [ inl t ↦ get_or-set_other flags j i true false ne.1 ∙ t | inr e ↦ absurd (ne.1 e) ],
      )
    ]

pub find : (flags : List Bool) (numbers : List ℕ) (j : ℕ) → AreFound flags numbers → j < length flags → flag_at flags j ≡ false →
    ListsAlso flags numbers (set flags j true) (numbers ++ j ∷ []) (λ i. i ≡ j)
find flags numbers j h l e =
    let long : length (set flags j true) ≡ length flags = length-set flags j true in
    let marks = λ (i : ℕ). mark-is flags j i l in
    record {
      found = record {
        marked = each-append (λ (i : ℕ). IsTrue (flag_at (set flags j true) i)) numbers (j ∷ [])
            (each-from (λ (i : ℕ). IsTrue (flag_at flags i)) (λ (i : ℕ). IsTrue (flag_at (set flags j true) i)) numbers (λ i t. (marks i).1 (inl t)) h.marked)
            ((marks j).1 (inr refl), tt);
        listed = λ i li t.
            elim ((marks i).0 t) as (λ _. IsListed (numbers ++ j ∷ []) i) [
              | inl t ↦ listed-front numbers (j ∷ []) i (h.listed i (marked-inside flags i t) t)
              | inr same ↦ subst (IsListed (numbers ++ j ∷ [])) (sym same) (listed-last numbers j)
            ];
        few = counts long (sum_by-set (λ (b : Bool). cond (not b) 1 0) flags j true false l) h.few;
      };
      goes_on = record { more = j ∷ []; is = refl };
      marks = record { long = long; marked = λ i li. marks i };
    }
  where
    one_less : (a b n m : ℕ) → a + 1 ≡ b + 0 → n + b ≡ m → length (numbers ++ j ∷ []) ≡ n + 1 → length (set flags j true) ≡ m → length (numbers ++ j ∷ []) + a ≡ length (set flags j true)
    one_less a b n m one few more long = omega arith

    counts : length (set flags j true) ≡ length flags → count_by not (set flags j true) + cond (not (get_or flags j false)) 1 0 ≡ count_by not flags + 0 → length numbers + count_by not flags ≡ length flags →
        length (numbers ++ j ∷ []) + count_by not (set flags j true) ≡ length (set flags j true)
    counts long one few =
        let more : length (numbers ++ j ∷ []) ≡ length numbers + 1 = length-append numbers (j ∷ []) in
        one_less (count_by not (set flags j true)) (count_by not flags) (length numbers) (length flags) (ap (λ (b : Bool). count_by not (set flags j true) + cond (not b) 1 0) (sym e) ∙ one) few more long

-- nothing new is found
pub find-none : (flags : List Bool) (numbers : List ℕ) (P : ℕ → Type 0) → AreFound flags numbers → ((j : ℕ) → P j → IsTrue (flag_at flags j)) → ListsAlso flags numbers flags numbers P
find-none flags numbers P h known = record {
  found = h;
  goes_on = record { more = []; is = sym (append-nil numbers) };
  marks = record { long = refl; marked = λ j l. (λ t. inl t, λ w. elim w as (λ _. IsTrue (flag_at flags j)) [ inl t ↦ t | inr p ↦ known j p ]) };
}

-- first these are found, and then those
pub find-both : (a b c : List Bool) (xs ys zs : List ℕ) (P Q R : ℕ → Type 0) → ((j : ℕ) → R j ↔ (P j ⊎ Q j)) → ListsAlso a xs b ys P → ListsAlso b ys c zs Q → ListsAlso a xs c zs R
find-both a b c xs ys zs P Q R both first second = record {
  found = second.found;
  goes_on = record { more = first.goes_on.more ++ second.goes_on.more; is = second.goes_on.is ∙ ap (λ (us : List ℕ). us ++ second.goes_on.more) first.goes_on.is ∙ append_assoc xs first.goes_on.more second.goes_on.more };
  marks = record {
    long = second.marks.long ∙ first.marks.long;
    marked = λ j l.
        let early = first.marks.marked j l in
        let late = second.marks.marked j (subst (λ (n : ℕ). j < n) (sym first.marks.long) l) in (
          λ t.
              elim (late.0 t) as (λ _. IsTrue (flag_at a j) ⊎ R j) [
                | inl u ↦ elim (early.0 u) as (λ _. IsTrue (flag_at a j) ⊎ R j) [ inl v ↦ inl v | inr p ↦ inr ((both j).1 (inl p)) ]
                | inr q ↦ inr ((both j).1 (inr q))
              ],
          λ w.
              elim w as (λ _. IsTrue (flag_at c j)) [
                | inl t ↦ late.1 (inl (early.1 (inl t)))
                | inr r ↦ elim ((both j).0 r) as (λ _. IsTrue (flag_at c j)) [ inl p ↦ late.1 (inl (early.1 (inr p))) | inr q ↦ late.1 (inr q) ]
              ],
        );
  };
}

-- ---- all that are reached
-- the first ones are marked, and all that the listed ones up to a place name, and all marked ones are reached
pub record Reaching (branches : ℕ → List Branch) (IsFirst : ℕ → Type 0) (count next : ℕ) (flags : List Bool) (numbers : List ℕ) : Type 0 where
  pub found : AreFound flags numbers
  pub long : length flags ≡ count
  pub reached : (j : ℕ) → j < count → IsTrue (flag_at flags j) → IsReached branches IsFirst j
  pub firsts : (j : ℕ) → j < count → IsFirst j → IsTrue (flag_at flags j)
  pub done : (k : ℕ) → k < next → k < length numbers → (j : ℕ) → j < count → LeadTo (branches (get_or numbers k 0)) j → IsTrue (flag_at flags j)

none-marked : (count j : ℕ) → IsTrue (flag_at (replicate count false) j) → ⊥
none-marked zero j t = cc
none-marked (suc count) zero t = cc
none-marked (suc count) (suc j) t = none-marked count j t

pub reaching-first : (branches : ℕ → List Branch) (IsFirst : ℕ → Type 0) (count : ℕ) (flags : List Bool) (none numbers : List ℕ) (P : ℕ → Type 0) → ((j : ℕ) → P j ↔ IsFirst j) →
    ListsAlso (replicate count false) none flags numbers P → Reaching branches IsFirst count 0 flags numbers
reaching-first branches IsFirst count flags none numbers P same h =
    let long : length (replicate count false) ≡ count = length-replicate count false in
    let marked = λ (j : ℕ) (l : j < count). h.marks.marked j (subst (λ (n : ℕ). j < n) (sym long) l) in
    record {
      found = h.found;
      long = h.marks.long ∙ long;
      reached = λ j l t.
          elim ((marked j l).0 t) as (λ _. IsReached branches IsFirst j) [
            | inl u ↦ absurd (none-marked count j u)
            | inr p ↦ record { first = j; is_first = (same j).0 p; way = []; is_way = refl }
          ];
      firsts = λ j l f. (marked j l).1 (inr ((same j).1 f));
      done = λ k l m. absurd (omega arith);
    }

-- a listed number is that of a member
pub reaching-inside : (branches : ℕ → List Branch) (IsFirst : ℕ → Type 0) (count next : ℕ) (flags : List Bool) (numbers : List ℕ) → Reaching branches IsFirst count next flags numbers →
    next < length numbers → get_or numbers next 0 < count
reaching-inside branches IsFirst count next flags numbers r l =
    subst (λ (n : ℕ). get_or numbers next 0 < n) r.long (marked-inside flags (get_or numbers next 0) (each-at (λ (j : ℕ). IsTrue (flag_at flags j)) 0 numbers next r.found.marked l))

-- a way goes on
way-on : (branches : ℕ → List Branch) (i : ℕ) (way : List ℕ) (j k : ℕ) → IsWay branches i way j → LeadTo (branches j) k → IsWay branches i (way ++ k ∷ []) k
way-on branches i [] j k w l = (subst (λ (m : ℕ). LeadTo (branches m) k) (sym w) l, refl)
way-on branches i (next ∷ way) j k w l = (w.0, way-on branches next way j k w.1 l)

pub reaching-next : (branches : ℕ → List Branch) (IsFirst : ℕ → Type 0) (count next : ℕ) (flags after : List Bool) (numbers later : List ℕ) →
    Reaching branches IsFirst count next flags numbers → next < length numbers →
    ListsAlso flags numbers after later (IsListed (members_of (branches (get_or numbers next 0)))) → Reaching branches IsFirst count (next + 1) after later
reaching-next branches IsFirst count next flags after numbers later r l h =
    let i : ℕ = get_or numbers next 0 in
    let marked = λ (j : ℕ) (l : j < count). h.marks.marked j (subst (λ (n : ℕ). j < n) (sym r.long) l) in
    let here : IsTrue (flag_at flags i) = each-at (λ (j : ℕ). IsTrue (flag_at flags j)) 0 numbers next r.found.marked l in
    let from : IsReached branches IsFirst i = r.reached i (subst (λ (n : ℕ). i < n) r.long (marked-inside flags i here)) here in
    record {
      found = h.found;
      long = h.marks.long ∙ r.long;
      reached = λ j lj t.
          elim ((marked j lj).0 t) as (λ _. IsReached branches IsFirst j) [
            | inl u ↦ r.reached j lj u
            | inr n ↦ record { first = from.first; is_first = from.is_first; way = from.way ++ j ∷ []; is_way = way-on branches from.first from.way i j from.is_way ((leads (branches i) j).0 n) }
          ];
      firsts = λ j lj f. (marked j lj).1 (inl (r.firsts j lj f));
      done = λ k lk mk j lj lead.
          let same : k < length numbers → get_or later k 0 ≡ get_or numbers k 0 = λ inside.
          ap (λ (ys : List ℕ). get_or ys k 0) h.goes_on.is ∙ get_or_append_left numbers h.goes_on.more 0 k inside in
          elim (last-or k next lk) as (λ _. IsTrue (flag_at after j)) [
            | inl before ↦
                let inside : k < length numbers = omega arith in
                (marked j lj).1 (inl (r.done k before inside j lj (subst (λ (m : ℕ). LeadTo (branches m) j) (same inside) lead)))
            | inr e ↦
                let inside : k < length numbers = omega arith in
                (marked j lj).1 (inr ((leads (branches i) j).1 (subst (λ (m : ℕ). LeadTo (branches m) j) (same inside ∙ ap (λ (m : ℕ). get_or numbers m 0) e) lead)))
          ];
    }

-- what the listed ones name is marked in the end
step : (branches : ℕ → List Branch) (IsFirst : ℕ → Type 0) (count next : ℕ) (flags : List Bool) (numbers : List ℕ) → Reaching branches IsFirst count next flags numbers → length numbers ≤ next →
    (i k : ℕ) → IsTrue (flag_at flags i) → k < count → LeadTo (branches i) k → IsTrue (flag_at flags k)
step branches IsFirst count next flags numbers r end i k t lk lead =
    let at = r.found.listed i (marked-inside flags i t) t in
    let inside = at.inside in
    r.done at.place (omega arith) at.inside k lk (subst (λ (m : ℕ). LeadTo (branches m) k) (sym at.is) lead)

walk : (branches : ℕ → List Branch) (count : ℕ) (kept : ℕ → Bool) → NameMembers count branches → ((i k : ℕ) → IsTrue (kept i) → k < count → LeadTo (branches i) k → IsTrue (kept k)) →
    (i : ℕ) (way : List ℕ) (j : ℕ) → i < count → IsTrue (kept i) → IsWay branches i way j → IsTrue (kept j)
walk branches count kept named on i [] j l t e = subst (λ (k : ℕ). IsTrue (kept k)) e t
walk branches count kept named on i (k ∷ way) j l t w =
    let lk : k < count = led-one (λ (m : ℕ). m < count) (branches i) k (named i l) w.0 in
    walk branches count kept named on k way j lk (on i k t lk w.0) w.1

-- in the end just those are marked that are reached
pub reaching-end : (branches : ℕ → List Branch) (IsFirst : ℕ → Type 0) (count next : ℕ) (flags : List Bool) (numbers : List ℕ) →
    Reaching branches IsFirst count next flags numbers → length numbers ≤ next → NameMembers count branches → ((j : ℕ) → IsFirst j → j < count) → AreKept branches IsFirst count (flag_at flags)
reaching-end branches IsFirst count next flags numbers r end named inside j = (
  λ t. let l : j < count = subst (λ (n : ℕ). j < n) r.long (marked-inside flags j t) in (l, r.reached j l t),
  λ h.
      let way = h.1 in
      let l : way.first < count = inside way.first way.is_first in
      walk branches count (flag_at flags) named (step branches IsFirst count next flags numbers r end) way.first way.way j l (r.firsts way.first l way.is_first) way.is_way,
)

-- what a kept member leads to is kept
pub closed : (branches : ℕ → List Branch) (IsFirst : ℕ → Type 0) (count : ℕ) (kept : ℕ → Bool) → AreKept branches IsFirst count kept → NameMembers count branches →
    (i k : ℕ) → IsTrue (kept i) → LeadTo (branches i) k → (k < count) × IsTrue (kept k)
closed branches IsFirst count kept h named i k t lead =
    let here = (h i).0 t in
    let from = here.1 in
    let lk : k < count = led-one (λ (m : ℕ). m < count) (branches i) k (named i here.0) lead in
    (lk, (h k).1 (lk, record { first = from.first; is_first = from.is_first; way = from.way ++ k ∷ []; is_way = way-on branches from.first from.way i k from.is_way lead }))

-- first ones are kept
pub first-kept : (branches : ℕ → List Branch) (IsFirst : ℕ → Type 0) (count : ℕ) (kept : ℕ → Bool) → AreKept branches IsFirst count kept → (j : ℕ) → j < count → IsFirst j → IsTrue (kept j)
first-kept branches IsFirst count kept h j l f = (h j).1 (l, record { first = j; is_first = f; way = []; is_way = refl })
