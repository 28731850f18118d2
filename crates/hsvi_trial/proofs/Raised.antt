-- The cursor of a search, and the same place one trial later.
use Rattle.std.proofs.Common.{◌≡◌, ℕ, suc, ◌+◌, List, Option, Some, None, [], ◌∷◌, ◌++◌, true, false, length, refl, ap, sym, subst, ◌∙◌, arith}
use Rattle.std.proofs.lemmas.Bool.{false≢true}
use Rattle.std.specs.List.{AllByRecursion}
use Rattle.std.specs.Prelude.{ℤ, IsSome, map, slice_index_or}
use Rattle.game_model.specs.Game.{GameData}
use Rattle.hsvi_trial.specs.Copies.{renumbered}
use Rattle.hsvi_trial.specs.Cursors.{Back, Cursor, Down, Place, at_end, gone_back, moved, raised, start, turned}
use Rattle.hsvi_trial.specs.Next.{GoesBack, GoesDown, places_back, visits_of}
use Rattle.hsvi_trial.specs.Trials.{place_of}
use Rattle.hsvi_trial.specs.declared.visits.Visit.{Visit}
use Rattle.hsvi_trial.proofs.Cursors.{EachGoesOn, Fits, IsNextDown, each-goes_on, end-append, goes-on, so-far-end, way-ends}
use Rattle.hsvi_trial.proofs.OneBeginnings.{behind-of, unlike}
use Rattle.hsvi_trial.proofs.OneLists.{head-same}
use Rattle.hsvi_trial.proofs.Places.{LeadsBy, places-next}
use Rattle.hsvi_trial.proofs.Ways.{LastChose}

pub raised-moved : (cursor : Cursor) (visit : Visit) (trial : ℕ) → moved (raised cursor) (renumbered trial visit) ≡ raised (moved cursor visit)
raised-moved (Down n behind) visit trial = by visit.chosen
  where
    by : (chosen : Option (ℕ × ℕ)) → turned (suc n) (place_of visit ∷ behind) chosen ≡ raised (turned n (place_of visit ∷ behind) chosen)
    by None = refl
    by (Some pair) = refl
raised-moved (Back n ahead) visit trial = by ahead
  where
    by : (places : List Place) → gone_back (suc n) places ≡ raised (gone_back n places)
    by [] = refl
    by (p ∷ []) = refl
    by (p ∷ q ∷ rest) = refl

-- ---- the cursor where a search goes on
-- a way down in a trial, below so many visits
pub record IsBelow (trial deep : ℕ) (cursor : Cursor) : Type 0 where
  pub behind : List Place
  pub is : cursor ≡ Down trial behind
  pub deep_is : length behind ≡ deep

abbrev Chose : Visit → Type 0
Chose visit = IsSome visit.chosen

each-chose : (visits : List Visit) → EachGoesOn visits → LastChose visits → AllByRecursion Chose visits
each-chose [] go last = tt
each-chose (visit ∷ []) go last = (last [] visit refl, tt)
each-chose (visit ∷ next ∷ later) go last =
    (go.0, each-chose (next ∷ later) go.1 (λ earlier x e. last (visit ∷ earlier) x (ap (λ (vs : List Visit). visit ∷ vs) e)))

below-on : (n : ℕ) (behind : List Place) (visits : List Visit) → AllByRecursion Chose visits → IsBelow n (length visits + length behind) (at_end (Down n behind) visits)
below-on n behind [] each = record { behind = behind; is = refl; deep_is = omega arith }
below-on n behind (visit ∷ visits) each =
    let rest = below-on n (place_of visit ∷ behind) visits each.1 in
    record {
      behind = rest.behind;
      is = ap (λ (cursor : Cursor). at_end cursor visits) (goes-on n (place_of visit ∷ behind) visit.chosen each.0) ∙ rest.is;
      deep_is = omega (arith, rest.deep_is);
    }

pub down-cursor : (g : GameData) (Leads : List Visit → Visit → List ℤ → Type 0) (journal : List Visit) (trial first : ℕ) (belief : List ℤ) → LeadsBy Leads →
    (goes : GoesDown g Leads journal trial first belief) → IsBelow trial (length goes.down) (at_end start journal)
down-cursor g Leads journal trial first belief by goes =
    let below = below-on (length goes.trials) [] goes.down (each-chose goes.down (each-goes_on goes.down goes.way_down.go_on)
    (λ earlier last e. by (visits_of goes.trials ++ earlier) last belief (goes.leads earlier last e))) in
    record {
      behind = below.behind;
      is = ap (at_end start) goes.joined
          ∙ end-append start (visits_of goes.trials) goes.down
          ∙ ap (λ (cursor : Cursor). at_end cursor goes.down) (so-far-end g goes.trials goes.behind.whole)
          ∙ below.is
          ∙ ap (λ (n : ℕ). Down n below.behind) (sym goes.behind.count);
      deep_is = omega (arith, below.deep_is);
    }

end-on-back : (n : ℕ) (visits : List Visit) (place : Place) (rest : List Place) → at_end (Back n (map place_of visits ++ place ∷ rest)) visits ≡ Back n (place ∷ rest)
end-on-back n [] place rest = refl
end-on-back n (visit ∷ []) place rest = refl
end-on-back n (visit ∷ next ∷ later) place rest = end-on-back n (next ∷ later) place rest

pub back-cursor : (g : GameData) (journal : List Visit) (trial first k : ℕ) (d : Visit) → (goes : GoesBack g journal trial first (k + 1)) →
    at_end start journal ≡ Back trial (place_of (slice_index_or goes.down k d) ∷ places_back k goes.down)
back-cursor g journal trial first k d goes =
    ap (at_end start) goes.joined
    ∙ end-append start (visits_of goes.trials) (goes.down ++ goes.back)
    ∙ ap (λ (cursor : Cursor). at_end cursor (goes.down ++ goes.back)) (so-far-end g goes.trials goes.behind.whole ∙ ap (λ (n : ℕ). Down n []) (sym goes.behind.count))
    ∙ end-append (Down trial []) goes.down goes.back
    ∙ ap (λ (cursor : Cursor). at_end cursor goes.back)
    (way-ends g trial goes.down goes.way_back.way_down goes.way_back.ended
    ∙ ap (Back trial) (sym goes.way_back.mirrored ∙ ap (λ (places : List Place). map place_of goes.back ++ places) (places-next goes.down k d (omega (arith, goes.within)))))
    ∙ end-on-back trial goes.back (place_of (slice_index_or goes.down k d)) (places_back k goes.down)

-- ---- a visit where the cursor was a trial before
abbrev ahead-of : Cursor → List Place
ahead-of (Down n behind) = []
ahead-of (Back n ahead) = ahead

-- a visit of a way down below these places
pub record IsDownBelow (g : GameData) (behind : List Place) (visit : Visit) : Type 0 where
  pub is_down : visit.down ≡ true
  pub deep : visit.depth ≡ length behind
  pub begins : behind ≡ [] → visit.belief ≡ g.first

pub fits-down : (g : GameData) (cursor : Cursor) (visit : Visit) (trial : ℕ) (behind : List Place) → Fits g cursor visit → raised cursor ≡ Down trial behind → IsDownBelow g behind visit
fits-down g (Down n places) visit trial behind fits e =
    let same : places ≡ behind = ap behind-of e in
    record { is_down = fits.is_down; deep = fits.deep ∙ ap length same; begins = λ none. fits.begins (same ∙ none) }
fits-down g (Back n places) visit trial behind fits e = absurd (unlike (suc n) places trial behind e)

pub fits-back : (g : GameData) (cursor : Cursor) (visit : Visit) (trial : ℕ) (place : Place) (rest : List Place) → Fits g cursor visit → raised cursor ≡ Back trial (place ∷ rest) →
    (visit.down ≡ false) × (place_of visit ≡ place)
fits-back g (Down n places) visit trial place rest fits e = absurd (unlike trial (place ∷ rest) (suc n) places (sym e))
fits-back g (Back n ahead) visit trial place rest fits e =
    let same : ahead ≡ place ∷ rest = ap ahead-of e in
    (fits.is_back, head-same (place_of visit) place fits.rest rest (sym fits.place ∙ same))

-- the visit after one of a way down that chose
pub fits-next : (g : GameData) (cursor : Cursor) (visit next : Visit) (pair : ℕ × ℕ) → Fits g cursor visit → Fits g (moved cursor visit) next → visit.down ≡ true → visit.chosen ≡ Some pair →
    (next.down ≡ true) × (next.depth ≡ suc visit.depth)
fits-next g (Down n behind) visit next pair fits after down chosen =
    let there : IsNextDown g n (place_of visit ∷ behind) next = subst (λ (o : Option (ℕ × ℕ)). Fits g (turned n (place_of visit ∷ behind) o) next) chosen after in
    (there.is_down, there.deep ∙ ap suc (sym fits.deep))
fits-next g (Back n ahead) visit next pair fits after down chosen = absurd (false≢true (sym fits.is_back ∙ down))
