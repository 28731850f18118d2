-- A trial so far with one more visit.
use Rattle.std.proofs.Common.{◌≡◌, ◌⊎◌, ℕ, ◌+◌, ◌<◌, List, [], ◌∷◌, ◌++◌, true, false, length, inl, inr, refl, ap, ap₂, sym, subst, ◌∙◌, arith, length-append}
use Rattle.std.proofs.Math.ListN.{get_or-append}
use Rattle.std.proofs.Math.Seq.{get_or-append_seam}
use Rattle.std.proofs.lemmas.Grind.{flat_map-append}
use Rattle.std.proofs.lemmas.List.{append-nil, append_assoc, map-append, map-id}
use Rattle.std.proofs.lemmas.List.FromFn.{map-range_with_len_more}
use Rattle.std.specs.Prelude.{ℤ, IsSome, map, reverse, slice_index_or}
use Rattle.scaled_num.proofs.Sums.{each-append}
use Rattle.scaled_num.specs.Sums.{below}
use Rattle.game_model.specs.Game.{GameData}
use Rattle.hsvi_trial.specs.Next.{IsOnWayBack, visits_of}
use Rattle.hsvi_trial.specs.Trials.{AreTrials, BeginsAt, GoOn, IsBackIn, IsDownIn, IsTrial, IsTrialFront, IsWayDown, place_of}
use Rattle.hsvi_trial.specs.declared.visits.Visit.{Visit}
use Rattle.hsvi_trial.proofs.Parting.{parted}

abbrev depth_of : Visit → ℕ
depth_of visit = visit.depth

-- each last visit of a way down chose
abbrev pub LastChose : List Visit → Type 0
LastChose visits = (earlier : List Visit) (last : Visit) → visits ≡ earlier ++ last ∷ [] → IsSome last.chosen

below-more : (n : ℕ) → below (n + 1) ≡ below n ++ n ∷ []
below-more n = sym (map-id (below (n + 1))) ∙ map-range_with_len_more (λ i. i) 0 n n (omega arith) ∙ ap (λ xs. xs ++ n ∷ []) (map-id (below n))

begins-more : (belief : List ℤ) (visits : List Visit) (v : Visit) → BeginsAt belief visits → (visits ≡ [] → v.belief ≡ belief) → BeginsAt belief (visits ++ v ∷ [])
begins-more belief [] v b h = h refl
begins-more belief (x ∷ xs) v b h = b

go-on-more : (visits : List Visit) (v : Visit) → GoOn visits → LastChose visits → GoOn (visits ++ v ∷ [])
go-on-more visits v go chose earlier later x next e =
    elim (parted visits v (earlier ++ x ∷ []) next later (e ∙ sym (append_assoc earlier (x ∷ []) (next ∷ later)))) [
      | inl p ↦ chose earlier x (sym p.1)
      | inr p ↦ go earlier p.0 x next (p.2 ∙ append_assoc earlier (x ∷ []) (next ∷ p.0))
    ]

-- the next visit of a way down
pub record IsNextDown (g : GameData) (trial : ℕ) (visits : List Visit) (v : Visit) : Type 0 where
  pub trial_is : v.trial ≡ trial
  pub is_down : v.down ≡ true
  pub deep : v.depth ≡ length visits
  pub begins : visits ≡ [] → v.belief ≡ g.first
  pub chose : LastChose visits

pub way-down-more : (g : GameData) (trial : ℕ) (visits : List Visit) (v : Visit) → IsWayDown g trial visits → IsNextDown g trial visits v → IsWayDown g trial (visits ++ v ∷ [])
way-down-more g trial visits v way next = record {
  each = each-append (IsDownIn trial) visits (v ∷ []) way.each ((next.trial_is, next.is_down), tt);
  depths = map-append depth_of visits (v ∷ []) ∙ ap₂ (λ (xs : List ℕ) (d : ℕ). xs ++ d ∷ []) way.depths next.deep
      ∙ sym (below-more (length visits)) ∙ ap below (sym (length-append visits (v ∷ [])));
  first = begins-more g.first visits v way.first next.begins;
  go_on = go-on-more visits v way.go_on next.chose;
}

-- a way down is a trial so far
pub front-down : (g : GameData) (trial : ℕ) (visits : List Visit) → IsWayDown g trial visits → IsTrialFront g trial visits (reverse (map place_of visits))
front-down g trial visits way = record {
  down = visits;
  back = [];
  both = sym (append-nil visits);
  way_down = way;
  each_back = tt;
  mirrored = refl;
  turned = λ l. absurd (omega arith);
}

-- the next visit of a way back
pub record IsNextBack (trial : ℕ) (place : ℕ × List ℤ) (v : Visit) : Type 0 where
  pub trial_is : v.trial ≡ trial
  pub is_back : v.down ≡ false
  pub place_is : place_of v ≡ place

pub way-back-more : (g : GameData) (trial : ℕ) (down back : List Visit) (place : ℕ × List ℤ) (ahead : List (ℕ × List ℤ)) (v : Visit) →
    IsOnWayBack g trial down back (place ∷ ahead) → IsNextBack trial place v → IsOnWayBack g trial down (back ++ v ∷ []) ahead
way-back-more g trial down back place ahead v way next = record {
  way_down = way.way_down;
  each_back = each-append (IsBackIn trial) back (v ∷ []) way.each_back ((next.trial_is, next.is_back), tt);
  mirrored = ap (λ (ps : List (ℕ × List ℤ)). ps ++ ahead) (map-append place_of back (v ∷ []))
      ∙ append_assoc (map place_of back) (place_of v ∷ []) ahead
      ∙ ap (λ (p : ℕ × List ℤ). map place_of back ++ p ∷ ahead) next.place_is
      ∙ way.mirrored;
  ended = way.ended;
}

pub front-back : (g : GameData) (trial : ℕ) (down back : List Visit) (ahead : List (ℕ × List ℤ)) → IsOnWayBack g trial down back ahead → IsTrialFront g trial (down ++ back) ahead
front-back g trial down back ahead way = record {
  down = down;
  back = back;
  both = refl;
  way_down = way.way_down;
  each_back = way.each_back;
  mirrored = way.mirrored;
  turned = λ _. way.ended;
}

pub whole-trial : (g : GameData) (trial : ℕ) (down back : List Visit) → IsOnWayBack g trial down back [] → IsTrial g trial (down ++ back)
unfolding front-back
whole-trial g trial down back way = record { front = front-back g trial down back [] way; ended = way.ended }

-- ---- whole trials

get-last : {X : Type 0} (xs : List X) (x : X) (i : ℕ) (d : X) → i ≡ length xs → slice_index_or (xs ++ x ∷ []) i d ≡ x
get-last xs x i d e = subst (λ (j : ℕ). slice_index_or (xs ++ x ∷ []) j d ≡ x) (sym e) (get_or-append_seam xs x [] d)

pub trials-more : (g : GameData) (trials : List (List Visit)) (visits : List Visit) → AreTrials g trials → IsTrial g (length trials) visits → AreTrials g (trials ++ visits ∷ [])
trials-more g trials visits whole trial = record {
  each = λ number l. elim (earlier number l) [
    | inl below ↦ subst (λ (t : List Visit). IsTrial g number t) (sym (get_or-append trials (visits ∷ []) [] number below)) (whole.each number below)
    | inr here ↦ subst (λ (t : List Visit). IsTrial g number t) (sym (get-last trials visits number [] here))
        (subst (λ (n : ℕ). IsTrial g n visits) (sym here) trial)
  ];
}
  where
    earlier : (number : ℕ) → number < length (trials ++ visits ∷ []) → (number < length trials) ⊎ (number ≡ length trials)
    earlier number l = split number (length trials) (omega (arith, length-append trials (visits ∷ [])))
      where
        split : (n m : ℕ) → n < m + 1 → (n < m) ⊎ (n ≡ m)
        split n m l = grind arith

pub visits-more : (trials : List (List Visit)) (more : List Visit) → visits_of (trials ++ more ∷ []) ≡ visits_of trials ++ more
visits-more trials more = flat_map-append (λ (xs : List Visit). xs) trials (more ∷ []) ∙ ap (λ (zs : List Visit). visits_of trials ++ zs) (append-nil more)
