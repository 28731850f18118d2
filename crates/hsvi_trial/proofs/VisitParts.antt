-- A visit from its parts: what it made, kept and chose.
use Rattle.std.proofs.Common.{◌≡◌, ℕ, Option, Some, None, List, Bool, true, false, not, ◌&&◌, refl, sym, subst, ◌∙◌}
use Rattle.std.specs.Prelude.{ℤ, IsTrue, ◌↔◌}
use Rattle.belief.specs.After.{mass_after}
use Rattle.belief.specs.Mixes.{MixesData}
use Rattle.belief.specs.Reduced.{IsReduced}
use Rattle.game_model.specs.Game.{GameData}
use Rattle.hsvi_trial.specs.Due.{IsCut, IsNodeRefused, KeepsNode, KeepsPoint}
use Rattle.hsvi_trial.specs.Excess.{View}
use Rattle.hsvi_trial.specs.Looks.{IsLook, LeadsTo, looks_from}
use Rattle.hsvi_trial.specs.RightVisit.{IsMade, IsNextBelief, Made, looks_on, view_of}
use Rattle.hsvi_trial.specs.Run.{Task}
use Rattle.hsvi_trial.specs.Sets.{Sets}
use Rattle.hsvi_trial.specs.declared.courses.Place.{Place}
use Rattle.hsvi_trial.specs.declared.visits.Visit.{Visit}
use Rattle.hsvi_trial.proofs.Stepping.{IsVisitAt}

-- the visit of a trial at a place
abbrev pub visit_of : ℕ → Place → Option ℕ → Option ℕ → Option (ℕ × ℕ) → Visit
visit_of trial place node point chosen = record {
  trial = trial;
  depth = place.depth;
  belief = place.belief;
  down = place.down;
  node = node;
  point = point;
  chosen = chosen;
}

and-moved : (a b c : Bool) → ((a && b) && c) ≡ (a && (b && c))
and-moved true b c = refl
and-moved false b c = refl

none-some : (x : List ℤ) → None ≡ Some x → ⊥
none-some x e = cc

some-same : (x y : List ℤ) → Some x ≡ Some y → x ≡ y
some-same x y e = cc

reduced-as : (g : GameData) (view : View) (visit : Visit) (made : Made) (a o : ℕ) (belief : List ℤ) → view.belief ≡ visit.belief → view.informed ≡ made.lower.informed →
    IsReduced (mass_after g view.belief view.informed a o) belief → IsReduced (mass_after g visit.belief made.lower.informed a o) belief
reduced-as g view visit made a o belief b i h =
    subst (λ (x : List ℤ). IsReduced (mass_after g x made.lower.informed a o) belief) b
    (subst (λ (m : MixesData). IsReduced (mass_after g view.belief m a o) belief) i h)

leads-on : (g : GameData) (sets : Sets) (view : View) (visit : Visit) (made : Made) (chosen : Option (ℕ × ℕ)) (next : Option (List ℤ)) (belief : List ℤ) → visit.chosen ≡ chosen → IsMade g sets visit.belief made →
    view.belief ≡ visit.belief → view.informed ≡ made.lower.informed → LeadsTo g view chosen next → next ≡ Some belief → IsNextBelief g sets visit belief
leads-on g sets view visit made None None belief e is b i leads some = absurd (none-some belief some)
leads-on g sets view visit made None (Some next) belief e is b i leads some = absurd leads
leads-on g sets view visit made (Some pair) None belief e is b i leads some = absurd leads
leads-on g sets view visit made (Some pair) (Some next) belief e is b i leads some = record {
  a = pair.0;
  o = pair.1;
  chosen = e;
  advice = made.lower;
  node = made.node;
  is_lower = is.lower_is;
  reduced = reduced-as g view visit made pair.0 pair.1 belief b i (subst (λ (x : List ℤ). IsReduced (mass_after g view.belief view.informed pair.0 pair.1) x) (some-same next belief some) leads);
}

stops-there : (g : GameData) (view : View) (chosen : Option (ℕ × ℕ)) (next : Option (List ℤ)) → LeadsTo g view chosen next → next ≡ None → chosen ≡ None
stops-there g view None next leads e = refl
stops-there g view (Some pair) None leads e = absurd leads
stops-there g view (Some pair) (Some next) leads e = absurd (none-some next (sym e))

pub visit-at : (task : Task) (sets new : Sets) (trial : ℕ) (place : Place) (cut : Bool) (node point : Option ℕ) (chosen : Option (ℕ × ℕ)) (next : Option (List ℤ)) (made : Made) →
    IsMade task.game sets place.belief made → (IsTrue cut ↔ IsCut sets place.belief made.node made.point) → KeepsNode sets.nodes new.nodes place.belief made.node node →
    KeepsPoint (IsNodeRefused sets.nodes place.belief made.node) sets.points new.points place.belief made.point point →
    IsLook task.game (looks_from task.game place.depth (place.down && not cut)) (view_of task.game task.gap new (visit_of trial place node point chosen) made) chosen next →
    IsVisitAt task sets new trial place cut (visit_of trial place node point chosen) next
visit-at task sets new trial place cut node point chosen next made is_made is_cut keeps_node keeps_point look = record {
  trial_is = refl;
  depth_is = refl;
  belief_is = refl;
  down_is = refl;
  right = record {
    made = made;
    is_made = is_made;
    is_cut = is_cut;
    node = keeps_node;
    point = keeps_point;
    looks = λ e. look.looks (same ∙ e);
    stays = λ e. look.stays (same ∙ e);
  };
  leads = λ belief e. leads-on task.game sets (view_of task.game task.gap new (visit_of trial place node point chosen) made) (visit_of trial place node point chosen) made chosen next belief refl is_made refl refl look.leads e;
  stops = λ e. stops-there task.game (view_of task.game task.gap new (visit_of trial place node point chosen) made) chosen next look.leads e;
}
  where
    same : looks_from task.game place.depth (place.down && not cut) ≡ looks_on task.game (visit_of trial place node point chosen) cut
    same = and-moved place.down (not cut) _
